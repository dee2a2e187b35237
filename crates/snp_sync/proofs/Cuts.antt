-- Lists cut into chunks.
use Rattle.std.specs.Prelude.{◌≡◌, ℕ, zero, suc, ◌+◌, ◌*◌, ◌≤◌, min, IsTrue, List, [], ◌∷◌, ◌++◌, length, take, drop}
use Rattle.std.proofs.Common.{refl, sym, ap, ◌∙◌, arith, lit≤, append_assoc, append-nil}
use Rattle.std.specs.List.{flat_map}
use Rattle.std.proofs.lemmas.List.{length-drop, take_min, take-append-drop, append_cancel_left, nil_from_length, length-append}
use Rattle.std.proofs.Math.Seq.{take-append_seam}
use Rattle.std.proofs.lemmas.List.Concat.{flat_map-cons}
use Rattle.spb_tlvs.specs.declared.entries.SnpEntry.{SnpEntry}
use Rattle.spb_tlvs.specs.Tlv.{tlv}
use Rattle.spb_tlvs.specs.Entry.{entries_value}
use Rattle.isis_pdu.specs.Tlvs.{is_whole, is_whole_after}
use Rattle.isis_pdu.proofs.FormatLaws.{whole_one, whole_both}
use Rattle.snp_sync.specs.Chunks.{chunks_within, chunks, entry_tlvs, tlvs_length}

-- how many chunks there may be says nothing, if they are enough
chunks_enough : {A : Type 0} (most : ℕ) (n k : ℕ) (xs : List A) → 1 ≤ n → length xs ≤ most → length xs ≤ k → chunks_within most n xs ≡ chunks_within k n xs
unfolding chunks_within
chunks_enough zero n zero xs some le more = refl
chunks_enough zero n (suc k) [] some le more = refl
chunks_enough zero n (suc k) (x ∷ xs) some le more = absurd (omega arith)
chunks_enough (suc most) n zero [] some le more = refl
chunks_enough (suc most) n zero (x ∷ xs) some le more = absurd (omega arith)
chunks_enough (suc most) n (suc k) [] some le more = refl
chunks_enough (suc most) n (suc k) (x ∷ xs) some le more =
    ap (λ ps. take n (x ∷ xs) ∷ ps) (chunks_enough most n k (drop n (x ∷ xs)) some (omega (arith, length-drop n (x ∷ xs))) (omega (arith, length-drop n (x ∷ xs))))

pub chunks_none : {A : Type 0} (n : ℕ) → chunks {A = A} n [] ≡ []
unfolding chunks chunks_within
chunks_none n = refl

-- the first chunk, and those of the rest
pub chunks_first : {A : Type 0} (n : ℕ) (xs : List A) → 1 ≤ n → 1 ≤ length xs → chunks n xs ≡ take n xs ∷ chunks n (drop n xs)
unfolding chunks chunks_within
chunks_first n [] some full = absurd (omega arith)
chunks_first n (x ∷ xs) some full =
    ap (λ ps. take n (x ∷ xs) ∷ ps) (chunks_enough (length xs) n (length (drop n (x ∷ xs))) (drop n (x ∷ xs)) some (omega (arith, length-drop n (x ∷ xs))) (omega arith))

-- a chunk at the front, as long as it can be
pub front_is : {A : Type 0} (n : ℕ) (xs chunk rest : List A) → xs ≡ chunk ++ rest → length chunk ≡ min n (length xs) → (take n xs ≡ chunk) × (drop n xs ≡ rest)
front_is {A} n xs chunk rest is size =
    let front : take n xs ≡ chunk = sym (take_min n xs) ∙ ap (λ k. take k xs) (sym size) ∙ ap (λ (ys : List A). take (length chunk) ys) is ∙ take-append_seam chunk rest in
    (front, append_cancel_left chunk (drop n xs) rest (ap (λ (ys : List A). ys ++ drop n xs) (sym front) ∙ take-append-drop n xs ∙ is))

-- the first chunk, and those of the rest, by what a cut gives
pub chunks_cut : {A : Type 0} (n : ℕ) (xs chunk rest : List A) → 1 ≤ n → xs ≡ chunk ++ rest → length chunk ≡ min n (length xs) → 1 ≤ length xs → chunks n xs ≡ chunk ∷ chunks n rest
chunks_cut {A} n xs chunk rest some is size full =
    let cut = front_is n xs chunk rest is size in
    chunks_first n xs some full ∙ λ j. cut.0 j ∷ chunks n (cut.1 j)

-- the TLVs of entries, chunk by chunk
pub tlvs_none : entry_tlvs [] ≡ []
unfolding entry_tlvs
tlvs_none = ap (flat_map (λ (chunk : List SnpEntry). tlv 9 (entries_value chunk))) (chunks_none 15)

pub tlvs_first : (entries chunk rest : List SnpEntry) → entries ≡ chunk ++ rest → length chunk ≡ min 15 (length entries) → 1 ≤ length entries → entry_tlvs entries ≡ tlv 9 (entries_value chunk) ++ entry_tlvs rest
unfolding entry_tlvs
tlvs_first entries chunk rest is size full =
    ap (flat_map (λ (p : List SnpEntry). tlv 9 (entries_value p))) (chunks_cut 15 entries chunk rest (lit≤ tt) is size full)
    ∙ flat_map-cons (λ (p : List SnpEntry). tlv 9 (entries_value p)) chunk (chunks 15 rest)

-- they are whole
whole_all : (ps : List (List SnpEntry)) → IsTrue (is_whole (flat_map (λ p. tlv 9 (entries_value p)) ps))
unfolding is_whole_after
whole_all [] = refl
whole_all (p ∷ ps) =
    ap is_whole (flat_map-cons (λ (q : List SnpEntry). tlv 9 (entries_value q)) p ps)
    ∙ whole_both (tlv 9 (entries_value p)) (flat_map (λ q. tlv 9 (entries_value q)) ps) (whole_one 9 (entries_value p)) ∙ whole_all ps

pub tlvs_whole : (entries : List SnpEntry) → IsTrue (is_whole (entry_tlvs entries))
unfolding entry_tlvs
tlvs_whole entries = whole_all (chunks 15 entries)

-- how long they are
pub tlvs_length_more : (left chunk rest : ℕ) → left ≡ chunk + rest → chunk ≡ min 15 left → 1 ≤ left
    → tlvs_length left ≡ (2 + 16 * chunk) + tlvs_length rest
tlvs_length_more left chunk rest is size full = omega arith

pub tlvs_short : (n : ℕ) → n ≤ 90 → tlvs_length n ≤ 1452
tlvs_short n few = omega arith

-- the TLVs so far, behind other bytes, of entries of which the rest is still to come
pub record Written (before : List ℕ) (entries rest : List SnpEntry) (now : List ℕ) : Type 0 where
  bytes : now ++ entry_tlvs rest ≡ before ++ entry_tlvs entries
  sized : length now + tlvs_length (length rest) ≡ length before + tlvs_length (length entries)

pub written_none : (before : List ℕ) (entries rest : List SnpEntry) → rest ≡ entries → Written before entries rest before
written_none before entries rest is = record { bytes = rw is refl; sized = rw is refl }

pub written_more : (before : List ℕ) (entries old chunk rest : List SnpEntry) (now new : List ℕ)
    → Written before entries old now → old ≡ chunk ++ rest → length chunk ≡ min 15 (length old) → 1 ≤ length old
    → length (entries_value chunk) ≡ 16 * length chunk → new ≡ now ++ tlv 9 (entries_value chunk)
    → Written before entries rest new
written_more before entries old chunk rest now new so_far is size full len e = record {
  bytes = ap (λ (b : List ℕ). b ++ entry_tlvs rest) e ∙ append_assoc now (tlv 9 (entries_value chunk)) (entry_tlvs rest)
      ∙ ap (λ (b : List ℕ). now ++ b) (sym (tlvs_first old chunk rest is size full)) ∙ so_far.bytes;
  sized =
      let more = tlvs_length_more (length old) (length chunk) (length rest) (ap length is ∙ length-append chunk rest) size full in
      let longer : length new ≡ length now + (2 + 16 * length chunk) = ap length e ∙ length-append now (tlv 9 (entries_value chunk))
      ∙ ap (λ n. length now + suc (suc n)) len ∙ omega arith in
      omega (arith, so_far.sized, more, longer);
}

pub written_all : (before : List ℕ) (entries rest : List SnpEntry) (now : List ℕ) → Written before entries rest now
    → length rest ≡ 0
    → (now ≡ before ++ entry_tlvs entries) × (length (entry_tlvs entries) ≡ tlvs_length (length entries))
written_all before entries rest now so_far none =
    let no_rest : rest ≡ [] = nil_from_length rest none in
    let all : now ≡ before ++ entry_tlvs entries = sym (append-nil now) ∙ ap (λ (b : List ℕ). now ++ b) (sym (ap entry_tlvs no_rest ∙ tlvs_none)) ∙ so_far.bytes in
    let ended : tlvs_length (length rest) ≡ 0 = ap tlvs_length none in
    (all, omega (arith, so_far.sized, ended, ap length all ∙ length-append before (entry_tlvs entries)))
