-- The PDUs of entries, chunk by chunk.
use Rattle.std.specs.Prelude.{◌≡◌, ℕ, zero, suc, ◌≤◌, ◌<◌, min, List, [], ◌∷◌, ◌++◌, length, map, take, drop}
use Rattle.std.specs.Global.{Vec}
use Rattle.std.proofs.Common.{refl, sym, ap, ◌∙◌, arith, lit≤, append_assoc, append-nil, get_or}
use Rattle.std.proofs.lemmas.Simd.{map-map}
use Rattle.std.proofs.lemmas.List.{length-drop, nil_from_length, map-append, take_all, length-take-le}
use Rattle.spb_types.specs.declared.address.LspId.{LspId}
use Rattle.spb_types.specs.declared.address.SystemId.{SystemId}
use Rattle.spb_tlvs.specs.declared.entries.SnpEntry.{SnpEntry}
use Rattle.isis_pdu.specs.declared.kind.Kind.{Kind}
use Rattle.isis_pdu.specs.declared.kind.Kind.TheVariants as kinds
use Rattle.isis_pdu.specs.Header.{fixed_length}
use Rattle.isis_pdu.specs.Spelling.{CanWrite, csnp_bytes, psnp_bytes}
use Rattle.isis_pdu.specs.Tlvs.{is_whole}
use Rattle.snp_sync.specs.Ids.{successor, first_id, last_id}
use Rattle.snp_sync.specs.Chunks.{chunks, entry_tlvs, tlvs_length, chunks_or_one}
use Rattle.snp_sync.specs.Sending.{CsnpChunk, bytes_in, csnp_for, psnp_for, end_of, csnp_chunks_from}
use Rattle.snp_sync.proofs.Cuts.{chunks_first, chunks_none, chunks_cut, tlvs_whole, tlvs_short}

-- ---- the chunks of CSNPs

-- there is always a chunk
pub chunks_some : (entries : List SnpEntry) → 1 ≤ length (chunks_or_one 90 entries)
chunks_some [] = lit≤ tt
chunks_some (entry ∷ entries) = rw (chunks_first 90 (entry ∷ entries) (lit≤ tt) (omega arith)) (omega arith)

full_chunks : (xs : List SnpEntry) → 1 ≤ length xs → chunks_or_one 90 xs ≡ chunks 90 xs
full_chunks [] some = absurd (omega arith)
full_chunks (x ∷ xs) some = refl

pub chunks_more : (entries : List SnpEntry) → 90 < length entries → chunks_or_one 90 entries ≡ take 90 entries ∷ chunks_or_one 90 (drop 90 entries)
chunks_more entries many =
    let left : 1 ≤ length (drop 90 entries) = omega (arith, length-drop 90 entries) in
    full_chunks entries (omega arith) ∙ chunks_first 90 entries (lit≤ tt) (omega arith) ∙ ap (λ (ps : List (List SnpEntry)). take 90 entries ∷ ps) (sym (full_chunks (drop 90 entries) left))

pub chunks_last : (entries : List SnpEntry) → length entries ≤ 90 → chunks_or_one 90 entries ≡ entries ∷ []
chunks_last [] few = refl
chunks_last (x ∷ xs) few =
    let none : drop 90 (x ∷ xs) ≡ [] = nil_from_length (drop 90 (x ∷ xs)) (omega (arith, length-drop 90 (x ∷ xs))) in
    chunks_first 90 (x ∷ xs) (lit≤ tt) (omega arith) ∙ ap (λ (ls : List SnpEntry). take 90 (x ∷ xs) ∷ chunks 90 ls) none
    ∙ ap (λ (ps : List (List SnpEntry)). take 90 (x ∷ xs) ∷ ps) (chunks_none 90) ∙ ap (λ (ls : List SnpEntry). ls ∷ []) (take_all 90 (x ∷ xs) few)

-- the id of the last entry stands at the last place
end_at : (entries : List SnpEntry) (other : LspId) (k : ℕ) (d : SnpEntry) → length entries ≡ suc k → end_of other entries ≡ (get_or entries k d).id
end_at [] other k d len = absurd (omega arith)
end_at (l ∷ []) other zero d len = refl
end_at (l ∷ []) other (suc k) d len = absurd (omega arith)
end_at (l ∷ m ∷ entries) other zero d len = absurd (omega arith)
end_at (l ∷ m ∷ entries) other (suc k) d len = end_at (m ∷ entries) l.id k d (omega arith)

abbrev pub csnp_chunk : LspId → LspId → List SnpEntry → CsnpChunk
csnp_chunk start end entries = record { start = start; end = end; entries = entries }

csnp_chunks_next : (start : LspId) (chunk : List SnpEntry) (ps : List (List SnpEntry)) → 1 ≤ length ps
    → csnp_chunks_from start (chunk ∷ ps) ≡ csnp_chunk start (end_of start chunk) chunk ∷ csnp_chunks_from (successor (end_of start chunk)) ps
csnp_chunks_next start chunk [] some = absurd (omega arith)
csnp_chunks_next start chunk (p ∷ ps) some = refl

-- the chunks of entries of which more than 90 are left, and of the last
pub csnp_chunks_more : (start : LspId) (entries : List SnpEntry) → 90 < length entries
    → csnp_chunks_from start (chunks_or_one 90 entries) ≡ csnp_chunk start (end_of start (take 90 entries)) (take 90 entries) ∷ csnp_chunks_from (successor (end_of start (take 90 entries))) (chunks_or_one 90 (drop 90 entries))
csnp_chunks_more start entries many =
    ap (csnp_chunks_from start) (chunks_more entries many) ∙ csnp_chunks_next start (take 90 entries) (chunks_or_one 90 (drop 90 entries)) (chunks_some (drop 90 entries))

pub csnp_chunks_last : (start : LspId) (entries : List SnpEntry) → length entries ≤ 90 → csnp_chunks_from start (chunks_or_one 90 entries) ≡ csnp_chunk start last_id entries ∷ []
csnp_chunks_last start entries few = ap (csnp_chunks_from start) (chunks_last entries few)

-- ---- in the shape of the code

fixed_le : (kind : Kind) → fixed_length kind ≤ 33
fixed_le kinds.Hello = lit≤ tt
fixed_le kinds.Lsp = lit≤ tt
fixed_le kinds.Csnp = lit≤ tt
fixed_le kinds.Psnp = lit≤ tt

-- the TLVs of a chunk can be written
pub can_write : (kind : Kind) (entries : List SnpEntry) (tlvs bytes : List ℕ) → bytes ≡ tlvs → tlvs ≡ entry_tlvs entries → length tlvs ≡ tlvs_length (length entries) → length entries ≤ 90 → CanWrite kind bytes
can_write kind entries tlvs bytes same is size few =
    let len : length bytes ≡ length tlvs = ap length same in
    record { whole = ap is_whole (same ∙ is) ∙ tlvs_whole entries; short = omega (arith, fixed_le kind, size, len, tlvs_short (length entries) few) }

-- PDUs made of what is left, which a function gives, and of what is left after one more of them
pushed : {A : Type 0} (f : A → List ℕ) (pdus new : List (Vec ℕ)) (pdu : Vec ℕ) (x : A) (old rest all : List A) → bytes_in pdus ++ map f old ≡ map f all → old ≡ x ∷ rest → pdu.items ≡ f x → new ≡ pdus ++ pdu ∷ [] → bytes_in new ++ map f rest ≡ map f all
pushed f pdus new pdu x old rest all so_far is bytes e =
    ap (λ (vs : List (Vec ℕ)). bytes_in vs ++ map f rest) e
    ∙ ap (λ (bs : List (List ℕ)). bs ++ map f rest) (map-append (λ (v : Vec ℕ). v.items) pdus (pdu ∷ []))
    ∙ append_assoc (bytes_in pdus) (pdu.items ∷ []) (map f rest)
    ∙ ap (λ (b : List ℕ). bytes_in pdus ++ b ∷ map f rest) bytes
    ∙ ap (λ xs. bytes_in pdus ++ map f xs) (sym is) ∙ so_far

pushed_all : {A : Type 0} (f : A → List ℕ) (pdus : List (Vec ℕ)) (rest all : List A) → bytes_in pdus ++ map f rest ≡ map f all → rest ≡ [] → bytes_in pdus ≡ map f all
pushed_all f pdus rest all so_far none = sym (append-nil (bytes_in pdus)) ∙ ap (λ xs. bytes_in pdus ++ map f xs) (sym none) ∙ so_far

-- the PSNPs so far, of entries of which the rest is still to come
abbrev psnp_of_chunk : SystemId → List SnpEntry → List ℕ
psnp_of_chunk me entries = psnp_bytes (psnp_for me entries)

pub record Paged (me : SystemId) (entries rest : List SnpEntry) (pdus : List (Vec ℕ)) : Type 0 where
  bytes : bytes_in pdus ++ map (psnp_of_chunk me) (chunks 90 rest) ≡ map (psnp_of_chunk me) (chunks 90 entries)

pub paged_none : (me : SystemId) (entries rest : List SnpEntry) (pdus : List (Vec ℕ)) → pdus ≡ [] → rest ≡ entries → Paged me entries rest pdus
paged_none me entries rest pdus none is = record { bytes = rw (none, is) refl }

pub paged_more : (me : SystemId) (entries old chunk rest : List SnpEntry) (pdus new : List (Vec ℕ)) (pdu : Vec ℕ) → Paged me entries old pdus → old ≡ chunk ++ rest → length chunk ≡ min 90 (length old) → 1 ≤ length old → pdu.items ≡ psnp_bytes (psnp_for me chunk) → new ≡ pdus ++ pdu ∷ [] → Paged me entries rest new
paged_more me entries old chunk rest pdus new pdu so_far is size full bytes e = record {
  bytes = pushed (psnp_of_chunk me) pdus new pdu chunk (chunks 90 old) (chunks 90 rest) (chunks 90 entries) so_far.bytes (chunks_cut 90 old chunk rest (lit≤ tt) is size full) bytes e;
}

pub paged_all : (me : SystemId) (entries rest : List SnpEntry) (pdus : List (Vec ℕ)) → Paged me entries rest pdus → length rest ≡ 0 → bytes_in pdus ≡ map psnp_bytes (map (psnp_for me) (chunks 90 entries))
paged_all me entries rest pdus so_far none =
    pushed_all (psnp_of_chunk me) pdus (chunks 90 rest) (chunks 90 entries) so_far.bytes (ap (chunks 90) (nil_from_length rest none) ∙ chunks_none 90) ∙ sym (map-map psnp_bytes (psnp_for me) (chunks 90 entries))

-- the CSNPs so far, of entries of which the rest is still to come, from a start on
abbrev csnp_of_chunk : SystemId → CsnpChunk → List ℕ
csnp_of_chunk me p = csnp_bytes (csnp_for me p)

pub record Ranged (me : SystemId) (entries : List SnpEntry) (start : LspId) (rest : List SnpEntry) (pdus : List (Vec ℕ)) : Type 0 where
  bytes : bytes_in pdus ++ map (csnp_of_chunk me) (csnp_chunks_from start (chunks_or_one 90 rest)) ≡ map (csnp_of_chunk me) (csnp_chunks_from first_id (chunks_or_one 90 entries))

pub ranged_none : (me : SystemId) (entries : List SnpEntry) (start : LspId) (rest : List SnpEntry) (pdus : List (Vec ℕ)) → pdus ≡ [] → start ≡ first_id → rest ≡ entries → Ranged me entries start rest pdus
ranged_none me entries start rest pdus none at is = record { bytes = rw (none, at, is) refl }

pub ranged_more : (me : SystemId) (entries : List SnpEntry) (start next : LspId) (old chunk rest : List SnpEntry) (pdus new : List (Vec ℕ)) (pdu : Vec ℕ) (end : LspId) (d : SnpEntry)
    → Ranged me entries start old pdus → 90 < length old → chunk ≡ take 90 old → rest ≡ drop 90 old → end ≡ (get_or chunk 89 d).id → next ≡ successor end
    → pdu.items ≡ csnp_bytes (csnp_for me (csnp_chunk start end chunk)) → new ≡ pdus ++ pdu ∷ [] → Ranged me entries next rest new
ranged_more me entries start next old chunk rest pdus new pdu end d so_far many front back here at bytes e = record {
  bytes =
      let last : end_of start (take 90 old) ≡ end = ap (end_of start) (sym front) ∙ end_at chunk start 89 d (ap length front ∙ length-take-le 90 old (omega arith)) ∙ sym here in
      let first : csnp_chunk start (end_of start (take 90 old)) (take 90 old) ≡ csnp_chunk start end chunk = λ j. csnp_chunk start (last j) (sym front j) in
      let others : csnp_chunks_from (successor (end_of start (take 90 old))) (chunks_or_one 90 (drop 90 old)) ≡ csnp_chunks_from next (chunks_or_one 90 rest) = λ j. csnp_chunks_from ((ap successor last ∙ sym at) j) (chunks_or_one 90 (sym back j)) in
      pushed (csnp_of_chunk me) pdus new pdu (csnp_chunk start end chunk) (csnp_chunks_from start (chunks_or_one 90 old)) (csnp_chunks_from next (chunks_or_one 90 rest)) (csnp_chunks_from first_id (chunks_or_one 90 entries))
      so_far.bytes (csnp_chunks_more start old many ∙ λ j. first j ∷ others j) bytes e;
}

pub ranged_all : (me : SystemId) (entries : List SnpEntry) (start : LspId) (rest : List SnpEntry) (pdus new : List (Vec ℕ)) (pdu : Vec ℕ) → Ranged me entries start rest pdus → length rest ≤ 90
    → pdu.items ≡ csnp_bytes (csnp_for me (csnp_chunk start last_id rest)) → new ≡ pdus ++ pdu ∷ [] → bytes_in new ≡ map csnp_bytes (map (csnp_for me) (csnp_chunks_from first_id (chunks_or_one 90 entries)))
ranged_all me entries start rest pdus new pdu so_far few bytes e =
    pushed_all (csnp_of_chunk me) new [] (csnp_chunks_from first_id (chunks_or_one 90 entries))
    (pushed (csnp_of_chunk me) pdus new pdu (csnp_chunk start last_id rest) (csnp_chunks_from start (chunks_or_one 90 rest)) [] (csnp_chunks_from first_id (chunks_or_one 90 entries)) so_far.bytes (csnp_chunks_last start rest few) bytes e) refl
    ∙ sym (map-map csnp_bytes (csnp_for me) (csnp_chunks_from first_id (chunks_or_one 90 entries)))
