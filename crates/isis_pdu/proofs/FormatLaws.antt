-- The laws that the public functions state.
use Rattle.std.proofs.Common.{inl, inr, ◌≡◌, ℕ, zero, suc, ◌≤◌, List, [], ◌∷◌, ◌++◌, length, drop, Bool, true, false, Result, Ok, Err, refl, sym, ap, ◌∙◌, arith}
use Rattle.std.specs.Prelude.{IsTrue, IfOk, if◌then◌else◌, ◌&&◌, ◌||◌, ◌==◌, nat_le}
use Rattle.std.proofs.lemmas.Bool.{cases_lt, lt-leb, le-leb}
use Rattle.std.proofs.lemmas.List.{append-nil, drop_all}
use Rattle.isis_pdu.specs.declared.pdu.Pdu.{Pdu}
use Rattle.isis_pdu.specs.declared.pdu.PduError.{PduError}
use Rattle.isis_pdu.specs.declared.pdu.PduError.TheVariants as refusals
use Rattle.isis_pdu.specs.Pdu.{LspValue, PduValue, hello, lsp, csnp, psnp, pdu_of}
use Rattle.isis_pdu.specs.Tlvs.{is_whole, is_whole_after}
use Rattle.isis_pdu.specs.Checksum.{lsp_sum_of, is_checked, covered, HasCheckBytes}
use Rattle.isis_pdu.specs.Spelling.{Ignored, AreIgnored, zeros, pdu_with, hello_bytes, lsp_bytes, csnp_bytes, psnp_bytes, pdu_bytes}
use Rattle.isis_pdu.specs.Reading.{read, answer_of}
use Rattle.isis_pdu.specs.Grammar.{length_of, IsPdu, is_sound, is_sound_lsp, IsBytes, IsReadFrom, IsCanonical}
use Rattle.isis_pdu.proofs.Sums.{lsp_sum-bytes, lsp_sum-holds}
use Rattle.isis_pdu.proofs.Written.{spelled_is_read}
use Rattle.isis_pdu.proofs.TlvWalk.{past_value, cut_value}
use Rattle.isis_pdu.proofs.Read.{read_is_spelled}

zeros_allowed : AreIgnored zeros
zeros_allowed = record { id_length = refl; max_areas = refl }

pdu_bytes-zeros : (p : PduValue) → pdu_bytes p ≡ pdu_with zeros p
unfolding pdu_with hello_bytes lsp_bytes csnp_bytes psnp_bytes
pdu_bytes-zeros (hello h) = refl
pdu_bytes-zeros (lsp l) = refl
pdu_bytes-zeros (csnp c) = refl
pdu_bytes-zeros (psnp p) = refl

pub written_again : (p : PduValue) → IsPdu p → read (pdu_bytes p) ≡ (if is_sound p then Ok p else Err refusals.Sum)
written_again p fits = ap read (pdu_bytes-zeros p ∙ sym (append-nil (pdu_with zeros p))) ∙ spelled_is_read zeros p [] zeros_allowed fits

pub same_bytes : (bytes : List ℕ) (p : PduValue) → IsReadFrom bytes p → IsCanonical bytes p → pdu_bytes p ≡ bytes
same_bytes bytes p h c =
    let nothing : drop (length_of p) bytes ≡ [] = drop_all (length_of p) bytes (omega (arith, c.end)) in
    let whole : bytes ≡ pdu_with zeros p = h.parts ∙ ap (λ (o : Ignored). pdu_with o p ++ drop (length_of p) bytes) c.over ∙ ap (λ (xs : List ℕ). pdu_with zeros p ++ xs) nothing ∙ append-nil (pdu_with zeros p) in
    pdu_bytes-zeros p ∙ sym whole

pub canonical_again : (bytes : List ℕ) (p : PduValue) → IsBytes bytes → read bytes ≡ Ok p → IsCanonical bytes p → pdu_bytes p ≡ bytes
canonical_again bytes p fits h c = same_bytes bytes p (read_is_spelled bytes p fits h) c

-- the same of the code's answer
pub answered : (r : Result Pdu PduError) (bytes : List ℕ) → IsBytes bytes → answer_of r ≡ read bytes → IfOk r (λ pdu. IsReadFrom bytes (pdu_of pdu))
answered (Ok pdu) bytes fits e = read_is_spelled bytes (pdu_of pdu) fits (sym e)
answered (Err refused) bytes fits e = tt

pub answered_again : (r : Result Pdu PduError) (bytes : List ℕ) → IsBytes bytes → answer_of r ≡ read bytes → IfOk r (λ pdu. IsCanonical bytes (pdu_of pdu) → pdu_bytes (pdu_of pdu) ≡ bytes)
answered_again (Ok pdu) bytes fits e = λ c. canonical_again bytes (pdu_of pdu) fits (sym e) c
answered_again (Err refused) bytes fits e = tt

-- ---- TLVs

whole_past : (left : ℕ) (bytes : List ℕ) → is_whole_after left bytes ≡ (nat_le left (length bytes) && is_whole (drop left bytes))
whole_past left bytes =
    elim (cases_lt (length bytes) left) [
      | inl lt ↦ cut_value left bytes lt ∙ rw (lt-leb left (length bytes) lt) refl
      | inr le ↦ past_value left bytes le ∙ rw (le-leb left (length bytes) le) refl
    ]

pub whole_next : (code len : ℕ) (bytes : List ℕ) → is_whole (code ∷ len ∷ bytes) ≡ (nat_le len (length bytes) && is_whole (drop len bytes))
unfolding is_whole_after
whole_next code len bytes = whole_past len bytes

pub whole_value : (value : List ℕ) → is_whole_after (length value) value ≡ true
unfolding is_whole_after
whole_value [] = refl
whole_value (byte ∷ bytes) = whole_value bytes

pub whole_one : (code : ℕ) (value : List ℕ) → IsTrue (is_whole (code ∷ length value ∷ value))
unfolding is_whole_after
whole_one code value = whole_value value

whole_joined : (left : ℕ) (first after : List ℕ) → is_whole_after left first ≡ true → is_whole_after left (first ++ after) ≡ is_whole after
unfolding is_whole_after
whole_joined zero [] after h = refl
whole_joined zero (code ∷ []) after h = absurd cc
whole_joined zero (code ∷ len ∷ bytes) after h = whole_joined len bytes after h
whole_joined (suc left) [] after h = absurd cc
whole_joined (suc left) (byte ∷ bytes) after h = whole_joined left bytes after h

pub whole_both : (first after : List ℕ) → IsTrue (is_whole first) → is_whole (first ++ after) ≡ is_whole after
whole_both first after h = whole_joined 0 first after h

-- ---- checksums

or_right : (a b c : Bool) → c ≡ true → (a || b || c) ≡ true
or_right true b c h = refl
or_right false true c h = refl
or_right false false c h = h

pub made_is_sound : (l : LspValue) → l.sum ≡ lsp_sum_of l.id l.seq l.flags l.tlvs → IsTrue (is_sound_lsp l)
unfolding is_sound_lsp
made_is_sound l e =
    let bytes = lsp_sum-bytes l.id l.seq l.flags l.tlvs in
    let low : nat_le 1 l.sum ≡ true = le-leb 1 l.sum (rw e (above _ bytes)) in
    let holds : is_checked (covered l.id l.seq l.sum l.flags l.tlvs) ≡ true = rw e (lsp_sum-holds l.id l.seq l.flags l.tlvs) in
    or_right (l.lifetime == 0) (l.seq == 0) _ (both _ _ low holds)
  where
    above : (n : ℕ) → HasCheckBytes n → 1 ≤ n
    above n h = omega (arith, h.first)

    both : (a b : Bool) → a ≡ true → b ≡ true → (a && b) ≡ true
    both a b p q = rw (p, q) refl
