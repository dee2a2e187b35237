-- Whether bytes are whole TLVs that pass a test, one TLV at a time.
use Rattle.std.proofs.Common.{◌≡◌, ℕ, ◌≤◌, Bool, true, false, ◌&&◌, eqb, List, length, refl, sym, ◌∙◌, arith}
use Rattle.spb_tlvs.specs.Piece.{starts_whole, first_piece, after_first, ends_whole}
use Rattle.spb_tlvs.specs.Tlv.{Tlv, tlv_of, are_whole}
use Rattle.spb_tlvs.proofs.Pieces.{pieces_more, pieces_none, after_pieces_more, after_pieces_none}

pub whole_more : (head : ℕ) (bytes : List ℕ) → 1 ≤ head → starts_whole head bytes ≡ true → ends_whole head bytes ≡ ends_whole head (after_first head bytes)
unfolding ends_whole
whole_more head bytes low e = rw (after_pieces_more head bytes low e) refl

pub whole_none : (head : ℕ) (bytes : List ℕ) → starts_whole head bytes ≡ false → ends_whole head bytes ≡ eqb (length bytes) 0
unfolding ends_whole
whole_none head bytes e = rw (after_pieces_none head bytes e) refl

-- the first TLV passes, the first one fails, or there is none
pub passes : (test : Tlv → Bool) (bytes piece after : List ℕ) (r : Bool) → starts_whole 2 bytes ≡ true → piece ≡ first_piece 2 bytes → after ≡ after_first 2 bytes → test (tlv_of piece) ≡ true → are_whole test bytes ≡ r → are_whole test after ≡ r
passes test bytes piece after r whole is next pass so_far =
    let here : test (tlv_of (first_piece 2 bytes)) ≡ true = rw (← is) pass in
    let step : are_whole test bytes ≡ are_whole test (after_first 2 bytes) = rw (whole_more 2 bytes (omega arith) whole, pieces_more 2 bytes (omega arith) whole, here) refl in
    rw next (sym step ∙ so_far)

pub and-false : (a : Bool) → (a && false) ≡ false
and-false true = refl
and-false false = refl

pub fails : (test : Tlv → Bool) (bytes piece : List ℕ) (r : Bool) → starts_whole 2 bytes ≡ true → piece ≡ first_piece 2 bytes → test (tlv_of piece) ≡ false → are_whole test bytes ≡ r → false ≡ r
fails test bytes piece r whole is fail so_far =
    let here : test (tlv_of (first_piece 2 bytes)) ≡ false = rw (← is) fail in
    let step : are_whole test bytes ≡ false = rw (pieces_more 2 bytes (omega arith) whole, here) (and-false (ends_whole 2 bytes)) in
    sym step ∙ so_far

pub and-true : (a : Bool) → (a && true) ≡ a
and-true true = refl
and-true false = refl

pub ends : (test : Tlv → Bool) (bytes : List ℕ) (b r : Bool) → starts_whole 2 bytes ≡ false → b ≡ eqb (length bytes) 0 → are_whole test bytes ≡ r → b ≡ r
ends test bytes b r none is so_far =
    let step : are_whole test bytes ≡ eqb (length bytes) 0 = rw (pieces_none 2 bytes none) (and-true _ ∙ whole_none 2 bytes none) in
    is ∙ sym step ∙ so_far
