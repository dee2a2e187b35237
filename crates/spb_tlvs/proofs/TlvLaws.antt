-- The laws of TLVs one after another.
use Rattle.std.proofs.Common.{◌≡◌, ℕ, true, false, eqb, List, [], ◌∷◌, ◌++◌, refl, sym, ap, ◌∙◌, arith}
use Rattle.std.proofs.lemmas.List.{append-nil, map-append}
use Rattle.std.proofs.lemmas.List.Elements.{filter-append}
use Rattle.std.proofs.lemmas.Bool.{eq-eqb, ne_eqb, eqb-true}
use Rattle.spb_tlvs.specs.Piece.{pieces, ends_whole}
use Rattle.spb_tlvs.specs.Tlv.{tlv}
use Rattle.spb_tlvs.specs.RoundTrip.{TlvHere, TlvElsewhere, TlvsJoin, TlvIsWhole}
use Rattle.spb_tlvs.proofs.Pieces.{nothing_is_piece, nothing_is_whole, pieces_before, whole_before, pieces_join}

pub tlv_first : (code : ℕ) (value rest : List ℕ) → pieces 2 (tlv code value ++ rest) ≡ tlv code value ∷ pieces 2 rest
tlv_first code value rest = pieces_before 2 (tlv code value) rest (omega arith) (omega arith) (omega arith)

pub tlv_whole : TlvIsWhole
tlv_whole code value rest = whole_before 2 (tlv code value) rest (omega arith) (omega arith) (omega arith)

pub tlv_here : TlvHere
tlv_here code value rest =
    let t : eqb code code ≡ true = eq-eqb code code refl in
    rw (tlv_first code value rest, t) refl

pub tlv_elsewhere : TlvElsewhere
tlv_elsewhere code other value rest ne =
    let t : eqb code other ≡ false = ne_eqb code other ne in
    rw (tlv_first code value rest, t) refl

pub tlvs_join : TlvsJoin
unfolding ends_whole
tlvs_join code front rest whole = rw (pieces_join 2 front rest (omega arith) (eqb-true _ _ whole), map-append, filter-append, map-append) refl

-- a TLV by itself
pub tlv_alone : (code : ℕ) (value : List ℕ) → pieces 2 (tlv code value) ≡ tlv code value ∷ []
tlv_alone code value = ap (pieces 2) (sym (append-nil (tlv code value))) ∙ tlv_first code value [] ∙ ap (λ (ps : List (List ℕ)). tlv code value ∷ ps) (nothing_is_piece 2 (omega arith))

pub tlv_alone_whole : (code : ℕ) (value : List ℕ) → ends_whole 2 (tlv code value) ≡ true
tlv_alone_whole code value = ap (ends_whole 2) (sym (append-nil (tlv code value))) ∙ tlv_whole code value [] ∙ nothing_is_whole 2 (omega arith)
