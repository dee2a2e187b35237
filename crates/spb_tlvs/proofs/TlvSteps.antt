-- The values with a code, one TLV at a time.
use Rattle.std.proofs.Common.{◌≡◌, ◌≢◌, ℕ, zero, suc, ◌-◌, Bool, true, false, cond, eqb, List, [], ◌∷◌, drop, get_or, Option, Some, None, refl, sym, ap, ◌∙◌, arith}
use Rattle.std.specs.List.{slice_get}
use Rattle.std.proofs.lemmas.Bool.{eq-eqb, ne_eqb, eqb-true, eqb-false}
use Rattle.spb_tlvs.specs.Piece.{starts_whole, first_piece, after_first}
use Rattle.spb_tlvs.specs.Tlv.{values_with}
use Rattle.spb_tlvs.proofs.Pieces.{pieces_more, pieces_none}

-- the values with a code, where the TLV at the front has this code and this value, and these bytes follow it
abbrev if_here : ℕ → ℕ → List ℕ → List ℕ → List (List ℕ)
if_here code head value after = cond (eqb head code) (value ∷ values_with code after) (values_with code after)

pub values_here : (code : ℕ) (bytes : List ℕ) → starts_whole 2 bytes ≡ true → get_or (first_piece 2 bytes) 0 0 ≡ code → values_with code bytes ≡ drop 2 (first_piece 2 bytes) ∷ values_with code (after_first 2 bytes)
values_here code bytes e f =
    let t : eqb (get_or (first_piece 2 bytes) 0 0) code ≡ true = eq-eqb _ _ f in
    rw (pieces_more 2 bytes (omega arith) e, t) refl

pub values_elsewhere : (code : ℕ) (bytes : List ℕ) → starts_whole 2 bytes ≡ true → get_or (first_piece 2 bytes) 0 0 ≢ code → values_with code bytes ≡ values_with code (after_first 2 bytes)
values_elsewhere code bytes e f =
    let t : eqb (get_or (first_piece 2 bytes) 0 0) code ≡ false = ne_eqb _ _ f in
    rw (pieces_more 2 bytes (omega arith) e, t) refl

pub values_none : (code : ℕ) (bytes : List ℕ) → starts_whole 2 bytes ≡ false → values_with code bytes ≡ []
values_none code bytes e = rw (pieces_none 2 bytes e) refl

-- the values with a code, where the TLV at the front is split off
pub values_split : (code : ℕ) (bytes piece value after : List ℕ) → starts_whole 2 bytes ≡ true → piece ≡ first_piece 2 bytes → after ≡ after_first 2 bytes → value ≡ drop 2 piece → values_with code bytes ≡ if_here code (get_or piece 0 0) value after
values_split code bytes piece value after whole is next split = by_test (eqb (get_or piece 0 0) code) refl
  where
    first : get_or (first_piece 2 bytes) 0 0 ≡ get_or piece 0 0
    first = ap (λ (p : List ℕ). get_or p 0 0) (sym is)

    by_test : (b : Bool) → eqb (get_or piece 0 0) code ≡ b → values_with code bytes ≡ cond b (value ∷ values_with code after) (values_with code after)
    by_test true t = values_here code bytes whole (first ∙ eqb-true _ _ t) ∙ rw (next, split, is) refl
    by_test false t = values_elsewhere code bytes whole (λ f. eqb-false _ _ t (sym first ∙ f)) ∙ ap (values_with code) (sym next)

-- what a search for the TLV number `before` of a code sees at the front: that TLV, an earlier one, another one, or none
pub found : (code head before : ℕ) (bytes value after : List ℕ) (o : Option (List ℕ)) → values_with code bytes ≡ if_here code head value after → head ≡ code → before ≡ 0 → slice_get (values_with code bytes) before ≡ o → Some value ≡ o
found code head before bytes value after o split here first so_far =
    let e : values_with code bytes ≡ value ∷ values_with code after = split ∙ rw (eq-eqb head code here) refl in
    let step : slice_get (values_with code bytes) before ≡ Some value = rw (e, first) refl in
    sym step ∙ so_far

pub earlier : (code head before : ℕ) (bytes value after : List ℕ) (o : Option (List ℕ)) → values_with code bytes ≡ if_here code head value after → head ≡ code → before ≢ 0 → slice_get (values_with code bytes) before ≡ o → slice_get (values_with code after) (before - 1) ≡ o
earlier code head zero bytes value after o split here first so_far = absurd (first refl)
earlier code head (suc before) bytes value after o split here first so_far =
    let e : values_with code bytes ≡ value ∷ values_with code after = split ∙ rw (eq-eqb head code here) refl in
    let step : slice_get (values_with code bytes) (suc before) ≡ slice_get (values_with code after) before = ap (λ (xs : List (List ℕ)). slice_get xs (suc before)) e in
    let k : suc before - 1 ≡ before = omega arith in
    rw k (sym step ∙ so_far)

pub other : (code head before : ℕ) (bytes value after : List ℕ) (o : Option (List ℕ)) → values_with code bytes ≡ if_here code head value after → head ≢ code → slice_get (values_with code bytes) before ≡ o → slice_get (values_with code after) before ≡ o
other code head before bytes value after o split elsewhere so_far =
    let e : values_with code bytes ≡ values_with code after = split ∙ rw (ne_eqb head code elsewhere) refl in
    sym (ap (λ (xs : List (List ℕ)). slice_get xs before) e) ∙ so_far

pub nothing : (code before : ℕ) (bytes : List ℕ) (o : Option (List ℕ)) → values_with code bytes ≡ [] → slice_get (values_with code bytes) before ≡ o → None ≡ o
nothing code before bytes o none so_far = sym (ap (λ (xs : List (List ℕ)). slice_get xs before) none) ∙ so_far
