-- The pieces of bytes, one at a time, and those of two byte strings joined.
use Rattle.std.proofs.Common.{◌≡◌, ℕ, zero, suc, ◌+◌, ◌-◌, ◌≤◌, ◌<◌, true, false, eqb, List, [], ◌∷◌, ◌++◌, length, take, drop, refl, sym, ap, ◌∙◌, arith, inl, inr}
use Rattle.std.proofs.lemmas.List.{length-drop, length-append, length-take-le, get_or_append_left, get_or-take, take_at, drop_at, take-append-drop, append_assoc, nil_from_length}
use Rattle.std.proofs.lemmas.Bool.{cases_Bool}
use Rattle.std.proofs.lemmas.Bool.Decides.{nat_tests}
use Rattle.spb_tlvs.specs.Piece.{piece_len, starts_whole, first_piece, after_first, pieces_within, after_pieces_within, pieces, after_pieces, ends_whole}

-- a whole piece has its head, so the bytes after it are fewer
pub len_of_whole : (head : ℕ) (bytes : List ℕ) → starts_whole head bytes ≡ true → (head ≤ length bytes) × (piece_len head bytes ≤ length bytes)
len_of_whole head bytes e = (grind (arith, nat_tests), grind (arith, nat_tests))

pub whole_from_len : (head : ℕ) (bytes : List ℕ) → head ≤ length bytes → piece_len head bytes ≤ length bytes → starts_whole head bytes ≡ true
whole_from_len head bytes p q = grind (arith, nat_tests)

none_in_few : (head : ℕ) (bytes : List ℕ) → length bytes < head → starts_whole head bytes ≡ false
none_in_few head bytes p = grind (arith, nat_tests)

pub after_is_shorter : (head : ℕ) (bytes : List ℕ) → 1 ≤ head → starts_whole head bytes ≡ true → length (after_first head bytes) < length bytes
after_is_shorter head bytes low e =
    let h = len_of_whole head bytes e in
    omega (arith, length-drop (piece_len head bytes) bytes, h.0, h.1)

-- more steps than there are bytes give the same pieces, and leave the same
same_pieces : (n m head : ℕ) (bytes : List ℕ) → 1 ≤ head → length bytes ≤ n → length bytes ≤ m → pieces_within n head bytes ≡ pieces_within m head bytes
unfolding pieces_within
same_pieces zero zero head bytes low p q = refl
same_pieces zero (suc m) head bytes low p q = rw (none_in_few head bytes (omega arith)) refl
same_pieces (suc n) zero head bytes low p q = rw (none_in_few head bytes (omega arith)) refl
same_pieces (suc n) (suc m) head bytes low p q =
    elim (cases_Bool (starts_whole head bytes)) [
      | inl e ↦ let h = after_is_shorter head bytes low e in rw (e, same_pieces n m head (after_first head bytes) low (omega arith) (omega arith)) refl
      | inr e ↦ rw e refl
    ]

same_left : (n m head : ℕ) (bytes : List ℕ) → 1 ≤ head → length bytes ≤ n → length bytes ≤ m → after_pieces_within n head bytes ≡ after_pieces_within m head bytes
unfolding after_pieces_within
same_left zero zero head bytes low p q = refl
same_left zero (suc m) head bytes low p q = rw (none_in_few head bytes (omega arith)) refl
same_left (suc n) zero head bytes low p q = rw (none_in_few head bytes (omega arith)) refl
same_left (suc n) (suc m) head bytes low p q =
    elim (cases_Bool (starts_whole head bytes)) [
      | inl e ↦ let h = after_is_shorter head bytes low e in rw (e, same_left n m head (after_first head bytes) low (omega arith) (omega arith)) refl
      | inr e ↦ rw e refl
    ]

pieces_within-suc : (n head : ℕ) (bytes : List ℕ) → starts_whole head bytes ≡ true → pieces_within (suc n) head bytes ≡ first_piece head bytes ∷ pieces_within n head (after_first head bytes)
unfolding pieces_within
pieces_within-suc n head bytes e = rw e refl

after_pieces_within-suc : (n head : ℕ) (bytes : List ℕ) → starts_whole head bytes ≡ true → after_pieces_within (suc n) head bytes ≡ after_pieces_within n head (after_first head bytes)
unfolding after_pieces_within
after_pieces_within-suc n head bytes e = rw e refl

-- where a whole piece stands at the front
pub pieces_more : (head : ℕ) (bytes : List ℕ) → 1 ≤ head → starts_whole head bytes ≡ true → pieces head bytes ≡ first_piece head bytes ∷ pieces head (after_first head bytes)
unfolding pieces
pieces_more head bytes low e =
    let h = after_is_shorter head bytes low e in
    same_pieces (length bytes) (suc (length bytes)) head bytes low (omega arith) (omega arith) ∙ pieces_within-suc (length bytes) head bytes e ∙ ap (λ (ps : List (List ℕ)). first_piece head bytes ∷ ps) (same_pieces (length bytes) (length (after_first head bytes)) head (after_first head bytes) low (omega arith) (omega arith))

pub after_pieces_more : (head : ℕ) (bytes : List ℕ) → 1 ≤ head → starts_whole head bytes ≡ true → after_pieces head bytes ≡ after_pieces head (after_first head bytes)
unfolding after_pieces
after_pieces_more head bytes low e =
    let h = after_is_shorter head bytes low e in
    same_left (length bytes) (suc (length bytes)) head bytes low (omega arith) (omega arith) ∙ after_pieces_within-suc (length bytes) head bytes e ∙ same_left (length bytes) (length (after_first head bytes)) head (after_first head bytes) low (omega arith) (omega arith)

-- where none stands there
pieces_within-none : (n head : ℕ) (bytes : List ℕ) → starts_whole head bytes ≡ false → pieces_within n head bytes ≡ []
unfolding pieces_within
pieces_within-none zero head bytes e = refl
pieces_within-none (suc n) head bytes e = rw e refl

after_pieces_within-none : (n head : ℕ) (bytes : List ℕ) → starts_whole head bytes ≡ false → after_pieces_within n head bytes ≡ bytes
unfolding after_pieces_within
after_pieces_within-none zero head bytes e = refl
after_pieces_within-none (suc n) head bytes e = rw e refl

pub pieces_none : (head : ℕ) (bytes : List ℕ) → starts_whole head bytes ≡ false → pieces head bytes ≡ []
unfolding pieces
pieces_none head bytes e = pieces_within-none (length bytes) head bytes e

pub after_pieces_none : (head : ℕ) (bytes : List ℕ) → starts_whole head bytes ≡ false → after_pieces head bytes ≡ bytes
unfolding after_pieces
after_pieces_none head bytes e = after_pieces_within-none (length bytes) head bytes e

-- no bytes have no pieces, and are whole
pub nothing_is_piece : (head : ℕ) → 1 ≤ head → pieces head [] ≡ []
nothing_is_piece head low = pieces_none head [] (none_in_few head [] (omega arith))

pub nothing_is_whole : (head : ℕ) → 1 ≤ head → ends_whole head [] ≡ true
unfolding ends_whole
nothing_is_whole head low = rw (after_pieces_none head [] (none_in_few head [] (omega arith))) refl

-- ---- pieces joined

-- a piece that stands before other bytes
pub piece_before : (head : ℕ) (piece rest : List ℕ) → 1 ≤ head → head ≤ length piece → piece_len head piece ≡ length piece → (starts_whole head (piece ++ rest) ≡ true) × (first_piece head (piece ++ rest) ≡ piece) × (after_first head (piece ++ rest) ≡ rest)
piece_before head piece rest low long len =
    let total = length-append piece rest in
    let same : piece_len head (piece ++ rest) ≡ length piece = ap (λ (n : ℕ). head + n) (get_or_append_left piece rest 0 (head - 1) (omega arith)) ∙ len in (
      whole_from_len head (piece ++ rest) (omega arith) (omega arith),
      ap (λ (n : ℕ). take n (piece ++ rest)) same ∙ take_at piece rest (length piece) refl,
      ap (λ (n : ℕ). drop n (piece ++ rest)) same ∙ drop_at piece rest (length piece) refl,
    )

pub pieces_before : (head : ℕ) (piece rest : List ℕ) → 1 ≤ head → head ≤ length piece → piece_len head piece ≡ length piece → pieces head (piece ++ rest) ≡ piece ∷ pieces head rest
pieces_before head piece rest low long len =
    let p = piece_before head piece rest low long len in
    pieces_more head (piece ++ rest) low p.0 ∙ rw (p.1, p.2) refl

pub after_pieces_before : (head : ℕ) (piece rest : List ℕ) → 1 ≤ head → head ≤ length piece → piece_len head piece ≡ length piece → after_pieces head (piece ++ rest) ≡ after_pieces head rest
after_pieces_before head piece rest low long len =
    let p = piece_before head piece rest low long len in
    after_pieces_more head (piece ++ rest) low p.0 ∙ ap (after_pieces head) p.2

pub whole_before : (head : ℕ) (piece rest : List ℕ) → 1 ≤ head → head ≤ length piece → piece_len head piece ≡ length piece → ends_whole head (piece ++ rest) ≡ ends_whole head rest
unfolding ends_whole
whole_before head piece rest low long len = ap (λ (xs : List ℕ). eqb (length xs) 0) (after_pieces_before head piece rest low long len)

-- the piece at the front is a piece by itself
front_is_piece : (head : ℕ) (bytes : List ℕ) → 1 ≤ head → starts_whole head bytes ≡ true → (head ≤ length (first_piece head bytes)) × (piece_len head (first_piece head bytes) ≡ length (first_piece head bytes))
front_is_piece head bytes low e =
    let h = len_of_whole head bytes e in
    let len : length (first_piece head bytes) ≡ piece_len head bytes = length-take-le (piece_len head bytes) bytes h.1 in
    let same : piece_len head (first_piece head bytes) ≡ piece_len head bytes = ap (λ (n : ℕ). head + n) (get_or-take (piece_len head bytes) bytes (head - 1) 0 (omega arith)) in
    (omega arith, same ∙ sym len)

-- whole pieces before other bytes
joined_empty : (head : ℕ) (front rest : List ℕ) → 1 ≤ head → front ≡ [] → pieces head (front ++ rest) ≡ pieces head front ++ pieces head rest
joined_empty head front rest low e = rw (e, pieces_none head [] (none_in_few head [] (omega arith))) refl

joined_within : (n head : ℕ) (front rest : List ℕ) → 1 ≤ head → length front ≤ n → length (after_pieces head front) ≡ 0 → pieces head (front ++ rest) ≡ pieces head front ++ pieces head rest
joined_within zero head front rest low bound whole = joined_empty head front rest low (nil_from_length front (omega arith))
joined_within (suc n) head front rest low bound whole =
    elim (cases_Bool (starts_whole head front)) [
      | inl e ↦
          let h = after_is_shorter head front low e in
          let p = front_is_piece head front low e in
          let parts : front ≡ first_piece head front ++ after_first head front = sym (take-append-drop (piece_len head front) front) in
          let more : pieces head (front ++ rest) ≡ first_piece head front ∷ pieces head (after_first head front ++ rest) =
          ap (λ (xs : List ℕ). pieces head (xs ++ rest)) parts ∙ ap (pieces head) (append_assoc (first_piece head front) (after_first head front) rest) ∙ pieces_before head (first_piece head front) (after_first head front ++ rest) low p.0 p.1 in
          let later = joined_within n head (after_first head front) rest low (omega arith) (ap length (sym (after_pieces_more head front low e)) ∙ whole) in
          more ∙ rw (later, pieces_more head front low e) refl
      | inr e ↦ joined_empty head front rest low (nil_from_length front (ap length (sym (after_pieces_none head front e)) ∙ whole))
    ]

pub pieces_join : (head : ℕ) (front rest : List ℕ) → 1 ≤ head → length (after_pieces head front) ≡ 0 → pieces head (front ++ rest) ≡ pieces head front ++ pieces head rest
pieces_join head front rest low whole = joined_within (length front) head front rest low (omega arith) whole
