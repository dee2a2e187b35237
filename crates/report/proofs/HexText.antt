use Rattle.std.proofs.Common.{◌≡◌, ℕ, ◌+◌, ◌/◌, ◌%◌, ◌<◌, List, [], ◌∷◌, ◌++◌, length, get_or, take, refl, sym, ap, ◌∙◌, append_assoc, arith}
use Rattle.std.specs.List.{slice_index}
use Rattle.std.proofs.lemmas.List.{take_more}
use Rattle.hex.specs.Hex.{encode_lower, encode_with, lower_digits}
use Rattle.report.specs.Words.{spaced}

-- no bytes have no digits
pub hex_none : (before mid bytes : List ℕ) → mid ≡ before ++ spaced [] → mid ≡ before ++ spaced (encode_lower (take 0 bytes))
unfolding encode_with
hex_none before mid bytes h = h

encode_with-append : (t xs ys : List ℕ) → encode_with t (xs ++ ys) ≡ encode_with t xs ++ encode_with t ys
unfolding encode_with
encode_with-append t [] ys = refl
encode_with-append t (x ∷ xs) ys = let h = encode_with-append t xs ys in cc

-- the digits of one more byte stand behind the others
pub hex_more : (before mid after bytes : List ℕ) (i : ℕ) → i < length bytes → mid ≡ before ++ spaced (encode_lower (take i bytes)) → after ≡ mid ++ encode_lower (get_or bytes i 0 ∷ [])
    → after ≡ before ++ spaced (encode_lower (take (i + 1) bytes))
hex_more before mid after bytes i h so more =
    let digits : encode_lower (take (i + 1) bytes) ≡ encode_lower (take i bytes) ++ encode_lower (get_or bytes i 0 ∷ []) =
    ap encode_lower (take_more bytes i 0 h) ∙ encode_with-append lower_digits (take i bytes) (get_or bytes i 0 ∷ [])
    in
    more ∙ ap (λ t. t ++ encode_lower (get_or bytes i 0 ∷ [])) so ∙ rw digits (simp append_assoc)

six_bytes : (m : List ℕ) → length m ≡ 6 → m ≡ get_or m 0 0 ∷ get_or m 1 0 ∷ get_or m 2 0 ∷ get_or m 3 0 ∷ get_or m 4 0 ∷ get_or m 5 0 ∷ []
six_bytes (a ∷ b ∷ c ∷ d ∷ e ∷ f ∷ []) h = refl
six_bytes _ h = absurd (omega arith)

-- the digits of the two halves of each of six bytes are their text
pub six_digits : (m : List ℕ) (a b c d e f g h i j k l : ℕ) → length m ≡ 6
    → a ≡ slice_index lower_digits (get_or m 0 0 / 16) → b ≡ slice_index lower_digits (get_or m 0 0 % 16)
    → c ≡ slice_index lower_digits (get_or m 1 0 / 16) → d ≡ slice_index lower_digits (get_or m 1 0 % 16)
    → e ≡ slice_index lower_digits (get_or m 2 0 / 16) → f ≡ slice_index lower_digits (get_or m 2 0 % 16)
    → g ≡ slice_index lower_digits (get_or m 3 0 / 16) → h ≡ slice_index lower_digits (get_or m 3 0 % 16)
    → i ≡ slice_index lower_digits (get_or m 4 0 / 16) → j ≡ slice_index lower_digits (get_or m 4 0 % 16)
    → k ≡ slice_index lower_digits (get_or m 5 0 / 16) → l ≡ slice_index lower_digits (get_or m 5 0 % 16)
    → a ∷ b ∷ c ∷ d ∷ e ∷ f ∷ g ∷ h ∷ i ∷ j ∷ k ∷ l ∷ [] ≡ encode_lower m
unfolding encode_with
six_digits m a b c d e f g h i j k l len pa pb pc pd pe pf pg ph pi pj pk pl =
    (λ t. pa t ∷ pb t ∷ pc t ∷ pd t ∷ pe t ∷ pf t ∷ pg t ∷ ph t ∷ pi t ∷ pj t ∷ pk t ∷ pl t ∷ []) ∙ sym (ap encode_lower (six_bytes m len))

-- twelve digits one by one
pub twelve_digits : (m : List ℕ) → length m ≡ 12 → m ≡ get_or m 0 0 ∷ get_or m 1 0 ∷ get_or m 2 0 ∷ get_or m 3 0 ∷ get_or m 4 0 ∷ get_or m 5 0
    ∷ get_or m 6 0 ∷ get_or m 7 0 ∷ get_or m 8 0 ∷ get_or m 9 0 ∷ get_or m 10 0 ∷ get_or m 11 0 ∷ []
twelve_digits (a ∷ b ∷ c ∷ d ∷ e ∷ f ∷ g ∷ h ∷ i ∷ j ∷ k ∷ l ∷ []) len = refl
twelve_digits _ len = absurd (omega arith)
