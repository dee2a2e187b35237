-- Numbers of one and of two digits.
use Rattle.std.proofs.Common.{◌≡◌, ℕ, ◌+◌, ◌/◌, ◌%◌, ◌^◌, ◌<◌, ◌≤◌, List, [], ◌∷◌, ◌++◌, decimal, sym, ap, ◌∙◌, append_assoc, arith}
use Rattle.std.proofs.lemmas.Fmt.{decimal_digit, decimal_step}

-- the digit of a number below ten is its text
pub one_digit : (before after : List ℕ) (n : ℕ) → n < 10 → after ≡ before ++ (48 + n) ∷ [] → after ≡ before ++ decimal n
one_digit before after n low wrote = wrote ∙ ap (λ t. before ++ t) (sym (decimal_digit n low))

-- the two digits of a number below a hundred
pub two_digits_are : (n : ℕ) → 10 ≤ n → n < 100 → decimal n ≡ (48 + n / 10) ∷ (48 + n % 10) ∷ []
two_digits_are n high low =
    let small : n < 2 ^ 64 = omega arith in
    let first : n / 10 < 10 = omega arith in
    decimal_step n high small ∙ ap (λ t. t ++ (48 + n % 10) ∷ []) (decimal_digit (n / 10) first)

-- two digits of a number below a hundred are its text
pub two_digits : (before mid after : List ℕ) (n : ℕ) → 10 ≤ n → n < 100 → mid ≡ before ++ (48 + n / 10) ∷ [] → after ≡ mid ++ (48 + n % 10) ∷ [] → after ≡ before ++ decimal n
two_digits before mid after n high low tens ones =
    let text = two_digits_are n high low in
    ones ∙ (ap (λ t. t ++ (48 + n % 10) ∷ []) tens ∙ (append_assoc before ((48 + n / 10) ∷ []) ((48 + n % 10) ∷ []) ∙ ap (λ t. before ++ t) (sym text)))
