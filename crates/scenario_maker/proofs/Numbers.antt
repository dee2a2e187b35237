-- A list that is made number by number: what one number more puts behind it. And the digits of numbers below 100.
use Rattle.std.proofs.Common.{◌≡◌, ℕ, zero, suc, ◌+◌, ◌≤◌, ◌<◌, ◌/◌, ◌%◌, List, [], ◌∷◌, ◌++◌, map, flat_map, decimal, sym, ap, ◌∙◌, append_assoc, arith}
use Rattle.std.specs.List.{range_with_len}
use Rattle.std.proofs.lemmas.List.{flat_map_more}
use Rattle.std.proofs.lemmas.List.FromFn.{map-range_with_len_more}
use Rattle.std.proofs.lemmas.Fmt.{decimal_digit, decimal_step}
use Rattle.scenario_maker.specs.Made.{numbers}

last : (a k j : ℕ) → a + k ≡ j → range_with_len a (suc k) ≡ range_with_len a k ++ j ∷ []
last a zero j e = let same : a ≡ j = omega arith in ap (λ m. m ∷ []) same
last a (suc k) j e = ap (λ l. a ∷ l) (last (a + 1) k j (omega arith))

numbers_more : (k : ℕ) → numbers (k + 1) ≡ numbers k ++ (k + 1) ∷ []
numbers_more k = let on : k + 1 ≡ suc k = omega arith in ap numbers on ∙ last 1 k (k + 1) (omega arith)

pub map_more : {X : Type 0} (f : ℕ → X) (old now new : List X) (k : ℕ) → now ≡ old ++ map f (numbers k)
    → new ≡ now ++ f (k + 1) ∷ [] → new ≡ old ++ map f (numbers (k + 1))
map_more f old now new k so then =
    then ∙ ap (λ l. l ++ f (k + 1) ∷ []) so ∙ append_assoc old (map f (numbers k)) (f (k + 1) ∷ [])
    ∙ ap (λ l. old ++ l) (sym (map-range_with_len_more f 1 k (k + 1) (omega arith)))

pub flat_more : {X : Type 0} (f : ℕ → List X) (old now new : List X) (k : ℕ) → now ≡ old ++ flat_map f (numbers k)
    → new ≡ now ++ f (k + 1) → new ≡ old ++ flat_map f (numbers (k + 1))
flat_more f old now new k so then =
    then ∙ ap (λ l. l ++ f (k + 1)) so ∙ flat_map_more f old (numbers k) (k + 1)
    ∙ ap (λ l. old ++ flat_map f l) (sym (numbers_more k))

pub decimal_one : (k : ℕ) → k < 10 → decimal k ≡ (48 + k) ∷ []
decimal_one = decimal_digit

pub decimal_pair : (k : ℕ) → 10 ≤ k → k < 100 → decimal k ≡ (48 + k / 10) ∷ (48 + k % 10) ∷ []
decimal_pair k some small =
    decimal_step k some (omega arith) ∙ ap (λ l. l ++ (48 + k % 10) ∷ []) (decimal_digit (k / 10) (omega arith))
