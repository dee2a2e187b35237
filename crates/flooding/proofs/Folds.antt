-- What is done at each of some numbers, one after another.
use Rattle.std.specs.Prelude.{ℕ, zero, suc, ◌≡◌, ◌+◌, ◌≤◌, ◌<◌, Bool, true, false, if◌then◌else◌}
use Rattle.std.proofs.Common.{refl, sym, ap, subst, ◌∙◌, inl, inr, arith}
use Rattle.std.proofs.lemmas.Bool.{cases_eq}
use Rattle.flooding.specs.Settling.{each_from}

unless : {X : Type 0} (P : X → Type 0) (b : Bool) (x y : X) → P x → P y → P (if b then x else y)
unless P true x y p q = p
unless P false x y p q = q

-- what each step keeps
pub folds_keep : (X : Type 0) (P : X → Type 0) (stands : X → ℕ → Bool) (act : ℕ → X → X) (n k : ℕ) (x : X)
    → ((j : ℕ) (y : X) → k ≤ j → j < k + n → P y → P (act j y)) → P x → P (each_from stands act n k x)
folds_keep X P stands act zero k x step p = p
folds_keep X P stands act (suc n) k x step p =
    folds_keep X P stands act n (k + 1) (if stands x k then x else act k x) (λ j y low high q. step j y (omega (arith, low)) (omega (arith, high)) q)
    (unless P (stands x k) x (act k x) p (step k x (omega arith) (omega arith) p))

-- what is so before the step at each number, and then before the next
pub folds_pass : (X : Type 0) (R : ℕ → X → Type 0) (stands : X → ℕ → Bool) (act : ℕ → X → X) (n k : ℕ) (x : X)
    → ((j : ℕ) (y : X) → k ≤ j → j < k + n → R j y → R (j + 1) (if stands y j then y else act j y)) → R k x → R (k + n) (each_from stands act n k x)
folds_pass X R stands act zero k x step r = let end : k ≡ k + zero = omega arith in subst (λ m. R m x) end r
folds_pass X R stands act (suc n) k x step r =
    let next : X = if stands x k then x else act k x in
    let end : (k + 1) + n ≡ k + suc n = omega arith in
    subst (λ m. R m (each_from stands act n (k + 1) next)) end
    (folds_pass X R stands act n (k + 1) next (λ j y low high q. step j y (omega (arith, low)) (omega (arith, high)) q) (step k x (omega arith) (omega arith) r))

-- what the step at a number makes of what is so before it, the later ones keep
pub folds_reach : (X : Type 0) (Q : ℕ → X → Type 0) (P : X → Type 0) (stands : X → ℕ → Bool) (act : ℕ → X → X) (n k : ℕ) (x : X) (j : ℕ)
    → ((i : ℕ) (y : X) → i < j → Q i y → Q (i + 1) (if stands y i then y else act i y))
    → ((y : X) → Q j y → P (if stands y j then y else act j y))
    → ((i : ℕ) (y : X) → j < i → i < k + n → P y → P (act i y))
    → Q k x → k ≤ j → j < k + n → P (each_from stands act n k x)
folds_reach X Q P stands act zero k x j before done behind q low high = absurd (omega (arith, low, high))
folds_reach X Q P stands act (suc n) k x j before done behind q low high =
    elim (cases_eq k j) [
      | inl here ↦
          folds_keep X P stands act n (k + 1) next (λ i y above below p. behind i y (omega (arith, above, here)) (omega (arith, below)) p)
          (subst (λ (i : ℕ). P (if stands x i then x else act i x)) (sym here) (done x (subst (λ i. Q i x) here q)))
      | inr apart ↦
          folds_reach X Q P stands act n (k + 1) next j before done (λ i y above below p. behind i y above (omega (arith, below)) p)
          (before k x (omega (arith, low, apart)) q) (omega (arith, low, apart)) (omega (arith, high))
    ]
  where
    next : X
    next = if stands x k then x else act k x

-- where every number stands, nothing is done
pub folds_stand : {X : Type 0} (stands : X → ℕ → Bool) (act : ℕ → X → X) (n k : ℕ) (x : X) → ((j : ℕ) → k ≤ j → j < k + n → stands x j ≡ true) → each_from stands act n k x ≡ x
folds_stand stands act zero k x all = refl
folds_stand stands act (suc n) k x all =
    ap (λ b. each_from stands act n (k + 1) (if b then x else act k x)) (all k (omega arith) (omega arith))
    ∙ folds_stand stands act n (k + 1) x (λ j low high. all j (omega (arith, low)) (omega (arith, high)))
