-- The places on a ring, and that names tell them.
use Rattle.std.proofs.Common.{◌≡◌, ◌≢◌, ℕ, ◌+◌, ◌-◌, ◌/◌, ◌≤◌, ◌<◌, Bool, true, false, if◌then◌else◌, nat_lt, ◌∷◌, decimal, refl, ap, subst, drop, get_or, arith, ltb-true, ltb-false}
use Rattle.std.proofs.lemmas.Fmt.{decimal_injective}
use Rattle.scenario_maker.specs.Made.{wrapped, chord_start, next_of, across}
use Rattle.scenario_maker.specs.Laws.{IsOnRing, MembersAreApart, ChordsAreNoRingLinks, ChordsLeadAcross, PlacesAreTakenOnce, NamesAreApart}

-- where the place m of a ring of n is
data Wraps (n m w : ℕ) : Type 0 where
  past : n < m → w + n ≡ m → Wraps n m w
  within : m ≤ n → w ≡ m → Wraps n m w

wraps_by : (n m : ℕ) (b : Bool) → nat_lt n m ≡ b → Wraps n m (wrapped n m)
wraps_by n m true e =
    let above : n < m = ltb-true n m e in
    let is : wrapped n m ≡ m - n = ap (λ b. if b then m - n else m) e in
    past above (omega arith)
wraps_by n m false e = within (ltb-false n m e) (ap (λ b. if b then m - n else m) e)

wraps : (n m : ℕ) → Wraps n m (wrapped n m)
wraps n m = wraps_by n m (nat_lt n m) refl

members_by : (n k x y : ℕ) → 4 ≤ n → 1 ≤ k → k ≤ n → Wraps n (k + 1) x → Wraps n (k + n / 2) y
    → IsOnRing n x × IsOnRing n y × (x ≢ k) × (y ≢ k) × (y ≢ x)
members_by n k x y least low high (past p e) (past q f) =
    ((omega arith, omega arith), (omega arith, omega arith), omega arith, omega arith, omega arith)
members_by n k x y least low high (past p e) (within q f) =
    ((omega arith, omega arith), (omega arith, omega arith), omega arith, omega arith, omega arith)
members_by n k x y least low high (within p e) (past q f) =
    ((omega arith, omega arith), (omega arith, omega arith), omega arith, omega arith, omega arith)
members_by n k x y least low high (within p e) (within q f) =
    ((omega arith, omega arith), (omega arith, omega arith), omega arith, omega arith, omega arith)

pub members_are_apart : MembersAreApart
members_are_apart n k least here = members_by n k _ _ least here.0 here.1 (wraps n (k + 1)) (wraps n (k + n / 2))

back_by : (n k y z : ℕ) → 4 ≤ n → 1 ≤ k → k ≤ n → Wraps n (k + n / 2) y → Wraps n (y + 1) z → z ≢ k
back_by n k y z least low high (past p e) (past q f) = omega arith
back_by n k y z least low high (past p e) (within q f) = omega arith
back_by n k y z least low high (within p e) (past q f) = omega arith
back_by n k y z least low high (within p e) (within q f) = omega arith

pub chords_are_no_ring_links : ChordsAreNoRingLinks
chords_are_no_ring_links n k least here = (
  (members_are_apart n k least here).4,
  back_by n k _ _ least here.0 here.1 (wraps n (k + n / 2)) (wraps n (across n k + 1)),
)

here_by : (n m w : ℕ) → m ≤ n → Wraps n m w → w ≡ m
here_by n m w le (past p e) = absurd (omega arith)
here_by n m w le (within p e) = e

pub chords_lead_across : ChordsLeadAcross
chords_lead_across n i low high = (
  omega arith,
  omega arith,
  here_by n (chord_start i + n / 2) _ (omega arith) (wraps n (chord_start i + n / 2)),
  λ j some e. omega arith,
)

-- two places that are as far on from two of the ring
same_by : (n j k d x : ℕ) → d ≤ n → IsOnRing n j → IsOnRing n k → Wraps n (j + d) x → Wraps n (k + d) x → j ≡ k
same_by n j k d x few a b (past p e) (past q f) = omega arith
same_by n j k d x few (low, high) (low', high') (past p e) (within q f) = omega arith
same_by n j k d x few (low, high) (low', high') (within p e) (past q f) = omega arith
same_by n j k d x few a b (within p e) (within q f) = omega arith

pub places_are_taken_once : PlacesAreTakenOnce
places_are_taken_once n j k a b = (
  (λ e. same_by n j k 1 (next_of n k) (omega (arith, a.0, a.1)) a b
      (subst (λ x. Wraps n (j + 1) x) e (wraps n (j + 1))) (wraps n (k + 1))),
  (λ e. same_by n j k (n / 2) (across n k) (omega arith) a b
      (subst (λ x. Wraps n (j + n / 2) x) e (wraps n (j + n / 2))) (wraps n (k + n / 2))),
)

numbers_differ : (a : ℕ) (j k : ℕ) → j ≤ 96 → k ≤ 96 → a ∷ decimal j ≡ a ∷ decimal k → j ≡ k
numbers_differ a j k p q e = decimal_injective j k (omega arith) (omega arith) (ap (λ l. drop 1 l) e)

pub names_are_apart : NamesAreApart
names_are_apart j k p q = record {
  bridges = numbers_differ 98 j k p q;
  ring = numbers_differ 114 j k p q;
  chords = numbers_differ 99 j k p q;
  kinds = λ e. let first : 114 ≡ 99 = ap (λ l. get_or l 0 0) e in absurd (omega arith);
}
