-- The states between so many rounds, one after another.
use Rattle.std.proofs.Common.{◌≡◌, ℕ, zero, suc, ◌<◌, ◌≤◌, refl, arith}
use Rattle.network_model.specs.State.{State}
use Rattle.network_rounds.specs.Rounds.{IsRoundOf, AreRounds}
use Rattle.network_rounds.proofs.Along.{AreSame, round_same}

-- the state after the first r of k rounds
pub after : (k : ℕ) (s t : State) → AreRounds k s t → ℕ → State
after zero s t are r = t
after (suc k) s t are zero = s
after (suc k) s t are (suc r) = after k are.0 t are.2 r

first_same : (k : ℕ) (s t : State) (are : AreRounds k s t) → AreSame s (after k s t are zero)
unfolding after
first_same zero s t are = record { world = are.0; views = are.1; lanes = are.2 }
first_same (suc k) s t are = record { world = refl; views = refl; lanes = refl }

-- each is a round after the one before
pub round_after : (k : ℕ) (s t : State) (are : AreRounds k s t) (r : ℕ) → r < k → IsRoundOf (after k s t are r) (after k s t are (suc r))
unfolding after
round_after zero s t are r low = absurd (omega (arith, low))
round_after (suc k) s t are zero low = round_same s are.0 (after k are.0 t are.2 zero) are.1 (first_same k are.0 t are.2)
round_after (suc k) s t are (suc r) low = round_after k are.0 t are.2 r (omega (arith, low))

-- and so many after the first
pub rounds_after : (k : ℕ) (s t : State) (are : AreRounds k s t) (r : ℕ) → r ≤ k → AreRounds r s (after k s t are r)
unfolding after
rounds_after k s t are zero low = let same = first_same k s t are in (same.world, same.views, same.lanes)
rounds_after zero s t are (suc r) low = absurd (omega (arith, low))
rounds_after (suc k) s t are (suc r) low = (are.0, are.1, rounds_after k are.0 t are.2 r (omega (arith, low)))

-- the last one
pub last_after : (k : ℕ) (s t : State) (are : AreRounds k s t) → after k s t are k ≡ t
unfolding after
last_after zero s t are = refl
last_after (suc k) s t are = last_after k are.0 t are.2
