-- Rounds in which nothing comes to pass but that lifetimes fall.
use Rattle.std.specs.Prelude.{◌≡◌, ℕ, ◌+◌, ◌-◌, ◌^◌, ◌≤◌, min, length, map}
use Rattle.std.specs.List.{AllByRecursion}
use Rattle.bridge_api.specs.Calm.{IsCalmFor, aged_by}
use Rattle.network_model.specs.State.{State}
use Rattle.network_model.specs.Events.{rounds}
use Rattle.network_model.specs.Sound.{IsSoundState}
use Rattle.network_model.specs.Quiet.{AreEmpty}

-- so many rounds pass in calm: no frame is on its way, at each bridge so many seconds would pass in calm, and its
-- seconds are counted
pub record AreCalmFor (rounds : ℕ) (s : State) : Type 0 where
  pub empty : AreEmpty s
  pub bridges : AllByRecursion (IsCalmFor rounds) s.views
  pub counted : length s.ticks ≡ length s.views

-- a count of seconds so many seconds later; it stops at the greatest number of 32 bits
abbrev pub ticks_after : ℕ → ℕ → ℕ
ticks_after seconds n = min (n + seconds) (2 ^ 32 - 1)

-- the network after them: each bridge is so many seconds older
abbrev pub passed_by : ℕ → State → State
passed_by n s = record s { views = map (aged_by n) s.views; ticks = map (ticks_after n) s.ticks }

-- a network in which rounds pass in calm, at least one, is after them as if they had passed at once
abbrev pub CalmRoundsPass : Type 0
CalmRoundsPass = (n : ℕ) (s : State) → 1 ≤ n → IsSoundState s → AreCalmFor n s → rounds n s ≡ passed_by n s
