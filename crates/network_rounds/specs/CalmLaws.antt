-- Which networks pass rounds in calm: those that have settled.
use Rattle.std.specs.Prelude.{◌≡◌, ℕ, ◌+◌, ◌-◌, ◌*◌, ◌≤◌, length, true, false}
use Rattle.std.specs.List.{AllByRecursion}
use Rattle.spb_world.specs.Links.{is_live}
use Rattle.network_model.specs.State.{State, links_of}
use Rattle.network_model.specs.Quiet.{IsQuiet}
use Rattle.network_model.specs.Sound.{IsSoundState}
use Rattle.network_model.specs.SoundLaws.{Scene, state_after}
use Rattle.network_rounds.specs.Agreement.{IsReached}
use Rattle.network_rounds.specs.Calm.{AreCalmFor}
use Rattle.network_rounds.specs.Steady.{HaveLifeLeft, AreUp}

-- no bridge has failed, and the seconds of each are counted
pub record AreWorking (s : State) : Type 0 where
  pub works : AllByRecursion (λ v. v.failed ≡ false) s.views
  pub counted : length s.ticks ≡ length s.views

-- a sound network that is quiet passes as many rounds in calm as lifetimes allow, where its bridges work, their
-- sequence numbers aren't spent, and the ends of each link that is up keep each other for three seconds
abbrev pub QuietPassesInCalm : Type 0
QuietPassesInCalm = (m : ℕ) (s : State) → IsSoundState s → IsQuiet s → AreWorking s
    → AllByRecursion (λ v. v.spent ≡ false) s.views → AreUp s → HaveLifeLeft m s → AreCalmFor m s

-- a network that was ready for m rounds, and in which any two bridges that links which are up join are joined by at
-- most d links, passes in calm all of these rounds behind the first 2d + 6
abbrev pub SettledPassesInCalm : Type 0
SettledPassesInCalm = (d m k : ℕ) (s t : State) → IsReached d m k s t → 2 * d + 6 ≤ k → AreWorking t
    → AreCalmFor (m - k) t

-- some commands lead to a network with a link that is up which is quiet, and passes so many rounds in calm
pub record SomeNetworkIsCalmFor (rounds : ℕ) : Type 0 where
  pub scene : Scene
  pub live : is_live (links_of (state_after scene)) 0 ≡ true
  pub quiet : IsQuiet (state_after scene)
  pub calm : AreCalmFor rounds (state_after scene)
