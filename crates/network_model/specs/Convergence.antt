-- What a user can rely on where a network is quiet, whatever commands made it.
use Rattle.std.specs.Prelude.{◌≡◌, ◌↔◌, ℕ, ◌≤◌, [], length, Contains, true, Some, slice_get}
use Rattle.spb_types.specs.declared.service.VidPlan.{VidPlan}
use Rattle.bridge_api.specs.View.{BridgeView}
use Rattle.spb_world.specs.World.{wired_tables}
use Rattle.network_model.specs.State.{State}
use Rattle.network_model.specs.Questions.{is_quiet, show_at}
use Rattle.network_model.specs.Sound.{IsSoundState}
use Rattle.network_model.specs.SoundLaws.{Scene, state_after, ForAllPlayedWithin}
use Rattle.network_model.specs.Counted.{IsCounted, most_commands}
use Rattle.network_model.specs.Quiet.{IsQuiet}
use Rattle.network_model.specs.Truth.{AreJoined, HoldTheSame, HasWiredTables}
use Rattle.network_model.specs.PathLaws.{GoOnePath}
use Rattle.network_model.specs.Once.{LeavesOnce}

-- every bridge has its part of the wiring right, any two that a walk joins hold the same, and between any two the path
-- is that of the wiring and frames go that way, there and back, in each declared VID; and between commands, a group
-- frame that enters and is delivered leaves where it has to, once
pub record IsConverged (s : State) : Type 0 where
  pub wired : (i : ℕ) (v : BridgeView) → slice_get s.views i ≡ Some v → HasWiredTables s i v
  pub shared : (v w : BridgeView) → AreJoined s v w → HoldTheSame v w
  pub paths : (i j : ℕ) (v w : BridgeView) (plan : VidPlan) → slice_get s.views i ≡ Some v
      → slice_get s.views j ≡ Some w → Contains s.world.vids plan → GoOnePath s v w plan
  pub once : s.outs ≡ [] → LeavesOnce s

-- where the network is quiet, it is converged
abbrev pub QuietIsConverged : State → Type 0
QuietIsConverged s = IsQuiet s → IsConverged s

-- so it is in each sound network whose sequence numbers are counted: none are spent, and no bridge reads more systems
-- than are declared
abbrev pub CountedQuietIsConverged : Type 0
CountedQuietIsConverged = (s : State) → IsSoundState s → IsCounted s → QuietIsConverged s

-- and so whatever commands were accepted
abbrev pub PlayedQuietIsConverged : Type 0
PlayedQuietIsConverged = ForAllPlayedWithin most_commands QuietIsConverged

-- some commands, no more than are counted, are accepted from the opening on, and lead to a quiet network of two bridges
-- and one link
pub record SomeNetworkIsQuiet : Type 0 where
  pub scene : Scene
  pub few : length scene.commands ≤ most_commands
  pub bridges : length (state_after scene).views ≡ 2
  pub links : length (state_after scene).world.links ≡ 1
  pub quiet : IsQuiet (state_after scene)

-- what `show` answers: it says quiet exactly where the network is, and there it has the rows of `wiring`
pub record ShowIsTrue : Type 0 where
  pub says : (s : State) → (is_quiet s ≡ true) ↔ IsQuiet s
  pub rows : (s : State) (i : ℕ) (v : BridgeView) → IsSoundState s → IsCounted s → slice_get s.views i ≡ Some v
      → is_quiet s ≡ true → show_at s i ≡ wired_tables s.world i
