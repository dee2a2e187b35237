-- A group frame crosses a link: that such a frame leaves exactly once is said of networks with links that are up, too.
use Rattle.std.specs.Prelude.{◌≡◌, ℕ, ◌≤◌, List, ◌∷◌, length, count_by, true, Some}
use Rattle.scenario.specs.declared.command.Command.{Command}
use Rattle.scenario.specs.declared.command.Command.TheVariants as command
use Rattle.spb_world.specs.World.{place_of}
use Rattle.spb_world.specs.Links.{is_live}
use Rattle.network_model.specs.State.{links_of}
use Rattle.network_model.specs.Quiet.{IsQuiet}
use Rattle.network_model.specs.SoundLaws.{Scene, state_after}
use Rattle.network_model.specs.Counted.{most_commands}
use Rattle.network_model.specs.Truth.{AreLinked}
use Rattle.network_model.specs.Once.{IsPassage, IsReach, left_at, outs_of}

-- some commands, no more than are counted, lead to a quiet network with a link that is up, into which a group frame
-- comes that has to leave at another bridge, to which such a link leads; and there it leaves, once
pub record SomeFrameCrosses : Type 0 where
  pub scene : Scene
  pub few : length scene.commands ≤ most_commands
  pub live : is_live (links_of (state_after scene)) 0 ≡ true
  pub quiet : IsQuiet (state_after scene)
  -- the bridge where it enters, by name and by place, the port, and the frame
  pub name : List ℕ
  pub place : ℕ
  pub port : ℕ
  pub frame : List ℕ
  -- the deliveries
  pub more : List Command
  pub named : place_of name (state_after scene).world.bridges ≡ Some place
  pub passes : IsPassage (state_after scene) name port frame more
  -- the bridge where it leaves, by name and by place, and the port
  pub leaving : List ℕ
  pub there : ℕ
  pub exit : ℕ
  pub called : place_of leaving (state_after scene).world.bridges ≡ Some there
  pub other : (there ≡ place) → ⊥
  pub across : AreLinked (links_of (state_after scene)) place there
  pub reach : IsReach (state_after scene).world place port there exit
  pub once : count_by (left_at leaving exit)
      (outs_of (state_after scene) (command.Frame name port frame ∷ more)) ≡ 1
