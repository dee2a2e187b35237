-- The law of restarting: the bridge is one that was just configured, whatever it held before but for its own numbers.
use Rattle.std.specs.Prelude.{◌≡◌, ℕ, ◌+◌, ◌<◌, List, [], ◌∷◌, true, if◌then◌else◌, remove, Some, None, slice_get}
use Rattle.std.specs.FinMap.{get}
use Rattle.lsdb.specs.Version.{number_of}
use Rattle.lsdb.specs.Database.{version_at}
use Rattle.flooding.specs.Own.{last_number, own_id, own_number, own_numbers}
use Rattle.flooding.specs.Advancing.{Advanced}
use Rattle.bridge_api.specs.Config.{configured}
use Rattle.bridge_api.specs.Step.{carrier, step}
use Rattle.bridge_api.specs.View.{BridgeView}
use Rattle.spb_world.specs.declared.declaration.DeclaredBridge.{DeclaredBridge}
use Rattle.spb_world.specs.declared.declaration.DeclaredLink.{DeclaredLink}
use Rattle.spb_world.specs.World.{things_of}
use Rattle.network_model.specs.State.{State, links_of}
use Rattle.network_model.specs.Restarting.{restart_config, box_at, restarted}
use Rattle.spb_world.specs.Links.{ends_here, end_here}
use Rattle.network_model.specs.Sound.{IsSoundState}

-- a bridge to which carrier comes over each of these links that is its own and up, in order
abbrev pub with_carriers : List DeclaredLink → ℕ → BridgeView → BridgeView
with_carriers [] i v = v
with_carriers (l ∷ ls) i v =
    with_carriers ls i (if ends_here l i then step (carrier (end_here l i).port true) v else v)

-- the number of the LSP by which a system is known
abbrev pub number_in : BridgeView → ℕ
number_in v = number_of (version_at v.database (own_id v.id.system))

-- a life after another: the LSP by which the system is known goes one number further, if it can, and under each own id
-- stands what comes after what stood there
pub record BeginsAbove (old new : BridgeView) : Type 0 where
  pub number : number_in old < last_number → number_in new ≡ number_in old + 1
  pub own : (k : ℕ) → k < own_numbers
      → Advanced (get old.database (own_number old.id.system k)) (get new.database (own_number old.id.system k))

-- the bridge at place i restarted in the box at a place of the rack: it is what the configuration makes with the
-- present metrics and attachments, and then carrier; its life comes after the one before; the rack lacks that box,
-- nothing else is declared, and the seconds of its name are counted on
pub record IsNew (s t : State) (i : ℕ) (b : DeclaredBridge) (place : ℕ) : Type 0 where
  pub view : slice_get t.views i ≡ Some (with_carriers (links_of s) i (configured (restart_config s i b)))
  pub above : (v : BridgeView) → slice_get s.views i ≡ Some v
      → BeginsAbove v (with_carriers (links_of s) i (configured (restart_config s i b)))
  pub rack : t.rack ≡ remove s.rack place
  pub world : t.world ≡ s.world
  pub ticks : t.ticks ≡ s.ticks

-- so it is where there is a box; where there is none, nothing changes
pub record RestartIsNew : Type 0 where
  pub new : (s : State) (i : ℕ) (b : DeclaredBridge) (place : ℕ) → IsSoundState s
      → slice_get (things_of s.world.bridges) i ≡ Some b → box_at s i ≡ Some place → IsNew s (restarted s i) i b place
  pub spent : (s : State) (i : ℕ) → box_at s i ≡ None → restarted s i ≡ s
