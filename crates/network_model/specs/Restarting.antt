-- A bridge restarts: a blank box takes the place of its box, which is dropped with all that it held.
use Rattle.std.specs.Prelude.{ℕ, zero, suc, ◌+◌, List, [], ◌∷◌, length, true, false, if◌then◌else◌, remove, Option, Some, None, slice_get, slice_set}
use Rattle.lsdb.specs.Version.{number_of}
use Rattle.lsdb.specs.Database.{version_at}
use Rattle.flooding.specs.Own.{own_numbers, own_number}
use Rattle.bridge_api.specs.View.{BridgeView}
use Rattle.bridge_api.specs.declared.config.BridgeConfig.{BridgeConfig}
use Rattle.bridge_api.specs.Config.{first_life, configured}
use Rattle.spb_world.specs.declared.declaration.DeclaredBridge.{DeclaredBridge}
use Rattle.spb_world.specs.declared.declaration.DeclaredLink.{DeclaredLink}
use Rattle.spb_world.specs.declared.declaration.LinkEnd.{LinkEnd}
use Rattle.spb_world.specs.World.{things_of, attached_at}
use Rattle.network_model.specs.State.{State, links_of, kind_at, next_box}
use Rattle.spb_world.specs.Links.{port_metrics, ends_here, end_here, end_away}
use Rattle.network_model.specs.Events.{with_carrier_at_end, flushed}

-- ---- what the blank box is configured with

-- the sequence numbers that a bridge has under so many of its own ids, from number k on
abbrev pub numbers_from : BridgeView → ℕ → ℕ → List ℕ
numbers_from v zero k = []
numbers_from v (suc n) k = number_of (version_at v.database (own_number v.id.system k)) ∷ numbers_from v n (k + 1)

-- those with which a life ends; before the first life, zeros
abbrev pub last_of : Option BridgeView → List ℕ
last_of None = first_life
last_of (Some v) = numbers_from v own_numbers 0

-- the bridge at place i as it was declared, with the present metrics of its links, what is attached to its ports, and
-- the numbers with which its life ends
abbrev pub restart_config : State → ℕ → DeclaredBridge → BridgeConfig
restart_config s i b = record {
  id = b.bridge.id;
  source = b.bridge.source;
  ports = b.ports;
  vids = s.world.vids;
  metrics = port_metrics (links_of s) i b.ports 1;
  attached = attached_at s.world i;
  last = last_of (slice_get s.views i);
}

-- ---- its links

-- both lanes of the link at place k lose their frames, and its far end loses carrier and gets it back
abbrev pub link_cut : State → ℕ → LinkEnd → State
link_cut s k far = with_carrier_at_end true (with_carrier_at_end false (flushed s k) far) far

-- where that is a link of the bridge at place i that is up
abbrev pub cut_link : State → ℕ → ℕ → Option DeclaredLink → State
cut_link s i k None = s
cut_link s i k (Some l) = if ends_here l i then link_cut s k (end_away l i) else s

-- so it is with so many links, from place k on
abbrev pub cut_from : ℕ → ℕ → ℕ → State → State
cut_from zero k i s = s
cut_from (suc n) k i s = cut_from n (k + 1) i (cut_link s i k (slice_get (links_of s) k))

-- the bridge at place i gets carrier at its end of a link that is up
abbrev pub with_link_carrier : State → ℕ → Option DeclaredLink → State
with_link_carrier s i None = s
with_link_carrier s i (Some l) = if ends_here l i then with_carrier_at_end true s (end_here l i) else s

-- so it is with so many links, from place k on
abbrev pub with_carriers_from : ℕ → ℕ → ℕ → State → State
with_carriers_from zero k i s = s
with_carriers_from (suc n) k i s = with_carriers_from n (k + 1) i (with_link_carrier s i (slice_get (links_of s) k))

-- ---- the box

-- the box that the bridge at place i takes, by place in the rack: the next blank one of its kind
abbrev pub box_at : State → ℕ → Option ℕ
box_at s i = next_box (kind_at s.rule i) s.rack

-- a box leaves the rack and takes the place of the bridge at place i, whose box is dropped: a bridge that was just
-- configured
abbrev pub replaced : State → ℕ → BridgeConfig → ℕ → State
replaced s i c place = record s { rack = remove s.rack place; views = slice_set s.views i (configured c) }

-- each link of the bridge that is up is cut, in order of declaration; then the box is replaced; and then the new one
-- gets carrier over these links, in order
abbrev pub restarted_in : State → ℕ → BridgeConfig → ℕ → State
restarted_in s i c place =
    let n : ℕ = length (links_of s) in
    with_carriers_from n 0 i (replaced (cut_from n 0 i s) i c place)

-- by the declared bridge and the box that were found
abbrev pub restarted_as : State → ℕ → Option DeclaredBridge → Option ℕ → State
restarted_as s i None box = s
restarted_as s i (Some b) None = s
restarted_as s i (Some b) (Some place) = restarted_in s i (restart_config s i b) place

-- the bridge at place i restarts
unfoldable pub restarted : State → ℕ → State
restarted s i = restarted_as s i (slice_get (things_of s.world.bridges) i) (box_at s i)
