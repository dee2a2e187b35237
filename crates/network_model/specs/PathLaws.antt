-- The laws of paths in a quiet network: a path is that of the wiring, the way back is the same, and frames go that way.
use Rattle.std.specs.Prelude.{◌≡◌, ◌≢◌, ℕ, List, reverse, Option, Some, IsSome, Contains, true, slice_get}
use Rattle.std.specs.Option.{option_map}
use Rattle.std.specs.List.{AllByRecursion}
use Rattle.spb_types.specs.Address.{group_address}
use Rattle.spb_types.specs.Ect.{mask_of}
use Rattle.spb_types.specs.Graph.{port_between}
use Rattle.spb_types.specs.Ports.{has}
use Rattle.spb_types.specs.Tables.{group_in, IsIngress}
use Rattle.spb_types.specs.declared.address.Mac.{Mac}
use Rattle.spb_types.specs.declared.address.SystemId.{SystemId}
use Rattle.spb_types.specs.declared.graph.Graph.{Graph}
use Rattle.spb_types.specs.declared.service.Isid.{Isid}
use Rattle.spb_types.specs.declared.service.Vid.{Vid}
use Rattle.spb_types.specs.declared.service.VidPlan.{VidPlan}
use Rattle.spb_types.specs.declared.tables.Path.{Path}
use Rattle.spb_types.specs.declared.tables.Tables.{Tables}
use Rattle.ect_trees.specs.Tree.{best_path}
use Rattle.fdb_build.specs.Groups.{Sends, Receives, Follows}
use Rattle.scenario.specs.declared.command.Command.TheVariants as command
use Rattle.bridge_api.specs.View.{BridgeView}
use Rattle.bridge_api.specs.Graph.{own_tables, own_path}
use Rattle.spb_world.specs.World.{World, Bridges, Sound, place_of, system_at, world_graph}
use Rattle.network_model.specs.State.{State}
use Rattle.spb_world.specs.Systems.{name_of_system, names_on}
use Rattle.network_model.specs.Paths.{path_answer}
use Rattle.network_model.specs.Play.{answer_of}
use Rattle.network_model.specs.Truth.{IsAtRest}

-- the best path of the wiring between the bridges at two places, in the VID of a plan
abbrev pub wired_path : World → VidPlan → ℕ → ℕ → Option Path
wired_path w plan i j =
    best_path (world_graph w) (mask_of plan.ect) (system_at w.bridges i) (system_at w.bridges j)

-- the path with its bridges in reverse
abbrev pub turned_path : Path → Path
turned_path path = record { cost = path.cost; bridges = reverse path.bridges }

-- by its tables, bridge c takes frames from the address of s in a VID where m is its neighbour, and at no port that
-- leads to another (IEEE 802.1aq, the ingress check)
pub record TakesFromAlone (g : Graph) (tables : Tables) (vid : Vid) (s m c : SystemId) : Type 0 where
  pub port : ℕ
  pub towards : port_between g c m ≡ Some port
  pub accepts : IsIngress tables.unicast vid s.mac port
  pub alone : (x : SystemId) (p : ℕ) → port_between g c x ≡ Some p → IsIngress tables.unicast vid s.mac p → x ≡ m

-- by its tables, bridge m sends what comes to a group address in a VID to its neighbour c
pub record SendsTo (g : Graph) (tables : Tables) (vid : Vid) (mac : Mac) (m c : SystemId) : Type 0 where
  pub port : ℕ
  pub towards : port_between g m c ≡ Some port
  pub sends : has (group_in tables.group vid mac) port ≡ true

-- In the VID of a plan the path from bridge v to bridge w is the best one of the wiring, and that from w to v is the
-- same in reverse; there is neither, or both. Each bridge on it takes frames from v from the bridge before it alone.
-- And where v sends to a service that w receives, each sends on what v sends there to the bridge behind it.
pub record GoOnePath (s : State) (v w : BridgeView) (plan : VidPlan) : Type 0 where
  pub best : own_path v w.id.system plan.vid
      ≡ best_path (world_graph s.world) (mask_of plan.ect) v.id.system w.id.system
  pub back : own_path w v.id.system plan.vid ≡ option_map turned_path (own_path v w.id.system plan.vid)
  pub takes : (k : ℕ) (x : BridgeView) (m : SystemId) → slice_get s.views k ≡ Some x
      → Follows (world_graph s.world) (mask_of plan.ect) v.id.system w.id.system m x.id.system
      → TakesFromAlone (world_graph s.world) (own_tables x) plan.vid v.id.system m x.id.system
  pub sends : (k : ℕ) (x : BridgeView) (c : SystemId) (isid : Isid) → slice_get s.views k ≡ Some x
      → Sends (world_graph s.world) isid plan.vid v.id.system
      → Receives (world_graph s.world) isid plan.vid w.id.system → w.id.system ≢ v.id.system
      → Follows (world_graph s.world) (mask_of plan.ect) v.id.system w.id.system x.id.system c
      → SendsTo (world_graph s.world) (own_tables x) plan.vid (group_address v.source.value isid.value) x.id.system c

-- so it is between any two bridges of a network at rest, in each declared VID
abbrev pub FramesGoOnePath : Type 0
FramesGoOnePath = (s : State) (i j : ℕ) (v w : BridgeView) (plan : VidPlan) → IsAtRest s
    → slice_get s.views i ≡ Some v → slice_get s.views j ≡ Some w → Contains s.world.vids plan → GoOnePath s v w plan

-- what `path` answers of a network at rest: the best path of the wiring, by the names of its bridges, each of which has
-- one. The way back has the same bridges in reverse, and so the same names
pub record PathIsTrue : Type 0 where
  pub best : (s : State) (from to : List ℕ) (i j : ℕ) (plan : VidPlan) → IsAtRest s
      → place_of from s.world.bridges ≡ Some i → place_of to s.world.bridges ≡ Some j → Contains s.world.vids plan
      → answer_of s (command.Path from to plan.vid.value)
      ≡ path_answer s.world.bridges from to plan.vid (wired_path s.world plan i j)
  pub named : (w : World) (plan : VidPlan) (i j : ℕ) (path : Path) → Sound w → wired_path w plan i j ≡ Some path
      → AllByRecursion (λ x. IsSome (name_of_system w.bridges x)) path.bridges
  pub back : (w : World) (plan : VidPlan) (i j : ℕ) → Sound w
      → wired_path w plan j i ≡ option_map turned_path (wired_path w plan i j)
  pub names : (bridges : Bridges) (path : List SystemId)
      → names_on bridges (reverse path) ≡ reverse (names_on bridges path)
