-- Frames go one path: out and back by the same bridges, and from a source by its tree alone.
use Rattle.std.specs.Prelude.{◌≡◌, ◌≢◌, ℕ, List, Some, Contains, true}
use Rattle.spb_types.specs.Address.{group_address}
use Rattle.spb_types.specs.Ect.{mask_of}
use Rattle.spb_types.specs.Graph.{port_between, IsValidFor}
use Rattle.spb_types.specs.Ports.{has}
use Rattle.spb_types.specs.Tables.{unicast_in, group_in, IsIngress}
use Rattle.spb_types.specs.declared.address.SystemId.{SystemId}
use Rattle.spb_types.specs.declared.graph.Graph.{Graph}
use Rattle.spb_types.specs.declared.graph.GraphBridge.{GraphBridge}
use Rattle.spb_types.specs.declared.service.Isid.{Isid}
use Rattle.spb_types.specs.declared.service.VidPlan.{VidPlan}
use Rattle.fdb_build.specs.Tables.{unicast_rows, ArePlans}
use Rattle.fdb_build.specs.Groups.{Sends, Receives, Follows, group_rows}

-- what c knows of frames from s in the VID of the plan, where it takes them from m (IEEE 802.1aq, the ingress check)
pub record TakesFrom (g : Graph) (vids : List VidPlan) (plan : VidPlan) (s m c : SystemId) : Type 0 where
  pub port : ℕ
  pub towards : port_between g c m ≡ Some port
  pub back : unicast_in (unicast_rows g c vids) plan.vid s.mac ≡ Some port
  pub accepts : IsIngress (unicast_rows g c vids) plan.vid s.mac port
  pub alone : (x : SystemId) (p : ℕ) → port_between g c x ≡ Some p
      → IsIngress (unicast_rows g c vids) plan.vid s.mac p → x ≡ m

-- a bridge sends to s by its port to the bridge before it on the best path from s, and takes frames from s there alone
abbrev pub OnePath : Type 0
OnePath = (g : Graph) (vids : List VidPlan) (plan : VidPlan) (s r m c : SystemId)
    → IsValidFor g c → ArePlans vids → Contains vids plan
    → Follows g (mask_of plan.ect) s r m c → TakesFrom g vids plan s m c

-- the way back is the same
abbrev pub SameWayBack : Type 0
SameWayBack = (g : Graph) (mask : ℕ) (s r m c : SystemId) → Follows g mask s r m c → Follows g mask r s c m

-- where s sends to a service that r receives, the group row of s at m has the port to the bridge behind m
abbrev pub GroupLeadsOn : Type 0
GroupLeadsOn = (g : Graph) (vids : List VidPlan) (plan : VidPlan) (s : GraphBridge) (isid : Isid) (r m c : SystemId)
    → IsValidFor g m → ArePlans vids → Contains vids plan → Contains g.bridges s
    → Sends g isid plan.vid s.id.system → Receives g isid plan.vid r → r ≢ s.id.system
    → Follows g (mask_of plan.ect) s.id.system r m c
    → (port : ℕ) × (port_between g m c ≡ Some port)
    × (has (group_in (group_rows g m vids) plan.vid (group_address s.source.value isid.value)) port ≡ true)
