-- What a bridge makes of customers' frames (IEEE 802.1Q, 8.6 to 8.8; IEEE 802.1ah, 25; IEEE 802.1aq).
use Rattle.std.specs.Prelude.{◌≡◌, ℕ, ◌≤◌, List, length, Option, Some, None, if◌then◌else◌, ⊤}
use Rattle.std.specs.List.{AllByRecursion}
use Rattle.spb_types.specs.declared.address.Mac.{Mac}
use Rattle.spb_types.specs.declared.service.Vid.{Vid}
use Rattle.spb_types.specs.declared.service.Isid.{Isid}
use Rattle.customer_learning.specs.Known.{Addresses, known_in}
use Rattle.customer_learning.specs.declared.place.Place.{Place}
use Rattle.customer_learning.specs.declared.place.Place.TheVariants.{Local, Remote}
use Rattle.forwarding.specs.declared.moved.Moved.{Moved}
use Rattle.forwarding.specs.declared.tenant.Tenant.{Tenant}
use Rattle.forwarding.specs.Tenant.{Carried, nothing, after_customer, of_customer, after_backbone, of_backbone, step_of, dropped_by}
use Rattle.spb_types.specs.declared.drop_reason.DropReason.{DropReason}
use Rattle.bridge_api.specs.declared.port.BridgePort.{BridgePort}
use Rattle.bridge_api.specs.View.{BridgeView, port_at}
use Rattle.bridge_api.specs.Drops.{raised_for}
use Rattle.bridge_api.specs.Tables.{own_tables}
use Rattle.bridge_api.specs.Parsing.{Parsed, parsed}
use Rattle.bridge_api.specs.Parsing as parsing

-- a customer's frame: two addresses and a type, and no jumbo
pub record IsCustomerFrame (frame : List ℕ) : Type 0 where
  pub low : 14 ≤ length frame
  pub high : length frame ≤ 2000

-- what a bridge knows of its customers
abbrev pub tenant_of : BridgeView → Tenant
tenant_of v = record { me = v.id.system.mac; source = v.source; attached = v.attached; learned = v.learned }

-- the bridge with these addresses learned
abbrev pub with_learned : Addresses → BridgeView → BridgeView
with_learned learned v = record v { learned = learned }

-- the address of another bridge, behind which an address was learned, has six bytes
abbrev pub IsLearned : Place → Type 0
IsLearned (Local port) = ⊤
IsLearned (Remote mac) = length mac.bytes ≡ 6

abbrev pub AreLearned : Addresses → Type 0
AreLearned learned = (isid : Isid) → AllByRecursion (λ e. IsLearned e.1) (known_in learned isid)

-- ---- a customer's frame that enters at a customer port

-- what it sends, and what leaves, or why the frame is dropped: the tables are its own
unfoldable pub moved_by_entry : ℕ → List ℕ → BridgeView → Moved
moved_by_entry port frame v = of_customer (tenant_of v) (own_tables v) port frame

-- and the bridge afterwards, which has learned where the source is, also of a frame that is dropped, which it counts
unfoldable pub after_entry : ℕ → List ℕ → BridgeView → BridgeView
after_entry port frame v = record v {
  learned = (after_customer (tenant_of v) port frame).learned;
  drops = raised_for (moved_by_entry port frame v).dropped v.drops;
}

-- ---- a backbone frame that comes in at a backbone port

abbrev pub carried_by : Mac → Mac → Vid → Isid → List ℕ → Carried
carried_by da sa vid isid customer = record { da = da; sa = sa; vid = vid; isid = isid; customer = customer }

-- why it is dropped, if it is
abbrev pub reason_for_carried : Mac → Mac → Vid → Isid → List ℕ → ℕ → BridgeView → Option DropReason
reason_for_carried da sa vid isid customer p v =
    dropped_by (step_of (tenant_of v) (own_tables v) p (carried_by da sa vid isid customer))

-- the bridge afterwards, which counts a frame that it drops
abbrev pub forwarded : Mac → Mac → Vid → Isid → List ℕ → ℕ → BridgeView → BridgeView
forwarded da sa vid isid customer p v = record v {
  learned = (after_backbone (tenant_of v) (own_tables v) p (carried_by da sa vid isid customer)).learned;
  drops = raised_for (reason_for_carried da sa vid isid customer p v) v.drops;
}

-- and what it sends, and what leaves. No other frame makes it send anything at once
abbrev pub moved_as : Parsed → ℕ → List ℕ → BridgeView → Moved
moved_as (parsing.dropped reason) p frame v = nothing
moved_as (parsing.hello h way) p frame v = nothing
moved_as (parsing.lsp l) p frame v = nothing
moved_as (parsing.csnp c) p frame v = nothing
moved_as (parsing.psnp s) p frame v = nothing
moved_as (parsing.customer da sa vid isid customer) p frame v =
    of_backbone (tenant_of v) (own_tables v) p (carried_by da sa vid isid customer) frame

-- the first thing that is looked at is the carrier of the port
abbrev pub moved_at : ℕ → List ℕ → Option BridgePort → BridgeView → Moved
moved_at p frame None v = nothing
moved_at p frame (Some port) v = if port.adjacency.carrier then moved_as (parsed frame) p frame v else nothing

unfoldable pub moved_by_receive : ℕ → List ℕ → BridgeView → Moved
moved_by_receive p frame v = moved_at p frame (port_at v p) v
