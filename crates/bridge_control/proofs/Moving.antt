-- What customers' frames make of a machine, and what it sends then.
use Rattle.std.proofs.Common.{◌≡◌, ℕ, Bool, true, false, List, refl, sym, ap, ◌∙◌, subst, Option, Some, None, Result}
use Rattle.std.specs.Prelude.{OnOk, OnErr, if◌then◌else◌}
use Rattle.std.specs.Global.{Vec}
use Rattle.std.proofs.lemmas.List.{append-nil}
use Rattle.spb_types.specs.declared.tables.Tables.{Tables}
use Rattle.customer_learning.specs.Known.{Addresses}
use Rattle.forwarding.specs.declared.moved.Moved.{Moved}
use Rattle.forwarding.specs.declared.tenant.Tenant.{Tenant}
use Rattle.forwarding.specs.Tenant.{parts, nothing, after_customer, of_customer, after_backbone, of_backbone, step_of, dropped_by}
use Rattle.itag_frames.specs.declared.frame.Backbone.{Backbone}
use Rattle.bridge_api.specs.declared.outbox.Outbox.{Outbox}
use Rattle.bridge_api.specs.declared.port.BridgePort.{BridgePort}
use Rattle.bridge_api.specs.declared.drops.Drops.{Drops}
use Rattle.bridge_api.specs.Drops.{raised_for}
use Rattle.bridge_api.specs.View.{BridgeView, port_at, with_drops, has_carrier_in, has_carrier_at}
use Rattle.bridge_api.specs.Own.{own_of, bodies_of}
use Rattle.bridge_api.specs.Customers.{tenant_of, with_learned, after_entry, moved_by_entry, moved_as, moved_at, moved_by_receive}
use Rattle.bridge_api.specs.Parsing.{Parsed, parsed}
use Rattle.bridge_api.specs.Step.{with_moved, GainsMoved}
use Rattle.bridge_api.specs.Tables.{own_tables}
use Rattle.bridge_control.specs.declared.machine.Machine.{Machine}
use Rattle.bridge_control.specs.Carrying.{carrying, forwarded_by}
use Rattle.bridge_control.specs.Kept.{AreOwn}
use Rattle.bridge_control.specs.Machine.{view_of, IsCurrent, IsAfter, heard_by, hears}
use Rattle.bridge_control.proofs.Telling.{tenant_is}

-- ---- what a machine has learned

learned_own : (v : BridgeView) (learned : Addresses) (drops : Drops) → own_of v ≡ own_of (with_drops drops (with_learned learned v))
unfolding bodies_of
learned_own v learned drops = refl

-- the machine that has learned this, and counted what it drops
abbrev pub learning : Machine → Addresses → Drops → Machine
learning m learned drops = record m { tenant = record m.tenant { learned = learned }; drops = drops }

learned_current : (m : Machine) (learned : Addresses) (drops : Drops) → IsCurrent m → IsCurrent (learning m learned drops)
learned_current m learned drops current = record {
  own = current.own ∙ learned_own (view_of m) learned drops;
  ports = record { hellos = current.ports.hellos; up = current.ports.up; me = current.ports.me; heard = current.ports.heard };
}

-- the tables stay, whatever is known of the customers
pub tenant_tables : (m : Machine) (tenant : Tenant) (drops : Drops) (tables : Tables) → tables ≡ own_tables (view_of m) → tables ≡ own_tables (view_of (record m { tenant = tenant; drops = drops }))
unfolding own_tables
tenant_tables m tenant drops tables own = own

-- and whatever becomes of the ports
pub ports_tables : (m : Machine) (ports : Vec BridgePort) → own_tables (view_of (record m { ports = ports })) ≡ own_tables (view_of m)
unfolding own_tables
ports_tables m ports = refl

pub own_still : (v w : BridgeView) (kept : Option Tables) → own_tables w ≡ own_tables v → AreOwn v kept → AreOwn w kept
own_still v w None same own = tt
own_still v w (Some tables) same own = own ∙ sym same

-- ---- a customer's frame enters

pub entered_after : (m : Machine) (tenant : Tenant) (drops : Drops) (moved : Moved) (port : ℕ) (frame : List ℕ) → IsCurrent m → tenant ≡ after_customer m.tenant port frame → moved ≡ moved_by_entry port frame (view_of m) → drops ≡ raised_for moved.dropped m.drops
    → IsAfter (after_entry port frame (view_of m)) (record m { tenant = tenant; drops = drops })
unfolding after_entry
entered_after m tenant drops moved port frame current is moves counts =
    subst (λ (t : Tenant). IsAfter (after_entry port frame (view_of m)) (record m { tenant = t; drops = drops })) (sym is) (record {
      view = λ i. with_drops ((counts ∙ ap (λ (x : Moved). raised_for x.dropped m.drops) moves) i) (with_learned (after_customer (tenant_is m current.ports.me i) port frame).learned (view_of m));
      current = learned_current m (after_customer m.tenant port frame).learned drops current;
    })

pub entered_moved : (m : Machine) (tables : Tables) (moved : Moved) (port : ℕ) (frame : List ℕ) → IsCurrent m → tables ≡ own_tables (view_of m) → moved ≡ of_customer m.tenant tables port frame
    → moved ≡ moved_by_entry port frame (view_of m)
unfolding moved_by_entry
entered_moved m tables moved port frame current own is = is ∙ (λ i. of_customer (tenant_is m current.ports.me i) (own i) port frame)

-- ---- a backbone frame comes in

pub relayed_after : (m : Machine) (tenant : Tenant) (drops : Drops) (tables : Tables) (moved : Moved) (port : ℕ) (f : Backbone) (whole : List ℕ) → IsCurrent m → tables ≡ own_tables (view_of m) → tenant ≡ after_backbone m.tenant tables port (parts f)
    → moved ≡ of_backbone m.tenant tables port (parts f) whole → drops ≡ raised_for moved.dropped m.drops → IsAfter (forwarded_by f port (view_of m)) (record m { tenant = tenant; drops = drops })
relayed_after m tenant drops tables moved port f whole current own is moves counts =
    let dropped : drops ≡ raised_for (dropped_by (step_of m.tenant tables port (parts f))) m.drops = counts ∙ ap (λ (x : Moved). raised_for x.dropped m.drops) moves in
    let same : drops ≡ raised_for (dropped_by (step_of (tenant_of (view_of m)) (own_tables (view_of m)) port (parts f))) m.drops =
    dropped ∙ (λ i. raised_for (dropped_by (step_of (tenant_is m current.ports.me i) (own i) port (parts f))) m.drops) in
    subst (λ (t : Tenant). IsAfter (forwarded_by f port (view_of m)) (record m { tenant = t; drops = drops })) (sym is) (record {
      view = λ i. with_drops (same i) (with_learned (after_backbone (tenant_is m current.ports.me i) (own i) port (parts f)).learned (view_of m));
      current = learned_current m (after_backbone m.tenant tables port (parts f)).learned drops current;
    })

pub relayed_moved : (m : Machine) (tables : Tables) (moved : Moved) (port : ℕ) (f : Backbone) (whole : List ℕ) → IsCurrent m → tables ≡ own_tables (view_of m)
    → moved ≡ of_backbone m.tenant tables port (parts f) whole → moved ≡ moved_as (carrying f) port whole (view_of m)
relayed_moved m tables moved port f whole current own is = is ∙ (λ i. of_backbone (tenant_is m current.ports.me i) (own i) port (parts f) whole)

-- ---- what is sent

pub sent_moved : {T E : Type 0} (r : Result T E) (m k : Moved) (old new : Outbox) → m ≡ k → OnOk r (new ≡ with_moved m old) → OnOk r (new ≡ with_moved k old)
sent_moved r m k old new same is = subst (λ (x : Moved). OnOk r (new ≡ with_moved x old)) same is

pub gained_moved : {T E : Type 0} (r : Result T E) (m k : Moved) (old new : Outbox) → m ≡ k → OnErr r (GainsMoved m old new) → OnErr r (GainsMoved k old new)
gained_moved r m k old new same is = subst (λ (x : Moved). OnErr r (GainsMoved x old new)) same is

sent_none : (old : Outbox) → old ≡ with_moved nothing old
sent_none old = λ i. record { wire = sym (append-nil old.wire) i; left = sym (append-nil old.left) i }

-- nothing was put into the outbox
pub nothing_moved : (m : Moved) (old : Outbox) → m ≡ nothing → old ≡ with_moved m old
nothing_moved m old is = sent_none old ∙ ap (λ (x : Moved). with_moved x old) (sym is)

pub nothing_gained : (m : Moved) (old : Outbox) → GainsMoved m old old
nothing_gained m old = record { wire = 0; left = 0; gained = sent_none old }

pub wire_gained : (m : Moved) (old : Outbox) (wire : List (ℕ × List ℕ)) → wire ≡ old.wire → GainsMoved m old (record { wire = wire; left = old.left })
wire_gained m old wire is = subst (λ (w : List (ℕ × List ℕ)). GainsMoved m old (record { wire = w; left = old.left })) (sym is) (nothing_gained m old)

-- ---- what is sent of a frame that comes in

none_by : (b : Bool) (m : Moved) → m ≡ nothing → (if b then m else nothing) ≡ nothing
none_by true m is = is
none_by false m is = refl

unmoved_at : (o : Option BridgePort) (v : BridgeView) (p : ℕ) (bytes : List ℕ) (j : Parsed) → parsed bytes ≡ j → moved_as j p bytes v ≡ nothing → moved_at p bytes o v ≡ nothing
unmoved_at None v p bytes j said none = refl
unmoved_at (Some port) v p bytes j said none = none_by port.adjacency.carrier (moved_as (parsed bytes) p bytes v) (ap (λ (k : Parsed). moved_as k p bytes v) said ∙ none)

pub unmoved : (v : BridgeView) (p : ℕ) (bytes : List ℕ) (j : Parsed) → parsed bytes ≡ j → moved_as j p bytes v ≡ nothing → moved_by_receive p bytes v ≡ nothing
unfolding moved_by_receive
unmoved v p bytes j said none = unmoved_at (port_at v p) v p bytes j said none

moved_without_carrier : (b : Bool) (m : Moved) → b ≡ false → (if b then m else nothing) ≡ nothing
moved_without_carrier true m none = absurd cc
moved_without_carrier false m none = refl

pub unmoved_without_carrier : (v : BridgeView) (p : ℕ) (bytes : List ℕ) (port : BridgePort) → port_at v p ≡ Some port → port.adjacency.carrier ≡ false → moved_by_receive p bytes v ≡ nothing
unfolding moved_by_receive
unmoved_without_carrier v p bytes port there none = ap (λ (o : Option BridgePort). moved_at p bytes o v) there ∙ moved_without_carrier port.adjacency.carrier (moved_as (parsed bytes) p bytes v) none

moved_with_carrier : (b : Bool) (m : Moved) → b ≡ true → (if b then m else nothing) ≡ m
moved_with_carrier true m has = refl
moved_with_carrier false m has = absurd cc

moved_in : (o : Option BridgePort) (v : BridgeView) (p : ℕ) (bytes : List ℕ) (j : Parsed) → has_carrier_in o ≡ true → parsed bytes ≡ j → moved_as j p bytes v ≡ moved_at p bytes o v
moved_in None v p bytes j has_carrier said = absurd cc
moved_in (Some port) v p bytes j has_carrier said =
    ap (λ (k : Parsed). moved_as k p bytes v) (sym said) ∙ sym (moved_with_carrier port.adjacency.carrier (moved_as (parsed bytes) p bytes v) has_carrier)

pub moved_path : (v : BridgeView) (p : ℕ) (bytes : List ℕ) (j : Parsed) → has_carrier_at v p ≡ true → parsed bytes ≡ j → moved_as j p bytes v ≡ moved_by_receive p bytes v
unfolding has_carrier_at moved_by_receive
moved_path v p bytes j has_carrier said = moved_in (port_at v p) v p bytes j has_carrier said

forwarded_in : (o : Option BridgePort) (f : Backbone) (p : ℕ) (v : BridgeView) → has_carrier_in o ≡ true → forwarded_by f p v ≡ heard_by (carrying f) p o v
forwarded_in None f p v has_carrier = absurd cc
forwarded_in (Some port) f p v has_carrier = refl

pub forwarded_hears : (f : Backbone) (p : ℕ) (v : BridgeView) → has_carrier_at v p ≡ true → forwarded_by f p v ≡ hears (carrying f) p v
unfolding has_carrier_at
forwarded_hears f p v has_carrier = forwarded_in (port_at v p) f p v has_carrier
