-- Attaching a customer port, and detaching it.
use Rattle.std.proofs.Common.{◌≡◌, ℕ, Bool, false, List, sym, ap, ◌∙◌, subst}
use Rattle.spb_types.specs.declared.service.Attachment.{Attachment}
use Rattle.customer_learning.specs.Known.{Addresses}
use Rattle.forwarding.specs.declared.tenant.Tenant.{Tenant}
use Rattle.forwarding.specs.Detaching.{after_detach}
use Rattle.flooding.specs.declared.own.Own.{Own}
use Rattle.bridge_api.specs.Own.{own_of, originated_if_changed}
use Rattle.bridge_api.specs.View.{BridgeView}
use Rattle.bridge_api.specs.Customers.{tenant_of, with_learned}
use Rattle.bridge_api.specs.Services.{IsAttachedPort, IsSendingPort, CanAttach, with_attached, with_port_forgotten, without_customer_port}
use Rattle.bridge_api.specs.Step.{Input}
use Rattle.bridge_api.specs.Laws.{HasConfig, IsInput, attached_after}
use Rattle.bridge_api.proofs.Attached.{config_after, learned_after}
use Rattle.bridge_api.proofs.Changes.{attached_to, with_attached_is}
use Rattle.bridge_api.proofs.Saying.{is_local}
use Rattle.bridge_control.specs.declared.machine.Machine.{Machine}
use Rattle.bridge_control.specs.Attaching.{CanTell}
use Rattle.bridge_control.specs.Machine.{view_of, CanOriginate, IsReady, IsAfter}
use Rattle.bridge_control.specs.Plane.{Plane, plane_of}
use Rattle.bridge_control.proofs.Owning.{after_same, ready_can}

-- the machine to which this is attached, and which has learned this
abbrev pub machine_with : Machine → List Attachment → Addresses → Machine
machine_with m attached learned = record m { tenant = record m.tenant { attached = attached; learned = learned } }

pub can_tell : (m n : Machine) (attached : List Attachment) (learned other : Addresses) → IsReady m → HasConfig (attached_to attached (with_learned other (view_of m))) → n ≡ machine_with m attached learned → CanTell n
can_tell m n attached learned other ready config is =
    let can : CanOriginate m = ready_can m ready in
    subst CanTell (sym is) (record {
      can = record { few = can.few; room = can.room };
      system = ap (λ (o : Own). o.system) ready.current.own;
      local = is_local (attached_to attached (with_learned other (view_of m))) config ready.sound.few ready.sound.ports;
      ports = record { hellos = ready.current.ports.hellos; up = ready.current.ports.up; me = ready.current.ports.me; heard = ready.current.ports.heard };
    })

pub can_tell_after : (m n : Machine) (input : Input) (learned : Addresses) → IsReady m → IsInput (view_of m) input → n ≡ machine_with m (attached_after input m.tenant.attached) learned → CanTell n
can_tell_after m n input learned ready is same = can_tell m n (attached_after input m.tenant.attached) learned (learned_after input (view_of m)) ready (config_after input (view_of m) is ready.sound.config) same

pub after_telling : (m n k : Machine) (attached : List Attachment) (learned : Addresses) → n ≡ machine_with m attached learned → IsAfter (originated_if_changed (view_of n)) k → IsAfter (with_attached attached (with_learned learned (view_of m))) k
after_telling m n k attached learned is after =
    let v : BridgeView = with_learned learned (view_of m) in
    after_same (originated_if_changed (view_of n)) (with_attached attached v) k (ap originated_if_changed (ap view_of is) ∙ sym (with_attached_is attached v)) after

-- the tenant of a machine is that of its bridge
pub tenant_is : (m : Machine) → m.tenant.me ≡ m.id.system.mac → m.tenant ≡ tenant_of (view_of m)
tenant_is m me = λ i. record { me = me i; source = m.tenant.source; attached = m.tenant.attached; learned = m.tenant.learned }

-- what was learned at a port is forgotten
pub forgotten_is : (m : Machine) (port : ℕ) → m.tenant.me ≡ m.id.system.mac → with_learned (after_detach m.tenant port).learned (view_of m) ≡ with_port_forgotten port (view_of m)
unfolding with_port_forgotten
forgotten_is m port me = ap (λ (t : Tenant). with_learned (after_detach t port).learned (view_of m)) (tenant_is m me)

pub detached_after : (m n k : Machine) (port : ℕ) → m.tenant.me ≡ m.id.system.mac → n ≡ record m { tenant = after_detach m.tenant port } → IsAfter (originated_if_changed (view_of n)) k
    → IsAfter (with_attached (without_customer_port port m.tenant.attached) (with_port_forgotten port (view_of m))) k
detached_after m n k port me is after =
    let left : List Attachment = without_customer_port port m.tenant.attached in
    after_same _ _ k (ap (with_attached left) (forgotten_is m port me)) (after_telling m n k left (after_detach m.tenant port).learned is after)

pub renewed_can : (m n : Machine) → CanTell m → n ≡ record m { own = own_of (view_of m) } → CanOriginate n
renewed_can m n can is = subst CanOriginate (sym is) (record { few = can.can.few; room = can.can.room })

-- ---- what a control plane asks for

pub can_inside : (blank failed : Bool) (m : Machine) (plane : Plane) (a : Attachment) → plane_of blank failed m ≡ plane → failed ≡ false → (plane.view.failed ≡ false → CanAttach plane.view a) → CanAttach (view_of m) a
can_inside blank failed m plane a same unfailed can =
    let inside : CanAttach (record (view_of m) { failed = failed }) a = subst (λ (p : Plane). p.view.failed ≡ false → CanAttach p.view a) (sym same) can unfailed in
    record { attachment = inside.attachment; agrees = inside.agrees; few_isids = inside.few_isids }

pub attached_inside : (blank failed : Bool) (m : Machine) (plane : Plane) (port : ℕ) → plane_of blank failed m ≡ plane → failed ≡ false → (plane.view.failed ≡ false → IsAttachedPort plane.view port) → IsAttachedPort (view_of m) port
attached_inside blank failed m plane port same unfailed is = subst (λ (p : Plane). p.view.failed ≡ false → IsAttachedPort p.view port) (sym same) is unfailed

pub sending_inside : (blank failed : Bool) (m : Machine) (plane : Plane) (port : ℕ) → plane_of blank failed m ≡ plane → failed ≡ false → (plane.view.failed ≡ false → IsSendingPort plane.view port) → IsSendingPort (view_of m) port
sending_inside blank failed m plane port same unfailed is = subst (λ (p : Plane). p.view.failed ≡ false → IsSendingPort p.view port) (sym same) is unfailed
