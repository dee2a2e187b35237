-- What a bridge sends of customers' frames.
use Rattle.std.proofs.Common.{◌≡◌, inl, inr, ℕ, ◌≤◌, Bool, true, false, List, [], ◌∷◌, length, Option, Some, None, refl, sym, ap, subst, eqb, eqb-true}
use Rattle.std.specs.Prelude.{if◌then◌else◌, ◌||◌, nat_eq}
use Rattle.std.specs.List.{AllByRecursion, list_any}
use Rattle.spb_types.specs.declared.address.Mac.{Mac}
use Rattle.spb_types.specs.declared.service.Vid.{Vid}
use Rattle.spb_types.specs.declared.service.Isid.{Isid}
use Rattle.spb_types.specs.declared.service.VidPlan.{VidPlan}
use Rattle.spb_types.specs.declared.service.Attachment.{Attachment}
use Rattle.spb_types.specs.declared.tables.Tables.{Tables}
use Rattle.spb_types.specs.declared.limits.TheConstants.{GREATEST_VID}
use Rattle.spb_types.specs.Tables.{unicast_in, group_in}
use Rattle.spb_tlvs.specs.Capability.{IsTree}
use Rattle.itag_frames.specs.Backbone.{CanBeCarried, backbone_bytes}
use Rattle.customer_learning.specs.Known.{Addresses, known_in, place_in, place_among, same_mac}
use Rattle.customer_learning.specs.declared.place.Place.{Place}
use Rattle.customer_learning.specs.declared.place.Place.TheVariants.{Local, Remote}
use Rattle.forwarding.specs.declared.going.Going.{Going}
use Rattle.forwarding.specs.declared.going.Going.TheVariants.{Everywhere, AtPort, Behind}
use Rattle.forwarding.specs.declared.tenant.Tenant.{Tenant}
use Rattle.forwarding.specs.Ports.{attachment_of, ports_in}
use Rattle.forwarding.specs.Tenant.{after_customer, each_with, entered_by, entered_going, going_by, going_of, group_of_service, is_group, nothing, relayed_at, sent_towards, step_of, to_of}
use Rattle.bridge_api.specs.declared.port.BridgePort.{BridgePort}
use Rattle.bridge_api.specs.View.{BridgeView, port_at}
use Rattle.bridge_api.specs.Tables.{own_tables}
use Rattle.bridge_api.specs.Customers.{IsLearned, AreLearned, IsCustomerFrame, tenant_of, carried_by, moved_as, moved_at, moved_by_entry, moved_by_receive}
use Rattle.bridge_api.specs.Config.{IsAttachment, vids_of}
use Rattle.bridge_api.specs.Parsing.{Parsed, parsed}
use Rattle.bridge_api.specs.Parsing as parsing
use Rattle.bridge_api.specs.Laws.{HasConfig, IsSoundView, IsSent}
use Rattle.bridge_api.proofs.Learned.{entry_learned}

-- the same frame at each of these ports
each_one : (P : List ℕ → Type 0) (bytes : List ℕ) (ports : List ℕ) → P bytes → AllByRecursion (λ s. P s.1) (each_with bytes ports)
each_one P bytes [] here = tt
each_one P bytes (p ∷ ports) here = (here, each_one P bytes ports here)

-- what is so of each frame is so of one that is sent
pub sent_is : (P : List ℕ → Type 0) (frames : List (ℕ × List ℕ)) (p : ℕ) (bytes : List ℕ) → AllByRecursion (λ s. P s.1) frames → IsSent frames p bytes → P bytes
sent_is P [] p bytes all some = absurd some
sent_is P (s ∷ frames) p bytes all (inl here) = subst P here.1 all.0
sent_is P (s ∷ frames) p bytes all (inr there) = sent_is P frames p bytes all.1 there

-- ---- a backbone frame

-- a frame that is sent is the one that came in, which was taken for one that carries a customer's
pub record Relays (bytes sent : List ℕ) : Type 0 where
  pub da : Mac
  pub sa : Mac
  pub vid : Vid
  pub isid : Isid
  pub payload : List ℕ
  pub taken : parsed bytes ≡ parsing.customer da sa vid isid payload
  pub same : sent ≡ bytes

module _ (q : ℕ) (bytes : List ℕ) (v : BridgeView) where
  relays_as : (j : Parsed) → parsed bytes ≡ j → AllByRecursion (λ s. Relays bytes s.1) (moved_as j q bytes v).wire
  relays_as (parsing.dropped reason) is = tt
  relays_as (parsing.hello h way) is = tt
  relays_as (parsing.lsp l) is = tt
  relays_as (parsing.csnp c) is = tt
  relays_as (parsing.psnp s) is = tt
  relays_as (parsing.customer da sa vid isid f) is =
      each_one (Relays bytes) bytes (relayed_at q (step_of (tenant_of v) (own_tables v) q (carried_by da sa vid isid f))) (record { da = da; sa = sa; vid = vid; isid = isid; payload = f; taken = is; same = refl })

  relays_if : (has_carrier : Bool) → AllByRecursion (λ s. Relays bytes s.1) (if has_carrier then moved_as (parsed bytes) q bytes v else nothing).wire
  relays_if true = relays_as (parsed bytes) refl
  relays_if false = tt

  relays_at : (o : Option BridgePort) → AllByRecursion (λ s. Relays bytes s.1) (moved_at q bytes o v).wire
  relays_at None = tt
  relays_at (Some port) = relays_if port.adjacency.carrier

  pub relays : AllByRecursion (λ s. Relays bytes s.1) (moved_by_receive q bytes v).wire
  unfolding moved_by_receive
  relays = relays_at (port_at v q)

-- ---- a customer's frame

-- a frame that is sent carries the one that entered, in the I-SID and the VID of its port
pub record Encapsulates (v : BridgeView) (port : ℕ) (bytes sent : List ℕ) : Type 0 where
  pub attachment : Attachment
  pub attached : attachment_of port v.attached ≡ Some attachment
  pub da : Mac
  pub can : CanBeCarried da v.id.system.mac attachment.vid attachment.isid bytes
  pub is : sent ≡ backbone_bytes da v.id.system.mac attachment.vid attachment.isid bytes

-- the bridge behind which a frame goes has an address of six bytes
abbrev IsGoing : Going → Type 0
IsGoing Everywhere = Unit {0}
IsGoing (AtPort q) = Unit {0}
IsGoing (Behind m) = length m.bytes ≡ 6

going_among : (es : List (Mac × Place)) (mac : Mac) → AllByRecursion (λ e. IsLearned e.1) es → IsGoing (going_by (place_among es mac))
going_among [] mac all = tt
going_among (e ∷ es) mac all = by_test (same_mac mac e.0) (going_among es mac all.1)
  where
    by_place : (place : Place) → IsLearned place → IsGoing (going_by (Some place))
    by_place (Local port) here = tt
    by_place (Remote m) here = here

    by_test : (b : Bool) → IsGoing (going_by (place_among es mac)) → IsGoing (going_by (if b then Some e.1 else place_among es mac))
    by_test true rest = by_place e.1 all.0
    by_test false rest = rest

going_six : (b : Bool) (learned : Addresses) (isid : Isid) (da : Mac) → AreLearned learned → IsGoing (if b then Everywhere else going_by (place_in learned isid da))
going_six true learned isid da all = tt
going_six false learned isid da all = going_among (known_in learned isid) da (all isid)

module _ (v : BridgeView) (port : ℕ) (bytes : List ℕ) (a : Attachment) (at : attachment_of port v.attached ≡ Some a) (can : (da : Mac) → length da.bytes ≡ 6 → CanBeCarried da v.id.system.mac a.vid a.isid bytes) (t : Tenant) (tables : Tables) (me : t.me ≡ v.id.system.mac) where
  sent_each : (da : Mac) (ports : List ℕ) → length da.bytes ≡ 6 → AllByRecursion (λ s. Encapsulates v port bytes s.1) (each_with (backbone_bytes da t.me a.vid a.isid bytes) ports)
  sent_each da ports six =
      each_one (Encapsulates v port bytes) (backbone_bytes da t.me a.vid a.isid bytes) ports
      (record { attachment = a; attached = at; da = da; can = can da six; is = ap (λ (m : Mac). backbone_bytes da m a.vid a.isid bytes) me })

  towards_each : (m : Mac) (o : Option ℕ) → length m.bytes ≡ 6 → AllByRecursion (λ s. Encapsulates v port bytes s.1) (sent_towards t a bytes m o).wire
  towards_each m None six = tt
  towards_each m (Some p) six = sent_each m (p ∷ []) six

  going_each : (g : Going) → IsGoing g → AllByRecursion (λ s. Encapsulates v port bytes s.1) (entered_going t tables a bytes g).wire
  going_each Everywhere six = sent_each (group_of_service t a) (ports_in (group_in tables.group a.vid (group_of_service t a))) refl
  going_each (AtPort q) six = tt
  going_each (Behind m) six = towards_each m (unicast_in tables.unicast a.vid m) six

-- ---- what a bridge sends can be carried

-- what is so of each attachment is so of one that is found
found_attached : (P : Attachment → Type 0) (port : ℕ) (attached : List Attachment) (a : Attachment) → attachment_of port attached ≡ Some a → AllByRecursion P attached → P a
found_attached P port [] a is all = absurd cc
found_attached P port (b ∷ attached) a is all = (elim (eqb b.port port) as (λ c. eqb b.port port ≡ c → P a) [
  | true ↦ λ t. let e = rw t at is in let same : b ≡ a = cc in subst P same all.0
  | false ↦ λ t. found_attached P port attached a (rw t at is) all.1
]) refl

-- a VID for which something is planned
planned : (vid : ℕ) (plans : List VidPlan) → AllByRecursion IsTree plans → list_any (nat_eq vid) (vids_of plans) ≡ true → (1 ≤ vid) × (vid ≤ GREATEST_VID)
planned vid [] all is = absurd cc
planned vid (plan ∷ plans) all is = by_test (eqb vid plan.vid.value) refl is (planned vid plans all.1)
  where
    by_test : (b : Bool) → eqb vid plan.vid.value ≡ b → (b || list_any (nat_eq vid) (vids_of plans)) ≡ true
        → (list_any (nat_eq vid) (vids_of plans) ≡ true → (1 ≤ vid) × (vid ≤ GREATEST_VID)) → (1 ≤ vid) × (vid ≤ GREATEST_VID)
    by_test true e any rest = subst (λ n. (1 ≤ n) × (n ≤ GREATEST_VID)) (sym (eqb-true vid plan.vid.value e)) (all.0.vid_low, all.0.vid_high)
    by_test false e any rest = rest any

can_carry : (v : BridgeView) (port : ℕ) (bytes : List ℕ) (a : Attachment) → attachment_of port v.attached ≡ Some a → IsCustomerFrame bytes → HasConfig v → (da : Mac) → length da.bytes ≡ 6 → CanBeCarried da v.id.system.mac a.vid a.isid bytes
can_carry v port bytes a at whole config da six =
    let is : IsAttachment (vids_of v.vids) a = found_attached (IsAttachment (vids_of v.vids)) port v.attached a at config.each_attachment in
    let vid : (1 ≤ a.vid.value) × (a.vid.value ≤ GREATEST_VID) = planned a.vid.value v.vids config.each_vid is.vid in
    record { to = six; from = config.system.bytes; vid_low = vid.0; vid_high = vid.1; isid_low = is.isid_low; isid_high = is.isid_high; whole = whole.low }

encapsulates_by : (v : BridgeView) (port : ℕ) (bytes : List ℕ) (o : Option Attachment) → attachment_of port v.attached ≡ o → IsCustomerFrame bytes → IsSoundView v
    → AllByRecursion (λ s. Encapsulates v port bytes s.1) (entered_by (after_customer (tenant_of v) port bytes) (own_tables v) bytes o).wire
encapsulates_by v port bytes None at whole was = tt
encapsulates_by v port bytes (Some a) at whole was =
    let t : Tenant = after_customer (tenant_of v) port bytes in
    let learned : AreLearned t.learned = entry_learned (tenant_of v) bytes (attachment_of port v.attached) was.learned in
    going_each v port bytes a at (can_carry v port bytes a at whole was.config) t (own_tables v) refl (going_of t.learned a.isid (to_of bytes))
    (going_six (is_group (to_of bytes)) t.learned a.isid (to_of bytes) learned)

pub encapsulates : (port : ℕ) (bytes : List ℕ) (v : BridgeView) → IsCustomerFrame bytes → IsSoundView v → AllByRecursion (λ s. Encapsulates v port bytes s.1) (moved_by_entry port bytes v).wire
unfolding moved_by_entry
encapsulates port bytes v whole was = encapsulates_by v port bytes (attachment_of port v.attached) refl whole was
