-- What a bridge makes of a customer's frame with a group destination: where it enters, and where the frame of the
-- backbone that carries it comes in.
use Rattle.std.proofs.Common.{◌≡◌, ◌≢◌, ◌<◌, ◌≤◌, ℕ, Bool, true, false, not, ◌&&◌, ◌||◌, eqb, eqb-true, eq-eqb, List, [], ◌∷◌, ◌++◌, length, Option, Some, None, refl, sym, ap, ◌∙◌, subst, arith}
use Rattle.std.specs.Prelude.{if◌then◌else◌, nat_eq, ◌%◌, ◌*◌, ◌+◌, ◌/◌, ◌==◌, slice_index}
use Rattle.std.specs.List.{AllByRecursion, list_any}
use Rattle.std.specs.Int.{w16, w32, to_be_bytes}
use Rattle.std.proofs.lemmas.Bool.{false≢true}
use Rattle.std.proofs.lemmas.Slice.Eq.{bytes_eq-Decides}
use Rattle.spb_types.specs.Address.{group_address}
use Rattle.spb_types.specs.Bytes.{u24_at}
use Rattle.spb_types.specs.Tables.{unicast_in, group_in}
use Rattle.spb_types.specs.declared.address.Mac.{Mac}
use Rattle.spb_types.specs.declared.service.Vid.{Vid}
use Rattle.spb_types.specs.declared.service.VidPlan.{VidPlan}
use Rattle.spb_types.specs.declared.service.Isid.{Isid}
use Rattle.spb_types.specs.declared.service.Attachment.{Attachment}
use Rattle.spb_types.specs.declared.limits.TheConstants.{GREATEST_VID, GREATEST_ISID}
use Rattle.spb_tlvs.specs.Capability.{IsTree}
use Rattle.itag_frames.specs.Frame.{control_address}
use Rattle.itag_frames.specs.Backbone.{CanBeCarried, backbone_bytes, b_tag, i_tag}
use Rattle.itag_frames.specs.Classify.{content_in}
use Rattle.itag_frames.proofs.ClassifyLaws.{carried_again}
use Rattle.customer_learning.specs.Known.{place_in, same_mac}
use Rattle.forwarding.specs.declared.going.Going.TheVariants.{Everywhere}
use Rattle.spb_types.specs.declared.drop_reason.DropReason.TheVariants as drop
use Rattle.forwarding.specs.declared.moved.Moved.{Moved}
use Rattle.forwarding.specs.declared.step.Step.{Step}
use Rattle.forwarding.specs.declared.step.Step.TheVariants as step
use Rattle.forwarding.specs.declared.tenant.Tenant.{Tenant}
use Rattle.forwarding.specs.Ports.{attachment_of, but_for, is_in, is_served, is_way, ports_in, receiving_ports}
use Rattle.forwarding.specs.Tenant.{Carried, after_customer, after_delivery, delivered_going, each_with, entered_by, entered_going, flooded, going_by, is_delivered, is_group, is_of_another, is_taken, left_of, nothing, of_backbone, relayed_at, step_of, to_of, way_on}
use Rattle.bridge_api.specs.declared.port.BridgePort.{BridgePort}
use Rattle.bridge_api.specs.View.{BridgeView, has_carrier_at, has_carrier_in, port_at, with_drops}
use Rattle.bridge_api.specs.Tables.{own_tables}
use Rattle.bridge_api.specs.Customers.{IsCustomerFrame, after_entry, carried_by, forwarded, moved_as, moved_at, moved_by_entry, moved_by_receive, tenant_of, with_learned}
use Rattle.bridge_api.specs.Hearing.{after_drop, after_receive, heard_as, heard_at}
use Rattle.bridge_api.specs.Config.{IsAttachment, vids_of}
use Rattle.bridge_api.specs.Laws.{HasConfig}
use Rattle.bridge_api.specs.Parsing.{Parsed, by_content, parsed}
use Rattle.bridge_api.specs.Parsing as parsing
use Rattle.network_model.specs.UnderWay.{HasLearned}
use Rattle.bridge_api.proofs.Octets.{AreSmall, bytes_small, octets_small, small_both}

-- ---- where it enters

-- it goes everywhere: to the other receiving ports of its service, and to the group address
module _ (v : BridgeView) (p : ℕ) (f : List ℕ) (a : Attachment) (at : attachment_of p v.attached ≡ Some a) (group : is_group (to_of f) ≡ true) where
  pub entry_floods : moved_by_entry p f v ≡ flooded (after_customer (tenant_of v) p f) (own_tables v) a f
  unfolding moved_by_entry
  entry_floods =
      let t : Tenant = after_customer (tenant_of v) p f in
      ap (entered_by t (own_tables v) f) at
      ∙ ap (λ (b : Bool). entered_going t (own_tables v) a f (if b then Everywhere else going_by (place_in t.learned a.isid (to_of f)))) group

-- the bridge has learned an address, and is else as it was
pub entry_learns : (v : BridgeView) (p : ℕ) (f : List ℕ) → HasLearned v (after_entry p f v)
unfolding after_entry
entry_learns v p f = refl

-- ---- where the frame of the backbone comes in

module _ (v : BridgeView) (q : ℕ) (bytes : List ℕ) (da sa : Mac) (vid : Vid) (isid : Isid) (f : List ℕ) (carrier : has_carrier_at v q ≡ true) (taken : parsed bytes ≡ parsing.customer da sa vid isid f) where
  abbrev carried : Carried
  carried = carried_by da sa vid isid f

  is_received : moved_by_receive q bytes v ≡ of_backbone (tenant_of v) (own_tables v) q carried bytes
  unfolding moved_by_receive has_carrier_at
  is_received = by (port_at v q) carrier
    where
      by : (o : Option BridgePort) → has_carrier_in o ≡ true → moved_at q bytes o v ≡ of_backbone (tenant_of v) (own_tables v) q carried bytes
      by None has = absurd (false≢true has)
      by (Some port) has =
          ap (λ (b : Bool). if b then moved_as (parsed bytes) q bytes v else nothing) has
          ∙ ap (λ (j : Parsed). moved_as j q bytes v) taken

  pub receiving_learns : HasLearned v (after_receive q bytes v)
  unfolding after_receive has_carrier_at
  receiving_learns = by (port_at v q) carrier
    where
      by : (o : Option BridgePort) → has_carrier_in o ≡ true → HasLearned v (heard_at q bytes o v)
      by None has = absurd (false≢true has)
      by (Some port) has =
          let is : heard_at q bytes (Some port) v ≡ forwarded da sa vid isid f q v =
          ap (λ (b : Bool). if b then heard_as (parsed bytes) q port v else after_drop drop.NotAdjacent v) has
          ∙ ap (λ (j : Parsed). heard_as j q port v) taken in
          is ∙ ap (λ (u : BridgeView). with_drops u.drops (with_learned u.learned v)) (sym is)

  -- it passes the ingress check, has the I-SID of its group address, and isn't addressed to this bridge; and there each
  -- port of the I-SID is in its VID
  module _ (way : unicast_in (own_tables v).unicast vid sa ≡ Some q) (same : u24_at da.bytes 3 ≡ isid.value) (away : same_mac da v.id.system.mac ≡ false) (group : is_group da ≡ true) (customers : is_group (to_of f) ≡ true) (one : AllByRecursion (λ a. is_in isid a ≡ true → a.vid.value ≡ vid.value) v.attached) where
    chosen : {X : Type 0} (a b c d : Bool) (u w x y z : X) → a ≡ true → b ≡ false → c ≡ false → d ≡ true → (if not a then u else (if b then w else (if c then x else (if d then y else z)))) ≡ y
    chosen true false false true u w x y z ea eb ec ed = refl
    chosen false b c d u w x y z ea eb ec ed = absurd (false≢true ea)
    chosen true true c d u w x y z ea eb ec ed = absurd (false≢true (sym eb))
    chosen true false true d u w x y z ea eb ec ed = absurd (false≢true (sym ec))
    chosen true false false false u w x y z ea eb ec ed = absurd (false≢true ed)

    is_own_way : is_way q (unicast_in (own_tables v).unicast vid sa) ≡ true
    is_own_way = ap (is_way q) way ∙ eq-eqb q q refl

    both : (a b : Bool) → a ≡ true → b ≡ true → (a && not b) ≡ false
    both true true ea eb = refl
    both false b ea eb = absurd (false≢true ea)
    both true false ea eb = absurd (false≢true eb)

    its_own : is_of_another da isid ≡ false
    its_own = both (is_group da) (u24_at da.bytes 3 == isid.value) group (eq-eqb (u24_at da.bytes 3) isid.value same)

    spreads : step_of (tenant_of v) (own_tables v) q carried ≡ step.Spread (group_in (own_tables v).group vid da)
    spreads =
        chosen (is_way q (unicast_in (own_tables v).unicast vid sa)) (is_of_another da isid) (same_mac da v.id.system.mac) (is_group da)
        (step.Stopped drop.Ingress) (step.Stopped drop.Mismatch) step.Here (step.Spread (group_in (own_tables v).group vid da)) (way_on q (unicast_in (own_tables v).unicast vid da))
        is_own_way its_own away group

    -- it is relayed at the ports of the row, but not where it came from
    pub relays_on : (moved_by_receive q bytes v).wire ≡ each_with bytes (but_for q (ports_in (group_in (own_tables v).group vid da)))
    relays_on = ap (λ (m : Moved). m.wire) is_received ∙ ap (λ (s : Step). each_with bytes (relayed_at q s)) spreads

    in_vid : (a : Attachment) → (is_in isid a ≡ true → a.vid.value ≡ vid.value) → (is_in isid a && (a.vid.value == vid.value)) ≡ false → is_in isid a ≡ false
    in_vid a here none = by (is_in isid a) refl
      where
        by : (b : Bool) → is_in isid a ≡ b → is_in isid a ≡ false
        by true e = absurd (false≢true (sym none ∙ (λ i. e i && eq-eqb a.vid.value vid.value (here e) i)))
        by false e = e

    neither : (b c : Bool) → (b || c) ≡ false → (b ≡ false) × (c ≡ false)
    neither true c e = absurd (false≢true (sym e))
    neither false c e = (refl, e)

    none_in : (attached : List Attachment) → AllByRecursion (λ a. is_in isid a ≡ true → a.vid.value ≡ vid.value) attached → is_served isid vid attached ≡ false → AllByRecursion (λ a. is_in isid a ≡ false) attached
    none_in [] each none = tt
    none_in (a ∷ attached) each none =
        let parts = neither (is_in isid a && (a.vid.value == vid.value)) (is_served isid vid attached) none in
        (in_vid a each.0 parts.0, none_in attached each.1 parts.1)

    everywhere : (t : Tenant) → delivered_going t carried (if is_group (to_of f) then Everywhere else going_by (place_in t.learned isid (to_of f))) ≡ each_with f (receiving_ports isid t.attached)
    everywhere t = ap (λ (b : Bool). delivered_going t carried (if b then Everywhere else going_by (place_in t.learned isid (to_of f)))) customers

    leaving : (b : Bool) → is_served isid vid v.attached ≡ b → (AllByRecursion (λ a. is_in isid a ≡ false) v.attached → receiving_ports isid v.attached ≡ []) → left_of (true && b) (tenant_of v) carried ≡ each_with f (receiving_ports isid v.attached)
    leaving true served none = everywhere (after_delivery true (tenant_of v) carried)
    leaving false served none = sym (ap (each_with f) (none (none_in v.attached one served)))

    -- and the customer's frame leaves at each port of the service that receives
    pub leaves_at_each : (AllByRecursion (λ a. is_in isid a ≡ false) v.attached → receiving_ports isid v.attached ≡ []) → (moved_by_receive q bytes v).left ≡ each_with f (receiving_ports isid v.attached)
    leaves_at_each none =
        ap (λ (m : Moved). m.left) is_received
        ∙ (ap (λ (s : Step). left_of (is_taken (is_delivered s) (tenant_of v) carried) (tenant_of v) carried) spreads
        ∙ leaving (is_served isid vid v.attached) refl none)

-- ---- the frame of the backbone is taken for what it carries

-- what is so of each attachment is so of one that is found
pub found_attached : (P : Attachment → Type 0) (port : ℕ) (attached : List Attachment) (a : Attachment) → attachment_of port attached ≡ Some a → AllByRecursion P attached → P a
found_attached P port [] a is all = absurd cc
found_attached P port (b ∷ attached) a is all = (elim (eqb b.port port) as (λ c. eqb b.port port ≡ c → P a) [
  | true ↦ λ t. let e = rw t at is in let same : b ≡ a = cc in subst P same all.0
  | false ↦ λ t. found_attached P port attached a (rw t at is) all.1
]) refl

pub found_port : (port : ℕ) (attached : List Attachment) (a : Attachment) → attachment_of port attached ≡ Some a → a.port ≡ port
found_port port [] a h = absurd cc
found_port port (b ∷ attached) a h = (elim (eqb b.port port) as (λ c. eqb b.port port ≡ c → a.port ≡ port) [
  | true ↦ λ t. let e = rw t at h in let same : b ≡ a = cc in subst (λ (x : Attachment). x.port ≡ port) same (eqb-true b.port port t)
  | false ↦ λ t. found_port port attached a (rw t at h)
]) refl

-- a VID for which something is planned
planned : (vid : ℕ) (plans : List VidPlan) → AllByRecursion IsTree plans → list_any (nat_eq vid) (vids_of plans) ≡ true → (1 ≤ vid) × (vid ≤ GREATEST_VID)
planned vid [] all is = absurd cc
planned vid (plan ∷ plans) all is = by_test (eqb vid plan.vid.value) refl is (planned vid plans all.1)
  where
    by_test : (b : Bool) → eqb vid plan.vid.value ≡ b → (b || list_any (nat_eq vid) (vids_of plans)) ≡ true
        → (list_any (nat_eq vid) (vids_of plans) ≡ true → (1 ≤ vid) × (vid ≤ GREATEST_VID)) → (1 ≤ vid) × (vid ≤ GREATEST_VID)
    by_test true e any rest = subst (λ n. (1 ≤ n) × (n ≤ GREATEST_VID)) (sym (eqb-true vid plan.vid.value e)) (all.0.vid_low, all.0.vid_high)
    by_test false e any rest = rest any

pub can_carry : (v : BridgeView) (port : ℕ) (bytes : List ℕ) (a : Attachment) → attachment_of port v.attached ≡ Some a → IsCustomerFrame bytes → HasConfig v → (da : Mac) → length da.bytes ≡ 6 → CanBeCarried da v.id.system.mac a.vid a.isid bytes
can_carry v port bytes a at whole config da six =
    let is : IsAttachment (vids_of v.vids) a = found_attached (IsAttachment (vids_of v.vids)) port v.attached a at config.each_attachment in
    let vid : (1 ≤ a.vid.value) × (a.vid.value ≤ GREATEST_VID) = planned a.vid.value v.vids config.each_vid is.vid in
    record { to = six; from = config.system.bytes; vid_low = vid.0; vid_high = vid.1; isid_low = is.isid_low; isid_high = is.isid_high; whole = whole.low }

two_small : (n : ℕ) → AreSmall (to_be_bytes w16 n)
two_small n = (omega arith, (omega arith, tt))

four_small : (n : ℕ) → AreSmall (to_be_bytes w32 n)
four_small n = (omega arith, (omega arith, (omega arith, (omega arith, tt))))

group_small : (source isid : ℕ) → AreSmall (group_address source isid).bytes
group_small source isid = (omega arith, (omega arith, (omega arith, (omega arith, (omega arith, (omega arith, tt))))))

all_small : (bytes : List ℕ) → AllByRecursion (λ b. b < 256) bytes → AreSmall bytes
all_small [] all = tt
all_small (b ∷ bytes) all = (all.0, all_small bytes all.1)

whole_small : (da sa : Mac) (vid : Vid) (isid : Isid) (f : List ℕ) → AreSmall da.bytes → AreSmall sa.bytes → AreSmall f → AreSmall (backbone_bytes da sa vid isid f)
whole_small da sa vid isid f to from small =
    let both : AreSmall (da.bytes ++ sa.bytes) = small_both da.bytes sa.bytes to from in
    let tagged : AreSmall (da.bytes ++ sa.bytes ++ b_tag vid) = small_both (da.bytes ++ sa.bytes) (b_tag vid) both (omega arith, (omega arith, two_small (vid.value % 4096))) in
    let served : AreSmall (da.bytes ++ sa.bytes ++ b_tag vid ++ i_tag isid) = small_both (da.bytes ++ sa.bytes ++ b_tag vid) (i_tag isid) tagged (omega arith, (omega arith, four_small (isid.value % 16777216))) in
    small_both (da.bytes ++ sa.bytes ++ b_tag vid ++ i_tag isid) f served small

-- the group address is one, has the I-SID in it, and is neither the address of a bridge nor that of all bridges
pub group_is_group : (source isid : ℕ) → is_group (group_address source isid) ≡ true
group_is_group source isid = eq-eqb _ 1 (omega arith)

pub group_has_isid : (source isid : ℕ) → isid ≤ GREATEST_ISID → u24_at (group_address source isid).bytes 3 ≡ isid
group_has_isid source isid high = omega (arith, high)

not_control : (source isid : ℕ) → (group_address source isid).bytes ≢ control_address
not_control source isid same = let first : (source / 65536 % 16) * 16 + 3 ≡ 1 = cc in absurd (omega (arith, first))

pub group_is_other : (source isid : ℕ) (mac : Mac) → slice_index mac.bytes 0 % 2 ≡ 0 → same_mac (group_address source isid) mac ≡ false
group_is_other source isid mac individual = by (same_mac (group_address source isid) mac) refl
  where
    by : (b : Bool) → same_mac (group_address source isid) mac ≡ b → same_mac (group_address source isid) mac ≡ false
    by true e =
        let same : (group_address source isid).bytes ≡ mac.bytes = (bytes_eq-Decides (group_address source isid).bytes mac.bytes).0 e in
        let even : slice_index (group_address source isid).bytes 0 % 2 ≡ 0 = ap (λ (bs : List ℕ). slice_index bs 0 % 2) same ∙ individual in
        absurd (omega (arith, even))
    by false e = e

-- so it is of each frame of octets, from a bridge
pub taken_again : (v : BridgeView) (port : ℕ) (f : List ℕ) (a : Attachment) (source : ℕ) → attachment_of port v.attached ≡ Some a → IsCustomerFrame f → AllByRecursion (λ b. b < 256) f → HasConfig v
    → parsed (backbone_bytes (group_address source a.isid.value) v.id.system.mac a.vid a.isid f) ≡ parsing.customer (group_address source a.isid.value) v.id.system.mac a.vid a.isid f
unfolding parsed
taken_again v port f a source at whole octets config =
    let da : Mac = group_address source a.isid.value in
    let frame : List ℕ = backbone_bytes da v.id.system.mac a.vid a.isid f in
    let small : AreSmall frame = whole_small da v.id.system.mac a.vid a.isid f (group_small source a.isid.value) (bytes_small v.id.system.mac.bytes config.system.octets) (all_small f octets) in
    ap (λ (b : Bool). if b then by_content (content_in frame) else parsing.dropped drop.Frame) (octets_small frame small)
    ∙ ap by_content (carried_again da v.id.system.mac a.vid a.isid f (can_carry v port f a at whole config da refl) (not_control source a.isid.value))
