-- A customer's frame with a group destination enters a network in which nothing is on its way.
use Rattle.std.proofs.Common.{◌≡◌, ◌≢◌, ◌<◌, ◌≤◌, ℕ, Bool, true, false, not, ◌&&◌, eqb-true, eq-eqb, inl, inr, ◌⊎◌, List, [], ◌∷◌, ◌++◌, length, refl, sym, ap, ◌∙◌, subst, Some, slice_get, arith}
use Rattle.std.specs.Prelude.{if◌then◌else◌, count_by, ◌==◌}
use Rattle.std.specs.List.{AllByRecursion}
use Rattle.std.proofs.lemmas.Bool.{false≢true, cases_eq}
use Rattle.std.proofs.lemmas.List.{length-map}
use Rattle.std.proofs.lemmas.Option.{slice_get_within}
use Rattle.spb_types.specs.Address.{group_address}
use Rattle.spb_types.specs.Ports.{has}
use Rattle.spb_types.specs.Tables.{group_in}
use Rattle.spb_types.specs.declared.limits.TheConstants.{MOST_PORTS}
use Rattle.spb_types.specs.declared.link.Dir.{Dir}
use Rattle.spb_types.specs.declared.ports.PortSet.{PortSet}
use Rattle.spb_types.specs.declared.service.Attachment.{Attachment}
use Rattle.spb_types.specs.declared.tables.Tables.{Tables}
use Rattle.link_model.specs.Lane.{Frame}
use Rattle.forwarding.specs.declared.moved.Moved.{Moved}
use Rattle.forwarding.specs.Ports.{attachment_of, but_for, ports_in, receiving_ports}
use Rattle.forwarding.specs.Receiving.{IsReceivingTo}
use Rattle.forwarding.specs.Tenant.{each_with}
use Rattle.bridge_api.specs.View.{BridgeView}
use Rattle.bridge_api.specs.Customers.{after_entry}
use Rattle.bridge_api.specs.Step.{Input, customer, sent, left_by, frames_at}
use Rattle.network_model.specs.declared.answer.Out.{Out}
use Rattle.spb_world.specs.declared.declaration.DeclaredLink.{DeclaredLink}
use Rattle.spb_world.specs.World.{World, IsLink, names_of, attached_at, wired_tables}
use Rattle.network_model.specs.State.{State, links_of, lane_at}
use Rattle.spb_world.specs.Links.{near_end, far_end}
use Rattle.network_model.specs.Events.{outs_at, stepped}
use Rattle.network_model.specs.DeliveryLaws.{IsOneStep, pushed_all}
use Rattle.network_model.specs.Sound.{IsSoundState}
use Rattle.network_model.specs.Quiet.{AreEmpty}
use Rattle.network_model.specs.Once.{IsReceivingAt, IsRight, left_at}
use Rattle.network_model.specs.UnderWay.{Journey, carrier_of, leads_over, comes_over, IsUnderWay, HasLearned}
use Rattle.network_model.proofs.ApartOuts.{place_named}
use Rattle.network_model.proofs.FitsLemmas.{link_there}
use Rattle.network_model.proofs.SentLanes.{stepped_once, stepped_here, stepped_beside, stepped_rest, stepped_outs}
use Rattle.network_model.proofs.SoundLane.{some-is}
use Rattle.network_model.proofs.Spoken.{place_low}
use Rattle.spb_world.proofs.WorldLemmas.{ports_at-le}
use Rattle.network_model.proofs.OnceLists.{at_each, but_for_all, other_leaves_once, ports_receive}
use Rattle.network_model.proofs.OnceBridge.{entry_floods, entry_learns, found_port}
use Rattle.network_model.proofs.OnceOuts.{counted_elsewhere, counted_here, each_out, named_at, names_apart, one_name}
use Rattle.network_model.proofs.OnceStep.{IsJourney, ends_apart, gone, near_high, near_low, not_same, sent_lane, whole}

-- the journey that begins at a port of a bridge
abbrev pub journey_from : ℕ → ℕ → List ℕ → BridgeView → Attachment → Journey
journey_from b p f v a = record {
  bridge = b;
  port = p;
  isid = a.isid;
  vid = a.vid;
  to = group_address v.source.value a.isid.value;
  from = v.id.system.mac;
  frame = f;
}

-- at first the bridge alone has served the frame
abbrev pub served_by : ℕ → ℕ → Bool
served_by b y = y == b

module _ (s : State) (b p : ℕ) (f : List ℕ) (v : BridgeView) (a : Attachment) (at : slice_get s.views b ≡ Some v) (found : attachment_of p v.attached ≡ Some a) (is : IsJourney s (journey_from b p f v a)) (sound : IsSoundState s) (empty : AreEmpty s) (none : s.outs ≡ []) where
  abbrev j : Journey
  j = journey_from b p f v a

  abbrev x : Input
  x = customer p f

  abbrev t : State
  t = stepped x s b

  abbrev w : World
  w = s.world

  abbrev F : Frame
  F = carrier_of j

  abbrev row : PortSet
  row = group_in (wired_tables w b).group a.vid j.to

  attached : v.attached ≡ attached_at w b
  attached = sound.attached b v at

  port_is : a.port ≡ p
  port_is = found_port p v.attached a found

  sends : sent x v ≡ each_with F (ports_in row)
  sends =
      ap (λ (m : Moved). m.wire) (entry_floods v p f a found is.customers)
      ∙ ap (λ (tables : Tables). each_with F (ports_in (group_in tables.group a.vid j.to))) (is.tables b v at)

  leaves : left_by x v ≡ each_with f (but_for p (receiving_ports a.isid (attached_at w b)))
  leaves =
      ap (λ (m : Moved). m.left) (entry_floods v p f a found is.customers)
      ∙ (λ i. each_with f (but_for (port_is i) (receiving_ports a.isid (attached i))))

  abbrev served : ℕ → Bool
  served = served_by b

  itself : served b ≡ true
  itself = eq-eqb b b refl

  -- ---- the lanes

  at_link : (n : ℕ) (y : DeclaredLink) → slice_get (links_of s) n ≡ Some y → IsLink w.bridges y
  at_link n y at_n = link_there s n y sound.world at_n

  lanes_here : (n : ℕ) (e : Dir) (y : DeclaredLink) → slice_get (links_of s) n ≡ Some y → (near_end e y).bridge ≡ b → lane_at t n e ≡ (if comes_over w j served e y then F ∷ [] else [])
  lanes_here n e y at_n near =
      stepped_here x s b v n e y at at_n sound.world.links_apart (at_link n y at_n).apart near within
      ∙ ((λ i. pushed_all (empty n e i) (if y.live then frames_of i else []))
      ∙ (sent_lane y.live (has row (near_end e y).port) F
      ∙ ap (λ (c : Bool). if c then F ∷ [] else []) (leads ∙ sym comes)))
    where
      within : n < length s.lanes
      within = omega (arith, slice_get_within (links_of s) n y at_n, length-map s.world.links (λ e. e.1), sound.fits.lanes)

      low : (near_end e y).port ≤ MOST_PORTS
      low = omega (arith, near_high w e y (at_link n y at_n), ports_at-le w.bridges (near_end e y).bridge sound.world.ports)

      frames_of : frames_at (near_end e y).port (sent x v) ≡ (if has row (near_end e y).port then F ∷ [] else [])
      frames_of = ap (frames_at (near_end e y).port) sends ∙ at_each F row (near_end e y).port (near_low w e y (at_link n y at_n)) low

      leads : (y.live && has row (near_end e y).port) ≡ leads_over w j e y
      leads = ap (λ (i : ℕ). y.live && has (group_in (wired_tables w i).group a.vid j.to) (near_end e y).port) (sym near)

      unserved : served (far_end e y).bridge ≡ false
      unserved = not_same (far_end e y).bridge b (λ same. ends_apart e y (at_link n y at_n).apart (near ∙ sym same))

      comes : comes_over w j served e y ≡ leads_over w j e y
      comes = whole (leads_over w j e y) (served (near_end e y).bridge) (served (far_end e y).bridge) (λ lead. eq-eqb (near_end e y).bridge b near) (λ lead. unserved)

  lanes_beside : (n : ℕ) (e : Dir) (y : DeclaredLink) → slice_get (links_of s) n ≡ Some y → (near_end e y).bridge ≢ b → lane_at t n e ≡ (if comes_over w j served e y then F ∷ [] else [])
  lanes_beside n e y at_n near =
      stepped_beside x s b n e y at_n near
      ∙ (empty n e
      ∙ ap (λ (c : Bool). if c then F ∷ [] else []) (sym (gone (leads_over w j e y) (served (near_end e y).bridge) (not (served (far_end e y).bridge)) (λ lead. not_same (near_end e y).bridge b near))))

  lanes : (n : ℕ) (e : Dir) (y : DeclaredLink) → slice_get (links_of s) n ≡ Some y → lane_at t n e ≡ (if comes_over w j served e y then F ∷ [] else [])
  lanes n e y at_n = by (cases_eq (near_end e y).bridge b)
    where
      by : ((near_end e y).bridge ≡ b) ⊎ ((near_end e y).bridge ≢ b) → lane_at t n e ≡ (if comes_over w j served e y then F ∷ [] else [])
      by (inl near) = lanes_here n e y at_n near
      by (inr near) = lanes_beside n e y at_n near

  -- ---- what left

  abbrev name : List ℕ
  name = (named_at w b (place_low s b v sound at)).0

  named : slice_get (names_of w.bridges) b ≡ Some name
  named = (named_at w b (place_low s b v sound at)).1

  abbrev ports : List ℕ
  ports = but_for p (receiving_ports a.isid (attached_at w b))

  abbrev new : List Out
  new = outs_at (Some name) (each_with f ports)

  left_is : t.outs ≡ new
  left_is = stepped_outs x s b v at ∙ (λ i. none i ++ outs_at (named i) (leaves i))

  right : AllByRecursion (IsRight w b p f) t.outs
  right =
      subst (AllByRecursion (IsRight w b p f)) (sym left_is)
      (each_out (λ q. IsReceivingTo (attached_at w b) q a.isid × (q ≢ p)) (IsRight w b p f) name f ports here (but_for_all (λ q. IsReceivingTo (attached_at w b) q a.isid) p (receiving_ports a.isid (attached_at w b)) (ports_receive a.isid (attached_at w b))))
    where
      here : (q : ℕ) → IsReceivingTo (attached_at w b) q a.isid × (q ≢ p) → IsRight w b p f (record { bridge = name; port = q; frame = f })
      here q both = record {
        place = b;
        named = place_named w b name sound.distinct.bridges named;
        reach = record { isid = a.isid; here = is.here; there = both.0; walk = []; joined = refl; other = λ same. both.1 same.1 };
        frame = refl;
      }

  once : (c q : ℕ) (n : List ℕ) → slice_get (names_of w.bridges) c ≡ Some n → served c ≡ true → IsReceivingAt w c q a.isid → ((c ≡ b) × (q ≡ p) → ⊥) → count_by (left_at n q) t.outs ≡ 1
  once c q n at_n e receives out =
      let same : c ≡ b = eqb-true c b e in
      let its : n ≡ name = one_name w b n name (ap (slice_get (names_of w.bridges)) (sym same) ∙ at_n) named in
      let here : IsReceivingTo (attached_at w b) q a.isid = subst (λ (i : ℕ). IsReceivingTo (attached_at w i) q a.isid) same receives in
      (λ i. count_by (left_at (its i) q) (left_is i))
      ∙ (counted_here name q f ports ∙ other_leaves_once a.isid (attached_at w b) p q (λ port. out (same, port)) here)

  never : (c q : ℕ) (n : List ℕ) → slice_get (names_of w.bridges) c ≡ Some n → served c ≡ false → count_by (left_at n q) t.outs ≡ 0
  never c q n at_n e =
      let apart : c ≢ b = λ same. false≢true (sym e ∙ eq-eqb c b same) in
      ap (count_by (left_at n q)) left_is
      ∙ counted_elsewhere n name q f ports (λ same. names_apart w c b n name sound.distinct.bridges at_n named apart (sym same))

  -- ---- the bridges

  views : (i : ℕ) (y : BridgeView) → slice_get t.views i ≡ Some y → (u : BridgeView) × (slice_get s.views i ≡ Some u) × HasLearned u y
  views i y at_i = by (cases_eq i b)
    where
      step_is : IsOneStep s t b x v
      step_is = stepped_once x s b v at

      by : (i ≡ b) ⊎ (i ≢ b) → (u : BridgeView) × (slice_get s.views i ≡ Some u) × HasLearned u y
      by (inl same) =
          let y_is : y ≡ after_entry p f v = some-is y (after_entry p f v) (sym at_i ∙ (ap (slice_get t.views) same ∙ step_is.after)) in
          (v, ap (slice_get s.views) same ∙ at, subst (HasLearned v) (sym y_is) (entry_learns v p f))
      by (inr apart) = (y, sym (step_is.others i apart) ∙ at_i, refl)

  -- the frame has entered
  pub sets_out : IsUnderWay s j served t t.outs
  sets_out = record {
    world = ap (λ (y : State). y.world) (stepped_rest x s b);
    views = views;
    lanes = lanes;
    first = itself;
    order = λ n e y at_n lead far. absurd (is.tree.root n e y at_n lead (eqb-true (far_end e y).bridge b far));
    joined = λ c e. ([], sym (eqb-true c b e));
    right = right;
    once = once;
    none = never;
  }
