-- A group frame under way is delivered once more: a bridge serves it, and it goes on from there.
use Rattle.std.proofs.Common.{◌≡◌, ◌≢◌, ◌+◌, ◌<◌, ◌≤◌, ℕ, Bool, true, false, not, ◌&&◌, ◌||◌, eqb, eqb-true, eq-eqb, inl, inr, ◌⊎◌, List, [], ◌∷◌, ◌++◌, length, append_assoc, refl, sym, ap, ◌∙◌, subst, Option, Some, slice_get, arith}
use Rattle.std.specs.Prelude.{if◌then◌else◌, count_by, ◌==◌}
use Rattle.std.specs.Option.{option_map_or}
use Rattle.std.specs.List.{AllByRecursion}
use Rattle.std.proofs.lemmas.Bool.{false≢true, cases_eq}
use Rattle.spb_types.specs.Bytes.{u24_at}
use Rattle.spb_types.specs.Ports.{has}
use Rattle.spb_types.specs.Tables.{unicast_in, group_in}
use Rattle.spb_types.specs.declared.limits.TheConstants.{MOST_PORTS}
use Rattle.spb_types.specs.declared.link.Dir.{Dir}
use Rattle.spb_types.specs.declared.link.Dir.TheVariants.{Ab, Ba}
use Rattle.spb_types.specs.declared.ports.PortSet.{PortSet}
use Rattle.spb_types.specs.declared.service.Attachment.{Attachment}
use Rattle.spb_types.specs.declared.tables.Tables.{Tables}
use Rattle.link_model.specs.Lane.{Frame}
use Rattle.link_model.specs.declared.lanes.LaneId.{LaneId}
use Rattle.customer_learning.specs.Known.{same_mac}
use Rattle.forwarding.specs.Laws.{IsAttachedTo}
use Rattle.forwarding.specs.Ports.{but_for, is_in, ports_in, receiving_ports}
use Rattle.forwarding.specs.Receiving.{IsReceivingTo}
use Rattle.forwarding.specs.Tenant.{each_with, is_group, to_of}
use Rattle.bridge_api.specs.View.{BridgeView, has_carrier_at, with_drops}
use Rattle.bridge_api.specs.Config.{ArePairwise}
use Rattle.bridge_api.specs.Tables.{own_tables}
use Rattle.bridge_api.specs.Customers.{with_learned}
use Rattle.bridge_api.specs.Parsing.{parsed}
use Rattle.bridge_api.specs.Parsing as parsing
use Rattle.bridge_api.specs.Step.{frame, step, sent, left_by, frames_at}
use Rattle.network_model.specs.declared.answer.Out.{Out}
use Rattle.spb_world.specs.declared.declaration.DeclaredLink.{DeclaredLink}
use Rattle.spb_world.specs.declared.declaration.LinkEnd.{LinkEnd}
use Rattle.spb_world.specs.World.{World, IsLink, names_of, things_of, ports_at, attached_at, wired_tables}
use Rattle.network_model.specs.State.{State, links_of, lane_at}
use Rattle.spb_world.specs.Links.{is_live, near_end, far_end, lane_out}
use Rattle.network_model.specs.Events.{outs_at, delivered}
use Rattle.network_model.specs.DeliveryLaws.{pushed_all, IsDelivery}
use Rattle.network_model.specs.Sound.{IsSoundState}
use Rattle.network_model.specs.Truth.{AreLinked, IsWalk}
use Rattle.network_model.specs.Once.{IsReceivingAt, IsRight, left_at}
use Rattle.network_model.specs.UnderWay.{Journey, carrier_of, leads_over, comes_over, IsTree, IsUnderWay, HasLearned}
use Rattle.network_model.proofs.ApartOuts.{place_named}
use Rattle.network_model.proofs.DeliveryLemmas.{frames_are_delivered}
use Rattle.network_model.proofs.FitsLemmas.{far_is_port, link_there}
use Rattle.network_model.proofs.SoundLane.{some-is}
use Rattle.spb_world.proofs.SoundLaneIds.{turned, near-turned, lane_of_end}
use Rattle.network_model.proofs.Spoken.{place_low}
use Rattle.spb_world.proofs.WorldLemmas.{ports_at-le}
use Rattle.network_model.proofs.OnceLists.{at_each_other, count-append, leaves_once, no_ports_of, ports_receive}
use Rattle.network_model.proofs.OnceBridge.{leaves_at_each, receiving_learns, relays_on}
use Rattle.network_model.proofs.OnceOuts.{counted_elsewhere, counted_here, each_out, in_both, named_at, names_apart, one_name}

-- ---- what a journey rests on

-- In the network where it began each bridge has the tables that are wired for it, and the rows make a tree. The frame
-- of the backbone is taken for what it carries, goes to the group address of the I-SID, which is no bridge's, and each
-- port of the I-SID is in its VID; at one of them the frame entered.
pub record IsJourney (start : State) (j : Journey) : Type 0 where
  pub tables : (i : ℕ) (u : BridgeView) → slice_get start.views i ≡ Some u → own_tables u ≡ wired_tables start.world i
  pub tree : IsTree start.world j
  pub taken : parsed (carrier_of j) ≡ parsing.customer j.to j.from j.vid j.isid j.frame
  pub isid : u24_at j.to.bytes 3 ≡ j.isid.value
  pub group : is_group j.to ≡ true
  pub customers : is_group (to_of j.frame) ≡ true
  pub away : (i : ℕ) (u : BridgeView) → slice_get start.views i ≡ Some u → same_mac j.to u.id.system.mac ≡ false
  pub vids : (i : ℕ) → AllByRecursion (λ a. is_in j.isid a ≡ true → a.vid.value ≡ j.vid.value) (attached_at start.world i)
  pub here : IsAttachedTo (attached_at start.world j.bridge) j.port j.isid

-- ---- small steps

pub tables_stay : (v u : BridgeView) → HasLearned u v → own_tables v ≡ own_tables u
unfolding own_tables
tables_stay v u same = ap own_tables same

pub walk_on : (links : List DeclaredLink) (i : ℕ) (ks : List ℕ) (m c : ℕ) → IsWalk links i ks m → AreLinked links m c → IsWalk links i (ks ++ c ∷ []) c
walk_on links i [] m c walk next = (subst (λ (n : ℕ). AreLinked links n c) (sym walk) next, refl)
walk_on links i (k ∷ ks) m c walk next = (walk.0, walk_on links k ks m c walk.1 next)

pub parts : (a b c : Bool) → (a && (b && not c)) ≡ true → (a ≡ true) × (b ≡ true) × (c ≡ false)
parts true true false e = (refl, refl, refl)
parts true true true e = absurd (false≢true e)
parts true false c e = absurd (false≢true e)
parts false b c e = absurd (false≢true e)

pub whole : (a b c : Bool) → (a ≡ true → b ≡ true) → (a ≡ true → c ≡ false) → (a && (b && not c)) ≡ a
whole true b c first second = λ i. first refl i && not (second refl i)
whole false b c first second = refl

pub gone : (a b c : Bool) → (a ≡ true → b ≡ false) → (a && (b && c)) ≡ false
gone true b c first = λ i. first refl i && c
gone false b c first = refl

pub stops : (a b c : Bool) → (a ≡ true → c ≡ true) → (a && (b && not c)) ≡ false
stops true true c second = ap not (second refl)
stops true false c second = refl
stops false b c second = refl

-- a frame is on its way, and no other
one_frame : (b : Bool) (f bytes : Frame) (behind : List Frame) → (if b then f ∷ [] else []) ≡ bytes ∷ behind → (b ≡ true) × (bytes ≡ f) × (behind ≡ [])
one_frame true f bytes behind e = (refl, cc, cc)
one_frame false f bytes behind e = absurd cc

is_either : (b c : Bool) → b ≡ true → (b || c) ≡ true
is_either true c e = refl
is_either false c e = absurd (false≢true e)

is_second : (b c : Bool) → c ≡ true → (b || c) ≡ true
is_second true c e = refl
is_second false c e = e

is_first : (b c : Bool) → c ≡ false → (b || c) ≡ b
is_first true c e = refl
is_first false c e = e

was_not : (b c : Bool) → (b || c) ≡ false → (b ≡ false) × (c ≡ false)
was_not true c e = absurd (false≢true (sym e))
was_not false c e = (refl, e)

pub not_same : (x y : ℕ) → x ≢ y → (x == y) ≡ false
not_same x y apart = by (eqb x y) refl
  where
    by : (b : Bool) → eqb x y ≡ b → eqb x y ≡ false
    by true e = absurd (apart (eqb-true x y e))
    by false e = e

not_true : (b : Bool) → (b ≡ true → ⊥) → b ≡ false
not_true true never = absurd (never refl)
not_true false never = refl

second_not : (live has : Bool) → (live && has) ≡ false → live ≡ true → has ≡ false
second_not true has e live = e
second_not false has e live = absurd (false≢true live)

pub sent_lane : (live has : Bool) (f : Frame) → pushed_all [] (if live then (if has then f ∷ [] else []) else []) ≡ (if live && has then f ∷ [] else [])
sent_lane true true f = refl
sent_lane true false f = refl
sent_lane false true f = refl
sent_lane false false f = refl

same_dir : (d e : Dir) → (d ≡ e) ⊎ (d ≢ e)
same_dir Ab Ab = inl refl
same_dir Ab Ba = inr (λ e. absurd cc)
same_dir Ba Ab = inr (λ e. absurd cc)
same_dir Ba Ba = inl refl

pub far-turned : (dir : Dir) (l : DeclaredLink) → far_end (turned dir) l ≡ near_end dir l
far-turned Ab l = refl
far-turned Ba l = refl

pub ends_apart : (d : Dir) (l : DeclaredLink) → l.a.bridge ≢ l.b.bridge → (near_end d l).bridge ≢ (far_end d l).bridge
ends_apart Ab l apart = apart
ends_apart Ba l apart = λ e. apart (sym e)

pub near_low : (w : World) (d : Dir) (l : DeclaredLink) → IsLink w.bridges l → 1 ≤ (near_end d l).port
near_low w Ab l is = is.a.port_low
near_low w Ba l is = is.b.port_low

pub near_high : (w : World) (d : Dir) (l : DeclaredLink) → IsLink w.bridges l → (near_end d l).port ≤ ports_at w.bridges (near_end d l).bridge
near_high w Ab l is = is.a.port_high
near_high w Ba l is = is.b.port_high

-- the bridge at a place has served it too
abbrev pub with_served : (ℕ → Bool) → ℕ → ℕ → Bool
with_served served c y = served y || (y == c)

-- ---- one delivery

module _ (start : State) (j : Journey) (is : IsJourney start j) (served : ℕ → Bool) (s : State) (before : List Out) (under : IsUnderWay start j served s (before ++ s.outs)) (sound : IsSoundState s) (k : ℕ) (dir : Dir) (bytes : Frame) (behind : List Frame) (t : State) (d : IsDelivery s t k dir bytes behind) where
  abbrev w : World
  w = start.world

  abbrev l : DeclaredLink
  l = d.link

  abbrev c : ℕ
  c = (far_end dir d.link).bridge

  abbrev m : ℕ
  m = (near_end dir d.link).bridge

  abbrev q : ℕ
  q = (far_end dir d.link).port

  abbrev F : Frame
  F = carrier_of j

  links_stay : links_of s ≡ links_of start
  links_stay = ap (λ (x : World). things_of x.links) under.world

  there : slice_get (links_of start) k ≡ Some l
  there = ap (λ (ls : List DeclaredLink). slice_get ls k) (sym links_stay) ∙ d.there

  is_link : IsLink w.bridges l
  is_link = subst (λ (x : World). IsLink x.bridges l) under.world (link_there s k l sound.world d.there)

  came : (comes_over w j served dir l ≡ true) × (bytes ≡ F) × (behind ≡ [])
  came = one_frame (comes_over w j served dir l) F bytes behind (sym (under.lanes k dir l there) ∙ d.front)

  facts : (leads_over w j dir l ≡ true) × (served m ≡ true) × (served c ≡ false)
  facts = parts (leads_over w j dir l) (served m) (served c) came.0

  abbrev served2 : ℕ → Bool
  served2 = with_served served c

  now_served : served2 c ≡ true
  now_served = is_second (served c) (c == c) (eq-eqb c c refl)

  still : (y : ℕ) → served y ≡ true → served2 y ≡ true
  still y e = is_either (served y) (y == c) e

  other : (y : ℕ) → y ≢ c → served2 y ≡ served y
  other y away = is_first (served y) (y == c) (not_same y c away)

  -- the bridge
  abbrev v : BridgeView
  v = d.view

  at : slice_get s.views c ≡ Some v
  at = d.heard.before

  was : (u : BridgeView) × (slice_get start.views c ≡ Some u) × HasLearned u v
  was = under.views c v at

  tables_are : own_tables v ≡ wired_tables w c
  tables_are = tables_stay v was.0 was.2 ∙ is.tables c was.0 was.1

  carries : has_carrier_at v q ≡ true
  carries =
      sound.carriers c v q at (far_is_port s k l dir sound.world sound.fits d.there v at)
      ∙ (ap (λ (o : Option LaneId). option_map_or (λ lane. is_live (links_of s) lane.link) o false) back
      ∙ (ap (λ (o : Option DeclaredLink). option_map_or (λ x. x.live) o false) d.there ∙ d.live))
    where
      back : lane_out (links_of s) c q ≡ Some (record { link = k; dir = turned dir })
      back =
          subst (λ (e : LinkEnd). lane_out (links_of s) e.bridge e.port ≡ Some (record { link = k; dir = turned dir })) (near-turned dir l)
          (lane_of_end (links_of s) k l (turned dir) sound.world.links_apart (link_there s k l sound.world d.there).apart d.there)

  taken : parsed bytes ≡ parsing.customer j.to j.from j.vid j.isid j.frame
  taken = ap parsed came.1 ∙ is.taken

  attached : v.attached ≡ attached_at w c
  attached = sound.attached c v at ∙ ap (λ (x : World). attached_at x c) under.world

  way : unicast_in (own_tables v).unicast j.vid j.from ≡ Some q
  way = ap (λ (x : Tables). unicast_in x.unicast j.vid j.from) tables_are ∙ is.tree.takes k dir l there facts.0

  away : same_mac j.to v.id.system.mac ≡ false
  away = ap (λ (x : BridgeView). same_mac j.to x.id.system.mac) was.2 ∙ is.away c was.0 was.1

  one_vid : AllByRecursion (λ a. is_in j.isid a ≡ true → a.vid.value ≡ j.vid.value) v.attached
  one_vid = subst (AllByRecursion (λ a. is_in j.isid a ≡ true → a.vid.value ≡ j.vid.value)) (sym attached) (is.vids c)

  abbrev row : PortSet
  row = group_in (wired_tables w c).group j.vid j.to

  sends : sent (frame q bytes) v ≡ each_with F (but_for q (ports_in row))
  sends =
      relays_on v q bytes j.to j.from j.vid j.isid j.frame carries taken way is.isid away is.group is.customers one_vid
      ∙ (λ i. each_with (came.1 i) (but_for q (ports_in (group_in (tables_are i).group j.vid j.to))))

  leaves : left_by (frame q bytes) v ≡ each_with j.frame (receiving_ports j.isid (attached_at w c))
  leaves =
      leaves_at_each v q bytes j.to j.from j.vid j.isid j.frame carries taken way is.isid away is.group is.customers one_vid (no_ports_of j.isid v.attached)
      ∙ ap (λ (as_attached : List Attachment). each_with j.frame (receiving_ports j.isid as_attached)) attached

  learns : HasLearned v (step (frame q bytes) v)
  learns = receiving_learns v q bytes j.to j.from j.vid j.isid j.frame carries taken

  -- it doesn't go back
  not_back : has row q ≡ false
  not_back = second_not l.live (has row q) not_sent d.live
    where
      leads_back : leads_over w j (turned dir) l ≡ (l.live && has row q)
      leads_back = ap (λ (e : LinkEnd). l.live && has (group_in (wired_tables w e.bridge).group j.vid j.to) e.port) (near-turned dir l)

      returns : (l.live && has row q) ≡ true → ⊥
      returns e =
          let near : served (near_end (turned dir) l).bridge ≡ true = under.order k (turned dir) l there (leads_back ∙ e) (ap (λ (x : LinkEnd). served x.bridge) (far-turned dir l) ∙ facts.1) in
          false≢true (sym facts.2 ∙ (ap (λ (x : LinkEnd). served x.bridge) (sym (near-turned dir l)) ∙ near))

      not_sent : (l.live && has row q) ≡ false
      not_sent = not_true (l.live && has row q) returns

  -- ---- the lanes

  one_link : (n : ℕ) (e : Dir) (x : DeclaredLink) → slice_get (links_of start) n ≡ Some x → (far_end e x).bridge ≡ c → leads_over w j e x ≡ true → (n ≡ k) × (e ≡ dir)
  one_link n e x at_n far leads = is.tree.one n k e dir x l at_n there leads facts.0 far

  lanes_here : (n : ℕ) (e : Dir) (x : DeclaredLink) → slice_get (links_of start) n ≡ Some x → (near_end e x).bridge ≡ c → lane_at t n e ≡ (if comes_over w j served2 e x then F ∷ [] else [])
  lanes_here n e x at_n near =
      d.answers n e x at_s near
      ∙ ((λ i. pushed_all (empty i) (if x.live then frames_of i else []))
      ∙ (sent_lane x.live (has row (near_end e x).port) F
      ∙ ap (λ (b : Bool). if b then F ∷ [] else []) (leads ∙ sym comes)))
    where
      at_s : slice_get (links_of s) n ≡ Some x
      at_s = ap (λ (ls : List DeclaredLink). slice_get ls n) links_stay ∙ at_n

      link_x : IsLink w.bridges x
      link_x = subst (λ (y : World). IsLink y.bridges x) under.world (link_there s n x sound.world at_s)

      empty : lane_at s n e ≡ []
      empty =
          under.lanes n e x at_n
          ∙ ap (λ (b : Bool). if b then F ∷ [] else []) (gone (leads_over w j e x) (served (near_end e x).bridge) (not (served (far_end e x).bridge)) (λ lead. ap served near ∙ facts.2))

      low : (near_end e x).port ≤ MOST_PORTS
      low = omega (arith, near_high w e x link_x, ports_at-le w.bridges (near_end e x).bridge (subst (λ (y : World). AllByRecursion (λ b. b.ports ≤ 32) (things_of y.bridges)) under.world sound.world.ports))

      frames_of : frames_at (near_end e x).port (sent (frame q bytes) v) ≡ (if has row (near_end e x).port then F ∷ [] else [])
      frames_of = ap (frames_at (near_end e x).port) sends ∙ at_each_other F row q (near_end e x).port (near_low w e x link_x) low not_back

      leads : (x.live && has row (near_end e x).port) ≡ leads_over w j e x
      leads = ap (λ (i : ℕ). x.live && has (group_in (wired_tables w i).group j.vid j.to) (near_end e x).port) (sym near)

      away_from : (far_end e x).bridge ≢ c
      away_from same = ends_apart e x link_x.apart (near ∙ sym same)

      unserved : leads_over w j e x ≡ true → served2 (far_end e x).bridge ≡ false
      unserved lead = other (far_end e x).bridge away_from ∙ not_true (served (far_end e x).bridge) (λ far. false≢true (sym facts.2 ∙ (ap served (sym near) ∙ under.order n e x at_n lead far)))

      comes : comes_over w j served2 e x ≡ leads_over w j e x
      comes = whole (leads_over w j e x) (served2 (near_end e x).bridge) (served2 (far_end e x).bridge) (λ lead. ap served2 near ∙ now_served) unserved

  -- a lane that leads from another bridge, and isn't the one that was taken from
  lanes_beside : (n : ℕ) (e : Dir) (x : DeclaredLink) → slice_get (links_of start) n ≡ Some x → (near_end e x).bridge ≢ c → ((n ≡ k) × (e ≡ dir) → ⊥) → lane_at t n e ≡ (if comes_over w j served2 e x then F ∷ [] else [])
  lanes_beside n e x at_n near apart =
      d.others n e x (ap (λ (ls : List DeclaredLink). slice_get ls n) links_stay ∙ at_n) near apart
      ∙ (under.lanes n e x at_n
      ∙ ap (λ (b : Bool). if b then F ∷ [] else []) (by (eqb (far_end e x).bridge c) refl))
    where
      by : (b : Bool) → eqb (far_end e x).bridge c ≡ b → comes_over w j served e x ≡ comes_over w j served2 e x
      by true far =
          let same : (far_end e x).bridge ≡ c = eqb-true (far_end e x).bridge c far in
          gone (leads_over w j e x) (served (near_end e x).bridge) (not (served (far_end e x).bridge)) (λ lead. absurd (apart (one_link n e x at_n same lead)))
          ∙ sym (gone (leads_over w j e x) (served2 (near_end e x).bridge) (not (served2 (far_end e x).bridge)) (λ lead. absurd (apart (one_link n e x at_n same lead))))
      by false far =
          λ i. leads_over w j e x && (sym (other (near_end e x).bridge near) i && not (sym (other (far_end e x).bridge (λ same. false≢true (sym far ∙ eq-eqb (far_end e x).bridge c same))) i))

  -- the lane that was taken from
  lane_taken : lane_at t k dir ≡ (if comes_over w j served2 dir l then F ∷ [] else [])
  lane_taken =
      d.taken
      ∙ (came.2
      ∙ ap (λ (b : Bool). if b then F ∷ [] else []) (sym (stops (leads_over w j dir l) (served2 m) (served2 c) (λ lead. now_served))))

  lanes_from : (n : ℕ) (e : Dir) (x : DeclaredLink) → slice_get (links_of start) n ≡ Some x → (near_end e x).bridge ≢ c → (n ≡ k) ⊎ (n ≢ k) → (e ≡ dir) ⊎ (e ≢ dir) → lane_at t n e ≡ (if comes_over w j served2 e x then F ∷ [] else [])
  lanes_from n e x at_n near (inl n_is) (inl e_is) =
      let x_is : x ≡ l = some-is x l (sym at_n ∙ (ap (slice_get (links_of start)) n_is ∙ there)) in
      (λ i. lane_at t (n_is i) (e_is i)) ∙ (lane_taken ∙ (λ i. if comes_over w j served2 (sym e_is i) (sym x_is i) then F ∷ [] else []))
  lanes_from n e x at_n near (inl n_is) (inr e_not) = lanes_beside n e x at_n near (λ same. e_not same.1)
  lanes_from n e x at_n near (inr n_not) e_or = lanes_beside n e x at_n near (λ same. n_not same.0)

  lanes2 : (n : ℕ) (e : Dir) (x : DeclaredLink) → slice_get (links_of start) n ≡ Some x → lane_at t n e ≡ (if comes_over w j served2 e x then F ∷ [] else [])
  lanes2 n e x at_n = by (eqb (near_end e x).bridge c) refl
    where
      by : (b : Bool) → eqb (near_end e x).bridge c ≡ b → lane_at t n e ≡ (if comes_over w j served2 e x then F ∷ [] else [])
      by true near = lanes_here n e x at_n (eqb-true (near_end e x).bridge c near)
      by false near = lanes_from n e x at_n (λ same. false≢true (sym near ∙ eq-eqb (near_end e x).bridge c same)) (cases_eq n k) (same_dir e dir)

  -- ---- the order

  order2 : (n : ℕ) (e : Dir) (x : DeclaredLink) → slice_get (links_of start) n ≡ Some x → leads_over w j e x ≡ true → served2 (far_end e x).bridge ≡ true → served2 (near_end e x).bridge ≡ true
  order2 n e x at_n lead far = by (cases_eq (far_end e x).bridge c)
    where
      by : ((far_end e x).bridge ≡ c) ⊎ ((far_end e x).bridge ≢ c) → served2 (near_end e x).bridge ≡ true
      by (inl same) =
          let one = one_link n e x at_n same lead in
          let x_is : x ≡ l = some-is x l (sym at_n ∙ (ap (slice_get (links_of start)) one.0 ∙ there)) in
          still (near_end e x).bridge ((λ i. served (near_end (one.1 i) (x_is i)).bridge) ∙ facts.1)
      by (inr apart) = still (near_end e x).bridge (under.order n e x at_n lead (sym (other (far_end e x).bridge apart) ∙ far))

  joined2 : (y : ℕ) → served2 y ≡ true → (walk : List ℕ) × IsWalk (links_of start) j.bridge walk y
  joined2 y e = by (cases_eq y c)
    where
      by : (y ≡ c) ⊎ (y ≢ c) → (walk : List ℕ) × IsWalk (links_of start) j.bridge walk y
      by (inl same) =
          let before : (walk : List ℕ) × IsWalk (links_of start) j.bridge walk m = under.joined m facts.1 in
          subst (λ (n : ℕ). (walk : List ℕ) × IsWalk (links_of start) j.bridge walk n) (sym same)
          (before.0 ++ c ∷ [], walk_on (links_of start) j.bridge before.0 m c before.1 (record { place = k; dir = dir; link = l; there = there; live = d.live; near = refl; far = refl }))
      by (inr apart) = under.joined y (sym (other y apart) ∙ e)

  -- ---- what left

  low : c < length w.bridges
  low = subst (λ (x : World). c < length x.bridges) under.world (place_low s c v sound at)

  abbrev name : List ℕ
  name = (named_at w c low).0

  named : slice_get (names_of w.bridges) c ≡ Some name
  named = (named_at w c low).1

  apart_names : ArePairwise (λ x y. x ≢ y) (names_of w.bridges)
  apart_names = subst (λ (x : World). ArePairwise (λ x y. x ≢ y) (names_of x.bridges)) under.world sound.distinct.bridges

  abbrev new : List Out
  new = outs_at (Some name) (each_with j.frame (receiving_ports j.isid (attached_at w c)))

  left_is : before ++ t.outs ≡ (before ++ s.outs) ++ new
  left_is =
      ap (λ (xs : List Out). before ++ xs) (d.left
      ∙ (λ i. s.outs ++ outs_at ((ap (λ (x : World). slice_get (names_of x.bridges) c) under.world ∙ named) i) (leaves i)))
      ∙ sym (append_assoc before s.outs new)

  not_first : c ≢ j.bridge
  not_first same = false≢true (sym facts.2 ∙ (ap served same ∙ under.first))

  right2 : AllByRecursion (IsRight w j.bridge j.port j.frame) (before ++ t.outs)
  right2 =
      subst (AllByRecursion (IsRight w j.bridge j.port j.frame)) (sym left_is)
      (in_both (IsRight w j.bridge j.port j.frame) (before ++ s.outs) new under.right
      (each_out (λ p. IsReceivingTo (attached_at w c) p j.isid) (IsRight w j.bridge j.port j.frame) name j.frame (receiving_ports j.isid (attached_at w c)) right (ports_receive j.isid (attached_at w c))))
    where
      walk : (walk : List ℕ) × IsWalk (links_of start) j.bridge walk c
      walk = joined2 c now_served

      right : (p : ℕ) → IsReceivingTo (attached_at w c) p j.isid → IsRight w j.bridge j.port j.frame (record { bridge = name; port = p; frame = j.frame })
      right p attached_p = record {
        place = c;
        named = place_named w c name apart_names named;
        reach = record { isid = j.isid; here = is.here; there = attached_p; walk = walk.0; joined = walk.1; other = λ both. not_first both.0 };
        frame = refl;
      }

  count_is : (n : List ℕ) (p : ℕ) → count_by (left_at n p) (before ++ t.outs) ≡ count_by (left_at n p) (before ++ s.outs) + count_by (left_at n p) new
  count_is n p = ap (count_by (left_at n p)) left_is ∙ count-append (left_at n p) (before ++ s.outs) new

  elsewhere : (y p : ℕ) (n : List ℕ) → slice_get (names_of w.bridges) y ≡ Some n → y ≢ c → count_by (left_at n p) (before ++ t.outs) ≡ count_by (left_at n p) (before ++ s.outs)
  elsewhere y p n at_n apart =
      count_is n p
      ∙ (ap (λ (i : ℕ). count_by (left_at n p) (before ++ s.outs) + i) (counted_elsewhere n name p j.frame (receiving_ports j.isid (attached_at w c)) (λ same. names_apart w y c n name apart_names at_n named apart (sym same)))
      ∙ omega arith)

  once2 : (y p : ℕ) (n : List ℕ) → slice_get (names_of w.bridges) y ≡ Some n → served2 y ≡ true → IsReceivingAt w y p j.isid → ((y ≡ j.bridge) × (p ≡ j.port) → ⊥) → count_by (left_at n p) (before ++ t.outs) ≡ 1
  once2 y p n at_n e receives out = by (cases_eq y c)
    where
      by : (y ≡ c) ⊎ (y ≢ c) → count_by (left_at n p) (before ++ t.outs) ≡ 1
      by (inl same) =
          let at_c : slice_get (names_of w.bridges) c ≡ Some n = ap (slice_get (names_of w.bridges)) (sym same) ∙ at_n in
          let its : n ≡ name = one_name w c n name at_c named in
          let here : IsReceivingTo (attached_at w c) p j.isid = subst (λ (i : ℕ). IsReceivingTo (attached_at w i) p j.isid) same receives in
          let fresh : count_by (left_at n p) new ≡ 1 =
          ap (λ (x : List ℕ). count_by (left_at x p) new) its
          ∙ (counted_here name p j.frame (receiving_ports j.isid (attached_at w c)) ∙ leaves_once j.isid (attached_at w c) p here) in
          count_is n p ∙ (λ i. under.none c p n at_c facts.2 i + fresh i)
      by (inr apart) = elsewhere y p n at_n apart ∙ under.once y p n at_n (sym (other y apart) ∙ e) receives out

  none2 : (y p : ℕ) (n : List ℕ) → slice_get (names_of w.bridges) y ≡ Some n → served2 y ≡ false → count_by (left_at n p) (before ++ t.outs) ≡ 0
  none2 y p n at_n e =
      let no = was_not (served y) (y == c) e in
      elsewhere y p n at_n (λ same. false≢true (sym no.1 ∙ eq-eqb y c same)) ∙ under.none y p n at_n no.0

  -- ---- the bridges

  views2 : (i : ℕ) (x : BridgeView) → slice_get t.views i ≡ Some x → (u : BridgeView) × (slice_get start.views i ≡ Some u) × HasLearned u x
  views2 i x at_i = by (cases_eq i c)
    where
      by : (i ≡ c) ⊎ (i ≢ c) → (u : BridgeView) × (slice_get start.views i ≡ Some u) × HasLearned u x
      by (inl same) =
          let x_is : x ≡ step (frame q bytes) v = some-is x (step (frame q bytes) v) (sym at_i ∙ (ap (slice_get t.views) same ∙ d.heard.after)) in
          let heard : BridgeView = step (frame q bytes) v in
          let next : HasLearned was.0 heard = learns ∙ ap (λ (y : BridgeView). with_drops heard.drops (with_learned heard.learned y)) was.2 in
          (was.0, ap (slice_get start.views) same ∙ was.1, subst (HasLearned was.0) (sym x_is) next)
      by (inr apart) = under.views i x (sym (d.heard.others i apart) ∙ at_i)

  pub served_next : IsUnderWay start j served2 t (before ++ t.outs)
  served_next = record {
    world = ap (λ (x : State). x.world) d.rest ∙ under.world;
    views = views2;
    lanes = lanes2;
    first = still j.bridge under.first;
    order = order2;
    joined = joined2;
    right = right2;
    once = once2;
    none = none2;
  }

-- the frame that is delivered is the one under way, and it goes on
pub goes_on : (start : State) (j : Journey) → IsJourney start j → (s : State) (before : List Out) (served : ℕ → Bool) → IsUnderWay start j served s (before ++ s.outs) → IsSoundState s → (k : ℕ) (dir : Dir) (bytes : Frame) (behind : List Frame) → lane_at s k dir ≡ bytes ∷ behind
    → (later : ℕ → Bool) × IsUnderWay start j later (delivered s k dir) (before ++ (delivered s k dir).outs)
goes_on start j is s before served under sound k dir bytes behind front =
    let t : State = delivered s k dir in
    let d : IsDelivery s t k dir bytes behind = frames_are_delivered s k dir bytes behind sound front in
    (with_served served (far_end dir d.link).bridge, served_next start j is served s before under sound k dir bytes behind t d)
