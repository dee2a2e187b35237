-- Both ends of a link that is up, in one round in which nothing is lost: each hears the other's hello, and goes on by the
-- table of RFC 5303, 3.2.
use Rattle.std.proofs.Common.{◌≡◌, ◌≢◌, ℕ, zero, suc, ◌+◌, ◌-◌, ◌≤◌, Bool, true, false, List, [], ◌∷◌, refl, sym, ap, ◌∙◌, subst, Option, Some, None, slice_get, cond, arith}
use Rattle.std.specs.Prelude.{Contains, count_by, is_some, if◌then◌else◌, ◌==◌, ◌&&◌}
use Rattle.std.specs.Option.{option_map, option_map_or, option_and_then}
use Rattle.std.proofs.lemmas.List.Sums.{sum_by-cons}
use Rattle.std.proofs.lemmas.Option.{same_Some}
use Rattle.link_model.specs.Lanes.{lane_of}
use Rattle.link_model.specs.declared.lanes.LaneId.{LaneId}
use Rattle.spb_types.specs.declared.link.Dir.{Dir}
use Rattle.spb_types.specs.declared.link.Dir.TheVariants.{Ab, Ba}
use Rattle.isis_pdu.specs.Pdu.{HelloValue}
use Rattle.spb_tlvs.specs.declared.three_way.ThreeWay.{ThreeWay}
use Rattle.spb_tlvs.specs.RoundTrip.{IsNamed}
use Rattle.adjacency.specs.declared.port.Adjacency.{Adjacency}
use Rattle.adjacency.specs.declared.state.AdjState.{AdjState}
use Rattle.adjacency.specs.declared.state.AdjState.TheVariants.{Down, Initializing, Up}
use Rattle.adjacency.specs.Hearing.{End}
use Rattle.adjacency.specs.States.{state_number, state_numbered, next_state}
use Rattle.adjacency.specs.Adjacency.{neighbour_of, is_up, is_down, down, after_second, after_hello}
use Rattle.bridge_api.specs.declared.port.BridgePort.{BridgePort}
use Rattle.bridge_api.specs.View.{BridgeView, IsPort, port_at, adjacency_at, neighbour_at, is_up_in, is_up_at, has_carrier_in, has_carrier_at}
use Rattle.bridge_api.specs.Parsing.{Parsed, parsed, hello_in, is_hello}
use Rattle.bridge_api.specs.Parsing as parsing
use Rattle.bridge_api.specs.Step.{second, step, sent, frames_at}
use Rattle.bridge_api.specs.Laws.{IsHelloOf, IsHelloHeard}
use Rattle.bridge_api.proofs.Places.{port_found}
use Rattle.bridge_rounds.specs.Hellos.{IsHelloTowards}
use Rattle.bridge_rounds.specs.Inbox.{Inbox, after_round}
use Rattle.bridge_rounds.proofs.HelloMoves.{one_hello_moves}
use Rattle.bridge_rounds.proofs.Towards.{towards_kept}
use Rattle.spb_world.specs.declared.declaration.DeclaredLink.{DeclaredLink}
use Rattle.spb_world.specs.Links.{near_end, far_end, lane_out, is_live}
use Rattle.spb_world.proofs.SoundLaneIds.{turned, lane_of_end}
use Rattle.network_model.specs.State.{State, links_of}
use Rattle.network_model.specs.Events.{all_ticked}
use Rattle.network_model.specs.Sound.{IsSoundState, IsHelloTo, LinkAgrees, end_at}
use Rattle.network_model.proofs.BridgeLaws.{one_hello, hellos_are_heard}
use Rattle.network_model.proofs.CountedMoves.{views_apart, can_name}
use Rattle.network_model.proofs.FitsLemmas.{link_there, near_is_port}
use Rattle.network_model.proofs.Linked.{get_within}
use Rattle.network_model.proofs.SoundEvents.{core_of}
use Rattle.network_rounds.specs.Rounds.{IsHeardRound}
use Rattle.network_rounds.specs.Steady.{inbox_of, HearAll}
use Rattle.network_rounds.proofs.BridgeLaws.{seconds_lower}
use Rattle.network_rounds.proofs.Coming.{sent_contained}
use Rattle.network_rounds.proofs.Passing.{sound_at, ticked_sound, ticked_there, ticked_view, near_view}

-- ---- the adjacency at a port

pub adjacency_there : (v : BridgeView) (p : ℕ) → IsPort v p → (a : Adjacency) × (adjacency_at v p ≡ Some a)
unfolding adjacency_at
adjacency_there v p is =
    let port = get_within v.ports (p - 1) (omega (arith, is.low, is.high)) in
    (port.0.adjacency, ap (λ (o : Option BridgePort). option_map (λ port. port.adjacency) o) (port_found v p is.low ∙ port.1))

-- the port with this adjacency
pub record HasPort (v : BridgeView) (p : ℕ) (a : Adjacency) : Type 0 where
  pub port : BridgePort
  pub there : port_at v p ≡ Some port
  pub is : port.adjacency ≡ a

pub port_of : (v : BridgeView) (p : ℕ) (a : Adjacency) → adjacency_at v p ≡ Some a → HasPort v p a
unfolding adjacency_at
port_of v p a is = by (port_at v p) refl is
  where
    by : (o : Option BridgePort) → port_at v p ≡ o → option_map (λ port. port.adjacency) o ≡ Some a → HasPort v p a
    by None at e = absurd cc
    by (Some port) at e = record { port = port; there = at; is = same_Some port.adjacency a e }

pub neighbour_is : (v : BridgeView) (p : ℕ) (a : Adjacency) → adjacency_at v p ≡ Some a → neighbour_at v p ≡ neighbour_of a
unfolding neighbour_at
neighbour_is v p a is = let has = port_of v p a is in ap (option_and_then (λ port. neighbour_of port.adjacency)) has.there ∙ ap neighbour_of has.is

pub up_is : (v : BridgeView) (p : ℕ) (a : Adjacency) → adjacency_at v p ≡ Some a → is_up_at v p ≡ is_up a.state
unfolding is_up_at
up_is v p a is = let has = port_of v p a is in ap is_up_in has.there ∙ ap (λ (b : Adjacency). is_up b.state) has.is

pub carrier_is : (v : BridgeView) (p : ℕ) (a : Adjacency) → adjacency_at v p ≡ Some a → has_carrier_at v p ≡ a.carrier
unfolding has_carrier_at
carrier_is v p a is = let has = port_of v p a is in ap has_carrier_in has.there ∙ ap (λ (b : Adjacency). b.carrier) has.is

-- ---- the ends of a link

pub ends_differ : (dir : Dir) (l : DeclaredLink) → l.a.bridge ≢ l.b.bridge → (near_end dir l).bridge ≢ (far_end dir l).bridge
ends_differ Ab l apart = apart
ends_differ Ba l apart = λ e. apart (sym e)

pub back_agrees : (t : State) (k : ℕ) (dir : Dir) (l : DeclaredLink) (v w : BridgeView) → IsSoundState t → slice_get (links_of t) k ≡ Some l → slice_get t.views (near_end dir l).bridge ≡ Some v → slice_get t.views (far_end dir l).bridge ≡ Some w
    → LinkAgrees w (far_end dir l).port v (near_end dir l).port (lane_of t.lanes k (turned dir))
back_agrees t k Ab l v w sound there near far = sound.agree k Ba l w v there far near
back_agrees t k Ba l v w sound there near far = sound.agree k Ab l w v there far near

module _ (t : State) (sound : IsSoundState t) (k : ℕ) (dir : Dir) (l : DeclaredLink) (there : slice_get (links_of t) k ≡ Some l) where
  pub way_out : lane_out (links_of t) (near_end dir l).bridge (near_end dir l).port ≡ Some (record { link = k; dir = dir })
  way_out = lane_of_end (links_of t) k l dir sound.world.links_apart (link_there t k l sound.world there).apart there

  pub near_carrier : (v : BridgeView) → l.live ≡ true → slice_get t.views (near_end dir l).bridge ≡ Some v → has_carrier_at v (near_end dir l).port ≡ true
  near_carrier v live at =
      sound.carriers (near_end dir l).bridge v (near_end dir l).port at (near_is_port t k l dir sound.world sound.fits there v at)
      ∙ (ap (λ (o : Option LaneId). option_map_or (λ lane. is_live (links_of t) lane.link) o false) way_out
      ∙ (ap (λ (o : Option DeclaredLink). option_map_or (λ l. l.live) o false) there ∙ live))

pub far_carrier : (t : State) (k : ℕ) (dir : Dir) (l : DeclaredLink) (w : BridgeView) → IsSoundState t → slice_get (links_of t) k ≡ Some l → l.live ≡ true → slice_get t.views (far_end dir l).bridge ≡ Some w → has_carrier_at w (far_end dir l).port ≡ true
far_carrier t k Ab l w sound there live at = near_carrier t sound k Ba l there w live at
far_carrier t k Ba l w sound there live at = near_carrier t sound k Ab l there w live at

-- ---- one hello comes

numbered : (x : AdjState) → state_numbered (state_number x) ≡ x
numbered Down = refl
numbered Initializing = refl
numbered Up = refl

hello_is : (bytes : List ℕ) (h : HelloValue) (way : ThreeWay) → parsed bytes ≡ parsing.hello h way → is_hello bytes ≡ true
hello_is bytes h way is = ap (λ (j : Parsed). is_some (hello_in j)) is

abbrev hellos : List (List ℕ) → ℕ
hellos frames = count_by is_hello frames

one_more : (b : Bool) (n : ℕ) → b ≡ true → 1 ≤ cond b 1 0 + n
one_more true n is = omega arith
one_more false n is = absurd cc

some_hello : (frames : List (List ℕ)) (bytes : List ℕ) → Contains frames bytes → is_hello bytes ≡ true → 1 ≤ hellos frames
some_hello [] bytes (k, low, is) hello = absurd (omega (arith, low))
some_hello (f ∷ frames) bytes (zero, low, is) hello =
    let all = sum_by-cons (λ (x : List ℕ). cond (is_hello x) 1 0) f frames in
    let first = one_more (is_hello f) (hellos frames) (ap is_hello is ∙ hello) in
    omega (arith, all, first)
some_hello (f ∷ frames) bytes (suc k, low, is) hello =
    let all = sum_by-cons (λ (x : List ℕ). cond (is_hello x) 1 0) f frames in
    let rest = some_hello frames bytes (k, omega (arith, low), is) hello in
    omega (arith, all, rest)

at_by : (at : Bool) (f : List ℕ) (frames : List (List ℕ)) (n : ℕ) → hellos frames ≤ n → hellos (if at then f ∷ frames else frames) ≤ cond (at && is_hello f) 1 0 + n
at_by true f frames n few = let all = sum_by-cons (λ (x : List ℕ). cond (is_hello x) 1 0) f frames in omega (arith, all, few)
at_by false f frames n few = omega (arith, few)

hellos_at : (p : ℕ) (fs : List (ℕ × List ℕ)) → hellos (frames_at p fs) ≤ count_by (λ s. (s.0 == p) && is_hello s.1) fs
hellos_at p [] = omega arith
hellos_at p (s ∷ fs) =
    let all = sum_by-cons (λ (x : ℕ × List ℕ). cond ((x.0 == p) && is_hello x.1) 1 0) s fs in
    omega (arith, all, at_by (s.0 == p) s.1 (frames_at p fs) (count_by (λ s. (s.0 == p) && is_hello s.1) fs) (hellos_at p fs))

-- ---- what the end at the far side makes of it

-- the state that the hello of a port says
pub spoken : (u : BridgeView) (q : ℕ) (b : Adjacency) (h : HelloValue) (way : ThreeWay) → adjacency_at u q ≡ Some b → IsHelloOf u q h way → way.state ≡ state_number b.state
spoken u q b h way at own =
    let has = port_of u q b at in
    ap (λ (way : ThreeWay). way.state) (own.spoken has.port has.there) ∙ ap (λ (a : Adjacency). state_number a.state) has.is

-- an end in a state, with a neighbour that is kept for three seconds unless it is Down
pub record EndIn (v : BridgeView) (p : ℕ) (x : AdjState) : Type 0 where
  pub adjacency : Adjacency
  pub there : adjacency_at v p ≡ Some adjacency
  pub state : adjacency.state ≡ x
  pub hold : is_down x ≡ false → adjacency.hold ≡ 3

module _ (s : State) (sound : IsSoundState s) (k : ℕ) (dir : Dir) (l : DeclaredLink) (v w : BridgeView) (there : slice_get (links_of s) k ≡ Some l)
    (near : slice_get s.views (near_end dir l).bridge ≡ Some v) (far : slice_get s.views (far_end dir l).bridge ≡ Some w) where
  abbrev q : ℕ
  q = (near_end dir l).port

  abbrev p : ℕ
  p = (far_end dir l).port

  abbrev u : BridgeView
  u = step second v

  abbrev x : BridgeView
  x = step second w

  then_near : slice_get (all_ticked s).views (near_end dir l).bridge ≡ Some u
  then_near = ticked_view s sound (near_end dir l).bridge v near

  then_far : slice_get (all_ticked s).views (far_end dir l).bridge ≡ Some x
  then_far = ticked_view s sound (far_end dir l).bridge w far

  then_there : slice_get (links_of (all_ticked s)) k ≡ Some l
  then_there = ticked_there s sound k l there

  pub is_named : IsNamed (neighbour_at u q)
  is_named = can_name (all_ticked s) (near_end dir l).bridge q k dir u (core_of (all_ticked s) (ticked_sound s sound)) (way_out (all_ticked s) (ticked_sound s sound) k dir l then_there) then_near

  pub keeps_far : (n : End) → neighbour_at u q ≡ Some n → n ≡ end_at x p
  keeps_far = ((ticked_sound s sound).agree k dir l u x then_there then_near then_far).keeps

  pub keeps_near : (n : End) → neighbour_at x p ≡ Some n → n ≡ end_at u q
  keeps_near = (back_agrees (all_ticked s) k dir l u x (ticked_sound s sound) then_there then_near then_far).keeps

  apart : u.id.system ≢ x.id.system
  apart e =
      ends_differ dir l (link_there s k l sound.world there).apart
      (views_apart (all_ticked s) (near_end dir l).bridge (far_end dir l).bridge u x (core_of (all_ticked s) (ticked_sound s sound)) then_near then_far e)

  pub hello_to : (h : HelloValue) (way : ThreeWay) → IsHelloOf u q h way → IsHelloTo (end_at u q) (end_at x p) h way
  hello_to h way own = record { sender = own.sender; level = own.level; holding = own.holding; state = own.state; neighbour = λ n is. keeps_far n (sym own.neighbour ∙ is) }

  pub towards : (h : HelloValue) (way : ThreeWay) (a : Adjacency) → IsHelloTo (end_at u q) (end_at x p) h way → ((n : End) → neighbour_of a ≡ Some n → n ≡ end_at u q) → IsHelloTowards x.id.system p h way a
  towards h way a to kept = record {
    kept = λ n is. kept n is ∙ sym to.sender;
    named = to.neighbour;
    apart = λ e. apart (sym (ap (λ (n : End). n.0) to.sender) ∙ e);
    level = to.level;
    holding = to.holding;
  }

  module _ (live : l.live ≡ true) (hear : HearAll s) where
    heard : IsHelloHeard v q
    heard = hellos_are_heard v q (sound_at s sound (near_end dir l).bridge v near) (near_carrier s sound k dir l there v live near) is_named

    comes : frames_at p (inbox_of s (far_end dir l).bridge) ≡ frames_at q (sent second v)
    comes = hear k dir l v there live near

    contained : Contains (frames_at q (sent second v)) heard.bytes
    contained = sent_contained q (sent second v) heard.bytes heard.sent

    one : hellos (frames_at q (sent second v)) ≡ 1
    one =
        let some = some_hello (frames_at q (sent second v)) heard.bytes contained (hello_is heard.bytes heard.hello heard.way heard.heard) in
        let few = one_hello v q (sound_at s sound (near_end dir l).bridge v near) in
        omega (arith, some, few, hellos_at q (sent second v))

    pub moved : (a b : Adjacency) → adjacency_at x p ≡ Some a → adjacency_at u q ≡ Some b → EndIn (after_round (inbox_of s (far_end dir l).bridge) w) p (next_state a.state b.state)
    moved a b at_a at_b =
        let fs : Inbox = inbox_of s (far_end dir l).bridge in
        let to = hello_to heard.hello heard.way heard.own in
        let kept = towards_kept x.id.system p heard.hello heard.way a (towards heard.hello heard.way a to (λ n is. keeps_near n (neighbour_is x p a at_a ∙ is))) in
        let c : Adjacency = after_hello x.id.system p heard.hello heard.way a in
        let state : c.state ≡ next_state a.state b.state = kept.0 ∙ ap (next_state a.state) (ap state_numbered (spoken u q b heard.hello heard.way at_b heard.own) ∙ numbered b.state) in
        record {
          adjacency = c;
          there = one_hello_moves x fs p heard.bytes heard.hello heard.way a at_a
              (sym (carrier_is x p a at_a) ∙ far_carrier (all_ticked s) k dir l x (ticked_sound s sound) then_there live then_far)
              (ap hellos comes ∙ one) (subst (λ (frames : List (List ℕ)). Contains frames heard.bytes) (sym comes) contained) heard.heard;
          state = state;
          hold = λ not_down. kept.1.hold (ap is_down state ∙ not_down);
        }

-- ---- a second

-- who is kept for three seconds stays in its state
pub second_state : (a : Adjacency) → (is_down a.state ≡ false → a.hold ≡ 3) → (after_second a).state ≡ a.state
second_state a hold = by (is_down a.state) refl
  where
    by : (b : Bool) → is_down a.state ≡ b → (if b then a else (if a.hold == 1 then down a.carrier else record a { hold = a.hold - 1 })).state ≡ a.state
    by true e = refl
    by false e = ap (λ (n : ℕ). (if n == 1 then down a.carrier else record a { hold = a.hold - 1 }).state) (hold e)

pub second_at : (v : BridgeView) (p : ℕ) (a : Adjacency) → adjacency_at v p ≡ Some a → adjacency_at (step second v) p ≡ Some (after_second a)
second_at v p a at = seconds_lower v p ∙ ap (option_map after_second) at

-- ---- both ends

-- the ends of a link are in these states
pub record Meets (s : State) (l : DeclaredLink) (x y : AdjState) : Type 0 where
  pub a : BridgeView
  pub b : BridgeView
  pub at_a : slice_get s.views l.a.bridge ≡ Some a
  pub at_b : slice_get s.views l.b.bridge ≡ Some b
  pub end_a : EndIn a l.a.port x
  pub end_b : EndIn b l.b.port y

module _ (s t : State) (sound : IsSoundState s) (hear : HearAll s) (heard : IsHeardRound s t) (k : ℕ) (l : DeclaredLink) (there : slice_get (links_of s) k ≡ Some l) (live : l.live ≡ true) where
  after_at : (i : ℕ) (v : BridgeView) → slice_get s.views i ≡ Some v → slice_get t.views i ≡ Some (after_round (inbox_of s i) v)
  after_at i v at = heard.views i ∙ ap (option_map (after_round (inbox_of s i))) at

  meet_from : (v w : BridgeView) (a b : Adjacency) → slice_get s.views l.a.bridge ≡ Some v → slice_get s.views l.b.bridge ≡ Some w → adjacency_at (step second v) l.a.port ≡ Some a → adjacency_at (step second w) l.b.port ≡ Some b
      → Meets t l (next_state a.state b.state) (next_state b.state a.state)
  meet_from v w a b at_v at_w at_a at_b = record {
    a = after_round (inbox_of s l.a.bridge) v;
    b = after_round (inbox_of s l.b.bridge) w;
    at_a = after_at l.a.bridge v at_v;
    at_b = after_at l.b.bridge w at_w;
    end_a = moved s sound k Ba l w v there at_w at_v live hear a b at_a at_b;
    end_b = moved s sound k Ab l v w there at_v at_w live hear b a at_b at_a;
  }

  -- whatever states they were in
  pub meet_first : (x : AdjState) × (y : AdjState) × Meets t l (next_state x y) (next_state y x)
  meet_first =
      let v = near_view s k Ab l sound there in
      let w = near_view s k Ba l sound there in
      let port_a = near_is_port (all_ticked s) k l Ab (ticked_sound s sound).world (ticked_sound s sound).fits (ticked_there s sound k l there) (step second v.0) (ticked_view s sound l.a.bridge v.0 v.1) in
      let port_b = near_is_port (all_ticked s) k l Ba (ticked_sound s sound).world (ticked_sound s sound).fits (ticked_there s sound k l there) (step second w.0) (ticked_view s sound l.b.bridge w.0 w.1) in
      let a = adjacency_there (step second v.0) l.a.port port_a in
      let b = adjacency_there (step second w.0) l.b.port port_b in
      (a.0.state, b.0.state, meet_from v.0 w.0 a.0 b.0 v.1 w.1 a.1 b.1)

  -- and from states in which they keep each other for three seconds
  pub meet_next : (x y : AdjState) → Meets s l x y → Meets t l (next_state x y) (next_state y x)
  meet_next x y meets =
      let a : Adjacency = meets.end_a.adjacency in
      let b : Adjacency = meets.end_b.adjacency in
      let state_a : (after_second a).state ≡ x = second_state a (λ e. meets.end_a.hold (sym (ap is_down meets.end_a.state) ∙ e)) ∙ meets.end_a.state in
      let state_b : (after_second b).state ≡ y = second_state b (λ e. meets.end_b.hold (sym (ap is_down meets.end_b.state) ∙ e)) ∙ meets.end_b.state in
      subst (λ (z : AdjState). Meets t l (next_state z y) (next_state y z)) state_a
      (subst (λ (z : AdjState). Meets t l (next_state (after_second a).state z) (next_state z (after_second a).state)) state_b
      (meet_from meets.a meets.b (after_second a) (after_second b) meets.at_a meets.at_b (second_at meets.a l.a.port a meets.end_a.there) (second_at meets.b l.b.port b meets.end_b.there)))

-- after three such rounds both are Up
pub thrice : (x y : AdjState)
    → (next_state (next_state (next_state x y) (next_state y x)) (next_state (next_state y x) (next_state x y)) ≡ Up)
thrice Down Down = refl
thrice Down Initializing = refl
thrice Down Up = refl
thrice Initializing Down = refl
thrice Initializing Initializing = refl
thrice Initializing Up = refl
thrice Up Down = refl
thrice Up Initializing = refl
thrice Up Up = refl
