-- From the end of round 4 on both ends of each link that is up are Up with each other, and each round is a steady one.
use Rattle.std.proofs.Common.{◌≡◌, ◌≢◌, ℕ, zero, suc, ◌-◌, ◌≤◌, true, false, List, length, refl, sym, ap, ◌∙◌, subst, Option, Some, None, slice_get, arith}
use Rattle.std.specs.Prelude.{Contains, nat_lt, not, ◌&&◌}
use Rattle.std.specs.List.{AllByRecursion}
use Rattle.std.specs.Option.{option_map, option_map_or}
use Rattle.std.proofs.lemmas.Bool.{true≢false}
use Rattle.std.proofs.lemmas.Option.{same_Some}
use Rattle.link_model.specs.Lane.{Frame}
use Rattle.link_model.specs.declared.lanes.LaneId.{LaneId}
use Rattle.spb_types.specs.declared.address.LspId.{LspId}
use Rattle.spb_types.specs.declared.address.BridgeId.{BridgeId}
use Rattle.spb_types.specs.declared.link.Dir.{Dir}
use Rattle.spb_types.specs.declared.link.Dir.TheVariants.{Ab, Ba}
use Rattle.isis_pdu.specs.Pdu.{HelloValue, CsnpValue}
use Rattle.spb_tlvs.specs.declared.three_way.ThreeWay.{ThreeWay}
use Rattle.adjacency.specs.declared.port.Adjacency.{Adjacency}
use Rattle.adjacency.specs.declared.state.AdjState.{AdjState}
use Rattle.adjacency.specs.declared.state.AdjState.TheVariants.{Up}
use Rattle.adjacency.specs.Hearing.{End, sender, keeps_up}
use Rattle.adjacency.specs.States.{state_number, next_state}
use Rattle.adjacency.specs.Adjacency.{kept_in, is_up, down, after_second}
use Rattle.bridge_api.specs.View.{BridgeView, port_at, adjacency_at, neighbour_at, is_up_in, is_up_at, is_csnp_due_at}
use Rattle.bridge_api.specs.Parsing.{parsed}
use Rattle.bridge_api.specs.Parsing as parsing
use Rattle.bridge_api.specs.Hearing.{with_csnp_due}
use Rattle.bridge_api.specs.Ticking.{readied, after_tick}
use Rattle.bridge_api.specs.Step.{second, step, sent}
use Rattle.bridge_api.specs.Laws.{IsSent, IsFrameOf, IsHelloOf}
use Rattle.bridge_api.proofs.Certified.{steps_keep_bridge}
use Rattle.bridge_api.proofs.Serving.{seconds_leave_nothing_due}
use Rattle.bridge_rounds.specs.FlagLaws.{HasNoCsnp}
use Rattle.bridge_rounds.specs.Inbox.{Inbox, after_round, StaysUp, SaysTheSameOn}
use Rattle.bridge_rounds.specs.Seconds.{HasTimeLeft, IsCalmSecond}
use Rattle.bridge_rounds.specs.Staying.{HellosKeep}
use Rattle.bridge_rounds.proofs.Folds.{at_port}
use Rattle.bridge_rounds.proofs.LinkFrames.{port_map, due_up, all_at}
use Rattle.bridge_rounds.proofs.SaysSame.{bridge_says_the_same}
use Rattle.bridge_rounds.proofs.StayingUp.{port_stays_up}
use Rattle.bridge_rounds.proofs.Towards.{heeded}
use Rattle.spb_world.proofs.BoxLemmas.{All-get}
use Rattle.spb_world.proofs.SoundLaneIds.{lane_leads}
use Rattle.spb_world.specs.World.{World, things_of}
use Rattle.spb_world.specs.declared.declaration.DeclaredLink.{DeclaredLink}
use Rattle.spb_world.specs.Links.{near_end, far_end, lane_out, is_live}
use Rattle.network_model.specs.State.{State, links_of}
use Rattle.network_model.specs.Events.{all_ticked}
use Rattle.network_model.specs.Sound.{IsSoundState, IsHelloTo, end_at, ends_live_link}
use Rattle.network_model.specs.Quiet.{AreEmpty}
use Rattle.network_model.proofs.BridgeLaws.{sent_is_sound}
use Rattle.network_model.proofs.Linked.{far_view}
use Rattle.network_model.proofs.QuietStates.{up_is_linked}
use Rattle.network_rounds.specs.Premises.{most_ids}
use Rattle.network_rounds.specs.Rounds.{IsHeardRound, IsRoundOf, AreRounds}
use Rattle.network_rounds.specs.Steady.{IsReadyFor, known_ids, inbox_of, HearAll, IsKeptUp, AreUp, HaveNoneDue, IsSteadyState, IsSteadyFor, IsSteadyOver, LinksComeUp, RoundsAreSteady}
use Rattle.network_rounds.proofs.Along.{AreSame, round_sound, rounds_stay_counted, rounds_have_last}
use Rattle.network_rounds.proofs.BridgeLaws.{seconds_are_calm, summaries_are_due}
use Rattle.network_rounds.proofs.Heard.{all_tick_world}
use Rattle.network_rounds.proofs.Ends.{neighbour_is, up_is, EndIn, spoken, second_state, second_at, is_named, hello_to, towards, Meets, meet_first, meet_next, thrice}
use Rattle.network_rounds.proofs.Lasting.{lifetimes_last}
use Rattle.network_rounds.proofs.Passing.{near_view, sound_at, ticked_sound, ticked_view, second_sound, second_only, mail_of, heard_round, Passes, empty_plain, passes_round, passes_all, loses_nothing, starts_passing}
use Rattle.network_rounds.proofs.Start.{starts_few}
use Rattle.network_rounds.proofs.Undue.{says_after, AllStayUp, due_after}

-- ---- both ends of each link that is up are Up

kept_up_of : (v : BridgeView) (p : ℕ) (end : End) → EndIn v p Up → ((n : End) → neighbour_at v p ≡ Some n → n ≡ end) → IsKeptUp v p end
kept_up_of v p end at keeps =
    let n : End = (at.adjacency.neighbour, at.adjacency.circuit) in
    let is : neighbour_at v p ≡ Some n = neighbour_is v p at.adjacency at.there ∙ ap (λ (x : AdjState). kept_in x n) at.state in
    record { adjacency = at.adjacency; there = at.there; up = at.state; hold = at.hold refl; neighbour = is ∙ ap Some (keeps n is) }

near_in : (t : State) (dir : Dir) (l : DeclaredLink) (v : BridgeView) → Meets t l Up Up → slice_get t.views (near_end dir l).bridge ≡ Some v → EndIn v (near_end dir l).port Up
near_in t Ab l v meets at = subst (λ (u : BridgeView). EndIn u l.a.port Up) (same_Some meets.a v (sym meets.at_a ∙ at)) meets.end_a
near_in t Ba l v meets at = subst (λ (u : BridgeView). EndIn u l.b.port Up) (same_Some meets.b v (sym meets.at_b ∙ at)) meets.end_b

are_up : (t : State) → IsSoundState t → ((k : ℕ) (l : DeclaredLink) → slice_get (links_of t) k ≡ Some l → l.live ≡ true → Meets t l Up Up) → AreUp t
are_up t sound meets k dir l v w there live near far =
    kept_up_of v (near_end dir l).port (end_at w (far_end dir l).port) (near_in t dir l v (meets k l there live) near) (sound.agree k dir l v w there near far).keeps

meets_up : (s : State) (k : ℕ) (l : DeclaredLink) → IsSoundState s → AreUp s → slice_get (links_of s) k ≡ Some l → l.live ≡ true → Meets s l Up Up
meets_up s k l sound up there live =
    let v = near_view s k Ab l sound there in
    let w = near_view s k Ba l sound there in
    let a = up k Ab l v.0 w.0 there live v.1 w.1 in
    let b = up k Ba l w.0 v.0 there live w.1 v.1 in
    record {
      a = v.0;
      b = w.0;
      at_a = v.1;
      at_b = w.1;
      end_a = record { adjacency = a.adjacency; there = a.there; state = a.up; hold = λ e. a.hold };
      end_b = record { adjacency = b.adjacency; there = b.there; state = b.up; hold = λ e. b.hold };
    }

up_same : (s t : State) → AreSame s t → AreUp s → AreUp t
up_same s t same up k dir l v w there live near far =
    up k dir l v w (ap (λ (x : World). slice_get (things_of x.links) k) (sym same.world) ∙ there) live
    (ap (λ (views : List BridgeView). slice_get views (near_end dir l).bridge) (sym same.views) ∙ near)
    (ap (λ (views : List BridgeView). slice_get views (far_end dir l).bridge) (sym same.views) ∙ far)

-- a round and those behind it
record Split (k : ℕ) (s t : State) : Type 0 where
  mid : State
  one : IsRoundOf s mid
  more : AreRounds k mid t

split : (k : ℕ) (s t : State) → AreRounds (suc k) s t → Split k s t
split k s t are = record { mid = are.0; one = are.1; more = are.2 }

module _ (ids : List LspId) (few : length ids ≤ most_ids) where
  -- a network in which nothing is lost in the next round
  record Clear (s : State) : Type 0 where
    passes : Passes ids s
    empty : AreEmpty s

  clear_round : (s t : State) → Passes ids s → IsRoundOf s t → Clear t
  clear_round s t was is = let next = passes_round ids s t was is in record { passes = next.0; empty = next.1 }

  hear_of : (s : State) → Clear s → HearAll s
  hear_of s clear = (loses_nothing ids s clear.passes clear.empty few).hear

  heard_of : (s t : State) → Clear s → IsRoundOf s t → IsHeardRound s t
  heard_of s t clear is = heard_round s t clear.passes.sound clear.passes.plain is

  there_before : (s t : State) (k : ℕ) (l : DeclaredLink) → Clear s → IsRoundOf s t → slice_get (links_of t) k ≡ Some l → slice_get (links_of s) k ≡ Some l
  there_before s t k l clear is there = ap (λ (x : World). slice_get (things_of x.links) k) (sym (heard_of s t clear is).world) ∙ there

  -- three rounds behind the first
  fourth_up : (a b c d : State) → Clear a → IsRoundOf a b → IsRoundOf b c → IsRoundOf c d → AreUp d
  fourth_up a b c d clear one two three =
      let clear_b = clear_round a b clear.passes one in
      let clear_c = clear_round b c clear_b.passes two in
      are_up d (round_sound c d three clear_c.passes.sound)
      (λ k l there live.
      let at_c = there_before c d k l clear_c three there in
      let at_b = there_before b c k l clear_b two at_c in
      let at_a = there_before a b k l clear one at_b in
      let first = meet_first a b clear.passes.sound (hear_of a clear) (heard_of a b clear one) k l at_a live in
      let x : AdjState = first.0 in
      let y : AdjState = first.1 in
      let x2 : AdjState = next_state x y in
      let y2 : AdjState = next_state y x in
      let next = meet_next b c clear_b.passes.sound (hear_of b clear_b) (heard_of b c clear_b two) k l at_b live x2 y2 first.2 in
      let last = meet_next c d clear_c.passes.sound (hear_of c clear_c) (heard_of c d clear_c three) k l at_c live (next_state x2 y2) (next_state y2 x2) next in
      subst (λ (z : AdjState). Meets d l Up z) (thrice y x) (subst (λ (z : AdjState). Meets d l z (next_state (next_state y2 x2) (next_state x2 y2))) (thrice x y) last))

  up_on : (k : ℕ) (s t : State) → AreRounds k s t → Clear s → AreUp s → AreUp t
  up_on zero s t are clear up = up_same s t (record { world = are.0; views = are.1; lanes = are.2 }) up
  up_on (suc k) s t are clear up =
      let parts = split k s t are in
      let next = clear_round s parts.mid clear.passes parts.one in
      up_on k parts.mid t parts.more next
      (are_up parts.mid next.passes.sound (λ place l there live.
      let at = there_before s parts.mid place l clear parts.one there in
      meet_next s parts.mid clear.passes.sound (hear_of s clear) (heard_of s parts.mid clear parts.one) place l at live Up Up (meets_up s place l clear.passes.sound up at live)))

  up_from : (k : ℕ) (s t : State) → AreRounds (suc (suc (suc (suc k)))) s t → Passes ids s → AreUp t
  up_from k s t are was =
      let a = split (suc (suc (suc k))) s t are in
      let b = split (suc (suc k)) a.mid t a.more in
      let c = split (suc k) b.mid t b.more in
      let d = split k c.mid t c.more in
      let clear_a = clear_round s a.mid was a.one in
      let clear_b = clear_round a.mid b.mid clear_a.passes b.one in
      let clear_c = clear_round b.mid c.mid clear_b.passes c.one in
      up_on k d.mid t d.more (clear_round c.mid d.mid clear_c.passes d.one) (fourth_up a.mid b.mid c.mid d.mid clear_a b.one c.one d.one)

  pub up_after : (k : ℕ) (s t : State) → 4 ≤ k → AreRounds k s t → Passes ids s → AreUp t
  up_after k s t low are was = let more : k ≡ suc (suc (suc (suc (k - 4)))) = omega (arith, low) in up_from (k - 4) s t (subst (λ (n : ℕ). AreRounds n s t) more are) was

-- ---- a steady round

-- a port at which a link that is up ends
pub record AtLiveLink (links : List DeclaredLink) (i p : ℕ) : Type 0 where
  pub lane : LaneId
  pub out : lane_out links i p ≡ Some lane
  pub live : is_live links lane.link ≡ true

pub at_live_link : (links : List DeclaredLink) (i p : ℕ) → ends_live_link links i p ≡ true → AtLiveLink links i p
at_live_link links i p ends = by (lane_out links i p) refl ends
  where
    by : (o : Option LaneId) → lane_out links i p ≡ o → option_map_or (λ lane. is_live links lane.link) o false ≡ true → AtLiveLink links i p
    by None out is = absurd cc
    by (Some lane) out is = record { lane = lane; out = out; live = is }

pub live_there : (links : List DeclaredLink) (k : ℕ) (l : DeclaredLink) → slice_get links k ≡ Some l → is_live links k ≡ l.live
live_there links k l there = ap (λ (o : Option DeclaredLink). option_map_or (λ l. l.live) o false) there

back_up : (s : State) (k : ℕ) (dir : Dir) (l : DeclaredLink) (v w : BridgeView) → AreUp s → slice_get (links_of s) k ≡ Some l → l.live ≡ true → slice_get s.views (near_end dir l).bridge ≡ Some v → slice_get s.views (far_end dir l).bridge ≡ Some w
    → IsKeptUp w (far_end dir l).port (end_at v (near_end dir l).port)
back_up s k Ab l v w up there live near far = up k Ba l w v there live far near
back_up s k Ba l v w up there live near far = up k Ab l w v there live far near

kept_is_up : (v : BridgeView) (p : ℕ) (end : End) → IsKeptUp v p end → is_up_at v p ≡ true
kept_is_up v p end kept = up_is v p kept.adjacency kept.there ∙ ap is_up kept.up

up_readied : (v : BridgeView) (p : ℕ) → is_up_at (readied v) p ≡ is_up_at (step second v) p
unfolding is_up_at after_tick
up_readied v p = sym (ap is_up_in (port_map (with_csnp_due false) p (readied v).ports) ∙ due_up (port_at (readied v) p))

module _ (ids : List LspId) (m : ℕ) (s : State) (steady : IsSteadyState ids m s) (some : 1 ≤ m) where
  passing : Passes ids s
  passing = record { sound = steady.sound; plain = empty_plain s steady.loses.empty; only = steady.held }

  counts_left : (i : ℕ) (w : BridgeView) (p : ℕ) (a : Adjacency) → slice_get s.views i ≡ Some w → adjacency_at w p ≡ Some a → is_up a.state ≡ true → 2 ≤ a.hold
  counts_left i w p a at there up =
      let links : List DeclaredLink = links_of s in
      let linked = at_live_link links i p (up_is_linked s steady.sound i w p at (up_is w p a there ∙ up)) in
      let leads = lane_leads links i p linked.lane linked.out in
      let far = far_view s linked.lane.link linked.lane.dir leads.link steady.sound leads.there in
      let live : leads.link.live ≡ true = sym (live_there links linked.lane.link leads.link leads.there) ∙ linked.live in
      let kept = steady.up linked.lane.link linked.lane.dir leads.link w far.0 leads.there live (ap (slice_get s.views) leads.bridge ∙ at) far.1 in
      let same : kept.adjacency ≡ a = same_Some kept.adjacency a (sym kept.there ∙ (ap (adjacency_at w) leads.port ∙ there)) in
      let hold : a.hold ≡ 3 = sym (ap (λ (b : Adjacency). b.hold) same) ∙ kept.hold in
      omega (arith, hold)

  time_left : (i : ℕ) (w : BridgeView) → slice_get s.views i ≡ Some w → HasTimeLeft w
  time_left i w at = record {
    counts = λ p a there up. counts_left i w p a at there up;
    lifetimes = λ id live. let left = (steady.lasts i w at).held id live in omega (arith, left, some);
    own = λ number below live. let left = (steady.lasts i w at).own number below live in omega (arith, left, some);
  }

  calm : (i : ℕ) (w : BridgeView) → slice_get s.views i ≡ Some w → IsCalmSecond w
  calm i w at = seconds_are_calm w (sound_at s steady.sound i w at) (All-get (λ x. x.spent ≡ false) s.views i w steady.fresh at) (time_left i w at)

  -- ---- over a link

  module _ (k : ℕ) (dir : Dir) (l : DeclaredLink) (v w : BridgeView) (there : slice_get (links_of s) k ≡ Some l) (live : l.live ≡ true)
      (near : slice_get s.views (near_end dir l).bridge ≡ Some v) (far : slice_get s.views (far_end dir l).bridge ≡ Some w) where
    abbrev q : ℕ
    q = (near_end dir l).port

    abbrev p : ℕ
    p = (far_end dir l).port

    kept_near : IsKeptUp v q (end_at w p)
    kept_near = steady.up k dir l v w there live near far

    kept_far : IsKeptUp w p (end_at v q)
    kept_far = back_up s k dir l v w steady.up there live near far

    then_up : is_up_at (step second w) p ≡ true
    then_up = (calm (far_end dir l).bridge w far).up p ∙ kept_is_up w p (end_at v q) kept_far

    then_kept : neighbour_at (step second w) p ≡ Some (end_at v q)
    then_kept = (calm (far_end dir l).bridge w far).neighbours p (kept_is_up w p (end_at v q) kept_far) ∙ kept_far.neighbour

    same_end_of : end_at (step second v) q ≡ end_at v q
    same_end_of = ap (λ (id : BridgeId). (id.system, q)) (steps_keep_bridge second v).id

    -- each hello that comes there is one of the far end, which is Up
    hello_keeps : (bytes : Frame) (h : HelloValue) (way : ThreeWay) → IsSent (sent second v) q bytes → parsed bytes ≡ parsing.hello h way → (sender h way ≡ end_at v q) × (keeps_up (step second w).id.system p h way ≡ true)
    hello_keeps bytes h way goes is =
        let u : BridgeView = step second v in
        let of : IsFrameOf u q bytes = sent_is_sound second v q bytes tt (sound_at s steady.sound (near_end dir l).bridge v near) (is_named s steady.sound k dir l v w there near far) goes in
        let own : IsHelloOf u q h way = of.hello h way is in
        let to : IsHelloTo (end_at u q) (end_at (step second w) p) h way = hello_to s steady.sound k dir l v w there near far h way own in
        let a : Adjacency = kept_near.adjacency in
        let up : (after_second a).state ≡ Up = second_state a (λ e. kept_near.hold) ∙ kept_near.up in
        let state : way.state ≡ 0 = spoken u q (after_second a) h way (second_at v q a kept_near.there) own ∙ ap state_number up in
        let heard = heeded (step second w).id.system p h way (down true) (towards s steady.sound k dir l v w there near far h way (down true) to (λ n none. absurd cc)) in
        (to.sender ∙ same_end_of, λ i. nat_lt (state i) 2 && nat_lt 0 (to.holding i) && not (heard i))

    hellos_keep : HellosKeep (step second w) p (end_at v q) (inbox_of s (far_end dir l).bridge)
    hellos_keep bytes h way among is =
        hello_keeps bytes h way (at_port q (sent second v) bytes (subst (λ (frames : List Frame). Contains frames bytes) (steady.loses.hear k dir l v there live near) among)) is

    hears : StaysUp p (end_at v q) (inbox_of s (far_end dir l).bridge) (step second w)
    hears = port_stays_up (step second w) (inbox_of s (far_end dir l).bridge) p (end_at v q) (second_sound s steady.sound (far_end dir l).bridge w far) then_up then_kept hellos_keep

    sends_up : is_up_at (readied v) q ≡ true
    sends_up = up_readied v q ∙ ((calm (near_end dir l).bridge v near).up q ∙ kept_is_up v q (end_at w p) kept_near)

    no_summaries : is_csnp_due_at v q ≡ false → HasNoCsnp p (inbox_of s (far_end dir l).bridge)
    no_summaries none =
        subst (AllByRecursion (λ (bytes : Frame). (c : CsnpValue) → parsed bytes ≢ parsing.csnp c)) (sym (steady.loses.hear k dir l v there live near))
        (all_at (λ (bytes : Frame). (c : CsnpValue) → parsed bytes ≢ parsing.csnp c) q (sent second v)
        (λ bytes goes c is. absurd (true≢false (sym (summaries_are_due v q bytes c (sound_at s steady.sound (near_end dir l).bridge v near) goes is).1 ∙ none))))

  -- at the near end the same comes the other way
  near_hears : (k : ℕ) (dir : Dir) (l : DeclaredLink) (v w : BridgeView) → slice_get (links_of s) k ≡ Some l → l.live ≡ true → slice_get s.views (near_end dir l).bridge ≡ Some v → slice_get s.views (far_end dir l).bridge ≡ Some w
      → StaysUp (near_end dir l).port (end_at w (far_end dir l).port) (inbox_of s (near_end dir l).bridge) (step second v)
  near_hears k Ab l v w there live near far = hears k Ba l w v there live far near
  near_hears k Ba l v w there live near far = hears k Ab l w v there live far near

  -- ---- at a bridge

  module _ (i : ℕ) (w : BridgeView) (at : slice_get s.views i ≡ Some w) where
    all_stay : AllStayUp (inbox_of s i) (step second w)
    all_stay r port carrier =
        let t : State = all_ticked s in
        let ends = at_live_link (links_of t) i r (sym ((ticked_sound s steady.sound).carriers i (step second w) r (ticked_view s steady.sound i w at) port) ∙ carrier) in
        let leads = lane_leads (links_of t) i r ends.lane ends.out in
        let there : slice_get (links_of s) ends.lane.link ≡ Some leads.link = ap (λ (x : World). slice_get (things_of x.links) ends.lane.link) (sym (all_tick_world s)) ∙ leads.there in
        let live : leads.link.live ≡ true = sym (live_there (links_of t) ends.lane.link leads.link leads.there) ∙ ends.live in
        let here : slice_get s.views (near_end ends.lane.dir leads.link).bridge ≡ Some w = ap (slice_get s.views) leads.bridge ∙ at in
        let far = far_view s ends.lane.link ends.lane.dir leads.link steady.sound there in
        let end : End = end_at far.0 (far_end ends.lane.dir leads.link).port in
        let stays = near_hears ends.lane.link ends.lane.dir leads.link w far.0 there live here far.1 in
        (end, subst (λ (r : ℕ). StaysUp r end (inbox_of s i) (step second w)) leads.port (subst (λ (j : ℕ). StaysUp (near_end ends.lane.dir leads.link).port end (inbox_of s j) (step second w)) leads.bridge stays))

    steady_for : (t : State) → IsRoundOf s t → IsSteadyFor ids s t i w
    steady_for t is =
        let fs : Inbox = inbox_of s i in
        let heard = heard_round s t steady.sound passing.plain is in
        let second_calm = calm i w at in
        let says : SaysTheSameOn fs (step second w) = bridge_says_the_same (step second w) fs (second_sound s steady.sound i w at) all_stay in
        record {
          after = heard.views i ∙ ap (option_map (after_round fs)) at;
          calm = second_calm;
          within = second_only s steady.sound ids passing.plain steady.held i w at;
          mail = mail_of s steady.sound ids passing.plain steady.held i w at;
          says = says;
          bodies = λ number. says_after fs (step second w) says number ∙ second_calm.bodies number;
        }

    none_due_after : (p : ℕ) → is_csnp_due_at (after_round (inbox_of s i) w) p ≡ false
    none_due_after p = due_after (inbox_of s i) (step second w) all_stay p ∙ (seconds_leave_nothing_due w (sound_at s steady.sound i w at)).csnp_due p

  steady_over : (k : ℕ) (dir : Dir) (l : DeclaredLink) (v w : BridgeView) → slice_get (links_of s) k ≡ Some l → l.live ≡ true → slice_get s.views (near_end dir l).bridge ≡ Some v → slice_get s.views (far_end dir l).bridge ≡ Some w → IsSteadyOver s dir l v w
  steady_over k dir l v w there live near far = record {
    sends = sends_up k dir l v w there live near far;
    named = is_named s steady.sound k dir l v w there near far;
    hears = hears k dir l v w there live near far;
    summaries = no_summaries k dir l v w there live near far;
  }

  none_due : (t : State) → IsRoundOf s t → HaveNoneDue t
  none_due t is i x p at =
      let heard = heard_round s t steady.sound passing.plain is in
      by (slice_get s.views i) refl (sym (heard.views i) ∙ at)
    where
      by : (o : Option BridgeView) → slice_get s.views i ≡ o → option_map (after_round (inbox_of s i)) o ≡ Some x → is_csnp_due_at x p ≡ false
      by None none after = absurd cc
      by (Some w) there after = ap (λ (y : BridgeView). is_csnp_due_at y p) (sym (same_Some (after_round (inbox_of s i) w) x after)) ∙ none_due_after i w there p

pub rounds_are_steady : RoundsAreSteady
rounds_are_steady ids m s t steady some is = record {
  bridges = λ i v at. steady_for ids m s steady some i v at t is;
  links = λ k dir l v w there live near far. steady_over ids m s steady some k dir l v w there live near far;
}

-- ---- from the end of round 4 on

steady_after : (m k : ℕ) (s t : State) → IsReadyFor m k s → AreRounds k s t → 4 ≤ k → k ≤ m → IsSteadyState (known_ids s) (m - k) t
steady_after m k s t start are low le =
    let few = starts_few m s start.ready in
    let was = starts_passing m k s start in
    let all = passes_all (known_ids s) k s t are was in
    record {
      sound = all.0.sound;
      loses = loses_nothing (known_ids s) t all.0 (all.1 (omega (arith, low))) few;
      fresh = (rounds_stay_counted k start.allowance s t are start.sound start.counted start.room).fresh;
      few = few;
      held = all.0.only;
      lasts = lifetimes_last m k s t start le are;
      up = up_after (known_ids s) few k s t low are was;
    }

due_same : (s t : State) → t.views ≡ s.views → HaveNoneDue s → HaveNoneDue t
due_same s t same none i v p at = none i v p (ap (λ (views : List BridgeView). slice_get views i) (sym same) ∙ at)

none_due_from : (m k : ℕ) (s t : State) → IsReadyFor m (suc k) s → AreRounds (suc k) s t → 4 ≤ k → suc k ≤ m → HaveNoneDue t
none_due_from m k s t start are low le =
    let last = rounds_have_last k s t are in
    let before : IsReadyFor m k s = record { sound = start.sound; allowance = start.allowance; counted = start.counted; room = omega (arith, start.room); ready = start.ready; short = start.short } in
    let one = split 0 last.0 t last.2 in
    due_same one.mid t one.more.1 (none_due (known_ids s) (m - k) last.0 (steady_after m k s last.0 before last.1 low (omega (arith, le))) (omega (arith, le)) one.mid one.one)

pub links_come_up : LinksComeUp
links_come_up m k s t start are low le =
    let whole : k ≡ suc (k - 1) = omega (arith, low) in (
      steady_after m k s t start are low le,
      λ more.
          none_due_from m (k - 1) s t (subst (λ (n : ℕ). IsReadyFor m n s) whole start) (subst (λ (n : ℕ). AreRounds n s t) whole are) (omega (arith, more)) (omega (arith, whole, le)),
    )
