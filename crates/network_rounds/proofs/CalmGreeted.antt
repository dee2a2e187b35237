-- What comes to each bridge in a round that passes in calm: at each end of a link that is up one hello of the other end.
use Rattle.std.proofs.Common.{◌≡◌, ◌≢◌, ℕ, Bool, true, false, List, [], ◌∷◌, length, refl, sym, ap, ◌∙◌, subst, Some, slice_get, arith}
use Rattle.std.specs.Prelude.{nat_lt, not, ◌&&◌}
use Rattle.std.proofs.lemmas.Bool.{true≢false}
use Rattle.link_model.specs.Lane.{Frame, IsIn}
use Rattle.spb_types.specs.declared.link.Dir.{Dir}
use Rattle.spb_types.specs.declared.link.Dir.TheVariants.{Ab, Ba}
use Rattle.spb_tlvs.specs.RoundTrip.{IsNamed}
use Rattle.adjacency.specs.declared.state.AdjState.{AdjState}
use Rattle.adjacency.specs.Hearing.{End}
use Rattle.adjacency.specs.Adjacency.{kept_in, down}
use Rattle.bridge_api.specs.View.{BridgeView, IsPort, neighbour_at, has_carrier_at}
use Rattle.bridge_api.specs.Step.{second, sent, frames_at}
use Rattle.bridge_api.specs.Calm.{IsCalmFor}
use Rattle.bridge_rounds.specs.Calm.{IsGreeting, IsGreeted, IsGreetingOf, CalmSecondGreets}
use Rattle.bridge_rounds.specs.Hellos.{IsHelloTowards}
use Rattle.bridge_rounds.proofs.Towards.{heeded}
use Rattle.spb_world.specs.declared.declaration.DeclaredLink.{DeclaredLink}
use Rattle.spb_world.specs.Links.{near_end, far_end}
use Rattle.spb_world.proofs.SoundLaneIds.{lane_leads}
use Rattle.network_model.specs.State.{State, links_of}
use Rattle.network_model.specs.Events.{all_ticked}
use Rattle.network_model.specs.Quiet.{AreEmpty}
use Rattle.network_model.specs.Sound.{IsSoundState, end_at}
use Rattle.network_model.proofs.CountedMoves.{views_apart, can_name}
use Rattle.network_model.proofs.FitsLemmas.{link_there, near_is_port, far_is_port, alike_ticked_from}
use Rattle.network_model.proofs.Linked.{far_view}
use Rattle.network_model.proofs.SoundEvents.{core_of}
use Rattle.network_model.proofs.SoundMoves.{nothing_in}
use Rattle.network_rounds.specs.Steady.{inbox_of}
use Rattle.network_rounds.proofs.Coming.{ComesOver, each_comes, of_each, in_frames_at}
use Rattle.network_rounds.proofs.Ends.{adjacency_there, neighbour_is, carrier_is, ends_differ, back_agrees, way_out, near_carrier, far_carrier}
use Rattle.network_rounds.proofs.Lanes.{lanes_hold_what_is_sent}
use Rattle.network_rounds.proofs.Passing.{sound_at, ticked_sound, ticked_there}
use Rattle.network_rounds.proofs.Ports.{inbox_at_port}
use Rattle.network_rounds.proofs.SteadyRounds.{at_live_link, live_there}

-- what a bridge keeps at a port with carrier, where nothing but one end may be kept
kept_there : (w : BridgeView) (p : ℕ) (end : End) → IsPort w p → IsCalmFor 1 w → has_carrier_at w p ≡ true → ((n : End) → neighbour_at w p ≡ Some n → n ≡ end) → neighbour_at w p ≡ Some end
kept_there w p end port calm carrier keeps =
    let a = adjacency_there w p port in
    let up = calm.kept p a.0 a.1 (sym (carrier_is w p a.0 a.1) ∙ carrier) in
    let n : End = (a.0.neighbour, a.0.circuit) in
    let is : neighbour_at w p ≡ Some n = neighbour_is w p a.0 a.1 ∙ ap (λ (x : AdjState). kept_in x n) up.0 in
    is ∙ ap Some (keeps n is)

module _ (greets : CalmSecondGreets) (s : State) (sound : IsSoundState s) (empty : AreEmpty s) (bridges : (i : ℕ) (v : BridgeView) → slice_get s.views i ≡ Some v → IsCalmFor 1 v) where
  -- ---- over a link that is up

  module _ (k : ℕ) (dir : Dir) (l : DeclaredLink) (v w : BridgeView) (there : slice_get (links_of s) k ≡ Some l) (live : l.live ≡ true)
      (near : slice_get s.views (near_end dir l).bridge ≡ Some v) (far : slice_get s.views (far_end dir l).bridge ≡ Some w) where
    abbrev q : ℕ
    q = (near_end dir l).port

    abbrev p : ℕ
    p = (far_end dir l).port

    -- one hello of one end comes at the other
    record Greets : Type 0 where
      bytes : List ℕ
      comes : frames_at p (inbox_of s (far_end dir l).bridge) ≡ bytes ∷ []
      greeting : IsGreeting w p bytes

    named : IsNamed (neighbour_at v q)
    named = can_name s (near_end dir l).bridge q k dir v (core_of s sound) (way_out s sound k dir l there) near

    kept_near : (n : End) → neighbour_at v q ≡ Some n → n ≡ end_at w p
    kept_near = (sound.agree k dir l v w there near far).keeps

    kept_far : neighbour_at w p ≡ Some (end_at v q)
    kept_far =
        kept_there w p (end_at v q) (far_is_port s k l dir sound.world sound.fits there w far) (bridges (far_end dir l).bridge w far) (far_carrier s k dir l w sound there live far)
        (back_agrees s k dir l v w sound there near far).keeps

    apart : v.id.system ≢ w.id.system
    apart e = ends_differ dir l (link_there s k l sound.world there).apart (views_apart s (near_end dir l).bridge (far_end dir l).bridge v w (core_of s sound) near far e)

    towards : (bytes : List ℕ) (of : IsGreetingOf v q bytes) → IsHelloTowards w.id.system p of.hello of.way (down true)
    towards bytes of = record {
      kept = λ n none. absurd cc;
      named = λ n is. kept_near n (sym of.named ∙ is);
      apart = λ e. apart (sym (ap (λ (n : End). n.0) of.sender) ∙ e);
      level = of.level;
      holding = of.holding;
    }

    greeting_of : (bytes : List ℕ) → IsGreetingOf v q bytes → IsGreeting w p bytes
    greeting_of bytes of =
        let heard = heeded w.id.system p of.hello of.way (down true) (towards bytes of) in
        record {
          hello = of.hello;
          way = of.way;
          parses = of.parses;
          holding = of.holding;
          neighbour = kept_far ∙ ap Some (sym of.sender);
          keeps = λ i. nat_lt (of.up i) 2 && nat_lt 0 (of.holding i) && not (heard i);
        }

    comes_over : (bytes : List ℕ) → frames_at q (sent second v) ≡ bytes ∷ [] → frames_at p (inbox_of s (far_end dir l).bridge) ≡ bytes ∷ []
    comes_over bytes one =
        let few : length (frames_at q (sent second v)) ≡ 1 = ap length one in
        inbox_at_port s (all_ticked s).lanes k dir l sound (sym (alike_ticked_from (length s.views) 0 s).lanes) there
        ∙ (lanes_hold_what_is_sent s k dir l v sound empty there live near (omega (arith, few)) ∙ one)

    greets_far : Greets
    greets_far =
        let sends = greets v q (sound_at s sound (near_end dir l).bridge v near) (bridges (near_end dir l).bridge v near) (near_is_port s k l dir sound.world sound.fits there v near) (near_carrier s sound k dir l there v live near) named in
        record { bytes = sends.0; comes = comes_over sends.0 sends.1; greeting = greeting_of sends.0 sends.2 }

  -- and the other way
  greets_near : (k : ℕ) (dir : Dir) (l : DeclaredLink) (v w : BridgeView) → slice_get (links_of s) k ≡ Some l → l.live ≡ true → slice_get s.views (near_end dir l).bridge ≡ Some v → slice_get s.views (far_end dir l).bridge ≡ Some w
      → (bytes : List ℕ) × (frames_at (near_end dir l).port (inbox_of s (near_end dir l).bridge) ≡ bytes ∷ []) × IsGreeting v (near_end dir l).port bytes
  greets_near k Ab l v w there live near far = let one = greets_far k Ba l w v there live far near in (one.bytes, one.comes, one.greeting)
  greets_near k Ba l v w there live near far = let one = greets_far k Ab l w v there live far near in (one.bytes, one.comes, one.greeting)

  -- ---- at a bridge

  module _ (i : ℕ) (w : BridgeView) (at : slice_get s.views i ≡ Some w) where
    abbrev OneAt : ℕ → ℕ → Type 0
    OneAt j r = (bytes : List ℕ) × (frames_at r (inbox_of s j) ≡ bytes ∷ []) × IsGreeting w r bytes

    one_comes : (r : ℕ) → IsPort w r → has_carrier_at w r ≡ true → OneAt i r
    one_comes r port carrier =
        let ends = at_live_link (links_of s) i r (sym (sound.carriers i w r at port) ∙ carrier) in
        let leads = lane_leads (links_of s) i r ends.lane ends.out in
        let live : leads.link.live ≡ true = sym (live_there (links_of s) ends.lane.link leads.link leads.there) ∙ ends.live in
        let far = far_view s ends.lane.link ends.lane.dir leads.link sound leads.there in
        let one = greets_near ends.lane.link ends.lane.dir leads.link w far.0 leads.there live (ap (slice_get s.views) leads.bridge ∙ at) far.1 in
        subst (OneAt i) leads.port (subst (λ (j : ℕ). OneAt j (near_end ends.lane.dir leads.link).port) leads.bridge one)

    none_over : (r : ℕ) (f : Frame) → has_carrier_at w r ≡ false → ComesOver (links_of s) (all_ticked s).lanes i (r, f) → ⊥
    none_over r f none comes = by comes.link.live refl
      where
        by : (b : Bool) → comes.link.live ≡ b → ⊥
        by true live = true≢false (sym (far_carrier s comes.place comes.dir comes.link w sound comes.there live (ap (slice_get s.views) comes.bridge ∙ at)) ∙ (ap (has_carrier_at w) comes.port ∙ none))
        by false dead =
            subst (IsIn f) ((ticked_sound s sound).idle comes.place comes.dir (live_there (links_of (all_ticked s)) comes.place comes.link (ticked_there s sound comes.place comes.link comes.there) ∙ dead)) comes.among

    none_comes : (r : ℕ) → has_carrier_at w r ≡ false → frames_at r (inbox_of s i) ≡ []
    none_comes r none =
        nothing_in (frames_at r (inbox_of s i)) (λ f among.
        none_over r f none
        (of_each (ComesOver (links_of s) (all_ticked s).lanes i) (inbox_of s i) r f (each_comes (links_of s) (all_ticked s).lanes i) (in_frames_at r (inbox_of s i) f among)))

    pub is_greeted : IsGreeted w (inbox_of s i)
    is_greeted = record { carrier = one_comes; others = none_comes }
