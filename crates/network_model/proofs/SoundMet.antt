-- Some commands lead to a network in which two bridges have met.
use Rattle.std.proofs.Common.{◌≡◌, inl, inr, ◌≤◌, ◌+◌, ◌==◌, ℕ, Bool, true, false, List, [], ◌∷◌, ◌++◌, length, refl, sym, ap, ◌∙◌, subst, Some, None, if◌then◌else◌, arith}
use Rattle.std.proofs.lemmas.Bool.{eq-eqb, lt-ltb}
use Rattle.spb_types.specs.declared.address.BridgeId.{BridgeId}
use Rattle.link_model.specs.Lane.{Frame, has_room, pushed, IsIn}
use Rattle.lsdb.specs.declared.version.Version.TheVariants.{Live}
use Rattle.lsdb.specs.Certificate.{IsClaimed}
use Rattle.scenario.specs.declared.command.Command.{Command}
use Rattle.scenario.specs.declared.command.Command.TheVariants as command
use Rattle.spb_types.specs.declared.link.Dir.TheVariants.{Ab, Ba}
use Rattle.adjacency.specs.Adjacency.{down}
use Rattle.bridge_api.specs.declared.config.BridgeConfig.{BridgeConfig}
use Rattle.bridge_api.specs.View.{BridgeView}
use Rattle.bridge_api.specs.Config.{first_life, configured}
use Rattle.bridge_api.specs.Parsing.{Parsed}
use Rattle.bridge_api.specs.Step.{second, frame, carrier, metric, step, sent, frames_at}
use Rattle.bridge_api.specs.Laws.{IsSoundView, IsSent, claims_said, first_of}
use Rattle.bridge_laws.specs.Few.{HoldsFew}
use Rattle.bridge_laws.proofs.FewHeld.{configured_holds_few, steps_hold_few}
use Rattle.bridge_api.proofs.Meeting.{Starts}
use Rattle.spb_world.specs.declared.declaration.DeclaredLink.{DeclaredLink}
use Rattle.network_model.specs.declared.kind_rule.KindRule.TheVariants as rule
use Rattle.spb_world.specs.Reason.{reason_unless}
use Rattle.spb_world.specs.World.{World, things_of}
use Rattle.spb_world.specs.Declaring.{is_vid_range, is_new_name, is_new_system, is_new_source, is_bridge_range, is_free_port, is_link_range, is_unlinked, vid_refusal, bridge_refusal, link_refusal, plan_of, bridge_of, with_vid, with_bridge, with_link, with_live, config_of}
use Rattle.link_model.specs.Lanes.{lane_of}
use Rattle.network_model.specs.State.{State, next_box}
use Rattle.spb_world.specs.Links.{is_live, lane_out}
use Rattle.network_model.specs.Events.{sent_all, stepped, delivered, switched_on, next_tick, with_second}
use Rattle.network_model.specs.Refusing.{declared_refusal, frame_refusal, refusal_of}
use Rattle.spb_world.specs.Naming.{named_link_refusal, unnamed_refusal}
use Rattle.network_model.specs.Play.{with_vid_more, declared, linked, named_link, at_bridge, at_link, next_count, accepted_once, next_state, played_all}
use Rattle.network_model.specs.SoundLaws.{AreAccepted}
use Rattle.network_model.specs.DeliveryLaws.{pushed_all}
use Rattle.network_model.specs.MeetingLaws.{HaveMet, SomeBridgesMeet}
use Rattle.spb_world.proofs.ListLemmas.{length-push}
use Rattle.network_model.proofs.SoundConfigured.{with_first_carrier, first_port, first_ports, first_still}
use Rattle.network_model.proofs.SoundMeeting.{system, HaveFirstCarriers, SaysLsp, met, says_first, says_second, first_quiet, second_quiet, met_up, few_sent, hello_sent, lsp_sent}
use Rattle.network_model.proofs.SoundPlay.{networks_are_sound}
use Rattle.network_model.proofs.SoundWitness.{source, box, start, declarations, declaring}
use Rattle.network_model.proofs.SentLanes.{stepped_once, stepped_here}
use Rattle.network_model.proofs.SoundEvents.{stepped_world}

-- ---- frames in a lane

in_left : (f : Frame) (xs ys : List Frame) → IsIn f xs → IsIn f (xs ++ ys)
in_left f [] ys among = absurd among
in_left f (x ∷ xs) ys (inl here) = inl here
in_left f (x ∷ xs) ys (inr there) = inr (in_left f xs ys there)

in_last : (f : Frame) (xs : List Frame) → IsIn f (xs ++ f ∷ [])
in_last f [] = inl refl
in_last f (x ∷ xs) = inr (in_last f xs)

still_if : (b : Bool) (f x : Frame) (lane : List Frame) → IsIn f lane → IsIn f (if b then lane ++ x ∷ [] else lane)
still_if true f x lane among = in_left f lane (x ∷ []) among
still_if false f x lane among = among

still_in : (f : Frame) (lane fs : List Frame) → IsIn f lane → IsIn f (pushed_all lane fs)
still_in f lane [] among = among
still_in f lane (x ∷ fs) among = still_in f (pushed lane x) fs (still_if (has_room lane) f x lane among)

pushed_is : (lane : List Frame) (x : Frame) → length lane ≤ 1023 → pushed lane x ≡ lane ++ x ∷ []
pushed_is lane x room = ap (λ (b : Bool). if b then lane ++ x ∷ [] else lane) (lt-ltb (length lane) 1024 (omega (arith, room)))

-- frames for which there is room go in
goes_in : (f : Frame) (lane fs : List Frame) → length lane + length fs ≤ 1024 → IsIn f fs → IsIn f (pushed_all lane fs)
goes_in f lane [] room among = absurd among
goes_in f lane (x ∷ fs) room (inl here) =
    subst (λ (l : List Frame). IsIn f (pushed_all l fs)) (sym (pushed_is lane x (omega (arith, room))))
    (still_in f (lane ++ x ∷ []) fs (subst (λ (y : Frame). IsIn f (lane ++ y ∷ [])) here (in_last f lane)))
goes_in f lane (x ∷ fs) room (inr there) =
    subst (λ (l : List Frame). IsIn f (pushed_all l fs)) (sym (pushed_is lane x (omega (arith, room))))
    (goes_in f (lane ++ x ∷ []) fs (omega (arith, room, length-push lane x)) there)

at_port : (b : Bool) (f x : Frame) (more : List Frame) → b ≡ true → x ≡ f → IsIn f (if b then x ∷ more else more)
at_port true f x more here is = inl (sym is)
at_port false f x more here is = absurd cc

behind : (b : Bool) (f x : Frame) (more : List Frame) → IsIn f more → IsIn f (if b then x ∷ more else more)
behind true f x more among = inr among
behind false f x more among = among

in_frames : (fs : List (ℕ × Frame)) (p : ℕ) (f : Frame) → IsSent fs p f → IsIn f (frames_at p fs)
in_frames [] p f some = absurd some
in_frames (s ∷ fs) p f (inl here) = at_port (s.0 == p) f s.1 (frames_at p fs) (eq-eqb s.0 p here.0) here.1
in_frames (s ∷ fs) p f (inr there) = behind (s.0 == p) f s.1 (frames_at p fs) (in_frames fs p f there)

few_if : (b : Bool) (x : Frame) (more : List Frame) (n : ℕ) → length more ≤ n → length (if b then x ∷ more else more) ≤ n + 1
few_if true x more n few = omega (arith, few)
few_if false x more n few = omega (arith, few)

few_frames : (fs : List (ℕ × Frame)) (p : ℕ) → length (frames_at p fs) ≤ length fs
few_frames [] p = omega arith
few_frames (s ∷ fs) p = omega (arith, few_if (s.0 == p) s.1 (frames_at p fs) (length fs) (few_frames fs p))

-- ---- the network, by its bridges and lanes

abbrev link : DeclaredLink
link = record { a = record { bridge = 0; port = 1; metric = 10 }; b = record { bridge = 1; port = 1; metric = 10 }; live = true }

abbrev world : World
world = record {
  vids = plan_of 100 1 ∷ [];
  bridges = (97 ∷ [], bridge_of 32768 (system 1).mac (source 1) 1) ∷ (98 ∷ [], bridge_of 32768 (system 2).mac (source 2) 1) ∷ [];
  links = (108 ∷ [], link) ∷ [];
  services = [];
  attached = [];
}

abbrev at : BridgeView → BridgeView → List Frame → List Frame → ℕ → ℕ × ℕ → State
at v w ab ba n t = record { rule = rule.Plain; rack = []; world = world; views = v ∷ w ∷ []; lanes = record { ab = ab; ba = ba } ∷ []; outs = []; rounds = 0; drained = 0; accepted = n; ticks = t.0 ∷ t.1 ∷ [] }

out_there : lane_out (link ∷ []) 0 1 ≡ Some (record { link = 0; dir = Ab })
unfolding lane_out
out_there = refl

-- what each command makes of it
ticks_first : (v w : BridgeView) (n : ℕ) (t : ℕ × ℕ) (bytes : Frame) → sent second v ≡ (1, bytes) ∷ [] → next_state (at v w [] [] n t) (command.Tick (97 ∷ [])) ≡ at (step second v) w (bytes ∷ []) [] (next_count n) (next_tick t.0, t.1)
unfolding next_state at_bridge stepped lane_out
ticks_first v w n t bytes says = ap (λ (fs : List (ℕ × Frame)). accepted_once (with_second (sent_all (at (step second v) w [] [] n t) 0 fs) 0)) says

delivers_ab : (v w : BridgeView) (n : ℕ) (t : ℕ × ℕ) (bytes : Frame) → sent (frame 1 bytes) w ≡ [] → next_state (at v w (bytes ∷ []) [] n t) (command.Deliver (108 ∷ []) Ab) ≡ at v (step (frame 1 bytes) w) [] [] (next_count n) t
unfolding next_state at_link delivered stepped
delivers_ab v w n t bytes quiet = ap (λ (fs : List (ℕ × Frame)). accepted_once (sent_all (at v (step (frame 1 bytes) w) [] [] n t) 1 fs)) quiet

ticks_second : (v w : BridgeView) (n : ℕ) (t : ℕ × ℕ) (bytes : Frame) → sent second w ≡ (1, bytes) ∷ [] → next_state (at v w [] [] n t) (command.Tick (98 ∷ [])) ≡ at v (step second w) [] (bytes ∷ []) (next_count n) (t.0, next_tick t.1)
unfolding next_state at_bridge stepped lane_out
ticks_second v w n t bytes says = ap (λ (fs : List (ℕ × Frame)). accepted_once (with_second (sent_all (at v (step second w) [] [] n t) 1 fs) 1)) says

delivers_ba : (v w : BridgeView) (n : ℕ) (t : ℕ × ℕ) (bytes : Frame) → sent (frame 1 bytes) v ≡ [] → next_state (at v w [] (bytes ∷ []) n t) (command.Deliver (108 ∷ []) Ba) ≡ at (step (frame 1 bytes) v) w [] [] (next_count n) t
unfolding next_state at_link delivered stepped
delivers_ba v w n t bytes quiet = ap (λ (fs : List (ℕ × Frame)). accepted_once (sent_all (at (step (frame 1 bytes) v) w [] [] n t) 0 fs)) quiet

-- and none is refused
tick_none : (v w : BridgeView) (ab ba : List Frame) (n : ℕ) (t : ℕ × ℕ) → (refusal_of (at v w ab ba n t) (command.Tick (97 ∷ [])) ≡ None) × (refusal_of (at v w ab ba n t) (command.Tick (98 ∷ [])) ≡ None)
unfolding unnamed_refusal reason_unless
tick_none v w ab ba n t = (refl, refl)

deliver_none : (v w : BridgeView) (bytes : Frame) (n : ℕ) (t : ℕ × ℕ) → (refusal_of (at v w (bytes ∷ []) [] n t) (command.Deliver (108 ∷ []) Ab) ≡ None) × (refusal_of (at v w [] (bytes ∷ []) n t) (command.Deliver (108 ∷ []) Ba) ≡ None)
unfolding frame_refusal reason_unless
deliver_none v w bytes n t = (refl, refl)

-- ---- commands, one after another

record Leads (s : State) (cs : List Command) : Type 0 where
  accepted : AreAccepted s cs
  met : HaveMet (played_all s cs)

played_then : (s t : State) (c : Command) (cs : List Command) → refusal_of s c ≡ None → next_state s c ≡ t → Leads t cs → Leads s (c ∷ cs)
played_then s t c cs none next leads =
    let here : Leads (next_state s c) cs = subst (λ (u : State). Leads u cs) (sym next) leads in
    record { accepted = (none, here.accepted); met = here.met }

abbrev conversation : List Command
conversation = command.Tick (97 ∷ []) ∷ command.Deliver (108 ∷ []) Ab ∷ command.Tick (98 ∷ []) ∷ command.Deliver (108 ∷ []) Ba ∷ command.Tick (97 ∷ []) ∷ []

module _ (v w : BridgeView) (with_first_carrier : HaveFirstCarriers v w) where
  -- the first bridge says what it has to say, when it has met the other
  meets : (n : ℕ) (t : ℕ × ℕ) (z : BridgeView) → HaveMet (next_state (at (met v w with_first_carrier) z [] [] n t) (command.Tick (97 ∷ [])))
  unfolding next_state at_bridge
  meets n t z =
      let u : BridgeView = met v w with_first_carrier in
      let s : State = at u z [] [] n t in
      let fs : List (ℕ × Frame) = sent second u in
      let room : 0 + length (frames_at 1 fs) ≤ 1024 = omega (arith, few_frames fs 1, few_sent v w with_first_carrier) in
      let lane : lane_of (stepped second s 0).lanes 0 Ab ≡ pushed_all [] (frames_at 1 fs) =
      stepped_here second s 0 u 0 Ab link refl refl (tt, tt) (λ e. absurd (omega (arith, e))) refl (omega arith) in
      let hello = hello_sent v w with_first_carrier in
      let own : SaysLsp u = lsp_sent v w with_first_carrier in
      record {
        live = ap (λ (x : World). is_live (things_of x.links) 0) (stepped_world second s 0);
        out = ap (λ (x : World). lane_out (things_of x.links) 0 1) (stepped_world second s 0) ∙ out_there;
        view = step second u;
        there = (stepped_once second s 0 u refl).after;
        up = met_up v w with_first_carrier;
        hello = record {
          bytes = hello.bytes;
          among = subst (IsIn hello.bytes) (sym lane) (goes_in hello.bytes [] (frames_at 1 fs) room (in_frames fs 1 hello.bytes hello.sent));
          hello = hello.hello;
          way = hello.way;
          heard = hello.heard;
        };
        lsp = record {
          bytes = own.bytes;
          among = subst (IsIn own.bytes) (sym lane) (goes_in own.bytes [] (frames_at 1 fs) room (in_frames fs 1 own.bytes own.sent));
          lsp = own.lsp;
          heard = own.heard;
          number = own.number;
          sum = own.sum;
          claimed = subst (λ (j : Parsed). IsClaimed (claims_said j) own.lsp.id (Live own.number own.sum)) (sym own.heard) (inl (refl, own.live));
        };
      }

  converse : (n : ℕ) (t : ℕ × ℕ) → Leads (at v w [] [] n t) conversation
  converse n t =
      let h : Frame = first_of (sent second v) in
      let v1 : BridgeView = step second v in
      let w1 : BridgeView = step (frame 1 h) w in
      let g : Frame = first_of (sent second w1) in
      let w2 : BridgeView = step second w1 in
      let v2 : BridgeView = step (frame 1 g) v1 in
      let n1 : ℕ = next_count n in
      let n2 : ℕ = next_count n1 in
      let n3 : ℕ = next_count n2 in
      let n4 : ℕ = next_count n3 in
      let t1 : ℕ × ℕ = (next_tick t.0, t.1) in
      let t2 : ℕ × ℕ = (t1.0, next_tick t1.1) in
      played_then (at v w [] [] n t) (at v1 w (h ∷ []) [] n1 t1) _ _ (tick_none v w [] [] n t).0 (ticks_first v w n t h (says_first v w with_first_carrier))
      (played_then (at v1 w (h ∷ []) [] n1 t1) (at v1 w1 [] [] n2 t1) _ _ (deliver_none v1 w h n1 t1).0 (delivers_ab v1 w n1 t1 h (first_quiet v w with_first_carrier w))
      (played_then (at v1 w1 [] [] n2 t1) (at v1 w2 [] (g ∷ []) n3 t2) _ _ (tick_none v1 w1 [] [] n2 t1).1 (ticks_second v1 w1 n2 t1 g (says_second v w with_first_carrier))
      (played_then (at v1 w2 [] (g ∷ []) n3 t2) (at v2 w2 [] [] n4 t2) _ _ (deliver_none v1 w2 g n3 t2).1 (delivers_ba v1 w2 n3 t2 g (second_quiet v w with_first_carrier v1))
      (record { accepted = ((tick_none v2 w2 [] [] n4 t2).0, tt); met = meets n4 t2 w2 }))))

-- ---- the two bridges, when their link has come up

starts_with_carrier : (c : BridgeConfig) (m n : ℕ) → c.metrics ≡ m ∷ [] → Starts c.id.system (down true) (with_first_carrier c n)
starts_with_carrier c m n is = record { port = first_port n; rest = []; id = ap (λ (id : BridgeId). id.system) (first_still c n).id; is = first_ports c m n is; adjacency = refl }

few_with_carrier : (c : BridgeConfig) (n : ℕ) → c.last ≡ first_life → HoldsFew 3 (with_first_carrier c n)
few_with_carrier c n first = steps_hold_few 2 (carrier 1 true) (step (metric 1 n) (configured c)) (omega arith) tt (steps_hold_few 1 (metric 1 n) (configured c) (omega arith) tt (configured_holds_few c first))

abbrev pub config : ℕ → BridgeConfig
config n = config_of (record { vids = plan_of 100 1 ∷ []; bridges = []; links = []; services = []; attached = [] }) (bridge_of 32768 (system n).mac (source n) 1)

both_sound : IsSoundView (with_first_carrier (config 1) 10) × IsSoundView (with_first_carrier (config 2) 10)
unfolding next_state vid_refusal with_vid with_bridge with_link with_live next_box lane_out stepped switched_on with_vid_more declared linked named_link
both_sound =
    let views = (networks_are_sound declaring).views in
    (views.0, views.1.0)

have_first_carriers : HaveFirstCarriers (with_first_carrier (config 1) 10) (with_first_carrier (config 2) 10)
have_first_carriers =
    record {
      first = starts_with_carrier (config 1) 1 10 refl;
      other = starts_with_carrier (config 2) 1 10 refl;
      sound = both_sound.0;
      other_sound = both_sound.1;
      one = ap length (first_ports (config 1) 1 10 refl);
      other_one = ap length (first_ports (config 2) 1 10 refl);
      few = few_with_carrier (config 1) 10 refl;
    }

all_met : Leads (at (with_first_carrier (config 1) 10) (with_first_carrier (config 2) 10) [] [] 4 (0, 0)) conversation
all_met = converse (with_first_carrier (config 1) 10) (with_first_carrier (config 2) 10) have_first_carriers 4 (0, 0)

accepted : AreAccepted start (declarations ++ conversation)
unfolding next_state reason_unless vid_refusal bridge_refusal link_refusal is_vid_range is_new_name is_new_system is_new_source is_bridge_range is_free_port is_link_range is_unlinked with_vid with_bridge with_link with_live next_box lane_out stepped switched_on with_vid_more declared_refusal named_link_refusal declared linked named_link
accepted = (refl, (refl, (refl, (refl, all_met.accepted))))

have_met : HaveMet (played_all start (declarations ++ conversation))
unfolding next_state vid_refusal with_vid with_bridge with_link with_live next_box lane_out stepped switched_on with_vid_more declared linked named_link
have_met = all_met.met

pub bridges_meet : SomeBridgesMeet
bridges_meet = record {
  scene = record { rule = rule.Plain; rack = box ∷ box ∷ []; commands = declarations ++ conversation; accepted = accepted };
  met = have_met;
}
