-- A bridge with three ports in a service is quiet from the start; a frame to all that enters at one of them leaves at
-- the others.
use Rattle.std.proofs.Common.{◌≡◌, ◌<◌, ℕ, zero, suc, Bool, true, false, true≢false, ◌||◌, inl, inr, List, [], ◌∷◌, ◌++◌, refl, sym, ap, ◌∙◌, subst, Option, Some, None, slice_get, arith}
use Rattle.std.specs.Option.{option_map_or}
use Rattle.std.specs.List.{AllByRecursion, list_any}
use Rattle.std.specs.FinMap.{get}
use Rattle.scenario.specs.declared.command.Command.{Command}
use Rattle.scenario.specs.declared.command.Command.TheVariants as command
use Rattle.spb_types.specs.Ports.{has}
use Rattle.spb_types.proofs.PortLemmas.{has-no_ports}
use Rattle.lsdb.proofs.Flags.{without_due}
use Rattle.spb_types.specs.declared.address.LspId.{LspId}
use Rattle.spb_types.specs.declared.ports.PortSet.{PortSet}
use Rattle.spb_types.specs.declared.service.Isid.{Isid}
use Rattle.spb_types.specs.declared.service.Mode.TheVariants.{Both}
use Rattle.lsdb.specs.Entry.{Entry}
use Rattle.lsdb.specs.Database.{srm_in, ssn_in}
use Rattle.bridge_api.specs.declared.port.BridgePort.{BridgePort}
use Rattle.bridge_api.specs.View.{BridgeView, has_flags, is_port_up, is_up_at, is_up_in, up_ports}
use Rattle.bridge_api.specs.Laws.{IsSoundPort, IsSoundView}
use Rattle.bridge_api.specs.Step.{customer}
use Rattle.spb_world.specs.declared.declaration.DeclaredLink.{DeclaredLink}
use Rattle.network_model.specs.declared.kind_rule.KindRule.TheVariants as rule
use Rattle.spb_world.specs.Reason.{reason_unless}
use Rattle.spb_world.specs.World.{World, things_of, place_of}
use Rattle.spb_world.specs.Declaring.{is_vid_range, is_new_name, is_new_system, is_new_source, is_bridge_range, vid_refusal, bridge_refusal, plan_of, with_vid, with_bridge}
use Rattle.spb_world.specs.Services.{is_isid_range, isid_refusal, service_of, with_service}
use Rattle.spb_world.specs.Attaching.{is_customer_port, is_customer_frame, has_isid_room, attach_refusal, entry_refusal, with_attachment_at}
use Rattle.network_model.specs.State.{State, links_of, next_box}
use Rattle.spb_world.specs.Links.{lane_out}
use Rattle.network_model.specs.Events.{stepped, port_attached, frame_entered}
use Rattle.network_model.specs.Refusing.{declared_refusal}
use Rattle.spb_world.specs.Naming.{named_attach_refusal, named_entry_refusal}
use Rattle.network_model.specs.Play.{at_place, at_bridge, declared, with_vid_more, with_service_more, next_state, played_all}
use Rattle.network_model.specs.Sound.{IsSoundState, ends_live_link}
use Rattle.network_model.specs.SoundLaws.{AreAccepted, Scene}
use Rattle.network_model.specs.Quiet.{IsQuiet, AreEmpty, HaveMet, HaveNoFlags}
use Rattle.network_model.specs.Once.{IsPassage, IsReach, SomeFramePasses}
use Rattle.spb_world.proofs.BoxLemmas.{All-get}
use Rattle.network_model.proofs.BridgeLaws.{up_ports_are_up}
use Rattle.network_model.proofs.QuietLaws.{port_of, quiet_says}
use Rattle.network_model.proofs.QuietStates.{up_is_linked}
use Rattle.network_model.proofs.SentLanes.{stepped_rest}
use Rattle.network_model.proofs.SoundPlay.{commands_keep_sound, networks_are_sound}
use Rattle.network_model.proofs.SoundWitness.{box}
use Rattle.network_model.proofs.ApartWitness.{at_port, bridge, bytes, declarations, enters, name, start}

-- ---- one bridge without links is quiet

module _ (s : State) (sound : IsSoundState s) (unlinked : links_of s ≡ []) where
  no_end : (i p : ℕ) → ends_live_link (links_of s) i p ≡ false
  unfolding lane_out
  no_end i p = ap (λ (links : List DeclaredLink). ends_live_link links i p) unlinked

  not_up : (i : ℕ) (v : BridgeView) (p : ℕ) → slice_get s.views i ≡ Some v → is_up_at v p ≡ false
  not_up i v p at = by (is_up_at v p) refl
    where
      by : (b : Bool) → is_up_at v p ≡ b → is_up_at v p ≡ false
      by true up = absurd (true≢false (sym (up_is_linked s sound i v p at up) ∙ no_end i p))
      by false down = down

  pub nothing_comes : AreEmpty s
  nothing_comes k dir = sound.idle k dir (ap (λ (links : List DeclaredLink). option_map_or (λ l. l.live) (slice_get links k) false) unlinked)

  have_met : HaveMet s
  have_met = record {
    met = λ k dir l at live. no_link k l (ap (λ (links : List DeclaredLink). slice_get links k) (sym unlinked) ∙ at);
    others = λ i v p at up. absurd (true≢false (sym up ∙ not_up i v p at));
  }
    where
      no_link : {P : Type 0} (k : ℕ) (l : DeclaredLink) → slice_get [] k ≡ Some l → P
      no_link k l at = absurd cc

  none_where : (v : BridgeView) (i : ℕ) (set : PortSet) (p : ℕ) → slice_get s.views i ≡ Some v → (has set p ≡ true → has (up_ports v) p ≡ true) → has set p ≡ false
  none_where v i set p at up = by (has set p) refl
    where
      by : (b : Bool) → has set p ≡ b → has set p ≡ false
      by true on = absurd (true≢false (sym (up on) ∙ (up_ports_are_up v p (All-get IsSoundView s.views i v sound.views at) ∙ not_up i v p at)))
      by false off = off

  none_due : (v : BridgeView) (i : ℕ) → slice_get s.views i ≡ Some v → (id : LspId) (p : ℕ) (o : Option Entry) → get v.database id ≡ o → (has (srm_in o) p ≡ false) × (has (ssn_in o) p ≡ false)
  none_due v i at_v id p None at = (has-no_ports p, has-no_ports p)
  none_due v i at_v id p (Some e) at =
      let flags = (All-get IsSoundView s.views i v sound.views at_v).database.flags id e at in
      (none_where v i e.srm p at_v (flags.srm p), none_where v i e.ssn p at_v (flags.ssn p))

  port_not_up : (v : BridgeView) (i n : ℕ) (port : BridgePort) → slice_get s.views i ≡ Some v → slice_get v.ports n ≡ Some port → is_port_up port ≡ false
  unfolding is_up_at
  port_not_up v i n port at_v at = sym (ap is_up_in (port_of v.ports n ∙ at)) ∙ not_up i v (suc n) at_v

  no_csnp : (ports : List BridgePort) → AllByRecursion IsSoundPort ports → ((n : ℕ) (port : BridgePort) → slice_get ports n ≡ Some port → is_port_up port ≡ false) → list_any (λ port. port.csnp_due) ports ≡ false
  no_csnp [] all down = refl
  no_csnp (port ∷ ports) all down = by port.csnp_due refl (no_csnp ports all.1 (λ n q at. down (suc n) q at))
    where
      by : (b : Bool) → port.csnp_due ≡ b → list_any (λ q. q.csnp_due) ports ≡ false → (b || list_any (λ q. q.csnp_due) ports) ≡ false
      by true due rest = absurd (true≢false (sym (all.0.csnp_due due) ∙ down zero port refl))
      by false due rest = rest

  no_flags : HaveNoFlags s
  unfolding has_flags
  no_flags i v at =
      let view : IsSoundView v = All-get IsSoundView s.views i v sound.views at in
      λ k. without_due v.database (λ id p. none_due v i at id p (get v.database id) refl) k || no_csnp v.ports view.ports (λ n port at_n. port_not_up v i n port at at_n) k

  pub alone_is_quiet : IsQuiet s
  alone_is_quiet = (quiet_says s).quiet.1 (record { met = have_met; empty = nothing_comes; flags = no_flags })

-- ---- three ports in a service

abbrev three : List Command
three = declarations ++ command.Attach name 3 7 Both ∷ []

abbrev world : World
world = record {
  vids = plan_of 100 1 ∷ [];
  bridges = (name, bridge) ∷ [];
  links = [];
  services = service_of 7 100 ∷ [];
  attached = (0, at_port 1) ∷ (0, at_port 2) ∷ (0, at_port 3) ∷ [];
}

all_declared : AreAccepted start three
unfolding next_state reason_unless vid_refusal bridge_refusal is_vid_range is_new_name is_new_system is_new_source is_bridge_range with_vid with_bridge next_box stepped with_vid_more declared_refusal declared at_bridge is_isid_range isid_refusal with_service with_service_more is_customer_port has_isid_room attach_refusal named_attach_refusal with_attachment_at port_attached
all_declared = (refl, (refl, (refl, (refl, (refl, (refl, tt))))))

abbrev ready : State
ready = played_all start three

ready_world : ready.world ≡ world
unfolding next_state with_vid with_bridge next_box stepped with_vid_more declared at_bridge with_service with_service_more with_attachment_at port_attached
ready_world = refl

abbrev scene : Scene
scene = record { rule = rule.Plain; rack = box ∷ []; commands = three; accepted = all_declared }

ready_sound : IsSoundState ready
ready_sound = networks_are_sound scene

named : place_of name ready.world.bridges ≡ Some 0
named = ap (λ (w : World). place_of name w.bridges) ready_world

may_enter : named_entry_refusal world name 1 bytes ≡ None
unfolding reason_unless is_customer_port is_customer_frame entry_refusal named_entry_refusal
may_enter = refl

accepted : named_entry_refusal ready.world name 1 bytes ≡ None
accepted = ap (λ (w : World). named_entry_refusal w name 1 bytes) ready_world ∙ may_enter

same_world : (s : State) → s.world ≡ world → (next_state s enters).world ≡ world
unfolding next_state at_bridge
same_world s is =
    ap (λ (w : World). (at_place (λ t i. frame_entered t i 1 bytes) s (place_of name w.bridges)).world) is
    ∙ (ap (λ (t : State). t.world) (stepped_rest (customer 1 bytes) s 0) ∙ is)

nothing_on_its_way : AreEmpty (next_state ready enters)
nothing_on_its_way = nothing_comes (next_state ready enters) (commands_keep_sound ready enters ready_sound accepted) (ap (λ (w : World). things_of w.links) (same_world ready ready_world))

octets : AllByRecursion (λ b. b < 256) bytes
octets = (omega arith, (omega arith, (omega arith, (omega arith, (omega arith, (omega arith, (omega arith, (omega arith, (omega arith, (omega arith, (omega arith, (omega arith, (omega arith, (omega arith, tt))))))))))))))

passes : IsPassage ready name 1 bytes []
passes = record { octets = octets; group = refl; onward = tt; accepted = (accepted, tt); delivered = nothing_on_its_way }

abbrev isid : Isid
isid = record { value = 7 }

second_reached : IsReach world 0 1 0 2
second_reached = record { isid = isid; here = inl (refl, refl); there = inr (inl (refl, refl, refl)); walk = []; joined = refl; other = λ same. absurd (omega (arith, same.1)) }

third_reached : IsReach world 0 1 0 3
third_reached = record { isid = isid; here = inl (refl, refl); there = inr (inr (inl (refl, refl, refl))); walk = []; joined = refl; other = λ same. absurd (omega (arith, same.1)) }

pub some_frame_passes : SomeFramePasses
some_frame_passes = record {
  scene = scene;
  few = omega arith;
  quiet = alone_is_quiet ready ready_sound (ap (λ (w : World). things_of w.links) ready_world);
  name = name;
  place = 0;
  port = 1;
  frame = bytes;
  more = [];
  named = named;
  passes = passes;
  first = subst (λ (w : World). IsReach w 0 1 0 2) (sym ready_world) second_reached;
  second = subst (λ (w : World). IsReach w 0 1 0 3) (sym ready_world) third_reached;
}
