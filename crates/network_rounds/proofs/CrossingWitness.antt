-- A quiet network into which a frame comes that crosses a link: two bridges, whose link came up, and a port of each in a
-- service, eight rounds before.
use Rattle.std.proofs.Common.{◌≡◌, ℕ, ◌-◌, ◌≤◌, true, List, [], ◌∷◌, ◌++◌, length, refl, sym, ap, ◌∙◌, subst, Some, None, slice_get, arith}
use Rattle.scenario.specs.declared.command.Command.{Command}
use Rattle.scenario.specs.declared.command.Command.TheVariants as command
use Rattle.spb_types.specs.declared.service.Attachment.{Attachment}
use Rattle.spb_types.specs.declared.service.Mode.TheVariants.{Both}
use Rattle.bridge_api.specs.Services.{with_attached, with_attachment}
use Rattle.bridge_api.specs.Step.{attach}
use Rattle.bridge_api.specs.View.{BridgeView}
use Rattle.bridge_laws.proofs.FewHeld.{steps_bring_few}
use Rattle.spb_world.specs.Reason.{reason_unless}
use Rattle.spb_world.specs.World.{World, names_of, things_of, place_of}
use Rattle.spb_world.specs.Declaring.{vid_refusal, with_vid, with_bridge, with_link, with_live}
use Rattle.spb_world.specs.Services.{is_isid_range, isid_refusal, with_service}
use Rattle.spb_world.specs.Attaching.{is_customer_port, has_isid_room, attach_refusal, with_attachment_at}
use Rattle.spb_world.specs.Links.{is_live, lane_out}
use Rattle.spb_world.specs.Naming.{named_attach_refusal}
use Rattle.network_model.specs.State.{State, next_box}
use Rattle.network_model.specs.Events.{stepped, switched_on, port_attached}
use Rattle.network_model.specs.Refusing.{round_refusal, refusal_of}
use Rattle.network_model.specs.Play.{at_bridge, with_vid_more, with_service_more, declared, linked, named_link, next_state}
use Rattle.network_model.specs.Quiet.{IsQuiet}
use Rattle.network_model.specs.SoundLaws.{AreAccepted, Scene, state_after, opening_of}
use Rattle.network_model.specs.Counted.{IsCounted, most_commands}
use Rattle.network_model.specs.Truth.{AreLinked}
use Rattle.network_model.specs.Once.{IsPassage, IsReach}
use Rattle.network_model.proofs.ApartWitness.{at_port, name, bytes}
use Rattle.network_model.proofs.AtRest.{at_rest}
use Rattle.network_model.proofs.CountedPlay.{opening_counted, all_counted, networks_are_counted}
use Rattle.network_model.proofs.OnceLaws.{networks_deliver_once}
use Rattle.network_model.proofs.SoundConfigured.{with_first_carrier}
use Rattle.network_model.proofs.SoundMet.{config}
use Rattle.network_model.proofs.SoundPlay.{opening_sound, networks_are_sound}
use Rattle.network_model.proofs.SoundWitness.{declarations, declaring}
use Rattle.network_rounds.specs.Agreement.{IsReached}
use Rattle.network_rounds.specs.Crossing.{SomeFrameCrosses}
use Rattle.network_rounds.specs.Premises.{is_ready}
use Rattle.network_rounds.specs.Settling.{most_settling}
use Rattle.network_rounds.specs.SettlingLaws.{RoundsSettle}
use Rattle.network_rounds.specs.Steady.{known_ids}
use Rattle.network_rounds.proofs.Agreed.{world_on}
use Rattle.network_rounds.proofs.Along.{commands_are_rounds}
use Rattle.network_rounds.proofs.Crossed.{across, world, onward, passes, reach}
use Rattle.network_rounds.proofs.Passing.{starts_passing}
use Rattle.network_rounds.proofs.Settled.{reached}
use Rattle.network_rounds.proofs.SettlingWitness.{AreNew, IsYoung, few_first, new_first, new_settled, ready, sixteen}

-- ---- a bridge whose port is attached

new_attached : (v : BridgeView) (a : Attachment) → AreNew v.database → AreNew (with_attachment a v).database
unfolding with_attached
new_attached v a all = new_settled (record v { attached = v.attached ++ a ∷ [] }) all

abbrev view : ℕ → BridgeView
view n = with_attachment (at_port 1) (with_first_carrier (config n) 10)

young : (n : ℕ) → IsYoung (view n)
young n =
    let v : BridgeView = with_first_carrier (config n) 10 in
    record { new = new_attached v (at_port 1) (new_first (config n) 1 10 refl); few = omega (arith, few_first (config n) 10 refl, steps_bring_few (attach (at_port 1)) v tt, sixteen) }

-- ---- the commands

-- a service, and a port of each bridge in it
abbrev attaching : List Command
attaching = command.Isid 7 100 ∷ command.Attach name 1 7 Both ∷ command.Attach (98 ∷ []) 1 7 Both ∷ []

all_attached : AreAccepted (state_after declaring) attaching
unfolding next_state reason_unless vid_refusal with_vid with_bridge with_link with_live next_box lane_out stepped switched_on with_vid_more declared linked named_link at_bridge is_isid_range isid_refusal with_service with_service_more is_customer_port has_isid_room attach_refusal named_attach_refusal with_attachment_at port_attached
all_attached = (refl, (refl, (refl, tt)))

abbrev served : Scene
served = record {
  rule = declaring.rule;
  rack = declaring.rack;
  commands = declarations ++ attaching;
  accepted = (declaring.accepted.0, (declaring.accepted.1.0, (declaring.accepted.1.1.0, (declaring.accepted.1.1.1.0, all_attached))));
}

abbrev s : State
s = state_after served

two : length s.views ≡ 2
unfolding next_state vid_refusal with_vid with_bridge with_link with_live next_box lane_out stepped switched_on with_vid_more declared linked named_link at_bridge with_service with_service_more with_attachment_at port_attached
two = refl

world_there : s.world ≡ world
unfolding next_state vid_refusal with_vid with_bridge with_link with_live next_box lane_out stepped switched_on with_vid_more declared linked named_link at_bridge with_service with_service_more with_attachment_at port_attached
world_there = refl

is_ready_there : is_ready (most_settling s) s ≡ true
unfolding next_state vid_refusal with_vid with_bridge with_link with_live next_box lane_out stepped switched_on with_vid_more declared linked named_link at_bridge with_service with_service_more with_attachment_at port_attached
is_ready_there = ready world 7 (view 1) (view 2) (young 1) (young 2)

eight_accepted : refusal_of s (command.Round 8) ≡ None
unfolding next_state vid_refusal with_vid with_bridge with_link with_live next_box lane_out stepped switched_on with_vid_more declared linked named_link at_bridge with_service with_service_more with_attachment_at port_attached round_refusal reason_unless
eight_accepted = refl

abbrev settling : Scene
settling = record {
  rule = served.rule;
  rack = served.rack;
  commands = declarations ++ (attaching ++ command.Round 8 ∷ []);
  accepted = (declaring.accepted.0, (declaring.accepted.1.0, (declaring.accepted.1.1.0, (declaring.accepted.1.1.1.0, (all_attached.0, (all_attached.1.0, (all_attached.1.1.0, (eight_accepted, tt))))))));
}

abbrev t : State
t = state_after settling

-- ---- eight rounds later

counts : IsCounted s × (s.accepted ≤ most_commands)
counts = all_counted (opening_of served) served.commands (opening_sound served.rule served.rack) (opening_counted served.rule served.rack) served.accepted (omega arith)

then_reached : IsReached (length s.views - 1) (most_settling s) 8 s t
then_reached = reached s (networks_are_sound served) counts.0 counts.1 is_ready_there 8 t (commands_are_rounds 8 s) (omega (arith, two))

same_world : world ≡ t.world
same_world = sym (world_on (known_ids s) 8 s t (commands_are_rounds 8 s) (starts_passing (most_settling s) 8 s then_reached.ready) ∙ world_there)

nothing_out : t.outs ≡ []
unfolding next_state
nothing_out = refl

module _ (settle : RoundsSettle) where
  quiet : IsQuiet t
  quiet = settle (length s.views - 1) (most_settling s) 8 s t then_reached (omega (arith, two))

  passage : IsPassage t name 1 bytes onward
  passage = passes t (at_rest t (networks_are_sound settling) (networks_are_counted settling (omega arith)) quiet) nothing_out (sym same_world)

  named : place_of name t.world.bridges ≡ Some 0
  named = ap (λ (w : World). place_of name w.bridges) (sym same_world)

  reaches : IsReach t.world 0 1 1 1
  reaches = subst (λ (w : World). IsReach w 0 1 1 1) same_world reach

  pub some_frame_crosses : SomeFrameCrosses
  some_frame_crosses = record {
    scene = settling;
    few = omega arith;
    live = ap (λ (w : World). is_live (things_of w.links) 0) (sym same_world);
    quiet = quiet;
    name = name;
    place = 0;
    port = 1;
    frame = bytes;
    more = onward;
    named = named;
    passes = passage;
    leaving = 98 ∷ [];
    there = 1;
    exit = 1;
    called = ap (λ (w : World). place_of (98 ∷ []) w.bridges) (sym same_world);
    other = λ same. absurd (omega (arith, same));
    across = subst (λ (w : World). AreLinked (things_of w.links) 0 1) same_world across;
    reach = reaches;
    once = (networks_deliver_once settling (omega arith) quiet name 0 1 bytes onward named passage).once 1 1 (98 ∷ []) (ap (λ (w : World). slice_get (names_of w.bridges) 1) (sym same_world)) reaches;
  }
