-- A bridge with two ports in a service: a frame that enters at one leaves at the other.
use Rattle.std.proofs.Common.{◌≡◌, ℕ, List, [], ◌∷◌, ◌++◌, refl, ap, ◌∙◌, Option, None, slice_get}
use Rattle.std.specs.Option.{option_map_or}
use Rattle.scenario.specs.declared.command.Command.{Command}
use Rattle.scenario.specs.declared.command.Command.TheVariants as command
use Rattle.spb_types.specs.declared.address.Mac.{Mac}
use Rattle.spb_types.specs.declared.service.Attachment.{Attachment}
use Rattle.spb_types.specs.declared.service.Mode.TheVariants.{Both}
use Rattle.forwarding.specs.Tenant.{of_customer}
use Rattle.bridge_api.specs.View.{BridgeView}
use Rattle.bridge_api.specs.Services.{attachment_of}
use Rattle.bridge_api.specs.Customers.{moved_by_entry}
use Rattle.bridge_api.specs.Tables.{own_tables}
use Rattle.bridge_api.specs.Step.{customer, left_by}
use Rattle.network_model.specs.declared.answer.Out.{Out}
use Rattle.spb_world.specs.declared.declaration.DeclaredBridge.{DeclaredBridge}
use Rattle.network_model.specs.declared.kind_rule.KindRule.TheVariants as rule
use Rattle.spb_world.specs.Reason.{reason_unless}
use Rattle.spb_world.specs.World.{World, names_of, things_of, place_of, attached_at}
use Rattle.spb_world.specs.Declaring.{is_vid_range, is_new_name, is_new_system, is_new_source, is_bridge_range, vid_refusal, bridge_refusal, plan_of, bridge_of, with_vid, with_bridge}
use Rattle.spb_world.specs.Services.{is_isid_range, isid_refusal, service_of, with_service}
use Rattle.spb_world.specs.Attaching.{is_customer_port, is_customer_frame, has_isid_room, attach_refusal, entry_refusal, with_attachment_at}
use Rattle.network_model.specs.State.{State, next_box}
use Rattle.network_model.specs.Events.{outs_at, stepped, port_attached, frame_entered}
use Rattle.network_model.specs.Refusing.{declared_refusal, refusal_of}
use Rattle.spb_world.specs.Naming.{named_attach_refusal, named_entry_refusal}
use Rattle.network_model.specs.Play.{at_place, at_bridge, declared, with_vid_more, with_service_more, next_state, played_all, answer_of}
use Rattle.network_model.specs.Sound.{IsSoundState, opening}
use Rattle.network_model.specs.SoundLaws.{AreAccepted, Scene}
use Rattle.network_model.specs.Isolation.{outs_in, SomeFrameLeaves}
use Rattle.network_model.proofs.SoundEvents.{core_of}
use Rattle.network_model.proofs.SoundPlay.{networks_are_sound}
use Rattle.network_model.proofs.SoundWitness.{source, box}
use Rattle.network_model.proofs.CountedMoves.{shown_at}
use Rattle.network_model.proofs.ApartOuts.{stepped_outs}

abbrev system : Mac
system = record { bytes = 2 ∷ 0 ∷ 0 ∷ 0 ∷ 0 ∷ 1 ∷ [] }

abbrev pub name : List ℕ
name = 97 ∷ []

-- a frame to all
abbrev pub bytes : List ℕ
bytes = 255 ∷ 255 ∷ 255 ∷ 255 ∷ 255 ∷ 255 ∷ 2 ∷ 0 ∷ 0 ∷ 0 ∷ 0 ∷ 9 ∷ 8 ∷ 0 ∷ []

-- a VID, a bridge, a service, and two ports in it
abbrev pub declarations : List Command
declarations =
    command.Vid 100 1
    ∷ command.Bridge name 32768 system (source 1) 1
    ∷ command.Isid 7 100
    ∷ command.Attach name 1 7 Both
    ∷ command.Attach name 2 7 Both
    ∷ []

abbrev pub start : State
start = opening rule.Plain (box ∷ [])

abbrev pub enters : Command
enters = command.Frame name 1 bytes

abbrev pub at_port : ℕ → Attachment
at_port port = attachment_of port (record { value = 7 }) (record { value = 100 }) Both

abbrev attached : List Attachment
attached = at_port 1 ∷ at_port 2 ∷ []

abbrev pub bridge : DeclaredBridge
bridge = bridge_of 32768 system (source 1) 1

abbrev world : World
world = record {
  vids = plan_of 100 1 ∷ [];
  bridges = (name, bridge) ∷ [];
  links = [];
  services = service_of 7 100 ∷ [];
  attached = (0, at_port 1) ∷ (0, at_port 2) ∷ [];
}

all_declared : AreAccepted start declarations
unfolding next_state reason_unless vid_refusal bridge_refusal is_vid_range is_new_name is_new_system is_new_source is_bridge_range with_vid with_bridge next_box stepped with_vid_more declared_refusal declared at_bridge is_isid_range isid_refusal with_service with_service_more is_customer_port has_isid_room attach_refusal named_attach_refusal with_attachment_at port_attached
all_declared = (refl, (refl, (refl, (refl, (refl, tt)))))

abbrev scene : Scene
scene = record { rule = rule.Plain; rack = box ∷ []; commands = declarations; accepted = all_declared }

accepted : refusal_of (played_all start declarations) enters ≡ None
unfolding next_state reason_unless vid_refusal bridge_refusal is_vid_range is_new_name is_new_system is_new_source is_bridge_range with_vid with_bridge next_box stepped with_vid_more declared_refusal declared at_bridge is_isid_range isid_refusal with_service with_service_more is_customer_port has_isid_room attach_refusal named_attach_refusal with_attachment_at port_attached is_customer_frame entry_refusal named_entry_refusal
accepted = refl

ends_there : (played_all start declarations).world ≡ world
unfolding next_state with_vid with_bridge next_box stepped with_vid_more declared at_bridge with_service with_service_more with_attachment_at port_attached
ends_there = refl

nothing_out : (played_all start declarations).outs ≡ []
unfolding next_state
nothing_out = refl

-- what leaves a bridge with the two ports
left_is : (v : BridgeView) → v.attached ≡ attached → left_by (customer 1 bytes) v ≡ (2, bytes) ∷ []
unfolding moved_by_entry
left_is v same = ap (λ (as_attached : List Attachment). (of_customer (record { me = v.id.system.mac; source = v.source; attached = as_attached; learned = v.learned }) (own_tables v) 1 bytes).left) same

abbrev out : Out
out = record { bridge = name; port = 2; frame = bytes }

leaves_from : (s : State) → IsSoundState s → s.outs ≡ [] → s.world ≡ world → (stepped (customer 1 bytes) s 0).outs ≡ out ∷ []
leaves_from s sound none is =
    let view = shown_at s 0 bridge (core_of s sound) (ap (λ (w : World). slice_get (things_of w.bridges) 0) is) in
    let left : left_by (customer 1 bytes) view.0 ≡ (2, bytes) ∷ [] = left_is view.0 (sound.attached 0 view.0 view.1 ∙ ap (λ (w : World). attached_at w 0) is) in
    let found : option_map_or (left_by (customer 1 bytes)) (slice_get s.views 0) [] ≡ (2, bytes) ∷ [] = ap (λ (o : Option BridgeView). option_map_or (left_by (customer 1 bytes)) o []) view.1 ∙ left in
    stepped_outs (customer 1 bytes) s 0
    ∙ (λ j. none j ++ outs_at (slice_get (names_of (is j).bridges) 0) (found j))

answers : (s : State) → IsSoundState s → s.outs ≡ [] → s.world ≡ world → outs_in (answer_of s enters) ≡ out ∷ []
unfolding at_bridge
answers s sound none is =
    ap (λ (w : World). (at_place (λ t i. frame_entered t i 1 bytes) s (place_of name w.bridges)).outs) is
    ∙ leaves_from s sound none is

pub some_frame_leaves : SomeFrameLeaves
some_frame_leaves = record {
  scene = scene;
  last = enters;
  accepted = accepted;
  out = out;
  leaves = answers (played_all start declarations) (networks_are_sound scene) nothing_out ends_there;
}
