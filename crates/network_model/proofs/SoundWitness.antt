-- A network with a frame on its way over a link that is up.
use Rattle.std.proofs.Common.{ℕ, ◌≤◌, true, List, [], ◌∷◌, ◌++◌, length, refl, sym, subst, arith}
use Rattle.spb_types.specs.declared.address.Mac.{Mac}
use Rattle.spb_types.specs.declared.service.SourceId.{SourceId}
use Rattle.scenario.specs.declared.command.Command.{Command}
use Rattle.scenario.specs.declared.command.Command.TheVariants as command
use Rattle.bridge_api.specs.declared.config.BridgeConfig.{BridgeConfig}
use Rattle.bridge_api.specs.declared.kind.Kind.TheVariants as kind
use Rattle.bridge_api.specs.Step.{second, step}
use Rattle.bridge_api.specs.Laws.{IsSoundView}
use Rattle.network_model.specs.declared.kind_rule.KindRule.TheVariants as rule
use Rattle.spb_world.specs.Reason.{reason_unless}
use Rattle.spb_world.specs.Declaring.{is_vid_range, is_new_name, is_new_system, is_new_source, is_bridge_range, is_free_port, is_link_range, is_unlinked, vid_refusal, bridge_refusal, link_refusal, plan_of, bridge_of, with_vid, with_bridge, with_link, with_live, config_of}
use Rattle.spb_types.specs.Places.{changed_at}
use Rattle.network_model.specs.State.{State, Spare, next_box}
use Rattle.spb_world.specs.Links.{lane_out}
use Rattle.network_model.specs.Events.{sent_all, stepped, switched_on, with_second}
use Rattle.network_model.specs.Refusing.{declared_refusal}
use Rattle.spb_world.specs.Naming.{named_link_refusal, unnamed_refusal}
use Rattle.network_model.specs.Play.{with_vid_more, declared, linked, named_link, at_bridge, accepted_once, next_state, played_all}
use Rattle.network_model.specs.Sound.{opening}
use Rattle.network_model.specs.SoundLaws.{AreAccepted, Scene, IsBusy, SomeNetworkIsBusy}
use Rattle.network_model.proofs.SoundConfigured.{with_first_carrier, first_hello, IsHello, first_heard}
use Rattle.network_model.proofs.SoundPlay.{networks_are_sound}

abbrev system : ℕ → Mac
system n = record { bytes = 2 ∷ 0 ∷ 0 ∷ 0 ∷ 0 ∷ n ∷ [] }

abbrev pub source : ℕ → SourceId
source n = record { value = n }

abbrev pub box : Spare
box = record { kind = kind.Plain; blank = true }

abbrev pub start : State
start = opening rule.Plain (box ∷ box ∷ [])

-- a VID, two bridges of one port each, and a link between them
abbrev pub declarations : List Command
declarations =
    command.Vid 100 1
    ∷ command.Bridge (97 ∷ []) 32768 (system 1) (source 1) 1
    ∷ command.Bridge (98 ∷ []) 32768 (system 2) (source 2) 1
    ∷ command.Link (108 ∷ []) (97 ∷ []) 1 (98 ∷ []) 1 10
    ∷ []

-- and then a second of the first bridge
abbrev script : List Command
script = declarations ++ command.Tick (97 ∷ []) ∷ []

accepted : AreAccepted start script
unfolding next_state reason_unless vid_refusal bridge_refusal link_refusal is_vid_range is_new_name is_new_system is_new_source is_bridge_range is_free_port is_link_range is_unlinked with_vid with_bridge with_link with_live next_box lane_out stepped switched_on with_vid_more declared_refusal named_link_refusal unnamed_refusal declared linked named_link at_bridge
accepted = (refl, (refl, (refl, (refl, (refl, tt)))))

-- what the first bridge is configured with
abbrev first : BridgeConfig
first = config_of (record { vids = plan_of 100 1 ∷ []; bridges = []; links = []; services = []; attached = [] }) (bridge_of 32768 (system 1) (source 1) 1)

-- the network after the bridge's second, in which it sent these frames
abbrev sending : List (ℕ × List ℕ) → State
sending fs = let s : State = played_all start declarations in accepted_once (with_second (sent_all (record s { views = changed_at (step second) s.views 0 }) 0 fs) 0)

one_frame : (bytes : List ℕ) → IsHello bytes → IsBusy (sending ((1, bytes) ∷ []))
unfolding next_state vid_refusal with_vid with_bridge with_link with_live next_box lane_out stepped switched_on with_vid_more declared linked named_link
one_frame bytes is = record { live = refl; bytes = bytes; waiting = refl; hello = is.hello; way = is.way; heard = is.heard }

pub all_declared : AreAccepted start declarations
unfolding next_state reason_unless vid_refusal bridge_refusal link_refusal is_vid_range is_new_name is_new_system is_new_source is_bridge_range is_free_port is_link_range is_unlinked with_vid with_bridge with_link with_live next_box lane_out stepped switched_on with_vid_more declared_refusal named_link_refusal unnamed_refusal declared linked named_link
all_declared = (refl, (refl, (refl, (refl, tt))))

abbrev pub declaring : Scene
declaring = record { rule = rule.Plain; rack = box ∷ box ∷ []; commands = declarations; accepted = all_declared }

sound : IsSoundView (with_first_carrier first 10)
unfolding next_state vid_refusal with_vid with_bridge with_link with_live next_box lane_out stepped switched_on with_vid_more declared linked named_link
sound = (networks_are_sound declaring).views.0

shown : IsBusy (played_all start script)
unfolding next_state vid_refusal with_vid with_bridge with_link with_live next_box lane_out stepped switched_on with_vid_more declared linked named_link at_bridge
shown =
    let hello = first_hello first 1 10 refl in
    subst (λ (fs : List (ℕ × List ℕ)). IsBusy (sending fs)) (sym hello.1) (one_frame hello.0 (first_heard first 1 10 refl sound))

pub busy : SomeNetworkIsBusy
busy = record { scene = record { rule = rule.Plain; rack = box ∷ box ∷ []; commands = script; accepted = accepted }; busy = shown }

pub few_commands : length busy.scene.commands ≤ 120000
unfolding busy
few_commands = omega arith
