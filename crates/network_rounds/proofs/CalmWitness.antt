-- A network that passes rounds in calm: two bridges, whose link came up eight rounds before.
use Rattle.std.proofs.Common.{◌≡◌, ℕ, zero, suc, ◌-◌, ◌≤◌, true, false, [], ◌∷◌, ◌++◌, length, refl, sym, ap, ◌∙◌, subst, None, arith}
use Rattle.std.proofs.lemmas.List.{length-map}
use Rattle.scenario.specs.declared.command.Command.TheVariants as command
use Rattle.bridge_api.specs.declared.config.BridgeConfig.{BridgeConfig}
use Rattle.bridge_api.specs.Config.{configured}
use Rattle.bridge_api.specs.Step.{carrier, metric, second, step}
use Rattle.bridge_api.specs.View.{BridgeView}
use Rattle.bridge_api.proofs.Certified.{steps_keep_bridge}
use Rattle.bridge_rounds.proofs.MailSound.{mail_keeps_bridge}
use Rattle.spb_world.proofs.BoxLemmas.{All-get}
use Rattle.spb_world.specs.Declaring.{vid_refusal, with_vid, with_bridge, with_link, with_live}
use Rattle.spb_world.specs.Links.{is_live, lane_out}
use Rattle.spb_world.specs.Reason.{reason_unless}
use Rattle.spb_world.specs.World.{World, things_of}
use Rattle.network_model.specs.State.{State, next_box, links_of}
use Rattle.network_model.specs.Events.{stepped, switched_on, next_tick, one_round, rounds}
use Rattle.network_model.specs.Play.{with_vid_more, declared, linked, named_link, with_rounds, next_state}
use Rattle.network_model.specs.Refusing.{round_refusal, refusal_of}
use Rattle.network_model.specs.Sound.{IsSoundState}
use Rattle.network_model.specs.SoundLaws.{Scene, state_after, opening_of}
use Rattle.network_model.specs.Counted.{IsCounted, most_commands}
use Rattle.network_model.proofs.CountedPlay.{opening_counted, all_counted}
use Rattle.network_model.proofs.SoundConfigured.{with_first_carrier}
use Rattle.network_model.proofs.SoundEvents.{Sound-one_round}
use Rattle.network_model.proofs.SoundMet.{config}
use Rattle.network_model.proofs.SoundMoves.{All-each}
use Rattle.network_model.proofs.SoundPlay.{opening_sound, networks_are_sound}
use Rattle.network_model.proofs.SoundWitness.{declarations, declaring}
use Rattle.network_rounds.specs.Agreement.{IsReached}
use Rattle.network_rounds.specs.Calm.{AreCalmFor}
use Rattle.network_rounds.specs.CalmLaws.{AreWorking, SomeNetworkIsCalmFor}
use Rattle.network_rounds.specs.Rounds.{HasNoCustomers}
use Rattle.network_rounds.specs.Settling.{most_settling}
use Rattle.network_rounds.specs.SettlingLaws.{RoundsSettle}
use Rattle.network_rounds.specs.Steady.{inbox_of, known_ids}
use Rattle.network_rounds.proofs.Agreed.{world_on}
use Rattle.network_rounds.proofs.Along.{commands_are_rounds}
use Rattle.network_rounds.proofs.CalmQuiet.{settled_passes_in_calm}
use Rattle.network_rounds.proofs.CalmRest.{round_rest}
use Rattle.network_rounds.proofs.Heard.{rounds_are_heard}
use Rattle.network_rounds.proofs.Passing.{heard_view, empty_plain, starts_passing}
use Rattle.network_rounds.proofs.Settled.{reached}
use Rattle.network_rounds.proofs.SettlingWitness.{is_ready_there, is_live_there}
use Rattle.network_rounds.proofs.Start.{starts_plain}

-- ---- rounds keep what works

round_works : (s : State) → IsSoundState s → HasNoCustomers s.lanes → AreWorking s → AreWorking (one_round s)
round_works s sound plain working =
    let t : State = one_round s in
    let heard = rounds_are_heard s sound plain in
    let then_sound : IsSoundState t = Sound-one_round s sound in
    let ticks : length t.ticks ≡ length s.ticks = ap (λ (x : State). length x.ticks) (round_rest s sound plain working.counted) ∙ length-map s.ticks next_tick in
    let world : length t.world.bridges ≡ length s.world.bridges = ap (λ (w : World). length w.bridges) heard.world in
    record {
      works = All-each (λ v. v.failed ≡ false) t.views (λ i w at.
          let before = heard_view s t i w heard at in
          let v : BridgeView = before.0 in
          ap (λ (u : BridgeView). u.failed) before.2
          ∙ ((mail_keeps_bridge (step second v) (inbox_of s i)).failed
          ∙ ((steps_keep_bridge second v).failed
          ∙ All-get (λ u. u.failed ≡ false) s.views i v working.works before.1)));
      counted = ticks ∙ (working.counted ∙ (sound.fits.bridges ∙ (sym world ∙ sym then_sound.fits.bridges)));
    }

rounds_work : (k : ℕ) (s : State) → IsSoundState s → HasNoCustomers s.lanes → AreWorking s → AreWorking (rounds k s)
rounds_work zero s sound plain working = working
rounds_work (suc k) s sound plain working =
    rounds_work k (one_round s) (Sound-one_round s sound) (empty_plain (one_round s) (rounds_are_heard s sound plain).lanes) (round_works s sound plain working)

command_works : (k : ℕ) (s : State) → IsSoundState s → HasNoCustomers s.lanes → AreWorking s → AreWorking (next_state s (command.Round k))
unfolding next_state with_rounds
command_works k s sound plain working =
    let after : AreWorking (rounds k s) = rounds_work k s sound plain working in
    record { works = after.works; counted = after.counted }

-- ---- two bridges and their link

unfailed : (c : BridgeConfig) → (configured c).failed ≡ false
unfolding configured
unfailed c = refl

first_unfailed : (c : BridgeConfig) (n : ℕ) → (with_first_carrier c n).failed ≡ false
first_unfailed c n =
    (steps_keep_bridge (carrier 1 true) (step (metric 1 n) (configured c))).failed ∙ ((steps_keep_bridge (metric 1 n) (configured c)).failed ∙ unfailed c)

abbrev s : State
s = state_after declaring

two : length s.views ≡ 2
unfolding next_state vid_refusal with_vid with_bridge with_link with_live next_box lane_out stepped switched_on with_vid_more declared linked named_link
two = refl

first_works : AreWorking s
unfolding next_state vid_refusal with_vid with_bridge with_link with_live next_box lane_out stepped switched_on with_vid_more declared linked named_link
first_works = record { works = (first_unfailed (config 1) 10, (first_unfailed (config 2) 10, tt)); counted = refl }

eight_accepted : refusal_of s (command.Round 8) ≡ None
unfolding next_state vid_refusal with_vid with_bridge with_link with_live next_box lane_out stepped switched_on with_vid_more declared linked named_link round_refusal reason_unless
eight_accepted = refl

abbrev calming : Scene
calming = record {
  rule = declaring.rule;
  rack = declaring.rack;
  commands = declarations ++ command.Round 8 ∷ [];
  accepted = (declaring.accepted.0, (declaring.accepted.1.0, (declaring.accepted.1.1.0, (declaring.accepted.1.1.1.0, (eight_accepted, tt)))));
}

abbrev t : State
t = state_after calming

counts : IsCounted s × (s.accepted ≤ most_commands)
counts = all_counted (opening_of declaring) declaring.commands (opening_sound declaring.rule declaring.rack) (opening_counted declaring.rule declaring.rack) declaring.accepted (omega arith)

sound : IsSoundState s
sound = networks_are_sound declaring

then_reached : IsReached (length s.views - 1) (most_settling s) 8 s t
then_reached = reached s sound counts.0 counts.1 is_ready_there 8 t (commands_are_rounds 8 s) (omega (arith, two))

passes : RoundsSettle → AreCalmFor 16 t
passes settle =
    let left : most_settling s - 8 ≡ 16 = omega (arith, two) in
    subst (λ (m : ℕ). AreCalmFor m t) left
    (settled_passes_in_calm settle (length s.views - 1) (most_settling s) 8 s t then_reached (omega (arith, two))
    (command_works 8 s sound (starts_plain (most_settling s) s is_ready_there) first_works))

live : is_live (links_of t) 0 ≡ true
live =
    let world : t.world ≡ s.world = world_on (known_ids s) 8 s t (commands_are_rounds 8 s) (starts_passing (most_settling s) 8 s then_reached.ready) in
    ap (λ (w : World). is_live (things_of w.links) 0) world ∙ is_live_there

pub some_network_is_calm : RoundsSettle → SomeNetworkIsCalmFor 16
some_network_is_calm settle = record { scene = calming; live = live; quiet = settle (length s.views - 1) (most_settling s) 8 s t then_reached (omega (arith, two)); calm = passes settle }
