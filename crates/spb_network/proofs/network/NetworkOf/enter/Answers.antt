use Rattle.std.proofs.Common.{[], ◌++◌, ◌∙◌, sym, ap, subst, slice_get, arith}
use Rattle.std.specs.Option.{option_map_or}
use Rattle.bridge_api.specs.Step as comes
use Rattle.bridge_api.specs.Step.{sent, left_by}
use Rattle.spb_network.specs.Network.{state_of, AreConfigured}
use Rattle.spb_world.proofs.BoxLemmas.{on_ok}
use Rattle.spb_network.proofs.SendLemmas.{stepped-moved}
use Rattle.network_model.proofs.SoundAttaching.{is_sending_port}
use Rattle.network_model.proofs.SoundEntering.{entry_refusal_none}
use Rattle.spb_network.proofs.network.NetworkOf.enter.Goals as goal

pub overflow_cast-port : goal.overflow_cast-port
overflow_cast-port g c =
    let is = entry_refusal_none c.args.self.now.world c.args.place c.args.port c.args.frame.now c.requires.accepted in
    omega (arith, is.port_high)

pub enter-requires-clause-sending : goal.enter-requires-clause-sending
enter-requires-clause-sending g c =
    is_sending_port (state_of g.B.Bridge.shown c.args.self.now) c.args.place c.args.port c.requires.sound.state (entry_refusal_none c.args.self.now.world c.args.place c.args.port c.args.frame.now c.requires.accepted).sending

pub enter-requires-clause-frame : goal.enter-requires-clause-frame
enter-requires-clause-frame g c = (entry_refusal_none c.args.self.now.world c.args.place c.args.port c.args.frame.now c.requires.accepted).frame

pub returns-clause-state : goal.returns-clause-state
returns-clause-state g c =
    let s = state_of g.B.Bridge.shown c.args.self.now in
    let x = comes.customer c.args.port c.args.frame.now in
    on_ok c.send_on.result (λ e. e ∙ stepped-moved x s c.args.place _ _ _ c.in_ok-enter.ensures.views
    (c.in_ok-enter.ensures.sent ∙ ap (λ w. w ++ option_map_or (sent x) (slice_get s.views c.args.place) []) c.new-outbox.ensures.wire)
    (c.in_ok-enter.ensures.left ∙ ap (λ w. w ++ option_map_or (left_by x) (slice_get s.views c.args.place) []) c.new-outbox.ensures.left)) c.send_on.ensures.state

pub returns-clause-made : goal.returns-clause-made
returns-clause-made g c =
    on_ok c.send_on.result (λ e. subst (λ b. AreConfigured g.B.Bridge.shown b.items) (sym c.send_on.ensures.boxes) c.in_ok-enter.ensures.made) c.send_on.ensures.state
