use Rattle.std.proofs.Common.{[], ◌++◌, ◌∙◌, sym, ap, subst, slice_get}
use Rattle.std.specs.Option.{option_map_or}
use Rattle.bridge_api.specs.Step as comes
use Rattle.bridge_api.specs.Step.{sent, left_by}
use Rattle.spb_network.specs.Network.{state_of, AreConfigured}
use Rattle.network_model.specs.State.{Fits}
use Rattle.spb_world.proofs.BoxLemmas.{on_ok}
use Rattle.spb_network.proofs.SendLemmas.{stepped-moved, stepped-silent}
use Rattle.network_model.proofs.FitsLemmas.{Fits-stepped, end_is_port}
use Rattle.spb_network.proofs.network.NetworkOf.hear.Goals as goal

pub hear-requires-clause-port : goal.hear-requires-clause-port
hear-requires-clause-port g c = end_is_port (state_of g.B.Bridge.shown c.args.self.now) c.args.end c.requires.order.fits c.requires.end

pub returns-then-is_empty-clause-state : goal.returns-then-is_empty-clause-state
returns-then-is_empty-clause-state g c =
    let s = state_of g.B.Bridge.shown c.args.self.now in
    let x = comes.frame c.args.end.port c.args.frame.now in
    stepped-silent x s c.args.end.bridge _ _ _ c.in_ok-hear.ensures.views
    (c.in_ok-hear.ensures.sent ∙ ap (λ w. w ++ option_map_or (sent x) (slice_get s.views c.args.end.bridge) []) c.new-outbox.ensures.wire)
    (c.in_ok-hear.ensures.left ∙ ap (λ w. w ++ option_map_or (left_by x) (slice_get s.views c.args.end.bridge) []) c.new-outbox.ensures.left)
    (c.is_empty.ensures.wire c.if-is_empty.true) (c.is_empty.ensures.left c.if-is_empty.true)

pub returns-then-is_empty-clause-order : goal.returns-then-is_empty-clause-order
returns-then-is_empty-clause-order g c = record {
  made = c.in_ok-hear.ensures.made;
  fits = subst Fits (sym (returns-then-is_empty-clause-state g c)) (Fits-stepped (comes.frame c.args.end.port c.args.frame.now) (state_of g.B.Bridge.shown c.args.self.now) c.args.end.bridge c.requires.order.fits);
}

pub returns-clause-state : goal.returns-clause-state
returns-clause-state g c =
    let s = state_of g.B.Bridge.shown c.args.self.now in
    let x = comes.frame c.args.end.port c.args.frame.now in
    on_ok c.send_on.result (λ e. e ∙ stepped-moved x s c.args.end.bridge _ _ _ c.in_ok-hear.ensures.views
    (c.in_ok-hear.ensures.sent ∙ ap (λ w. w ++ option_map_or (sent x) (slice_get s.views c.args.end.bridge) []) c.new-outbox.ensures.wire)
    (c.in_ok-hear.ensures.left ∙ ap (λ w. w ++ option_map_or (left_by x) (slice_get s.views c.args.end.bridge) []) c.new-outbox.ensures.left)) c.send_on.ensures.state

pub returns-clause-order : goal.returns-clause-order
returns-clause-order g c =
    on_ok c.send_on.result (λ e. record {
      made = subst (λ b. AreConfigured g.B.Bridge.shown b.items) (sym c.send_on.ensures.boxes) c.in_ok-hear.ensures.made;
      fits = subst Fits (sym e) (Fits-stepped (comes.frame c.args.end.port c.args.frame.now) (state_of g.B.Bridge.shown c.args.self.now) c.args.end.bridge c.requires.order.fits);
    }) (returns-clause-state g c)
