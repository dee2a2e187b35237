use Rattle.std.proofs.Common.{◌∷◌, [], ◌++◌, sym, ap, ◌∙◌, arith}
use Rattle.bridge_api.specs.View.{adjacency_at, is_csnp_due_at}
use Rattle.network_model.proofs.PortLemmas.{shown-more}
use Rattle.spb_network.proofs.boxes.adjacencies_of.Goals as goal

pub loop-place-preserved : goal.loop-place-preserved
unfolding adjacency_at is_csnp_due_at
loop-place-preserved g c =
    (omega (arith, c.loop-place-test.true), c.in_ok-push.ensures.items ∙ ap (λ l. l ++ (c.adjacent.result, c.due.result) ∷ []) c.loop-place.invariant.1 ∙ sym (shown-more (g.B.Bridge.shown c.args.bridge.now).view.ports c.loop-place.place c.adjacent.result c.due.result c.adjacent.ensures c.due.ensures))
