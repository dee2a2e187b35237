use Rattle.std.proofs.Common.{◌≡◌, ◌+◌, ◌-◌, ◌∷◌, [], ◌++◌, List, sym, ap, ◌∙◌, arith}
use Rattle.spb_world.specs.declared.declaration.DeclaredLink.{DeclaredLink}
use Rattle.network_model.specs.State.{links_of}
use Rattle.spb_world.specs.Links.{port_metric, port_metrics}
use Rattle.spb_network.specs.Network.{state_of}
use Rattle.spb_network.proofs.RestartLemmas.{metrics-step, pushed-before, before-none}
use Rattle.spb_network.proofs.network.NetworkOf.port_metrics.Goals as goal

pub loop-place-preserved : goal.loop-place-preserved
loop-place-preserved g c =
    let links : List DeclaredLink = links_of (state_of g.B.Bridge.shown c.args.self.now) in (
      omega (arith, c.loop-place-test.true),
      ap (λ l. l ++ port_metrics links c.args.i (c.args.ports - (c.loop-place.place + 1)) (c.loop-place.place + 1 + 1)) (c.in_ok-push.ensures.items ∙ ap (λ x. c.loop-place.metrics.items ++ x ∷ []) c.port_metric.ensures)
          ∙ (pushed-before c.loop-place.metrics.items (port_metric links c.args.i (c.loop-place.place + 1)) (port_metrics links c.args.i (c.args.ports - (c.loop-place.place + 1)) (c.loop-place.place + 1 + 1))
          ∙ (sym (ap (λ l. c.loop-place.metrics.items ++ l) (metrics-step links c.args.i c.args.ports c.loop-place.place (omega (arith, c.loop-place-test.true))))
          ∙ c.loop-place.invariant.1)),
    )

pub returns : goal.returns
returns g c =
    let links : List DeclaredLink = links_of (state_of g.B.Bridge.shown c.args.self.now) in
    let none : 0 ≡ c.args.ports - c.loop-place.place = omega (arith, c.loop-place-test.false) in
    sym (before-none c.loop-place.metrics.items)
    ∙ (ap (λ n. c.loop-place.metrics.items ++ port_metrics links c.args.i n (c.loop-place.place + 1)) none
    ∙ c.loop-place.invariant.1)
