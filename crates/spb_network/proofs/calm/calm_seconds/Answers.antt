use Rattle.std.proofs.Common.{arith}
use Rattle.bridge_api.specs.Shown.{view_in}
use Rattle.spb_network.proofs.CalmLemmas.{first-more, first-all}
use Rattle.spb_network.proofs.calm.calm_seconds.Goals as goal

pub loop-bridge-init : goal.loop-bridge-init
loop-bridge-init g c = (omega arith, λ some. tt)

pub loop-bridge-preserved : goal.loop-bridge-preserved
loop-bridge-preserved g c = (
  omega (arith, c.loop-bridge.invariant.0, c.min-least.ensures),
  λ some. first-more (view_in g.B.Bridge.shown) c.loop-bridge.least c.min-least.result c.calm_seconds.result c.loop-bridge.bridge-index c.args.boxes.now c.bridge-item.result c.loop-bridge-test.true c.bridge-item.is (omega (arith, c.min-least.ensures)) (omega (arith, c.min-least.ensures)) (c.loop-bridge.invariant.1 (omega (arith, c.min-least.ensures, some))) (c.calm_seconds.ensures (omega (arith, c.min-least.ensures, some))),
)

pub returns-clause-calm : goal.returns-clause-calm
returns-clause-calm g c = λ some. first-all (view_in g.B.Bridge.shown) c.loop-bridge.least c.loop-bridge.bridge-index c.args.boxes.now c.loop-bridge-test.false (c.loop-bridge.invariant.1 some)
