use Rattle.std.proofs.Common.{arith}
use Rattle.flooding.specs.Own.{own_numbers}
use Rattle.flooding.proofs.settling.fresh_seconds.Goals as goal

pub returns : goal.returns
unfolding own_numbers
returns c = λ some number below. c.loop-fragment.invariant.1 some number (omega (arith, below, c.loop-fragment-test.false))
