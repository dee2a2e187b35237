use Rattle.std.proofs.Common.{◌-◌, get_or, arith}
use Rattle.ect_trees.specs.Repair.{ArePair}
use Rattle.ect_trees.proofs.Forgetting.{no_system, is_told, not_told, others_avoid, pair_there, other_more}
use Rattle.ect_trees.proofs.repair.steps_over.Goals as goal

pub loop-place-init : goal.loop-place-init
loop-place-init c = λ i x y below h k p. absurd (omega (arith, below))

pub returns-then-are_pair : goal.returns-then-are_pair
returns-then-are_pair c =
    let xs = c.args.path.now in
    let k = c.loop-place.place in
    pair_there c.args.a c.args.b xs k no_system c.loop-place.auto.place c.loop-place-test.true
    (is_told c.are_pair.result (ArePair c.args.a c.args.b (get_or xs (k - 1) no_system) (get_or xs k no_system)) c.if-are_pair.true c.are_pair.ensures)

pub loop-place-preserved : goal.loop-place-preserved
loop-place-preserved c =
    let xs = c.args.path.now in
    let k = c.loop-place.place in
    other_more c.args.a c.args.b xs k no_system c.loop-place.invariant
    (not_told c.are_pair.result (ArePair c.args.a c.args.b (get_or xs (k - 1) no_system) (get_or xs k no_system)) c.if-are_pair.false c.are_pair.ensures)

pub returns : goal.returns
returns c = others_avoid c.args.a c.args.b c.args.path.now c.loop-place.place (omega (arith, c.loop-place-test.false)) c.loop-place.invariant
