use Rattle.std.proofs.Common.{◌+◌, sym, subst, arith}
use Rattle.control_tests.proofs.Numbered.{AreBelow, none_below, one_more, valid_apart}
use Rattle.control_tests.proofs.kept_trees.apart.Goals as goal

pub loop-number-init : goal.loop-number-init
loop-number-init c = subst (AreBelow 1) (sym c.new-bridges.ensures.items) none_below

pub loop-number-preserved : goal.loop-number-preserved
loop-number-preserved c =
    subst (AreBelow (c.loop-number.number + 1)) (sym c.in_ok-push.ensures.items)
    (one_more c.loop-number.number c.loop-number.bridges.items c.bridge.result c.bridge.ensures c.loop-number.invariant)

pub returns : goal.returns
returns c =
    valid_apart c.loop-number.number c.loop-number.bridges.items (record { bridges = c.from_vec.result; edges = c.new.result; members = c.new-2.result })
    (omega (arith, c.loop-number.auto.number)) c.loop-number.invariant c.from_vec.ensures c.new.ensures c.new-2.ensures
