use Rattle.control_tests.proofs.Numbered.{AreBelow}
use Rattle.control_tests.proofs.kept_trees.apart.Given as goal

abbrev pub invariant-loop-number : goal.invariant-loop-number
invariant-loop-number l = AreBelow l.number l.bridges.items
