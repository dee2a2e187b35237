use Rattle.std.proofs.Common.{◌≡◌, ◌++◌, ◌-◌}
use Rattle.spb_content.specs.Fragments.{fragments_from, bodies_saying}
use Rattle.spb_content.proofs.fragments.bodies_below.Given as goal

abbrev pub invariant-loop-number : goal.invariant-loop-number
invariant-loop-number l = l.bodies.items ++ bodies_saying l.flags (fragments_from l.local (l.numbers - l.number) l.number) ≡ bodies_saying l.flags (fragments_from l.local l.numbers 0)
