use Rattle.std.proofs.Common.{◌≡◌, ◌++◌, take}
use Rattle.spb_content.proofs.graph.put_all.Given as goal

-- the members so far
abbrev pub invariant-loop-member : goal.invariant-loop-member
invariant-loop-member l = l.members ≡ l.fn.members ++ take l.member-index l.more
