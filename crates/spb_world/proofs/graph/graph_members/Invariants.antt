use Rattle.std.proofs.Common.{◌≡◌}
use Rattle.spb_world.specs.Members.{members_up_to}
use Rattle.spb_world.proofs.graph.graph_members.Given as goal

abbrev pub invariant-loop-place : goal.invariant-loop-place
invariant-loop-place l = l.members.items ≡ members_up_to l.bridges.entries l.attached l.place
