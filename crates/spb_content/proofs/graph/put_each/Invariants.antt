use Rattle.std.proofs.Common.{◌≡◌, ◌++◌, drop}
use Rattle.std.specs.List.{filter_map}
use Rattle.spb_content.specs.Graph.{member_of}
use Rattle.spb_content.proofs.graph.put_each.Given as goal

-- the members so far, and then those of the services that are left
abbrev pub invariant-loop-service : goal.invariant-loop-service
invariant-loop-service l = l.members ++ filter_map (member_of l.system) (drop l.service-index l.service-items) ≡ l.fn.members ++ filter_map (member_of l.said.0) l.said.1.services
