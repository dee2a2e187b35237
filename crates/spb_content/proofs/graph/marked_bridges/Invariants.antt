use Rattle.std.proofs.Common.{◌≡◌, map, take}
use Rattle.spb_content.specs.Building.{has_inst}
use Rattle.spb_content.proofs.graph.marked_bridges.Given as goal

-- the marks of the systems so far
abbrev pub invariant-loop-said : goal.invariant-loop-said
invariant-loop-said l = l.marks.items ≡ map has_inst (take l.said-index l.list)
