use Rattle.std.proofs.Common.{◌≡◌, ◌++◌, take, drop}
use Rattle.spb_content.specs.Building.{edges_after, edges_from}
use Rattle.spb_content.proofs.graph.put_edges.Given as goal

-- the edges so far, and then those for the entries that are left
abbrev pub invariant-loop-place : goal.invariant-loop-place
invariant-loop-place l =
    l.edges ++ edges_after l.backbone.list.now l.from (take l.place l.neighbours) (drop l.place l.neighbours) ≡ l.fn.edges ++ edges_from l.backbone.list.now l.said
