use Rattle.std.proofs.Common.{◌≡◌, drop}
use Rattle.spb_content.specs.Building.{kept, graph_among}
use Rattle.spb_content.proofs.Put.{joined}
use Rattle.spb_content.proofs.graph.graph_among.Given as goal

-- the graph so far, and then that of the places that are left
abbrev pub invariant-loop-place : goal.invariant-loop-place
invariant-loop-place l =
    joined l.graph (graph_among l.backbone.list.now (kept (drop l.place l.backbone.list.now) (drop l.place l.marks))) ≡ graph_among l.backbone.list.now (kept l.backbone.list.now l.marks)
