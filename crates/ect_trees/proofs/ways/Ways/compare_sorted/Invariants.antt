use Rattle.ect_trees.proofs.Compared.{WalksBack}
use Rattle.ect_trees.proofs.ways.Ways.compare_sorted.Given as goal

abbrev pub invariant-loop-left : goal.invariant-loop-left
invariant-loop-left l =
    WalksBack l.self.mesh.now l.self.mask l.self.steps.now l.initial.hops l.initial.a l.left l.place l.ids.items × WalksBack l.self.mesh.now l.self.mask l.self.steps.now l.initial.hops l.initial.b l.left l.other l.others.items

abbrev pub decreases-loop-left : goal.decreases-loop-left
decreases-loop-left l = l.left
