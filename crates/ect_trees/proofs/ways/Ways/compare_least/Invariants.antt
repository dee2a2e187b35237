use Rattle.std.proofs.Common.{◌≡◌, ℕ, List, slice_get}
use Rattle.ect_trees.proofs.Compared.{WalksBack}
use Rattle.ect_trees.proofs.ways.Ways.compare_least.Given as goal

-- the least ids are the first of those that are walked past
abbrev pub invariant-loop-left : goal.invariant-loop-left
invariant-loop-left l = (ids : List (List ℕ)) × (others : List (List ℕ))
    × WalksBack l.self.mesh.now l.self.mask l.self.steps.now l.initial.hops l.initial.a l.left l.place ids
    × WalksBack l.self.mesh.now l.self.mask l.self.steps.now l.initial.hops l.initial.b l.left l.other others
    × (slice_get ids 0 ≡ l.least) × (slice_get others 0 ≡ l.other_least)

abbrev pub decreases-loop-left : goal.decreases-loop-left
decreases-loop-left l = l.left
