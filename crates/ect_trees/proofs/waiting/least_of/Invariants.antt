use Rattle.std.proofs.Common.{◌≡◌, ◌<◌, ◌≤◌, ℕ, length, get_or}
use Rattle.ect_trees.specs.declared.waiting.Waiting.{Waiting}
use Rattle.ect_trees.proofs.waiting.least_of.Given as goal

abbrev pub invariant-loop-place : goal.invariant-loop-place
invariant-loop-place l = (l.least < length l.items) × ((d : Waiting) → l.cost ≡ (get_or l.items l.least d).cost) × ((k : ℕ) (d : Waiting) → k < l.place → l.cost ≤ (get_or l.items k d).cost)
