use Rattle.std.proofs.Common.{◌≡◌, ℕ, ◌≤◌, ◌<◌, None}
use Rattle.link_model.specs.Lanes.{full_at}
use Rattle.link_model.proofs.all_lanes.AllLanes.first_busy.Given as goal

abbrev pub invariant-loop-link : goal.invariant-loop-link
invariant-loop-link l =
    (k : ℕ) → l.first ≤ k → k < l.link → full_at l.self k ≡ None
