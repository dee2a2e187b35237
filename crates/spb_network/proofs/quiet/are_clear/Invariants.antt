use Rattle.std.proofs.Common.{◌≡◌, ◌≤◌, not, drop}
use Rattle.std.specs.List.{list_all}
use Rattle.bridge_api.specs.Shown.{views_of}
use Rattle.bridge_api.specs.View.{has_flags}
use Rattle.spb_network.proofs.quiet.are_clear.Given as goal

abbrev pub invariant-loop-place : goal.invariant-loop-place
invariant-loop-place g l =
    (l.place ≤ l.place-end) ×
    (list_all (λ v. not (has_flags v)) (views_of g.B.Bridge.shown l.fn.boxes) ≡ list_all (λ v. not (has_flags v)) (drop l.place (views_of g.B.Bridge.shown l.fn.boxes)))
