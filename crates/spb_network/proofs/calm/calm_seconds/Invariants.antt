use Rattle.std.proofs.Common.{◌≤◌}
use Rattle.bridge_api.specs.Shown.{view_in}
use Rattle.spb_network.proofs.CalmLemmas.{FirstCalm}
use Rattle.spb_network.proofs.calm.calm_seconds.Given as goal

abbrev pub invariant-loop-bridge : goal.invariant-loop-bridge
invariant-loop-bridge g l =
    (l.least ≤ l.most) ×
    (1 ≤ l.least → FirstCalm (view_in g.B.Bridge.shown) l.least l.bridge-index l.boxes)
