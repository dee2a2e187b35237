use Rattle.std.proofs.Common.{◌≡◌, ◌≤◌, drop}
use Rattle.std.specs.List.{list_all}
use Rattle.spb_network.specs.Network.{state_of}
use Rattle.settle_laws.specs.Premises.{view_passes}
use Rattle.settle_laws.proofs.databases.databases_pass.Given as goal

abbrev pub invariant-loop-bridge : goal.invariant-loop-bridge
invariant-loop-bridge g l =
    (l.bridge ≤ l.bridge-end) × (list_all (view_passes l.fn.test) (state_of g.B.Bridge.shown l.fn.network).views
    ≡ list_all (view_passes l.fn.test) (drop l.bridge (state_of g.B.Bridge.shown l.fn.network).views))
