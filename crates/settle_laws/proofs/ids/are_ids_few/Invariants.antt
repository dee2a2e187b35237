use Rattle.std.proofs.Common.{◌≡◌, ◌≤◌, [], length, drop}
use Rattle.network_rounds.specs.Premises.{ids_held}
use Rattle.spb_network.specs.Network.{state_of}
use Rattle.settle_laws.specs.Ids.{with_ids}
use Rattle.settle_laws.proofs.ids.are_ids_few.Given as goal

abbrev pub invariant-loop-bridge : goal.invariant-loop-bridge
invariant-loop-bridge g l =
    (l.bridge ≤ l.bridge-end) × (length l.found.items ≤ 900) × (with_ids [] (ids_held (state_of g.B.Bridge.shown l.fn.network).views)
    ≡ with_ids l.found.items (ids_held (drop l.bridge (state_of g.B.Bridge.shown l.fn.network).views)))
