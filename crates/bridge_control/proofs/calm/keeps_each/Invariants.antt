use Rattle.std.proofs.Common.{ℕ, ◌≡◌, ◌<◌, Some}
use Rattle.std.specs.Prelude.{slice_get}
use Rattle.bridge_api.specs.declared.port.BridgePort.{BridgePort}
use Rattle.bridge_control.specs.Ports.{KeepsPort}
use Rattle.bridge_control.proofs.calm.keeps_each.Given as goal

-- so it is at the ports that were asked
abbrev pub invariant-ask : goal.invariant-ask
invariant-ask l = (place : ℕ) (port : BridgePort) → place < l.port-index → slice_get l.ports place ≡ Some port → KeepsPort port
