use Rattle.std.proofs.Common.{◌≡◌, ℕ, false, take}
use Rattle.std.specs.List.{AllByRecursion}
use Rattle.std.specs.FinMap.{entries}
use Rattle.spb_types.specs.Ports.{has}
use Rattle.bridge_control.proofs.Standing.{IsUnmarked}
use Rattle.bridge_control.proofs.sending.srm_ports.Given as goal

-- a port that isn't found yet isn't in the set of an LSP so far
abbrev pub invariant-find : goal.invariant-find
invariant-find l = (p : ℕ) → has l.ports p ≡ false → AllByRecursion (IsUnmarked (λ e. e.srm) (entries l.db) p) (take l.k l.places)
