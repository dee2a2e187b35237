use Rattle.std.proofs.Common.{◌≡◌, ℕ, take}
use Rattle.std.specs.List.{list_any}
use Rattle.spb_types.specs.Ports.{has}
use Rattle.lsdb.proofs.database.srm_ports.Given as goal

abbrev pub invariant-loop-h : goal.invariant-loop-h
invariant-loop-h l = (p : ℕ) → has l.ports p ≡ list_any (λ h. has h.srm p) (take l.h-index l.held)
