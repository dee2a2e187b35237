use Rattle.std.proofs.Common.{drop}
use Rattle.std.specs.FinMap.{entries}
use Rattle.bridge_control.proofs.Standing.{Sends}
use Rattle.bridge_control.proofs.sending.send_lsps.Given as goal

abbrev pub invariant-send : goal.invariant-send
invariant-send l = Sends l.system l.number (drop l.k l.places) (entries l.db) l.initial.outbox l.outbox
