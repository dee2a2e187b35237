use Rattle.bridge_control.proofs.Sends.{Sending}
use Rattle.bridge_control.proofs.sending.send_all.Given as goal

abbrev pub invariant-send : goal.invariant-send
invariant-send l = Sending l.system l.ports l.initial.db l.initial.outbox l.place l.flags.srm l.flags.ssn (l.flags.places.now) (l.flags.frames.now) l.db l.outbox
