use Rattle.bridge_control.proofs.Moving.{wire_gained}
use Rattle.bridge_control.proofs.Wire.{on_err}
use Rattle.bridge_control.proofs.customers.send_moved.Goals as goal

pub returns-in_err-put_behind-clause-gained : goal.returns-in_err-put_behind-clause-gained
returns-in_err-put_behind-clause-gained c = on_err _ (wire_gained c.args.moved c.args.outbox.now c.put_behind.new.list c.in_err-put_behind.ensures.err)
