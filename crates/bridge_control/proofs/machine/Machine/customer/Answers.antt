use Rattle.bridge_control.proofs.Moving.{entered_after, entered_moved, tenant_tables, sent_moved, gained_moved, nothing_gained}
use Rattle.bridge_control.proofs.Wire.{on_ok, on_err}
use Rattle.bridge_control.proofs.machine.Machine.customer.Goals as goal

pub tables_or-requires-clause-sound : goal.tables_or-requires-clause-sound
tables_or-requires-clause-sound c = c.requires.ready.sound

pub from_customer-requires : goal.from_customer-requires
from_customer-requires c = c.requires.frame.low

pub returns-in_err-tables-clause-gained : goal.returns-in_err-tables-clause-gained
returns-in_err-tables-clause-gained c = on_err _ (nothing_gained _ c.args.outbox.now)

pub returns-in_err-moved-clause-gained : goal.returns-in_err-moved-clause-gained
returns-in_err-moved-clause-gained c = on_err _ (nothing_gained _ c.args.outbox.now)

pub returns-clause-after : goal.returns-clause-after
returns-clause-after c =
    let m = c.args.self.now in
    on_ok c.send_moved.result
    (entered_after m c.from_customer.new.tenant c.raise_for.new.self c.in_ok-moved.moved c.args.port c.args.frame.now c.requires.ready.current c.in_ok-moved.ensures.learned
    (entered_moved m c.in_ok-tables.tables c.in_ok-moved.moved c.args.port c.args.frame.now c.requires.ready.current c.in_ok-tables.ensures c.in_ok-moved.ensures.moved) c.raise_for.ensures)

pub returns-clause-sent : goal.returns-clause-sent
returns-clause-sent c =
    sent_moved c.send_moved.result _ _ c.args.outbox.now c.send_moved.new.outbox (entered_moved c.args.self.now c.in_ok-tables.tables c.in_ok-moved.moved c.args.port c.args.frame.now c.requires.ready.current c.in_ok-tables.ensures c.in_ok-moved.ensures.moved) c.send_moved.ensures.sent

pub returns-clause-gained : goal.returns-clause-gained
returns-clause-gained c =
    gained_moved c.send_moved.result _ _ c.args.outbox.now c.send_moved.new.outbox (entered_moved c.args.self.now c.in_ok-tables.tables c.in_ok-moved.moved c.args.port c.args.frame.now c.requires.ready.current c.in_ok-tables.ensures c.in_ok-moved.ensures.moved) c.send_moved.ensures.gained

pub returns-clause-kept : goal.returns-clause-kept
returns-clause-kept c = on_ok c.send_moved.result (tenant_tables c.args.self.now c.from_customer.new.tenant c.raise_for.new.self c.in_ok-tables.tables c.in_ok-tables.ensures)
