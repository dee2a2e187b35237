use Rattle.bridge_api.proofs.Carried.{is_opened}
use Rattle.bridge_control.proofs.Moving.{relayed_after, relayed_moved, tenant_tables, sent_moved, gained_moved, nothing_gained}
use Rattle.bridge_control.proofs.Wire.{on_ok, on_err}
use Rattle.bridge_control.proofs.machine.Machine.relay.Goals as goal

pub tables_or-requires-clause-sound : goal.tables_or-requires-clause-sound
tables_or-requires-clause-sound c = c.requires.ready.sound

pub from_backbone-requires : goal.from_backbone-requires
from_backbone-requires c =
    let f = c.args.frame.now in
    let was = is_opened c.args.whole.now f.da f.sa f.vid f.isid f.customer.now c.requires.brings in
    was.opened

pub returns-in_err-tables-clause-gained : goal.returns-in_err-tables-clause-gained
returns-in_err-tables-clause-gained c = on_err _ (nothing_gained _ c.args.outbox.now)

pub returns-in_err-moved-clause-gained : goal.returns-in_err-moved-clause-gained
returns-in_err-moved-clause-gained c = on_err _ (nothing_gained _ c.args.outbox.now)

pub returns-clause-after : goal.returns-clause-after
returns-clause-after c =
    on_ok c.send_moved.result
    (relayed_after c.args.self.now c.from_backbone.new.tenant c.raise_for.new.self c.in_ok-tables.tables c.in_ok-moved.moved c.args.port c.args.frame.now c.args.whole.now c.requires.ready.current c.in_ok-tables.ensures c.in_ok-moved.ensures.learned c.in_ok-moved.ensures.moved c.raise_for.ensures)

pub returns-clause-sent : goal.returns-clause-sent
returns-clause-sent c =
    sent_moved c.send_moved.result _ _ c.args.outbox.now c.send_moved.new.outbox (relayed_moved c.args.self.now c.in_ok-tables.tables c.in_ok-moved.moved c.args.port c.args.frame.now c.args.whole.now c.requires.ready.current c.in_ok-tables.ensures c.in_ok-moved.ensures.moved) c.send_moved.ensures.sent

pub returns-clause-gained : goal.returns-clause-gained
returns-clause-gained c =
    gained_moved c.send_moved.result _ _ c.args.outbox.now c.send_moved.new.outbox (relayed_moved c.args.self.now c.in_ok-tables.tables c.in_ok-moved.moved c.args.port c.args.frame.now c.args.whole.now c.requires.ready.current c.in_ok-tables.ensures c.in_ok-moved.ensures.moved) c.send_moved.ensures.gained

pub returns-clause-kept : goal.returns-clause-kept
returns-clause-kept c = on_ok c.send_moved.result (tenant_tables c.args.self.now c.from_backbone.new.tenant c.raise_for.new.self c.in_ok-tables.tables c.in_ok-tables.ensures)
