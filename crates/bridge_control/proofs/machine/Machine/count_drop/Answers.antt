use Rattle.bridge_control.proofs.Counting.{dropped_after, counted_tables}
use Rattle.bridge_control.proofs.machine.Machine.count_drop.Goals as goal

pub returns-clause-after : goal.returns-clause-after
returns-clause-after c = dropped_after c.args.self.now c.args.reason c.raise.new.self c.requires c.raise.ensures

pub returns-clause-tables : goal.returns-clause-tables
returns-clause-tables c = counted_tables c.args.self.now c.raise.new.self
