use Rattle.lsdb.proofs.Flags.{without_flags, without_due}
use Rattle.lsdb.proofs.laws.flags_are_at_ports.Goals as goal

pub returns : goal.returns
returns c = record { none = without_flags; all = without_due }
