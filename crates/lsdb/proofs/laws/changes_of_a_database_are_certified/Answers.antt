use Rattle.lsdb.proofs.Certified.{putting, changing, changing_each}
use Rattle.lsdb.proofs.laws.changes_of_a_database_are_certified.Goals as goal

pub returns : goal.returns
returns c = record { putting = putting; changing = changing; each = changing_each }
