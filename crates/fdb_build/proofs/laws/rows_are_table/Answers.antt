use Rattle.fdb_build.proofs.TableLemmas.{rows_are_table}
use Rattle.fdb_build.proofs.laws.rows_are_table.Goals as goal

pub returns : goal.returns
returns c = rows_are_table
