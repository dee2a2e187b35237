use Rattle.fdb_build.proofs.TableLemmas.{table_is_one}
use Rattle.fdb_build.proofs.laws.table_is_one.Goals as goal

pub returns : goal.returns
returns c = table_is_one
