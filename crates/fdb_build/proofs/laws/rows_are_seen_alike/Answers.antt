use Rattle.fdb_build.proofs.TableLemmas.{same_rows}
use Rattle.fdb_build.proofs.laws.rows_are_seen_alike.Goals as goal

pub returns : goal.returns
returns c = same_rows
