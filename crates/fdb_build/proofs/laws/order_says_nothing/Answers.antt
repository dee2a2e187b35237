use Rattle.fdb_build.proofs.TableLemmas as tables
use Rattle.fdb_build.proofs.laws.order_says_nothing.Goals as goal

pub returns : goal.returns
returns c = tables.order_says_nothing
