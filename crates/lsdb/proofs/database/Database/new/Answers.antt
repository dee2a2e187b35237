use Rattle.lsdb.proofs.Maps.{empty_map}
use Rattle.lsdb.proofs.database.Database.new.Goals as goal

pub returns : goal.returns
returns c = empty_map _ c.new.ensures.items
