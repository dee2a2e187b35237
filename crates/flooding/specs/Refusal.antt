use Rattle.lsdb.specs.declared.database.PutError.{PutError}
use Rattle.lsdb.specs.declared.database.PutError.TheVariants as puts
use Rattle.flooding.specs.declared.error.FloodError.{FloodError}
use Rattle.flooding.specs.declared.error.FloodError.TheVariants.{Full, NoMemory}

-- why nothing was heard, where an LSP wasn't put in
abbrev pub flood_error : PutError → FloodError
flood_error puts.Full = Full
flood_error puts.NoMemory = NoMemory
