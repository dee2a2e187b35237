-- How a run is cut short by a write.
use Rattle.spb_outside.specs.declared.sink.WriteError.{WriteError}
use Rattle.spb_outside.specs.declared.sink.WriteError.TheVariants as write
use Rattle.script_run.specs.declared.pieces.Break.{Break}
use Rattle.script_run.specs.declared.pieces.Break.TheVariants.{Write, NoMemory}

abbrev pub break_of : WriteError → Break
break_of write.Failed = Write
break_of write.NoMemory = NoMemory
