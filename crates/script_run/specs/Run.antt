use Rattle.std.specs.Prelude.{ℕ, Bool, true, false}
use Rattle.script_run.specs.declared.status.Status.{Status}
use Rattle.script_run.specs.declared.status.Status.TheVariants.{Done, Refused, Usage, NoMemory, ReadFault, WriteFault, TooLong}

-- the number of a status, which is the program's exit status
abbrev pub status_number : Status → ℕ
status_number Done = 0
status_number (Refused line why) = 1
status_number Usage = 2
status_number NoMemory = 3
status_number ReadFault = 4
status_number WriteFault = 5
status_number TooLong = 6

-- whether all that the script writes is written
abbrev pub is_written : Status → Bool
is_written Done = true
is_written (Refused line why) = true
is_written Usage = false
is_written NoMemory = false
is_written ReadFault = false
is_written WriteFault = false
is_written TooLong = true

-- whether the script was played to its end, or to the first line that is refused
abbrev pub is_ended : Status → Bool
is_ended Done = true
is_ended (Refused line why) = true
is_ended Usage = false
is_ended NoMemory = false
is_ended ReadFault = false
is_ended WriteFault = false
is_ended TooLong = false

-- whether the run was cut short while it wrote, or ran out of memory
abbrev pub is_cut : Status → Bool
is_cut NoMemory = true
is_cut WriteFault = true
is_cut Done = false
is_cut (Refused line why) = false
is_cut Usage = false
is_cut ReadFault = false
is_cut TooLong = false

-- whether nothing is written
abbrev pub is_silent : Status → Bool
is_silent Usage = true
is_silent ReadFault = false
is_silent TooLong = false
is_silent Done = false
is_silent (Refused line why) = false
is_silent NoMemory = false
is_silent WriteFault = false
