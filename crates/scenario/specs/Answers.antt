use Rattle.std.specs.Prelude.{◌≡◌, ℕ, List, Option, Some, Result, Ok, Err, ◌⊎◌, ⊤}
use Rattle.scenario.specs.declared.command.Command.{Command}
use Rattle.scenario.specs.declared.command.Command.TheVariants as command
use Rattle.scenario.specs.declared.error.LineError.{LineError}
use Rattle.scenario.specs.declared.error.LineError.TheVariants.{Words, NoMemory}
use Rattle.scenario.specs.Words.{Rest, Reading, next, at_end}
use Rattle.scenario.specs.WordForms.{name}
use Rattle.scenario.specs.Grammar.{some}

-- what a call answered that takes no memory is what reading gives
abbrev pub Refuses : {A : Type 0} → LineError → Result A ℕ → Type 0
Refuses (Words column) reading = reading ≡ Err column
Refuses NoMemory reading = ⊥

abbrev pub Ends : Result (Unit {0}) LineError → Result (Unit {0}) ℕ → Type 0
Ends (Ok end) reading = reading ≡ Ok tt
Ends (Err e) reading = Refuses e reading

-- the same of a call that leaves a rest
abbrev pub Takes : {A : Type 0} → Result A LineError → Rest → Reading A → Type 0
Takes (Ok value) rest reading = reading ≡ Ok (value, rest)
Takes (Err e) rest reading = Refuses e reading

-- only a frame needs memory, for its bytes
abbrev pub NeedsMemory : Result (Option Command) ℕ → Type 0
NeedsMemory (Ok (Some (command.Frame bridge port frame))) = ⊤
NeedsMemory _ = ⊥

abbrev pub Fails : LineError → Result (Option Command) ℕ → Type 0
Fails (Words column) reading = reading ≡ Err column
Fails NoMemory reading = NeedsMemory reading

-- What was answered for a line is what the grammar gives, unless there was no memory for a frame.
abbrev pub Reads : Result (Option Command) LineError → Result (Option Command) ℕ → Type 0
Reads (Ok found) reading = reading ≡ Ok found
Reads (Err e) reading = Fails e reading

-- the last word was read as a name, or else that word or the one behind it is refused
abbrev pub Names : Result (List ℕ) LineError → Rest → Type 0
Names (Ok found) rest = (left : Rest) × (next name rest ≡ Ok (found, left)) × (at_end left ≡ Ok tt)
Names (Err e) rest =
    Refuses e (next name rest)
    ⊎ ((found : List ℕ) × (left : Rest) × (next name rest ≡ Ok (found, left)) × Refuses e (at_end left))

-- the same of a command
abbrev pub Gives : Result Command LineError → Result Command ℕ → Type 0
Gives (Ok command) reading = reading ≡ Ok command
Gives (Err e) reading = Fails e (some reading)
