-- How a change ends that may find no place and no memory.
use Rattle.std.specs.Prelude.{◌≡◌, Bool, true, false, Result, Ok, Err}
use Rattle.std.specs.FinMap.{insert}
use Rattle.spb_types.specs.declared.address.SystemId.{SystemId}
use Rattle.spb_types.specs.declared.address.LspId.{LspId}
use Rattle.lsdb.specs.Entry.{Entry}
use Rattle.lsdb.specs.Database.{Lsps}
use Rattle.flooding.specs.declared.error.FloodError.{FloodError}
use Rattle.flooding.specs.declared.error.FloodError.TheVariants.{Full, NoMemory}
use Rattle.flooding.specs.declared.own.Own.{Own}
use Rattle.flooding.specs.Room.{has_room}
use Rattle.flooding.specs.Hearing.{Holding}

-- an entry was put under an id, where that can be; or it can't, or no memory was found, and nothing changed
abbrev pub PutsIf : Result (Unit {0}) FloodError → Bool → LspId → Entry → Lsps → Lsps → Type 0
PutsIf (Ok _) can id e old new = (can ≡ true) × (new ≡ insert old id e)
PutsIf (Err Full) can id e old new = (can ≡ false) × (new ≡ old)
PutsIf (Err NoMemory) can id e old new = new ≡ old

-- it can where the id has room among those that a system holds
abbrev pub Puts : Result (Unit {0}) FloodError → SystemId → LspId → Entry → Lsps → Lsps → Type 0
Puts result system id e old new = PutsIf result (has_room system old id) id e old new

abbrev pub holding : Lsps → Own → Holding
holding db own = record { db = db; own = own }

-- a claim was heard, and there was a place if it needs one; or it needs one that there isn't, or no memory was found,
-- and nothing changed
abbrev pub Hears : Result (Unit {0}) FloodError → Bool → Holding → Holding → Holding → Type 0
Hears (Ok _) full old after new = (full ≡ false) × (new ≡ after)
Hears (Err Full) full old after new = (full ≡ true) × (new ≡ old)
Hears (Err NoMemory) full old after new = new ≡ old
