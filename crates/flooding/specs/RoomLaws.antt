-- What room is worth, and what keeps it.
use Rattle.std.specs.Prelude.{◌≡◌, ℕ, ◌<◌, ◌≤◌, ◌+◌, Option, true}
use Rattle.std.specs.FinMap.{insert, len}
use Rattle.spb_types.specs.declared.address.SystemId.{SystemId}
use Rattle.spb_types.specs.declared.address.LspId.{LspId}
use Rattle.spb_types.specs.declared.ports.PortSet.{PortSet}
use Rattle.lsdb.specs.declared.version.Relation.{Relation}
use Rattle.lsdb.specs.Entry.{Entry}
use Rattle.lsdb.specs.Database.{Lsps, fits, each}
use Rattle.lsdb.specs.Certificate.{Claim}
use Rattle.flooding.specs.Own.{own_numbers}
use Rattle.flooding.specs.Room.{others, most_others, has_room}
use Rattle.flooding.specs.Hearing.{Holding, HasFewOthers, after_claim}
use Rattle.flooding.specs.Origination.{brought_up}
use Rattle.flooding.specs.Settling.{Test, settled_by}

-- all but the own numbers are others
abbrev pub FewOwn : Type 0
FewOwn = (system : SystemId) (db : Lsps) → len db ≤ others system db + own_numbers

-- others are among what is held
abbrev pub OthersAreHeld : Type 0
OthersAreHeld = (system : SystemId) (db : Lsps) → others system db ≤ len db

-- what has room has a place in the database, and what is put in leaves few others
abbrev pub RoomFits : Type 0
RoomFits = (system : SystemId) (db : Lsps) (id : LspId) (e : Entry) → others system db ≤ most_others
    → has_room system db id ≡ true → fits db id ≡ true

abbrev pub PuttingKeepsFew : Type 0
PuttingKeepsFew = (system : SystemId) (db : Lsps) (id : LspId) (e : Entry) → others system db ≤ most_others
    → has_room system db id ≡ true → others system (insert db id e) ≤ most_others

-- few they stay where entries are changed, whatever is heard, and where own LSPs are brought up to date
abbrev pub ChangingKeepsOthers : Type 0
ChangingKeepsOthers = (system : SystemId) (f : LspId → Entry → Entry) (db : Lsps)
    → others system (each f db) ≡ others system db

abbrev pub HearingKeepsFew : Type 0
HearingKeepsFew = (rule : Relation → Option Entry → Option Entry) (up : PortSet) (c : Claim) (h : Holding)
    → HasFewOthers h → HasFewOthers (after_claim rule up c h)

abbrev pub BringingKeepsFew : Type 0
BringingKeepsFew = (up : PortSet) (number : ℕ) (h : Holding) → number < own_numbers → HasFewOthers h
    → HasFewOthers (brought_up up number h)

abbrev pub SettlingKeepsFew : Type 0
SettlingKeepsFew = (test : Test) (up : PortSet) (h : Holding) → HasFewOthers h → HasFewOthers (settled_by test up h)
