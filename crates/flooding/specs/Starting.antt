-- What a life of a system begins with: its own LSPs, each above the number that the life before had reached (ISO/IEC
-- 10589, 7.3.16.1).
use Rattle.std.specs.Prelude.{◌≡◌, ◌≤◌, ℕ, zero, suc, ◌+◌, List, [], ◌∷◌, length, Bool, false, ◌||◌, not, Option, Some, None, nat_lt, slice_get, if◌then◌else◌}
use Rattle.std.specs.List.{list_any}
use Rattle.std.specs.FinMap.{get, len}
use Rattle.spb_types.specs.declared.address.LspId.{LspId}
use Rattle.spb_types.specs.declared.ports.PortSet.{PortSet}
use Rattle.spb_types.specs.Ports.{no_ports}
use Rattle.lsdb.specs.Entry.{Entry}
use Rattle.lsdb.specs.Database.{changed_to}
use Rattle.flooding.specs.Own.{last_number, own_numbers, own_number, is_own_number, body_of_number, renewed, dead_at}
use Rattle.flooding.specs.Hearing.{Holding, HasFewOthers}
use Rattle.flooding.specs.Origination.{next_own}
use Rattle.flooding.specs.Entries.{AllEntries, AreSendable, HaveFlagsAt}
use Rattle.flooding.specs.Laws.{HasBodies, IsOwnBody}

-- an own LSP that begins above a number: with a body it is live at the next one; without one it is dead at this one,
-- and where no life had it, not held. No port is Up yet, so it is to be sent nowhere
abbrev pub started_by : LspId → ℕ → Option (List ℕ) → Option Entry
started_by id n (Some body) = Some (renewed no_ports id body (n + 1))
started_by id zero None = None
started_by id (suc n) None = Some (dead_at no_ports (suc n))

-- and above the last number none begins: it is dead there
abbrev pub started_as : LspId → ℕ → Option (List ℕ) → Option Entry
started_as id n body = if nat_lt n last_number then started_by id n body else Some (dead_at no_ports n)

-- after the LSP of an own number began above n; at the last number the system is spent
abbrev pub started : ℕ → ℕ → Holding → Holding
started number n h =
    let id = own_number h.own.system number in
    record { db = changed_to h.db id (started_as id n (body_of_number h.own number)); own = next_own h.own n }

-- after those of the numbers k, k + 1, .. began above these
abbrev pub started_all : List ℕ → ℕ → Holding → Holding
started_all [] k h = h
started_all (n ∷ ns) k h = started_all ns (k + 1) (started k n h)

abbrev pub is_last : ℕ → Bool
is_last n = not (nat_lt n last_number)

-- each own LSP is what it begins with, and no other id is held; the system and its bodies stay, and it is spent where
-- one of its LSPs was at the last number
pub record StartsAlone (last : List ℕ) (h g : Holding) : Type 0 where
  pub starts : (number n : ℕ) → slice_get last number ≡ Some n
      → get g.db (own_number h.own.system number)
      ≡ started_as (own_number h.own.system number) n (body_of_number h.own number)
  pub alone : (id : LspId) → is_own_number h.own.system id ≡ false → get g.db id ≡ None
  pub spent : g.own.spent ≡ (h.own.spent || list_any is_last last)
  pub system : g.own.system ≡ h.own.system
  pub bodies : g.own.bodies ≡ h.own.bodies

-- so it is where a life begins that holds nothing yet
abbrev pub StartingIsAlone : Type 0
StartingIsAlone = (last : List ℕ) (h : Holding) → length last ≡ own_numbers → ((id : LspId) → get h.db id ≡ None)
    → StartsAlone last h (started_all last 0 h)

-- what is held stays sendable, flags stay at Up ports, and of the other ids no more are held than have room
abbrev pub StartingKeepsSendable : Type 0
StartingKeepsSendable = (last : List ℕ) (h : Holding) → HasBodies h.own → AreSendable h.db
    → AreSendable (started_all last 0 h).db

abbrev pub StartingKeepsFlags : Type 0
StartingKeepsFlags = (last : List ℕ) (up : PortSet) (h : Holding) → HaveFlagsAt up h.db
    → HaveFlagsAt up (started_all last 0 h).db

abbrev pub StartingKeepsFew : Type 0
StartingKeepsFew = (last : List ℕ) (h : Holding) → length last ≤ own_numbers → HasFewOthers h
    → HasFewOthers (started_all last 0 h)

-- no more ids come than the list has numbers
abbrev pub StartingBringsFew : Type 0
StartingBringsFew = (last : List ℕ) (h : Holding) → len (started_all last 0 h).db ≤ len h.db + length last

-- no flags come to stand
abbrev pub HasNoFlags : Entry → Type 0
HasNoFlags e = (e.srm ≡ no_ports) × (e.ssn ≡ no_ports)

abbrev pub StartingKeepsSilence : Type 0
StartingKeepsSilence = (last : List ℕ) (h : Holding) → AllEntries (λ id e. HasNoFlags e) h.db
    → AllEntries (λ id e. HasNoFlags e) (started_all last 0 h).db

-- the body under an id of the own system is the one that was held, that of its number, or that of a dead LSP
abbrev pub StartingLeavesOwnBody : Type 0
StartingLeavesOwnBody = (last : List ℕ) (h : Holding) (id : LspId) → id.system ≡ h.own.system
    → IsOwnBody h.own id (get h.db id) (get (started_all last 0 h).db id)
