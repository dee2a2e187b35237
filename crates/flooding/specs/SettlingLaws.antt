-- What bringing own LSPs up to date changes, and what it leaves.
use Rattle.std.specs.Prelude.{◌≡◌, ℕ, ◌+◌, ◌≤◌, ◌<◌, List, true, false, Some}
use Rattle.std.specs.FinMap.{get, len}
use Rattle.spb_types.specs.declared.address.LspId.{LspId}
use Rattle.spb_types.specs.declared.ports.PortSet.{PortSet}
use Rattle.spb_types.specs.Ports.{has}
use Rattle.isis_pdu.specs.Pdu.{LspValue}
use Rattle.lsdb.specs.Version.{number_of}
use Rattle.lsdb.specs.Database.{version_in, version_at}
use Rattle.lsdb.specs.Certificate.{Claim, Certificate}
use Rattle.flooding.specs.Own.{last_number, own_numbers, own_number, IsOwnNumber, is_own_number, body_of_number, renewed}
use Rattle.flooding.specs.Hearing.{Holding, hear_lsp_of, hear_entry_of}
use Rattle.flooding.specs.Origination.{spent_entry}
use Rattle.flooding.specs.Entries.{AllEntries, AreSendable, HaveFlagsAt}
use Rattle.flooding.specs.Settling.{Test, own_held, stands, settled_by, settled, kept_fresh, AreCurrent, LastIfLive}
use Rattle.flooding.specs.Laws.{control, HasBodies, IsOwnBody}

-- ---- by any test

-- it is a certified step
abbrev pub SettlingIsCertified : Type 0
SettlingIsCertified = (test : Test) (up : PortSet) (port : ℕ) (claims : List Claim) (h : Holding)
    → Certificate port claims (control up h) (control up (settled_by test up h))

-- nothing changes while every own LSP stands, or the system is spent
abbrev pub SettlingStands : Type 0
SettlingStands = (test : Test) (up : PortSet) (h : Holding)
    → (h.own.spent ≡ false → (number : ℕ) → number < own_numbers → stands test h number ≡ true)
    → settled_by test up h ≡ h

-- no LSP changes but the own ones
abbrev pub SettlingLeavesOthers : Type 0
SettlingLeavesOthers = (test : Test) (up : PortSet) (h : Holding) (id : LspId) → is_own_number h.own.system id ≡ false
    → get (settled_by test up h).db id ≡ get h.db id

-- the system and its bodies stay
abbrev pub SettlingLeavesOwn : Type 0
SettlingLeavesOwn = (test : Test) (up : PortSet) (h : Holding)
    → ((settled_by test up h).own.system ≡ h.own.system) × ((settled_by test up h).own.bodies ≡ h.own.bodies)

-- the body under an id of the own system is the one that was held, that of its number, or that of a dead LSP
abbrev pub SettlingLeavesOwnBody : Type 0
SettlingLeavesOwnBody = (test : Test) (up : PortSet) (h : Holding) (id : LspId) → id.system ≡ h.own.system
    → IsOwnBody h.own id (get h.db id) (get (settled_by test up h).db id)

-- each LSP goes one number further at most
abbrev pub SettlingGoesOneFurther : Type 0
SettlingGoesOneFurther = (test : Test) (up : PortSet) (h : Holding) (id : LspId)
    → number_of (version_at (settled_by test up h).db id) ≤ number_of (version_at h.db id) + 1

-- and while the own ones are below the last number, the system isn't spent
abbrev pub SettlingDoesntSpend : Type 0
SettlingDoesntSpend = (test : Test) (up : PortSet) (h : Holding)
    → ((id : LspId) → IsOwnNumber h.own.system id → number_of (version_at h.db id) < last_number)
    → (settled_by test up h).own ≡ h.own

-- no more ids come than there are own numbers
abbrev pub SettlingBringsFew : Type 0
SettlingBringsFew = (test : Test) (up : PortSet) (h : Holding)
    → len (settled_by test up h).db ≤ len h.db + own_numbers

-- what is held stays sendable, flags stay at Up ports, and nothing comes to be acknowledged or asked for
abbrev pub SettlingKeepsSendable : Type 0
SettlingKeepsSendable = (test : Test) (up : PortSet) (h : Holding) → HasBodies h.own → AreSendable h.db
    → AreSendable (settled_by test up h).db

abbrev pub SettlingKeepsFlags : Type 0
SettlingKeepsFlags = (test : Test) (up : PortSet) (h : Holding) → HaveFlagsAt up h.db
    → HaveFlagsAt up (settled_by test up h).db

abbrev pub SettlingKeepsSilence : Type 0
SettlingKeepsSilence = (test : Test) (up : PortSet) (h : Holding) (p : ℕ)
    → AllEntries (λ id e. has e.ssn p ≡ false) h.db
    → AllEntries (λ id e. has e.ssn p ≡ false) (settled_by test up h).db

-- ---- an own LSP that doesn't stand

-- it goes one number further, with the body of its number, while it and those of lower numbers are below the last
-- number
abbrev pub SettlingRenews : Type 0
SettlingRenews = (test : Test) (up : PortSet) (h : Holding) (number : ℕ) (body : List ℕ) → number < own_numbers
    → h.own.spent ≡ false → body_of_number h.own number ≡ Some body → stands test h number ≡ false
    → ((lower : ℕ) → lower ≤ number → number_of (version_in (own_held h lower)) < last_number)
    → get (settled_by test up h).db (own_number h.own.system number)
    ≡ Some (renewed up (own_number h.own.system number) body (number_of (version_in (own_held h number)) + 1))

-- and the first one at the last number is dead, and the system spent
abbrev pub SettlingSpends : Type 0
SettlingSpends = (test : Test) (up : PortSet) (h : Holding) (number : ℕ) (body : List ℕ) → number < own_numbers
    → h.own.spent ≡ false → body_of_number h.own number ≡ Some body → stands test h number ≡ false
    → ((lower : ℕ) → lower < number → number_of (version_in (own_held h lower)) < last_number)
    → last_number ≤ number_of (version_in (own_held h number))
    → (get (settled_by test up h).db (own_number h.own.system number)
    ≡ Some (spent_entry up (number_of (version_in (own_held h number))) (own_held h number)))
    × ((settled_by test up h).own.spent ≡ true)

-- ---- afterwards own LSPs are current

-- where those that are live last more than 300 seconds
abbrev pub SettledIsCurrent : Type 0
SettledIsCurrent = (up : PortSet) (h : Holding) → (h.own.spent ≡ false → LastIfLive 301 h) → AreCurrent (settled up h)

-- or, where old ones are renewed, 300
abbrev pub FreshIsCurrent : Type 0
FreshIsCurrent = (up : PortSet) (h : Holding) → (h.own.spent ≡ false → LastIfLive 300 h) → AreCurrent (kept_fresh up h)

-- what is current has nothing to be settled
abbrev pub CurrentIsSettled : Type 0
CurrentIsSettled = (up : PortSet) (h : Holding) → AreCurrent h → settled up h ≡ h

-- and stays current, whatever is heard
abbrev pub LspKeepsCurrent : Type 0
LspKeepsCurrent = (up : PortSet) (port : ℕ) (l : LspValue) (h : Holding) → AreCurrent h
    → AreCurrent (hear_lsp_of up port l h)

abbrev pub EntryKeepsCurrent : Type 0
EntryKeepsCurrent = (up : PortSet) (port : ℕ) (c : Claim) (h : Holding) → AreCurrent h
    → AreCurrent (hear_entry_of up port c h)
