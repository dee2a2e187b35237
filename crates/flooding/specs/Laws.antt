use Rattle.std.specs.Prelude.{◌≡◌, ◌≢◌, ℕ, ◌+◌, ◌<◌, ◌≤◌, List, [], ◌∷◌, length, map, true, false, Bool, ◌&&◌, ◌||◌, not, ◌==◌, Option, Some, None, Ok, IsTrue}
use Rattle.std.specs.Option.{option_map}
use Rattle.std.specs.FinMap.{get}
use Rattle.spb_types.specs.declared.address.LspId.{LspId}
use Rattle.spb_types.specs.declared.ports.PortSet.{PortSet}
use Rattle.spb_types.specs.Ports.{has}
use Rattle.isis_pdu.specs.declared.kind.Kind.TheVariants as kinds
use Rattle.isis_pdu.specs.Pdu.{LspValue, lsp}
use Rattle.isis_pdu.specs.Spelling.{CanWrite, lsp_bytes}
use Rattle.isis_pdu.specs.Reading.{read}
use Rattle.isis_pdu.specs.Grammar.{IsId, IsBytes, is_sound_lsp}
use Rattle.lsdb.specs.declared.version.Version.{Version}
use Rattle.lsdb.specs.declared.version.Relation.{Relation}
use Rattle.lsdb.specs.Version.{number_of, is_absent, IsAtMost, relation, claimed}
use Rattle.lsdb.specs.Entry.{Entry, stored, flooded, absent_with_ssn, acked, cleared, offered, flagged, srm_set_at, flags_cleared_at, with_flags, aged}
use Rattle.lsdb.specs.Database.{Lsps, version_in, version_at, ssn_in}
use Rattle.lsdb.specs.Certificate.{Claim, Control, EntryCertificate, Certificate}
use Rattle.flooding.specs.declared.own.Own.{Own}
use Rattle.flooding.specs.Own.{last_number, own_number, body_of_number, body_for, tlvs_of_body, body_in, renewed, dead_at, answered}
use Rattle.flooding.specs.Room.{has_room}
use Rattle.flooding.specs.Hearing.{Holding, claim_of, lsp_rule, snp_rule, is_beyond, heard_by, after_claim, is_full, hear_lsp_of, is_full_for_lsp, hear_entry_of, is_full_for_entry}
use Rattle.flooding.specs.Origination.{spent_entry, next_entry, originated, brought_up}
use Rattle.flooding.specs.Sending.{lsp_in, ids_to_send, lsps_to_send}
use Rattle.flooding.specs.Entries.{IsNumbered, IsSendable, AreSendable, HaveFlagsAt}

-- ---- steps

-- the part of a bridge that flooding rests on, with these Up ports
abbrev pub control : PortSet → Holding → Control
control up h = record { up = up; db = h.db }

-- an LSP, or an entry of an SNP, heard at an Up port is a certified step in which its claim was heard
abbrev pub HearingLspIsCertified : Type 0
HearingLspIsCertified = (up : PortSet) (port : ℕ) (l : LspValue) (h : Holding) → has up port ≡ true
    → Certificate port (claim_of l ∷ []) (control up h) (control up (hear_lsp_of up port l h))

abbrev pub HearingEntryIsCertified : Type 0
HearingEntryIsCertified = (up : PortSet) (port : ℕ) (c : Claim) (h : Holding) → has up port ≡ true
    → Certificate port (c ∷ []) (control up h) (control up (hear_entry_of up port c h))

-- the answer to a claim that is newer or confused
abbrev pub AnsweringIsCertified : Type 0
AnsweringIsCertified = (up : PortSet) (port : ℕ) (claims : List Claim) (own : Own) (id : LspId) (a : Version)
    (held : Option Entry)
    → is_beyond (relation a (version_in held)) ≡ true
    → EntryCertificate port claims up up id held (Some (answered up own id (number_of a)))

-- an own LSP originated or purged is a certified step
abbrev pub BringingIsCertified : Type 0
BringingIsCertified = (up : PortSet) (port number : ℕ) (claims : List Claim) (h : Holding)
    → Certificate port claims (control up h) (control up (brought_up up number h))

-- ---- what a claim changes

-- no other id
abbrev pub OthersStand : Type 0
OthersStand = (rule : Relation → Option Entry → Option Entry) (up : PortSet) (c : Claim) (h : Holding) (x : LspId)
    → x ≢ c.id
    → get (after_claim rule up c h).db x ≡ get h.db x

-- its id, where there is a place if it needs one: what was heard stands under it
abbrev pub LspStands : Type 0
LspStands = (up : PortSet) (port : ℕ) (l : LspValue) (h : Holding) → is_full_for_lsp up port l h ≡ false
    → get (hear_lsp_of up port l h).db l.id
    ≡ heard_by (lsp_rule up port l) up h.own l.id (claim_of l).version
    (relation (claim_of l).version (version_at h.db l.id)) (get h.db l.id)

abbrev pub EntryStands : Type 0
EntryStands = (up : PortSet) (port : ℕ) (c : Claim) (h : Holding) → is_full_for_entry up port c h ≡ false
    → get (hear_entry_of up port c h).db c.id
    ≡ heard_by (snp_rule up port c.version) up h.own c.id c.version (relation c.version (version_at h.db c.id))
    (get h.db c.id)

-- where there is none, nothing
abbrev pub FullStands : Type 0
FullStands = (rule : Relation → Option Entry → Option Entry) (up : PortSet) (c : Claim) (h : Holding)
    → is_full rule up c h ≡ true → after_claim rule up c h ≡ h

-- there is one for an id that has room: one that is held or is an own number, and any while few others are held
abbrev pub FittingIsNotFull : Type 0
FittingIsNotFull = (rule : Relation → Option Entry → Option Entry) (up : PortSet) (c : Claim) (h : Holding)
    → has_room h.own.system h.db c.id ≡ true → is_full rule up c h ≡ false

-- an LSP that was heard is at most what is held after it
abbrev pub HeardIsAtMostHeld : Type 0
HeardIsAtMostHeld = (up : PortSet) (port : ℕ) (l : LspValue) (h : Holding) → is_full_for_lsp up port l h ≡ false
    → IsAtMost (claim_of l).version (version_at (hear_lsp_of up port l h).db l.id)

-- ---- the flags at each port

-- the flags of an entry, read port by port
pub record HasFlags (e : Entry) (srm ssn : ℕ → Bool) : Type 0 where
  pub srm_at : (p : ℕ) → has e.srm p ≡ srm p
  pub ssn_at : (p : ℕ) → has e.ssn p ≡ ssn p

-- stored: to be sent at the other Up ports, and acknowledged at this one
abbrev pub StoredFlags : Type 0
StoredFlags = (up : PortSet) (port : ℕ) (a : Version) (lifetime : ℕ) (body : List ℕ) → 1 ≤ port → port ≤ 32
    → HasFlags (stored up port a lifetime body) (λ p. has up p && not (p == port)) (λ p. p == port)

abbrev pub FloodedFlags : Type 0
FloodedFlags = (up : PortSet) (a : Version) (lifetime : ℕ) (body : List ℕ)
    → HasFlags (flooded up a lifetime body) (λ p. has up p) (λ p. false)

abbrev pub AskedFlags : Type 0
AskedFlags = (port : ℕ) → 1 ≤ port → port ≤ 32 → HasFlags (absent_with_ssn port) (λ p. false) (λ p. p == port)

abbrev pub AckedFlags : Type 0
AckedFlags = (port : ℕ) (e : Entry) → 1 ≤ port → port ≤ 32
    → HasFlags (acked port e) (λ p. has e.srm p && not (p == port)) (λ p. has e.ssn p || (p == port))

abbrev pub ClearedFlags : Type 0
ClearedFlags = (port : ℕ) (e : Entry) → 1 ≤ port → port ≤ 32
    → HasFlags (cleared port e) (λ p. has e.srm p && not (p == port)) (λ p. has e.ssn p)

abbrev pub OfferedFlags : Type 0
OfferedFlags = (port : ℕ) (e : Entry) → 1 ≤ port → port ≤ 32
    → HasFlags (offered port e) (λ p. has e.srm p || (p == port)) (λ p. has e.ssn p && not (p == port))

abbrev pub FlaggedFlags : Type 0
FlaggedFlags = (port : ℕ) (e : Entry) → 1 ≤ port → port ≤ 32
    → HasFlags (flagged port e) (λ p. has e.srm p || (p == port)) (λ p. has e.ssn p)

-- a port comes up: to be sent there too, unless it is absent
abbrev pub SetSrmFlags : Type 0
SetSrmFlags = (port : ℕ) (e : Entry) → 1 ≤ port → port ≤ 32
    → HasFlags (srm_set_at port e) (λ p. has e.srm p || (not (is_absent e.version) && (p == port))) (λ p. has e.ssn p)

-- a port is no longer Up: neither to be sent nor to be acknowledged there
abbrev pub ClearedPortFlags : Type 0
ClearedPortFlags = (port : ℕ) (e : Entry) → 1 ≤ port → port ≤ 32
    → HasFlags (flags_cleared_at port e) (λ p. has e.srm p && not (p == port)) (λ p. has e.ssn p && not (p == port))

-- a second passes: an LSP whose version changes by it, since its lifetime ends, is to be sent at every Up port; where
-- any other is to be sent stays, and where any is to be acknowledged
abbrev pub AgedFlags : Type 0
AgedFlags = (up : PortSet) (e : Entry) → (aged up e).version ≡ e.version
    → HasFlags (aged up e) (λ p. has e.srm p) (λ p. has e.ssn p)

abbrev pub ExpiredFlags : Type 0
ExpiredFlags = (up : PortSet) (e : Entry) → (aged up e).version ≢ e.version
    → HasFlags (aged up e) (λ p. has up p) (λ p. has e.ssn p)

-- an own LSP past the last number: to be sent at every Up port; where it is to be acknowledged stays
abbrev pub SpentFlags : Type 0
SpentFlags = (up : PortSet) (seq : ℕ) (held : Option Entry)
    → HasFlags (spent_entry up seq held) (λ p. has up p) (λ p. has (ssn_in held) p)

-- ---- own LSPs

-- hearing changes of a system at most that it is spent, and that only at the last number
abbrev pub OwnStands : Type 0
OwnStands = (rule : Relation → Option Entry → Option Entry) (up : PortSet) (c : Claim) (h : Holding)
    → ((after_claim rule up c h).own.system ≡ h.own.system) × ((after_claim rule up c h).own.bodies ≡ h.own.bodies)

abbrev pub OwnIsNotSpent : Type 0
OwnIsNotSpent = (rule : Relation → Option Entry → Option Entry) (up : PortSet) (c : Claim) (h : Holding)
    → number_of c.version < last_number
    → (after_claim rule up c h).own ≡ h.own

-- what a claim makes of an LSP of the own system that is held, below the last number: it has the version, lifetime and
-- body that it had, or the body that the system has for it at the number after the claim's; or, where the system has
-- none, it is dead at the claim's number
pub data OwnEntry (up : PortSet) (own : Own) (id : LspId) (a : Version) (old new : Entry) : Type 0 where
  is_kept : new.version ≡ old.version → new.lifetime ≡ old.lifetime → new.body ≡ old.body → OwnEntry up own id a old new
  is_renewed : (body : List ℕ) → body_for own id ≡ Some body → new ≡ renewed up id body (number_of a + 1)
      → OwnEntry up own id a old new
  is_ended : body_for own id ≡ None → new ≡ dead_at up (number_of a) → OwnEntry up own id a old new

abbrev pub LspLeavesOwn : Type 0
LspLeavesOwn = (up : PortSet) (port : ℕ) (l : LspValue) (h : Holding) (old new : Entry) → l.id.system ≡ h.own.system
    → number_of (claim_of l).version < last_number
    → get h.db l.id ≡ Some old → get (hear_lsp_of up port l h).db l.id ≡ Some new
    → OwnEntry up h.own l.id (claim_of l).version old new

abbrev pub EntryLeavesOwn : Type 0
EntryLeavesOwn = (up : PortSet) (port : ℕ) (c : Claim) (h : Holding) (old new : Entry) → c.id.system ≡ h.own.system
    → number_of c.version < last_number
    → get h.db c.id ≡ Some old → get (hear_entry_of up port c h).db c.id ≡ Some new
    → OwnEntry up h.own c.id c.version old new

-- the body under an id of the own system, after a claim or an origination: the one that was held, the one that the
-- system has for its number, or that of a dead LSP. What others send is never held there
pub data IsOwnBody (own : Own) (id : LspId) (old new : Option Entry) : Type 0 where
  stays : body_in new ≡ body_in old → IsOwnBody own id old new
  renews : body_of_number own id.number ≡ Some (body_in new) → IsOwnBody own id old new
  ends : body_in new ≡ 1 ∷ [] → IsOwnBody own id old new

abbrev pub LspLeavesOwnBody : Type 0
LspLeavesOwnBody = (up : PortSet) (port : ℕ) (l : LspValue) (h : Holding) (id : LspId) → id.system ≡ h.own.system
    → IsOwnBody h.own id (get h.db id) (get (hear_lsp_of up port l h).db id)

abbrev pub EntryLeavesOwnBody : Type 0
EntryLeavesOwnBody = (up : PortSet) (port : ℕ) (c : Claim) (h : Holding) (id : LspId) → id.system ≡ h.own.system
    → IsOwnBody h.own id (get h.db id) (get (hear_entry_of up port c h).db id)

abbrev pub BringingLeavesOwnBody : Type 0
BringingLeavesOwnBody = (up : PortSet) (number : ℕ) (h : Holding) (id : LspId)
    → IsOwnBody h.own id (get h.db id) (get (brought_up up number h).db id)

-- after an origination of a number that the system has a body for, the next entry stands under it
abbrev pub OriginatedStands : Type 0
OriginatedStands = (up : PortSet) (number : ℕ) (h : Holding) (body : List ℕ) → h.own.spent ≡ false
    → body_of_number h.own number ≡ Some body
    → get (originated up number h).db (own_number h.own.system number)
    ≡ Some (next_entry up (own_number h.own.system number) body
    (number_of (version_at h.db (own_number h.own.system number))) (get h.db (own_number h.own.system number)))

-- what is brought up changes no other. The system and its bodies stay, and below the last number it isn't spent
abbrev pub BringingLeavesOthers : Type 0
BringingLeavesOthers = (up : PortSet) (number : ℕ) (h : Holding) (x : LspId) → x ≢ own_number h.own.system number
    → get (brought_up up number h).db x ≡ get h.db x

abbrev pub BringingLeavesOwn : Type 0
BringingLeavesOwn = (up : PortSet) (number : ℕ) (h : Holding)
    → ((brought_up up number h).own.system ≡ h.own.system) × ((brought_up up number h).own.bodies ≡ h.own.bodies)

abbrev pub BringingIsNotSpent : Type 0
BringingIsNotSpent = (up : PortSet) (number : ℕ) (h : Holding)
    → number_of (version_at h.db (own_number h.own.system number)) < last_number
    → (brought_up up number h).own ≡ h.own

-- ---- what is sent

-- an LSP that is sent claims exactly what is held
abbrev pub SentIsHeld : Type 0
SentIsHeld = (id : LspId) (e : Entry) → IsSendable id e
    → claim_of (lsp_in id e) ≡ record { id = id; version = e.version }

-- the ids that are to be sent name the LSPs that are
abbrev pub IdsNameLsps : Type 0
IdsNameLsps = (db : Lsps) (port : ℕ) → map (λ id. option_map (lsp_in id) (get db id)) (ids_to_send db port)
    ≡ map (λ l. Some l) (lsps_to_send db port)

-- the bytes of an LSP that is sent are read as that LSP
abbrev pub SentIsRead : Type 0
SentIsRead = (id : LspId) (e : Entry) → IsId id.system → IsSendable id e
    → read (lsp_bytes (lsp_in id e)) ≡ Ok (lsp (lsp_in id e))

-- own LSPs that can be written, and an LSP that can be written and whose checksum holds if it must
abbrev pub HasBodies : Own → Type 0
HasBodies own = (number : ℕ) (body : List ℕ) → body_of_number own number ≡ Some body
    → (1 ≤ length body) × CanWrite kinds.Lsp (tlvs_of_body body)

pub record IsWhole (l : LspValue) : Type 0 where
  pub written : CanWrite kinds.Lsp l.tlvs
  pub sound : IsTrue (is_sound_lsp l)

-- an LSP that was read from at most 1,497 bytes is so
abbrev pub ReadIsWhole : Type 0
ReadIsWhole = (bytes : List ℕ) (l : LspValue) → IsBytes bytes → length bytes ≤ 1497 → read bytes ≡ Ok (lsp l)
    → IsWhole l

-- what an LSP claims has a number, unless it is absent
abbrev pub ClaimIsNumbered : Type 0
ClaimIsNumbered = (seq lifetime sum : ℕ) → IsNumbered (claimed seq lifetime sum)

-- what is held stays sendable
abbrev pub LspKeepsSendable : Type 0
LspKeepsSendable = (up : PortSet) (port : ℕ) (l : LspValue) (h : Holding) → IsWhole l → HasBodies h.own
    → AreSendable h.db → AreSendable (hear_lsp_of up port l h).db

abbrev pub EntryKeepsSendable : Type 0
EntryKeepsSendable = (up : PortSet) (port : ℕ) (c : Claim) (h : Holding) → IsNumbered c.version → HasBodies h.own
    → AreSendable h.db → AreSendable (hear_entry_of up port c h).db

abbrev pub BringingKeepsSendable : Type 0
BringingKeepsSendable = (up : PortSet) (number : ℕ) (h : Holding) → HasBodies h.own → AreSendable h.db
    → AreSendable (brought_up up number h).db

abbrev pub AgeingKeepsSendable : Type 0
AgeingKeepsSendable = (up : PortSet) (id : LspId) (e : Entry) → IsSendable id e → IsSendable id (aged up e)

abbrev pub FlagsKeepSendable : Type 0
FlagsKeepSendable = (srm ssn : PortSet) (id : LspId) (e : Entry) → IsSendable id e
    → IsSendable id (with_flags srm ssn e)

-- flags stay at Up ports
abbrev pub LspKeepsFlags : Type 0
LspKeepsFlags = (up : PortSet) (port : ℕ) (l : LspValue) (h : Holding) → has up port ≡ true → HaveFlagsAt up h.db
    → HaveFlagsAt up (hear_lsp_of up port l h).db

abbrev pub EntryKeepsFlags : Type 0
EntryKeepsFlags = (up : PortSet) (port : ℕ) (c : Claim) (h : Holding) → has up port ≡ true → HaveFlagsAt up h.db
    → HaveFlagsAt up (hear_entry_of up port c h).db

abbrev pub BringingKeepsFlags : Type 0
BringingKeepsFlags = (up : PortSet) (number : ℕ) (h : Holding) → HaveFlagsAt up h.db
    → HaveFlagsAt up (brought_up up number h).db
