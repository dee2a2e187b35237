-- What hearing sequence numbers PDUs comes to.
use Rattle.std.specs.Prelude.{◌≡◌, ◌≢◌, ℕ, ◌<◌, ◌≤◌, List, ◌∷◌, ◌++◌, length, true, false, Option, Some}
use Rattle.std.specs.Option.{option_map}
use Rattle.std.specs.List.{AllByRecursion}
use Rattle.std.specs.FinMap.{get}
use Rattle.spb_types.specs.declared.address.LspId.{LspId}
use Rattle.spb_types.specs.declared.ports.PortSet.{PortSet}
use Rattle.spb_types.specs.Ports.{has}
use Rattle.isis_pdu.specs.Pdu.{LspValue, lsp}
use Rattle.isis_pdu.specs.Grammar.{IsId, HasFields}
use Rattle.spb_tlvs.specs.declared.entries.SnpEntry.{SnpEntry}
use Rattle.lsdb.specs.declared.version.Version.{Version}
use Rattle.lsdb.specs.declared.version.Relation.TheVariants.{Older, Newer, Confused}
use Rattle.lsdb.specs.Version.{number_of, relation}
use Rattle.lsdb.specs.Entry.{Entry, with_flags, aged}
use Rattle.lsdb.specs.Database.{version_in, srm_in, ssn_in}
use Rattle.lsdb.specs.Certificate.{Claim, Certificate}
use Rattle.flooding.specs.Own.{last_number, own_numbers, own_id, own_number}
use Rattle.flooding.specs.Hearing.{Holding, HasFewOthers, hear_lsp_of, hear_entry_of, is_full_for_entry}
use Rattle.flooding.specs.Origination.{originated}
use Rattle.flooding.specs.Settling.{Test, settled_by, AreCurrent}
use Rattle.flooding.specs.Starting.{started_all}
use Rattle.flooding.specs.Entries.{IsNumbered, AreSendable, HaveFlagsAt, HaveOctets}
use Rattle.flooding.specs.Laws.{control, HasBodies, IsOwnBody}
use Rattle.flooding.specs.OctetLaws.{SaysOctets}
use Rattle.snp_sync.specs.Sized.{IsLspId, IsSized, AreSized, IsSizedEntry}
use Rattle.snp_sync.specs.Hearing.{claim_in, claims_in, hear_entries_of, ids_of, is_among, is_missed, flag_if, hear_csnp_of}

-- ---- steps

-- entries, and a CSNP, heard at an Up port are a certified step in which their claims were heard
abbrev pub EntriesAreCertified : Type 0
EntriesAreCertified = (up : PortSet) (port : ℕ) (claims : List Claim) (h : Holding) → has up port ≡ true
    → Certificate port claims (control up h) (control up (hear_entries_of up port claims h))

abbrev pub CsnpIsCertified : Type 0
CsnpIsCertified = (up : PortSet) (port : ℕ) (start end : LspId) (claims : List Claim) (h : Holding) → has up port ≡ true
    → Certificate port claims (control up h) (control up (hear_csnp_of up port start end claims h))

-- ---- what stands under an id

-- what stood there, if no claim names it
abbrev pub UnnamedStands : Type 0
UnnamedStands = (up : PortSet) (port : ℕ) (claims : List Claim) (h : Holding) (x : LspId)
    → is_among (ids_of claims) x ≡ false
    → get (hear_entries_of up port claims h).db x ≡ get h.db x

-- and else what the last claim that names it made
abbrev pub LastClaimStands : Type 0
LastClaimStands = (up : PortSet) (port : ℕ) (before after : List Claim) (c : Claim) (h : Holding)
    → is_among (ids_of after) c.id ≡ false
    → get (hear_entries_of up port (before ++ c ∷ after) h).db c.id
    ≡ get (hear_entry_of up port c (hear_entries_of up port before h)).db c.id

-- the sender of a claim is served: where the claim is newer than what is held, it is asked for at the port; where it is
-- older, what is held is to be sent there; and the two aren't confused
pub record IsServed (port : ℕ) (a : Version) (held : Option Entry) : Type 0 where
  pub asked : relation a (version_in held) ≡ Newer → has (ssn_in held) port ≡ true
  pub sent : relation a (version_in held) ≡ Older → has (srm_in held) port ≡ true
  pub agreed : relation a (version_in held) ≢ Confused

-- so it is after an entry was heard at an Up port and found a place if it needed one
abbrev pub EntryIsServed : Type 0
EntryIsServed = (up : PortSet) (port : ℕ) (c : Claim) (h : Holding) → has up port ≡ true
    → is_full_for_entry up port c h ≡ false
    → IsServed port c.version (get (hear_entry_of up port c h).db c.id)

-- after a CSNP what its sender lacks is to be sent at the port, and all else is as its entries made it
abbrev pub CsnpStands : Type 0
CsnpStands = (up : PortSet) (port : ℕ) (start end : LspId) (claims : List Claim) (h : Holding) (x : LspId)
    → get (hear_csnp_of up port start end claims h).db x
    ≡ option_map (λ e. flag_if (is_missed start end (ids_of claims) x e) port e)
    (get (hear_entries_of up port claims h).db x)

abbrev pub MissedIsSent : Type 0
MissedIsSent = (up : PortSet) (port : ℕ) (start end : LspId) (claims : List Claim) (h : Holding) (x : LspId) (e : Entry)
    → has up port ≡ true
    → get (hear_entries_of up port claims h).db x ≡ Some e → is_missed start end (ids_of claims) x e ≡ true
    → has (srm_in (get (hear_csnp_of up port start end claims h).db x)) port ≡ true

-- ---- own LSPs

-- the system and its bodies stay, and below the last number it isn't spent
abbrev pub EntriesLeaveOwn : Type 0
EntriesLeaveOwn = (up : PortSet) (port : ℕ) (claims : List Claim) (h : Holding)
    → ((hear_entries_of up port claims h).own.system ≡ h.own.system)
    × ((hear_entries_of up port claims h).own.bodies ≡ h.own.bodies)

abbrev pub EntriesDontSpend : Type 0
EntriesDontSpend = (up : PortSet) (port : ℕ) (claims : List Claim) (h : Holding)
    → AllByRecursion (λ c. number_of c.version < last_number) claims
    → (hear_entries_of up port claims h).own ≡ h.own

-- nor do they bring a body under an id of the own system
abbrev pub EntriesLeaveOwnBody : Type 0
EntriesLeaveOwnBody = (up : PortSet) (port : ℕ) (claims : List Claim) (h : Holding) (id : LspId)
    → id.system ≡ h.own.system → IsOwnBody h.own id (get h.db id) (get (hear_entries_of up port claims h).db id)

abbrev pub CsnpLeavesOwnBody : Type 0
CsnpLeavesOwnBody = (up : PortSet) (port : ℕ) (start end : LspId) (claims : List Claim) (h : Holding) (id : LspId)
    → id.system ≡ h.own.system → IsOwnBody h.own id (get h.db id) (get (hear_csnp_of up port start end claims h).db id)

-- ---- what every entry keeps

-- whatever is heard, the own LSPs of a system that isn't spent stay current
abbrev pub EntriesKeepCurrent : Type 0
EntriesKeepCurrent = (up : PortSet) (port : ℕ) (claims : List Claim) (h : Holding) → AreCurrent h
    → AreCurrent (hear_entries_of up port claims h)

abbrev pub CsnpKeepsCurrent : Type 0
CsnpKeepsCurrent = (up : PortSet) (port : ℕ) (start end : LspId) (claims : List Claim) (h : Holding) → AreCurrent h
    → AreCurrent (hear_csnp_of up port start end claims h)

-- of the ids that aren't own numbers no more are held than have room
abbrev pub EntriesKeepFew : Type 0
EntriesKeepFew = (up : PortSet) (port : ℕ) (claims : List Claim) (h : Holding) → HasFewOthers h
    → HasFewOthers (hear_entries_of up port claims h)

abbrev pub CsnpKeepsFew : Type 0
CsnpKeepsFew = (up : PortSet) (port : ℕ) (start end : LspId) (claims : List Claim) (h : Holding) → HasFewOthers h
    → HasFewOthers (hear_csnp_of up port start end claims h)

-- what an entry claims has a number, unless it is absent
abbrev pub ClaimsAreNumbered : Type 0
ClaimsAreNumbered = (e : SnpEntry) → IsNumbered (claim_in e).version

-- its LSP can be written
abbrev pub EntriesKeepSendable : Type 0
EntriesKeepSendable = (up : PortSet) (port : ℕ) (claims : List Claim) (h : Holding)
    → AllByRecursion (λ c. IsNumbered c.version) claims
    → HasBodies h.own → AreSendable h.db → AreSendable (hear_entries_of up port claims h).db

abbrev pub CsnpKeepsSendable : Type 0
CsnpKeepsSendable = (up : PortSet) (port : ℕ) (start end : LspId) (claims : List Claim) (h : Holding)
    → AllByRecursion (λ c. IsNumbered c.version) claims
    → HasBodies h.own → AreSendable h.db → AreSendable (hear_csnp_of up port start end claims h).db

-- its flags stand at Up ports
abbrev pub EntriesKeepFlags : Type 0
EntriesKeepFlags = (up : PortSet) (port : ℕ) (claims : List Claim) (h : Holding) → has up port ≡ true
    → HaveFlagsAt up h.db → HaveFlagsAt up (hear_entries_of up port claims h).db

abbrev pub CsnpKeepsFlags : Type 0
CsnpKeepsFlags = (up : PortSet) (port : ℕ) (start end : LspId) (claims : List Claim) (h : Holding) → has up port ≡ true
    → HaveFlagsAt up h.db → HaveFlagsAt up (hear_csnp_of up port start end claims h).db

-- its body is octets
abbrev pub EntriesKeepOctets : Type 0
EntriesKeepOctets = (up : PortSet) (port : ℕ) (claims : List Claim) (h : Holding) → SaysOctets h.own
    → HaveOctets h.db → HaveOctets (hear_entries_of up port claims h).db

abbrev pub CsnpKeepsOctets : Type 0
CsnpKeepsOctets = (up : PortSet) (port : ℕ) (start end : LspId) (claims : List Claim) (h : Holding) → SaysOctets h.own
    → HaveOctets h.db → HaveOctets (hear_csnp_of up port start end claims h).db

-- a PDU can tell of it: after what was heard, if that could be
abbrev pub EntriesKeepSized : Type 0
EntriesKeepSized = (up : PortSet) (port : ℕ) (es : List SnpEntry) (h : Holding) → AllByRecursion IsSizedEntry es
    → AreSized h.db → AreSized (hear_entries_of up port (claims_in es) h).db

abbrev pub CsnpKeepsSized : Type 0
CsnpKeepsSized = (up : PortSet) (port : ℕ) (start end : LspId) (es : List SnpEntry) (h : Holding)
    → AllByRecursion IsSizedEntry es
    → AreSized h.db → AreSized (hear_csnp_of up port start end (claims_in es) h).db

abbrev pub LspKeepsSized : Type 0
LspKeepsSized = (up : PortSet) (port : ℕ) (l : LspValue) (h : Holding) → IsId l.id.system → HasFields (lsp l)
    → AreSized h.db → AreSized (hear_lsp_of up port l h).db

-- after an origination
abbrev pub OriginationKeepsSized : Type 0
OriginationKeepsSized = (up : PortSet) (number : ℕ) (h : Holding) → IsLspId (own_number h.own.system number)
    → AreSized h.db → AreSized (originated up number h).db

-- after own LSPs were brought up to date
abbrev pub SettlingKeepsSized : Type 0
SettlingKeepsSized = (test : Test) (up : PortSet) (h : Holding) → IsLspId (own_id h.own.system) → AreSized h.db
    → AreSized (settled_by test up h).db

-- after a life began above numbers that an LSP can have
abbrev pub StartingKeepsSized : Type 0
StartingKeepsSized = (last : List ℕ) (h : Holding) → length last ≤ own_numbers
    → AllByRecursion (λ n. n ≤ last_number) last → IsLspId (own_id h.own.system) → AreSized h.db
    → AreSized (started_all last 0 h).db

-- after a second, and with other flags
abbrev pub AgeingKeepsSized : Type 0
AgeingKeepsSized = (up : PortSet) (id : LspId) (e : Entry) → IsSized id e → IsSized id (aged up e)

abbrev pub FlagsKeepSized : Type 0
FlagsKeepSized = (srm ssn : PortSet) (id : LspId) (e : Entry) → IsSized id e → IsSized id (with_flags srm ssn e)
