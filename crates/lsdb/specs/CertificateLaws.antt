use Rattle.std.specs.Prelude.{◌≡◌, ℕ, ◌≤◌, true, List, [], ◌++◌, Option, Some, None}
use Rattle.std.specs.Option.{option_map}
use Rattle.std.specs.FinMap.{get}
use Rattle.spb_types.specs.declared.address.LspId.{LspId}
use Rattle.spb_types.specs.declared.ports.PortSet.{PortSet}
use Rattle.spb_types.specs.Ports.{has, with_port, without_port}
use Rattle.lsdb.specs.declared.version.Version.{Version}
use Rattle.lsdb.specs.Version.{IsAtMost}
use Rattle.lsdb.specs.Entry.{Entry, stored, flooded, absent_with_ssn, acked, cleared, offered, flagged, srm_set_at, flags_cleared_at, aged}
use Rattle.lsdb.specs.Database.{Lsps, version_in, changed, changed_to, each}
use Rattle.lsdb.specs.Certificate.{Claim, IsClaimed, Control, EntryCertificate, Certificate}
use Rattle.spb_types.specs.declared.limits.TheConstants.{MOST_PORTS}

-- a step in which nothing changes is certified
abbrev pub StandingIsCertified : Type 0
StandingIsCertified = (port : ℕ) (claims : List Claim) (v : Control) → Certificate port claims v v

-- two certified steps at one port are one certified step, in which the claims of both were heard
abbrev pub StepsCompose : Type 0
StepsCompose = (port : ℕ) (claims more : List Claim) (v u w : Control) → Certificate port claims v u
    → Certificate port more u w → Certificate port (claims ++ more) v w

-- a step without claims is certified at every port and with all claims
abbrev pub SilenceServesAll : Type 0
SilenceServesAll = (port other : ℕ) (claims : List Claim) (v w : Control) → Certificate port [] v w
    → Certificate other claims v w

-- an LSP claimed at an Up port, and not older than what is held, is stored
abbrev pub StoringIsCertified : Type 0
StoringIsCertified = (up : PortSet) (port : ℕ) (claims : List Claim) (id : LspId) (a : Version) (lifetime : ℕ)
    (body : List ℕ) (old : Option Entry)
    → has up port ≡ true → IsAtMost (version_in old) a → IsClaimed claims id a
    → EntryCertificate port claims up up id old (Some (stored up port a lifetime body))

-- the neighbour at a port claimed what is held or a newer one: it needn't be sent there
abbrev pub AckingIsCertified : Type 0
AckingIsCertified = (up : PortSet) (port : ℕ) (claims : List Claim) (id : LspId) (a : Version) (e : Entry)
    → has up port ≡ true → IsAtMost e.version a → IsClaimed claims id a
    → EntryCertificate port claims up up id (Some e) (Some (acked port e))

abbrev pub ClearingIsCertified : Type 0
ClearingIsCertified = (up : PortSet) (port : ℕ) (claims : List Claim) (id : LspId) (a : Version) (e : Entry)
    → has up port ≡ true → IsAtMost e.version a → IsClaimed claims id a
    → EntryCertificate port claims up up id (Some e) (Some (cleared port e))

-- an id that isn't held is entered as absent
abbrev pub AskingIsCertified : Type 0
AskingIsCertified = (before after : PortSet) (port : ℕ) (claims : List Claim) (id : LspId)
    → EntryCertificate port claims before after id None (Some (absent_with_ssn port))

-- an LSP is to be sent at a port
abbrev pub OfferingIsCertified : Type 0
OfferingIsCertified = (up : PortSet) (port at : ℕ) (claims : List Claim) (id : LspId) (e : Entry)
    → 1 ≤ port → port ≤ MOST_PORTS → EntryCertificate at claims up up id (Some e) (Some (offered port e))

abbrev pub FlaggingIsCertified : Type 0
FlaggingIsCertified = (up : PortSet) (port at : ℕ) (claims : List Claim) (id : LspId) (e : Entry)
    → 1 ≤ port → port ≤ MOST_PORTS → EntryCertificate at claims up up id (Some e) (Some (flagged port e))

-- a version that isn't older than what is held goes to every Up port
abbrev pub FloodingIsCertified : Type 0
FloodingIsCertified = (up : PortSet) (port : ℕ) (claims : List Claim) (id : LspId) (a : Version) (lifetime : ℕ)
    (body : List ℕ) (old : Option Entry)
    → IsAtMost (version_in old) a → EntryCertificate port claims up up id old (Some (flooded up a lifetime body))

-- a second passes
abbrev pub AgeingIsCertified : Type 0
AgeingIsCertified = (up : PortSet) (port : ℕ) (claims : List Claim) (id : LspId) (e : Entry)
    → EntryCertificate port claims up up id (Some e) (Some (aged up e))

-- a port leaves the Up ports, and its flags are cleared
abbrev pub ClearingPortIsCertified : Type 0
ClearingPortIsCertified = (up : PortSet) (port at : ℕ) (claims : List Claim) (id : LspId) (e : Entry)
    → 1 ≤ port → port ≤ MOST_PORTS → EntryCertificate at claims up (without_port up port) id (Some e)
    (Some (flags_cleared_at port e))

-- a port comes up, and every LSP that isn't absent is to be sent there
abbrev pub SettingSrmIsCertified : Type 0
SettingSrmIsCertified = (up : PortSet) (port at : ℕ) (claims : List Claim) (id : LspId) (e : Entry)
    → 1 ≤ port → port ≤ MOST_PORTS → EntryCertificate at claims up (with_port up port) id (Some e)
    (Some (srm_set_at port e))

-- two certified steps of one entry are one
abbrev pub EntryStepsCompose : Type 0
EntryStepsCompose = (port : ℕ) (claims more : List Claim) (before mid after : PortSet) (id : LspId)
    (old between new : Option Entry)
    → EntryCertificate port claims before mid id old between → EntryCertificate port more mid after id between new
    → EntryCertificate port (claims ++ more) before after id old new

-- what is certified of one entry is certified of the database in which no other changes
abbrev pub PuttingIsCertified : Type 0
PuttingIsCertified = (port : ℕ) (claims : List Claim) (up : PortSet) (db : Lsps) (id : LspId) (new : Option Entry)
    → EntryCertificate port claims up up id (get db id) new
    → Certificate port claims (record { up = up; db = db }) (record { up = up; db = changed_to db id new })

abbrev pub ChangingIsCertified : Type 0
ChangingIsCertified = (port : ℕ) (claims : List Claim) (up : PortSet) (db : Lsps) (id : LspId) (f : Entry → Entry)
    → EntryCertificate port claims up up id (get db id) (option_map f (get db id))
    → Certificate port claims (record { up = up; db = db }) (record { up = up; db = changed f db id })

-- what is certified of every entry is certified of the database
abbrev pub ChangingEachIsCertified : Type 0
ChangingEachIsCertified = (port : ℕ) (claims : List Claim) (before after : PortSet) (db : Lsps)
    (f : LspId → Entry → Entry)
    → ((id : LspId) (e : Entry) → EntryCertificate port claims before after id (Some e) (Some (f id e)))
    → Certificate port claims (record { up = before; db = db }) (record { up = after; db = each f db })
