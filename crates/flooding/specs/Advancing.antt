-- What becomes of what a system holds under its own ids: no live version comes to stand with a second body
-- (ISO/IEC 10589, 7.3.7 and 7.3.16.1).
use Rattle.std.specs.Prelude.{◌≡◌, ℕ, ◌<◌, ◌≤◌, Option, Some}
use Rattle.std.specs.FinMap.{get}
use Rattle.spb_types.specs.declared.address.LspId.{LspId}
use Rattle.spb_types.specs.declared.ports.PortSet.{PortSet}
use Rattle.isis_pdu.specs.Pdu.{LspValue}
use Rattle.lsdb.specs.declared.version.Version.TheVariants.{Dead}
use Rattle.lsdb.specs.Version.{number_of}
use Rattle.lsdb.specs.Entry.{Entry, aged}
use Rattle.lsdb.specs.Database.{version_in}
use Rattle.lsdb.specs.Certificate.{Claim}
use Rattle.flooding.specs.Own.{body_in}
use Rattle.flooding.specs.Hearing.{Holding, hear_lsp_of, hear_entry_of}
use Rattle.flooding.specs.Origination.{originated, number_purged}
use Rattle.flooding.specs.Settling.{Test, settled_by}

-- what stands under an id after a change: version and body stay; or its number is greater; or it is dead, at a number
-- that isn't lower
pub data Advanced (old new : Option Entry) : Type 0 where
  stays : version_in new ≡ version_in old → body_in new ≡ body_in old → Advanced old new
  advances : number_of (version_in old) < number_of (version_in new) → Advanced old new
  ends : (seq : ℕ) → version_in new ≡ Dead seq → number_of (version_in old) ≤ seq → Advanced old new

-- so it is after two changes, one after the other
abbrev pub AdvancesCompose : Type 0
AdvancesCompose = (old mid new : Option Entry) → Advanced old mid → Advanced mid new → Advanced old new

-- under each id of the own system, after an LSP and after an entry of an SNP were heard
abbrev pub LspAdvances : Type 0
LspAdvances = (up : PortSet) (port : ℕ) (l : LspValue) (h : Holding) (id : LspId) → id.system ≡ h.own.system
    → Advanced (get h.db id) (get (hear_lsp_of up port l h).db id)

abbrev pub EntryAdvances : Type 0
EntryAdvances = (up : PortSet) (port : ℕ) (c : Claim) (h : Holding) (id : LspId) → id.system ≡ h.own.system
    → Advanced (get h.db id) (get (hear_entry_of up port c h).db id)

-- under each id, after a number was originated or purged, and after own LSPs were brought up to date
abbrev pub OriginationAdvances : Type 0
OriginationAdvances = (up : PortSet) (number : ℕ) (h : Holding) (id : LspId)
    → Advanced (get h.db id) (get (originated up number h).db id)

abbrev pub PurgeAdvances : Type 0
PurgeAdvances = (up : PortSet) (number : ℕ) (h : Holding) (id : LspId)
    → Advanced (get h.db id) (get (number_purged up number h).db id)

abbrev pub SettlingAdvances : Type 0
SettlingAdvances = (test : Test) (up : PortSet) (h : Holding) (id : LspId)
    → Advanced (get h.db id) (get (settled_by test up h).db id)

-- and after a second
abbrev pub AgeingAdvances : Type 0
AgeingAdvances = (up : PortSet) (e : Entry) → Advanced (Some e) (Some (aged up e))
