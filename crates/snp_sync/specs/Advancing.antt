-- What becomes of the LSPs under the ids of a system where it hears sequence numbers PDUs (ISO/IEC 10589, 7.3.15.2 and
-- 7.3.16.1).
use Rattle.std.specs.Prelude.{◌≡◌, ℕ, List}
use Rattle.std.specs.FinMap.{get}
use Rattle.spb_types.specs.declared.address.LspId.{LspId}
use Rattle.spb_types.specs.declared.ports.PortSet.{PortSet}
use Rattle.lsdb.specs.Certificate.{Claim}
use Rattle.flooding.specs.Hearing.{Holding}
use Rattle.flooding.specs.Advancing.{Advanced}
use Rattle.snp_sync.specs.Hearing.{hear_entries_of, hear_csnp_of}

-- under each id of the own system version and body stay, or the number becomes greater, or the LSP is dead at a number
-- that isn't lower, after entries and after a CSNP were heard
abbrev pub EntriesAdvance : Type 0
EntriesAdvance = (up : PortSet) (port : ℕ) (claims : List Claim) (h : Holding) (id : LspId) → id.system ≡ h.own.system
    → Advanced (get h.db id) (get (hear_entries_of up port claims h).db id)

abbrev pub CsnpAdvances : Type 0
CsnpAdvances = (up : PortSet) (port : ℕ) (start end : LspId) (claims : List Claim) (h : Holding) (id : LspId)
    → id.system ≡ h.own.system → Advanced (get h.db id) (get (hear_csnp_of up port start end claims h).db id)
