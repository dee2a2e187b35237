-- What is held, as its fields in a PDU can say it.
use Rattle.spb_types.specs.declared.address.LspId.{LspId}
use Rattle.isis_pdu.specs.Grammar.{IsId, IsLspIdOfBytes}
use Rattle.spb_tlvs.specs.declared.entries.SnpEntry.{SnpEntry}
use Rattle.spb_tlvs.specs.RoundTrip.{IsEntry}
use Rattle.lsdb.specs.Entry.{Entry}
use Rattle.lsdb.specs.Database.{Lsps}
use Rattle.flooding.specs.Entries.{AllEntries}
use Rattle.snp_sync.specs.SnpEntries.{snp_entry_of}

-- an LSP id of eight bytes
pub record IsLspId (id : LspId) : Type 0 where
  pub system : IsId id.system
  pub bytes : IsLspIdOfBytes id

abbrev pub HaveIds : Lsps → Type 0
HaveIds db = AllEntries (λ id e. IsLspId id) db

-- an entry of which a PDU can tell: its id has eight bytes, and its numbers fit the fields
pub record IsSized (id : LspId) (e : Entry) : Type 0 where
  pub named : IsLspId id
  pub entry : IsEntry (snp_entry_of id e)

abbrev pub AreSized : Lsps → Type 0
AreSized db = AllEntries IsSized db

-- an entry of an SNP whose numbers fit its fields, of an id of eight bytes
pub record IsSizedEntry (e : SnpEntry) : Type 0 where
  pub named : IsLspId e.id
  pub entry : IsEntry e
