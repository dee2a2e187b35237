-- The sequence numbers PDUs that a bridge sends (ISO/IEC 10589, 7.3.15.3 and 7.3.15.4).
use Rattle.std.specs.Prelude.{ℕ, ◌+◌, false, List, [], ◌∷◌, map, slice_get, Option, Some, None, if◌then◌else◌}
use Rattle.std.specs.FinMap.{entries}
use Rattle.std.specs.Global.{Vec}
use Rattle.spb_types.specs.declared.address.LspId.{LspId}
use Rattle.spb_types.specs.declared.address.SystemId.{SystemId}
use Rattle.spb_tlvs.specs.declared.entries.SnpEntry.{SnpEntry}
use Rattle.isis_pdu.specs.declared.kind.Kind.TheVariants as kinds
use Rattle.isis_pdu.specs.Header.{fixed_length}
use Rattle.isis_pdu.specs.Pdu.{CsnpValue, PsnpValue}
use Rattle.lsdb.specs.Entry.{Entry, with_ssn}
use Rattle.lsdb.specs.Database.{Lsps, each, changed_at_place}
use Rattle.snp_sync.specs.SnpEntries.{snp_entries_where, is_listed, has_ssn_at}
use Rattle.snp_sync.specs.Chunks.{entry_tlvs, tlvs_length, chunks, chunks_or_one}
use Rattle.snp_sync.specs.Ids.{successor, first_id, last_id}

-- the bytes of PDUs
abbrev pub bytes_in : List (Vec ℕ) → List (List ℕ)
bytes_in pdus = map (λ pdu. pdu.items) pdus

-- a chunk of the database, for one CSNP: a range of ids, and the entries of the LSPs in it
pub record CsnpChunk : Type 0 where
  pub start : LspId
  pub end : LspId
  pub entries : List SnpEntry

-- the CSNP of a chunk, and the PSNP of entries
abbrev pub csnp_for : SystemId → CsnpChunk → CsnpValue
csnp_for me chunk = record { source = me; start = chunk.start; end = chunk.end; tlvs = entry_tlvs chunk.entries }

abbrev pub psnp_for : SystemId → List SnpEntry → PsnpValue
psnp_for me entries = record { source = me; tlvs = entry_tlvs entries }

-- how many bytes the PSNP of so many entries of 16 bytes has
abbrev pub psnp_length : ℕ → ℕ
psnp_length n = fixed_length kinds.Psnp + tlvs_length n

-- the id of the last entry, and another where there is no entry
abbrev pub end_of : LspId → List SnpEntry → LspId
end_of other [] = other
end_of other (entry ∷ entries) = end_of entry.id entries

-- the chunks of CSNPs, of which the first starts at an id: each further one starts at the successor of the end of the
-- one before; the last ends at 16 digits f, and each other one at its last entry
abbrev pub csnp_chunks_from : LspId → List (List SnpEntry) → List CsnpChunk
csnp_chunks_from start [] = []
csnp_chunks_from start (chunk ∷ []) = record { start = start; end = last_id; entries = chunk } ∷ []
csnp_chunks_from start (chunk ∷ next ∷ more) =
    let end = end_of start chunk in record { start = start; end = end; entries = chunk }
    ∷ csnp_chunks_from (successor end) (next ∷ more)

-- the chunks of the whole database, at most 90 entries on each, and a CSNP for each (ISO/IEC 10589, 7.3.15.3)
abbrev pub csnp_chunks : Lsps → List CsnpChunk
csnp_chunks db = csnp_chunks_from first_id (chunks_or_one 90 (snp_entries_where is_listed db))

abbrev pub csnps_of : SystemId → Lsps → List CsnpValue
csnps_of me db = map (csnp_for me) (csnp_chunks db)

-- what has SSN at a port, at most 90 entries in each chunk, and a PSNP for each (ISO/IEC 10589, 7.3.15.4)
abbrev pub psnp_chunks : ℕ → Lsps → List (List SnpEntry)
psnp_chunks port db = chunks 90 (snp_entries_where (has_ssn_at port) db)

abbrev pub psnps_of : SystemId → ℕ → Lsps → List PsnpValue
psnps_of me port db = map (psnp_for me) (psnp_chunks port db)

-- nothing has SSN at a port any longer
abbrev pub ssn_cleared : ℕ → Entry → Entry
ssn_cleared port e = if has_ssn_at port e then with_ssn port false e else e

abbrev pub all_ssn_cleared : ℕ → Lsps → Lsps
all_ssn_cleared port db = each (λ id e. ssn_cleared port e) db

-- the LSP at a place doesn't have it any longer
abbrev pub ssn_cleared_under : ℕ → ℕ → Lsps → Option (LspId × Entry) → Lsps
ssn_cleared_under port place db None = db
ssn_cleared_under port place db (Some e) =
    if has_ssn_at port e.1 then changed_at_place (with_ssn port false) db place else db

abbrev pub ssn_cleared_at : ℕ → ℕ → Lsps → Lsps
ssn_cleared_at port place db = ssn_cleared_under port place db (slice_get (entries db) place)
