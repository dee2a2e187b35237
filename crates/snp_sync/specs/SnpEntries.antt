-- What a sequence numbers PDU says of an LSP that is held (ISO/IEC 10589, 7.3.15.3 and 7.3.15.4).
use Rattle.std.specs.Prelude.{ℕ, Bool, not, List, [], ◌∷◌, filter, map, Option, Some, None, if◌then◌else◌}
use Rattle.std.specs.FinMap.{entries}
use Rattle.spb_types.specs.declared.address.LspId.{LspId}
use Rattle.spb_types.specs.Ports.{has}
use Rattle.spb_tlvs.specs.declared.entries.SnpEntry.{SnpEntry}
use Rattle.lsdb.specs.Version.{number_of, sum_of, is_absent}
use Rattle.lsdb.specs.Entry.{Entry}
use Rattle.lsdb.specs.Database.{Lsps}

-- what a PDU says of an LSP: its lifetime, its id, its sequence number and its checksum
abbrev pub snp_entry_of : LspId → Entry → SnpEntry
snp_entry_of id e = record { lifetime = e.lifetime; id = id; seq = number_of e.version; sum = sum_of e.version }

-- what is said of those LSPs that pass a test, in order of id
abbrev pub snp_entries_where : (Entry → Bool) → Lsps → List SnpEntry
snp_entries_where test db = map (λ e. snp_entry_of e.0 e.1) (filter (λ e. test e.1) (entries db))

-- whether an LSP is listed in CSNPs: all are but the absent ones
abbrev pub is_listed : Entry → Bool
is_listed e = not (is_absent e.version)

-- whether an LSP stands in the PSNPs at a port: it is to be acknowledged or asked for there
abbrev pub has_ssn_at : ℕ → Entry → Bool
has_ssn_at port e = has e.ssn port

-- the entry of an LSP that is held, if it passes the test
abbrev pub entry_where : (Entry → Bool) → Option (LspId × Entry) → List SnpEntry
entry_where test None = []
entry_where test (Some e) = if test e.1 then snp_entry_of e.0 e.1 ∷ [] else []
