-- The LSP entries TLV of an SNP, code 9 (ISO/IEC 10589, 9.10 to 9.13).
use Rattle.std.specs.Prelude.{ℕ, List, ◌++◌, ◌/◌, ◌%◌, length, map, Result, Ok, Err, ◌==◌, if◌then◌else◌}
use Rattle.std.specs.List.{flat_map}
use Rattle.std.specs.Simd.{first_chunks}
use Rattle.spb_types.specs.Bytes.{u16_at, u32_at, lsp_id_bytes, lsp_id_at}
use Rattle.spb_tlvs.specs.declared.error.TlvError.{TlvError}
use Rattle.spb_tlvs.specs.declared.error.TlvError.TheVariants.{Cut}
use Rattle.spb_tlvs.specs.declared.entries.SnpEntry.{SnpEntry}
use Rattle.spb_tlvs.specs.Number.{two, four}

-- an entry, 16 bytes: the remaining lifetime, the LSP id, the sequence number and the checksum
abbrev pub entry_bytes : SnpEntry → List ℕ
entry_bytes e = two e.lifetime ++ lsp_id_bytes e.id ++ four e.seq ++ two e.sum

abbrev pub entry_at : List ℕ → SnpEntry
entry_at bytes = record {
  lifetime = u16_at bytes 0;
  id = lsp_id_at bytes 2;
  seq = u32_at bytes 10;
  sum = u16_at bytes 14;
}

-- the value of entries: one after another
abbrev pub entries_value : List SnpEntry → List ℕ
entries_value es = flat_map entry_bytes es

-- what a value says: so many whole entries, and nothing else
abbrev pub entries_of : List ℕ → Result (List SnpEntry) TlvError
entries_of value =
    if length value % 16 == 0 then Ok (map entry_at (first_chunks 16 (length value / 16) value)) else Err Cut
