-- LSP ids as numbers of eight bytes (ISO/IEC 10589, 9.8).
use Rattle.std.specs.Prelude.{ℕ, ◌+◌, ◌%◌, ◌^◌, ◌∷◌, [], Bool, ◌&&◌}
use Rattle.std.specs.Int.{w64, to_be_bytes}
use Rattle.std.specs.Ordering.{is_le}
use Rattle.spb_types.specs.declared.address.LspId.{LspId}
use Rattle.spb_types.specs.Bytes.{lsp_id_at}
use Rattle.lsdb.specs.Database.{id_cmp}
unfoldable pub use Rattle.lsdb.specs.Ids.{id_number}

-- the id of a number
abbrev pub id_of : ℕ → LspId
id_of n = lsp_id_at (to_be_bytes w64 n) 0

-- the next id; after the last comes the first
unfoldable pub successor : LspId → LspId
successor id = id_of ((id_number id + 1) % 2 ^ 64)

-- 16 zero digits, and 16 digits f
abbrev pub first_id : LspId
first_id = record {
  system = record { mac = record { bytes = 0 ∷ 0 ∷ 0 ∷ 0 ∷ 0 ∷ 0 ∷ [] } };
  pseudonode = 0;
  number = 0;
}

abbrev pub last_id : LspId
last_id = record {
  system = record { mac = record { bytes = 255 ∷ 255 ∷ 255 ∷ 255 ∷ 255 ∷ 255 ∷ [] } };
  pseudonode = 255;
  number = 255;
}

-- whether an id lies in a range, its ends included
abbrev pub is_between : LspId → LspId → LspId → Bool
is_between start end id = is_le (id_cmp start id) && is_le (id_cmp id end)
