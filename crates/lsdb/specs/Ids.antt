-- LSP ids as numbers of eight bytes (ISO/IEC 10589, 9.8).
use Rattle.std.specs.Prelude.{◌≡◌, ℕ, ◌<◌, length}
use Rattle.std.specs.List.{AllByRecursion}
use Rattle.std.specs.Int.{w64, from_be_bytes}
use Rattle.spb_types.specs.declared.address.LspId.{LspId}
use Rattle.spb_types.specs.Bytes.{lsp_id_bytes}

-- an id as a number, the greatest byte first
unfoldable pub id_number : LspId → ℕ
id_number id = from_be_bytes w64 (lsp_id_bytes id)

-- the fields of an id are eight bytes
pub record HasEightBytes (id : LspId) : Type 0 where
  pub six : length id.system.mac.bytes ≡ 6
  pub bytes : AllByRecursion (λ b. b < 256) (lsp_id_bytes id)
