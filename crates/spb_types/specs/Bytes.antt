use Rattle.std.specs.Prelude.{ℕ, ◌+◌, ◌*◌, List, [], ◌∷◌, ◌++◌, slice_index, take, drop}
use Rattle.spb_types.specs.declared.address.LspId.{LspId}
use Rattle.spb_types.specs.declared.address.Mac.{Mac}
use Rattle.spb_types.specs.declared.address.SystemId.{SystemId}

-- the numbers that bytes of a frame spell from a place on, the greatest byte first
abbrev pub u8_at : List ℕ → ℕ → ℕ
u8_at bytes i = slice_index bytes i

abbrev pub u16_at : List ℕ → ℕ → ℕ
u16_at bytes i = u8_at bytes i * 256 + u8_at bytes (i + 1)

abbrev pub u24_at : List ℕ → ℕ → ℕ
u24_at bytes i = u16_at bytes i * 256 + u8_at bytes (i + 2)

abbrev pub u32_at : List ℕ → ℕ → ℕ
u32_at bytes i = u24_at bytes i * 256 + u8_at bytes (i + 3)

-- the address in the six bytes from a place on, as a system id too, and the LSP id in the eight
abbrev pub mac_at : List ℕ → ℕ → Mac
mac_at bytes i = record { bytes = take 6 (drop i bytes) }

abbrev pub system_at : List ℕ → ℕ → SystemId
system_at bytes i = record { mac = mac_at bytes i }

abbrev pub lsp_id_at : List ℕ → ℕ → LspId
lsp_id_at bytes i = record {
  system = system_at bytes i;
  pseudonode = u8_at bytes (i + 6);
  number = u8_at bytes (i + 7);
}

-- the bytes of an LSP id: the system, its pseudonode, and the number of the fragment (ISO/IEC 10589, 9.8)
abbrev pub lsp_id_bytes : LspId → List ℕ
lsp_id_bytes id = id.system.mac.bytes ++ id.pseudonode ∷ id.number ∷ []
