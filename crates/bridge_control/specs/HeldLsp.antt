-- The bytes of an LSP before its flags octet.
use Rattle.std.specs.Prelude.{ℕ, List, ◌++◌}
use Rattle.spb_types.specs.declared.address.LspId.{LspId}
use Rattle.spb_types.specs.Bytes.{lsp_id_bytes}
use Rattle.isis_pdu.specs.declared.kind.Kind.TheVariants as kinds
use Rattle.isis_pdu.specs.Bytes.{u16_bytes, u32_bytes}
use Rattle.isis_pdu.specs.Spelling.{zeros, common_header}

-- common header, PDU length, remaining lifetime, LSP id, sequence number, checksum (ISO/IEC 10589, 9.8)
abbrev pub lsp_head : ℕ → ℕ → LspId → ℕ → ℕ → List ℕ
lsp_head len lifetime id seq sum =
    common_header zeros kinds.Lsp
    ++ u16_bytes len
    ++ u16_bytes lifetime
    ++ lsp_id_bytes id
    ++ u32_bytes seq
    ++ u16_bytes sum
