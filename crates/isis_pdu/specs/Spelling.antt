-- The bytes of each PDU, field by field (ISO/IEC 10589, clause 9).
use Rattle.std.specs.Prelude.{ℕ, ◌+◌, ◌*◌, ◌≤◌, List, [], ◌∷◌, ◌++◌, length, ◌||◌, ◌==◌, IsTrue}
use Rattle.spb_types.specs.declared.address.SystemId.{SystemId}
use Rattle.isis_pdu.specs.declared.kind.Kind.{Kind}
use Rattle.isis_pdu.specs.declared.kind.Kind.TheVariants as kinds
use Rattle.isis_pdu.specs.Header.{type_of, fixed_length}
use Rattle.isis_pdu.specs.Pdu.{HelloValue, LspValue, CsnpValue, PsnpValue, PduValue, hello, lsp, csnp, psnp}
use Rattle.isis_pdu.specs.Tlvs.{is_whole}
use Rattle.spb_types.specs.Bytes.{lsp_id_bytes}
use Rattle.isis_pdu.specs.Bytes.{u16_bytes, u32_bytes}

-- what a reader ignores. A writer writes each of these as 0
pub record Ignored : Type 0 where
  pub id_length : ℕ
  pub type_bits : ℕ
  pub reserved : ℕ
  pub max_areas : ℕ
  pub circuit : ℕ

abbrev pub zeros : Ignored
zeros = record { id_length = 0; type_bits = 0; reserved = 0; max_areas = 0; circuit = 0 }

-- what may stand there: an id length of 0 or 6, which both say six bytes; 0 or 3 for the number of area addresses,
-- which both say three; and anything in the reserved octet, the three bits above the type and the circuit octet
pub record AreIgnored (o : Ignored) : Type 0 where
  pub id_length : IsTrue ((o.id_length == 0) || (o.id_length == 6))
  pub max_areas : IsTrue ((o.max_areas == 0) || (o.max_areas == 3))

-- the common header: discriminator, header length, version, id length, type, version, reserved octet, and the number
-- of area addresses
abbrev pub common_header : Ignored → Kind → List ℕ
common_header o kind =
    0x83 ∷ fixed_length kind ∷ 1 ∷ o.id_length ∷ (o.type_bits * 32 + type_of kind) ∷ 1 ∷ o.reserved ∷ o.max_areas ∷ []

-- the PDU length counts all bytes of the PDU
abbrev pub length_bytes : Kind → List ℕ → List ℕ
length_bytes kind tlvs = u16_bytes (fixed_length kind + length tlvs)

-- the source of a sequence numbers PDU has seven bytes: the system id and a circuit octet
abbrev pub source_bytes : Ignored → SystemId → List ℕ
source_bytes o source = source.mac.bytes ++ o.circuit ∷ []

-- a point-to-point hello (9.7): circuit type, source, holding time, PDU length, local circuit id, TLVs
abbrev pub hello_with : Ignored → HelloValue → List ℕ
hello_with o h =
    common_header o kinds.Hello
    ++ (h.circuit_type ∷ [])
    ++ h.source.mac.bytes
    ++ u16_bytes h.holding
    ++ length_bytes kinds.Hello h.tlvs
    ++ (h.circuit ∷ [])
    ++ h.tlvs

-- an LSP (9.8): PDU length, remaining lifetime, LSP id, sequence number, checksum, flags, TLVs
abbrev pub lsp_with : Ignored → LspValue → List ℕ
lsp_with o l =
    common_header o kinds.Lsp
    ++ length_bytes kinds.Lsp l.tlvs
    ++ u16_bytes l.lifetime
    ++ lsp_id_bytes l.id
    ++ u32_bytes l.seq
    ++ u16_bytes l.sum
    ++ (l.flags ∷ [])
    ++ l.tlvs

-- a CSNP (9.10): PDU length, source, start LSP id, end LSP id, TLVs
abbrev pub csnp_with : Ignored → CsnpValue → List ℕ
csnp_with o c =
    common_header o kinds.Csnp
    ++ length_bytes kinds.Csnp c.tlvs
    ++ source_bytes o c.source
    ++ lsp_id_bytes c.start
    ++ lsp_id_bytes c.end
    ++ c.tlvs

-- a PSNP (9.12): PDU length, source, TLVs
abbrev pub psnp_with : Ignored → PsnpValue → List ℕ
psnp_with o p =
    common_header o kinds.Psnp
    ++ length_bytes kinds.Psnp p.tlvs
    ++ source_bytes o p.source
    ++ p.tlvs

unfoldable pub pdu_with : Ignored → PduValue → List ℕ
pdu_with o (hello h) = hello_with o h
pdu_with o (lsp l) = lsp_with o l
pdu_with o (csnp c) = csnp_with o c
pdu_with o (psnp p) = psnp_with o p

-- what is written: whole TLVs, in a PDU of at most 1,497 bytes, which with the three LLC bytes fill a frame of 1,500
pub record CanWrite (kind : Kind) (tlvs : List ℕ) : Type 0 where
  pub whole : IsTrue (is_whole tlvs)
  pub short : fixed_length kind + length tlvs ≤ 1497

-- the one spelling that is written
unfoldable pub hello_bytes : HelloValue → List ℕ
hello_bytes h = hello_with zeros h

unfoldable pub lsp_bytes : LspValue → List ℕ
lsp_bytes l = lsp_with zeros l

unfoldable pub csnp_bytes : CsnpValue → List ℕ
csnp_bytes c = csnp_with zeros c

unfoldable pub psnp_bytes : PsnpValue → List ℕ
psnp_bytes p = psnp_with zeros p

abbrev pub pdu_bytes : PduValue → List ℕ
pdu_bytes (hello h) = hello_bytes h
pdu_bytes (lsp l) = lsp_bytes l
pdu_bytes (csnp c) = csnp_bytes c
pdu_bytes (psnp p) = psnp_bytes p
