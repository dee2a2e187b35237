-- Which values are PDUs, and what in the bytes of a PDU is ignored.
use Rattle.std.specs.Prelude.{◌≡◌, ℕ, ◌+◌, ◌/◌, ◌<◌, List, ◌++◌, length, drop, ◌≤◌, Bool, true, ◌&&◌, ◌||◌, ◌==◌, nat_le, IsTrue}
use Rattle.spb_types.specs.declared.address.SystemId.{SystemId}
use Rattle.spb_types.specs.declared.address.LspId.{LspId}
use Rattle.spb_types.specs.Bytes.{u8_at}
use Rattle.isis_pdu.specs.declared.kind.Kind.{Kind}
use Rattle.isis_pdu.specs.declared.kind.Kind.TheVariants as kinds
use Rattle.isis_pdu.specs.Header.{fixed_length}
use Rattle.isis_pdu.specs.Pdu.{PduValue, LspValue, hello, lsp, csnp, psnp}
use Rattle.isis_pdu.specs.Tlvs.{is_whole}
use Rattle.isis_pdu.specs.Checksum.{is_checked, covered}
use Rattle.isis_pdu.specs.Spelling.{Ignored, AreIgnored, zeros, pdu_with}

abbrev pub kind_of_pdu : PduValue → Kind
kind_of_pdu (hello h) = kinds.Hello
kind_of_pdu (lsp l) = kinds.Lsp
kind_of_pdu (csnp c) = kinds.Csnp
kind_of_pdu (psnp p) = kinds.Psnp

abbrev pub tlvs_of : PduValue → List ℕ
tlvs_of (hello h) = h.tlvs
tlvs_of (lsp l) = l.tlvs
tlvs_of (csnp c) = c.tlvs
tlvs_of (psnp p) = p.tlvs

-- how many bytes the PDU has
abbrev pub length_of : PduValue → ℕ
length_of p = fixed_length (kind_of_pdu p) + length (tlvs_of p)

-- a system id has six bytes
abbrev pub IsId : SystemId → Type 0
IsId s = length s.mac.bytes ≡ 6

abbrev pub HasIds : PduValue → Type 0
HasIds (hello h) = IsId h.source
HasIds (lsp l) = IsId l.id.system
HasIds (csnp c) = IsId c.source × IsId c.start.system × IsId c.end.system
HasIds (psnp p) = IsId p.source

-- its ids are ids, and its TLVs are whole
pub record IsPdu (p : PduValue) : Type 0 where
  pub ids : HasIds p
  pub whole : IsTrue (is_whole (tlvs_of p))

-- an LSP with a lifetime and a sequence number has a checksum that isn't 0 and that holds. No other PDU has one
unfoldable pub is_sound_lsp : LspValue → Bool
is_sound_lsp l =
    (l.lifetime == 0) || (l.seq == 0) || (nat_le 1 l.sum && is_checked (covered l.id l.seq l.sum l.flags l.tlvs))

abbrev pub is_sound : PduValue → Bool
is_sound (hello h) = true
is_sound (lsp l) = is_sound_lsp l
is_sound (csnp c) = true
is_sound (psnp p) = true

-- what the bytes of a PDU have in the places that are ignored
abbrev pub ignored_in : PduValue → List ℕ → Ignored
ignored_in p bytes = record {
  id_length = u8_at bytes 3;
  type_bits = u8_at bytes 4 / 32;
  reserved = u8_at bytes 6;
  max_areas = u8_at bytes 7;
  circuit = circuit_in p;
}
  where
    circuit_in : PduValue → ℕ
    circuit_in (hello h) = 0
    circuit_in (lsp l) = 0
    circuit_in (csnp c) = u8_at bytes 16
    circuit_in (psnp q) = u8_at bytes 16

-- the numbers of a list are bytes
abbrev pub IsBytes : List ℕ → Type 0
IsBytes bytes = (i : ℕ) → u8_at bytes i < 256

abbrev pub IsLspIdOfBytes : LspId → Type 0
IsLspIdOfBytes id = IsBytes id.system.mac.bytes × (id.pseudonode < 256) × (id.number < 256)

-- each field is a number that its bytes can say
abbrev pub HasFields : PduValue → Type 0
HasFields (hello h) =
    (h.circuit_type < 256) × IsBytes h.source.mac.bytes × (h.holding < 65536) × (h.circuit < 256) × IsBytes h.tlvs
HasFields (lsp l) =
    (l.lifetime < 65536) × IsLspIdOfBytes l.id × (l.seq < 4294967296) × (l.sum < 65536) × (l.flags < 256)
    × IsBytes l.tlvs
HasFields (csnp c) = IsBytes c.source.mac.bytes × IsLspIdOfBytes c.start × IsLspIdOfBytes c.end × IsBytes c.tlvs
HasFields (psnp p) = IsBytes p.source.mac.bytes × IsBytes p.tlvs

-- what the bytes are, of which p was read: p with what is ignored, and after it bytes of no PDU. p is a PDU, whose
-- checksum holds if it must
pub record IsReadFrom (bytes : List ℕ) (p : PduValue) : Type 0 where
  pub allowed : AreIgnored (ignored_in p bytes)
  pub parts : bytes ≡ pdu_with (ignored_in p bytes) p ++ drop (length_of p) bytes
  pub within : length_of p ≤ length bytes
  pub pdu : IsPdu p
  pub sound : IsTrue (is_sound p)
  pub fields : HasFields p

-- the bytes are as a writer makes them: 0 in each place that is ignored, and nothing after the PDU
pub record IsCanonical (bytes : List ℕ) (p : PduValue) : Type 0 where
  pub over : ignored_in p bytes ≡ zeros
  pub end : length bytes ≡ length_of p
