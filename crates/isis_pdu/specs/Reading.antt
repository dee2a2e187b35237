-- Reading a PDU, with the first rule that the bytes break.
use Rattle.std.specs.Prelude.{ℕ, ◌%◌, List, length, Bool, true, ◌&&◌, ◌||◌, ◌==◌, nat_le, if◌then◌else◌, Option, Some, None, Result, Ok, Err, slice_range}
use Rattle.spb_types.specs.Bytes.{u8_at, u16_at, u32_at, system_at, lsp_id_at}
use Rattle.isis_pdu.specs.declared.kind.Kind.{Kind}
use Rattle.isis_pdu.specs.declared.kind.Kind.TheVariants as kinds
use Rattle.isis_pdu.specs.declared.pdu.PduError.{PduError}
use Rattle.isis_pdu.specs.declared.pdu.PduError.TheVariants as refusals
use Rattle.isis_pdu.specs.declared.pdu.Pdu.{Pdu}
use Rattle.isis_pdu.specs.Header.{kind_of, fixed_length, length_place}
use Rattle.isis_pdu.specs.Pdu.{PduValue, hello, lsp, csnp, psnp, pdu_of}
use Rattle.isis_pdu.specs.Tlvs.{is_whole}
use Rattle.isis_pdu.specs.Checksum.{is_checked}

-- the common header is that of an IS-IS PDU, whatever its type: discriminator, both versions, id length, areas
abbrev pub is_isis : List ℕ → Bool
is_isis bytes =
    (u8_at bytes 0 == 0x83) && (u8_at bytes 2 == 1) && ((u8_at bytes 3 == 0) || (u8_at bytes 3 == 6))
    && (u8_at bytes 5 == 1) && ((u8_at bytes 7 == 0) || (u8_at bytes 7 == 3))

-- the type, which the low five bits of its octet say
abbrev pub kind_at : List ℕ → Option Kind
kind_at bytes = kind_of (u8_at bytes 4 % 32)

abbrev pub pdu_length : Kind → List ℕ → ℕ
pdu_length kind bytes = u16_at bytes (length_place kind)

-- the bytes have the whole fixed part, and the PDU ends behind it and within the bytes
abbrev pub has_length : Kind → List ℕ → Bool
has_length kind bytes =
    nat_le (fixed_length kind) (length bytes)
    && nat_le (fixed_length kind) (pdu_length kind bytes) && nat_le (pdu_length kind bytes) (length bytes)

-- the TLVs, which end with the PDU
abbrev pub tlvs_of_pdu : Kind → List ℕ → List ℕ
tlvs_of_pdu kind bytes = slice_range bytes (fixed_length kind) (pdu_length kind bytes)

-- an LSP with a lifetime and a sequence number has a checksum that isn't 0 and that holds from its id to its end
abbrev pub has_sum : Kind → List ℕ → Bool
has_sum kinds.Lsp bytes =
    (u16_at bytes 10 == 0) || (u32_at bytes 20 == 0)
    || (nat_le 1 (u16_at bytes 24) && is_checked (slice_range bytes 12 (pdu_length kinds.Lsp bytes)))
has_sum kinds.Hello bytes = true
has_sum kinds.Csnp bytes = true
has_sum kinds.Psnp bytes = true

-- the fields
unfoldable pub value_in : Kind → List ℕ → PduValue
value_in kinds.Hello bytes = hello (record {
  circuit_type = u8_at bytes 8;
  source = system_at bytes 9;
  holding = u16_at bytes 15;
  circuit = u8_at bytes 19;
  tlvs = tlvs_of_pdu kinds.Hello bytes;
})
value_in kinds.Lsp bytes = lsp (record {
  lifetime = u16_at bytes 10;
  id = lsp_id_at bytes 12;
  seq = u32_at bytes 20;
  sum = u16_at bytes 24;
  flags = u8_at bytes 26;
  tlvs = tlvs_of_pdu kinds.Lsp bytes;
})
value_in kinds.Csnp bytes = csnp (record {
  source = system_at bytes 10;
  start = lsp_id_at bytes 17;
  end = lsp_id_at bytes 25;
  tlvs = tlvs_of_pdu kinds.Csnp bytes;
})
value_in kinds.Psnp bytes = psnp (record { source = system_at bytes 10; tlvs = tlvs_of_pdu kinds.Psnp bytes })

-- the refusal, unless the test holds
abbrev pub unless : PduError → Bool → Result PduValue PduError → Result PduValue PduError
unless refusal test rest = if test then rest else Err refusal

-- the PDU in bytes of which the common header stands
unfoldable pub read_as : Option Kind → List ℕ → Result PduValue PduError
read_as None bytes = Err refusals.Kind
read_as (Some kind) bytes =
    unless refusals.Kind (u8_at bytes 1 == fixed_length kind)
    (unless refusals.Length (has_length kind bytes)
    (unless refusals.TlvCut (is_whole (tlvs_of_pdu kind bytes))
    (unless refusals.Sum (has_sum kind bytes) (Ok (value_in kind bytes)))))

-- the PDU in bytes, or the first rule that they break
unfoldable pub read : List ℕ → Result PduValue PduError
read bytes =
    unless refusals.Short (nat_le 8 (length bytes))
    (unless refusals.NotIsis (is_isis bytes) (read_as (kind_at bytes) bytes))

-- the code's answer, seen without where the TLVs lie
abbrev pub answer_of : Result Pdu PduError → Result PduValue PduError
answer_of (Ok pdu) = Ok (pdu_of pdu)
answer_of (Err e) = Err e
