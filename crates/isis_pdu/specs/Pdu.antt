-- The PDUs as values, without where their TLVs lie in memory.
use Rattle.std.specs.Prelude.{ℕ, List}
use Rattle.spb_types.specs.declared.address.SystemId.{SystemId}
use Rattle.spb_types.specs.declared.address.LspId.{LspId}
use Rattle.isis_pdu.specs.declared.pdu.Hello.{Hello}
use Rattle.isis_pdu.specs.declared.pdu.Lsp.{Lsp}
use Rattle.isis_pdu.specs.declared.pdu.Csnp.{Csnp}
use Rattle.isis_pdu.specs.declared.pdu.Psnp.{Psnp}
use Rattle.isis_pdu.specs.declared.pdu.Pdu.{Pdu}
use Rattle.isis_pdu.specs.declared.pdu.Pdu.TheVariants as read

pub record HelloValue : Type 0 where
  pub circuit_type : ℕ
  pub source : SystemId
  pub holding : ℕ
  pub circuit : ℕ
  pub tlvs : List ℕ

pub record LspValue : Type 0 where
  pub lifetime : ℕ
  pub id : LspId
  pub seq : ℕ
  pub sum : ℕ
  pub flags : ℕ
  pub tlvs : List ℕ

pub record CsnpValue : Type 0 where
  pub source : SystemId
  pub start : LspId
  pub end : LspId
  pub tlvs : List ℕ

pub record PsnpValue : Type 0 where
  pub source : SystemId
  pub tlvs : List ℕ

pub data PduValue : Type 0 where
  hello : HelloValue → PduValue
  lsp : LspValue → PduValue
  csnp : CsnpValue → PduValue
  psnp : PsnpValue → PduValue

-- the value of each PDU of the code
abbrev pub hello_of : Hello → HelloValue
hello_of h = record {
  circuit_type = h.circuit_type;
  source = h.source;
  holding = h.holding;
  circuit = h.circuit;
  tlvs = h.tlvs.now;
}

abbrev pub lsp_of : Lsp → LspValue
lsp_of l = record { lifetime = l.lifetime; id = l.id; seq = l.seq; sum = l.sum; flags = l.flags; tlvs = l.tlvs.now }

abbrev pub csnp_of : Csnp → CsnpValue
csnp_of c = record { source = c.source; start = c.start; end = c.end; tlvs = c.tlvs.now }

abbrev pub psnp_of : Psnp → PsnpValue
psnp_of p = record { source = p.source; tlvs = p.tlvs.now }

abbrev pub pdu_of : Pdu → PduValue
pdu_of (read.Hello h) = hello (hello_of h)
pdu_of (read.Lsp l) = lsp (lsp_of l)
pdu_of (read.Csnp c) = csnp (csnp_of c)
pdu_of (read.Psnp p) = psnp (psnp_of p)
