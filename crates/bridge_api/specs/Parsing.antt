-- What a frame is taken for, before the bridge that hears it is looked at.
use Rattle.std.specs.Prelude.{ℕ, List, Bool, true, false, Option, Some, None, is_some, Result, Ok, Err, slice_get, nat_lt, if◌then◌else◌}
use Rattle.std.specs.List.{list_all}
use Rattle.spb_types.specs.declared.address.Mac.{Mac}
use Rattle.spb_types.specs.declared.service.Vid.{Vid}
use Rattle.spb_types.specs.declared.service.Isid.{Isid}
use Rattle.isis_pdu.specs.declared.pdu.PduError.{PduError}
use Rattle.isis_pdu.specs.Pdu.{HelloValue, LspValue, CsnpValue, PsnpValue, PduValue}
use Rattle.isis_pdu.specs.Pdu as pdus
use Rattle.isis_pdu.specs.Reading.{read}
use Rattle.spb_tlvs.specs.declared.error.TlvError.{TlvError}
use Rattle.spb_tlvs.specs.declared.three_way.ThreeWay.{ThreeWay}
use Rattle.spb_tlvs.specs.Tlv.{values_with}
use Rattle.spb_tlvs.specs.ThreeWay.{three_way_of}
use Rattle.itag_frames.specs.declared.frame.FrameError.{FrameError}
use Rattle.itag_frames.specs.Frame.{Content}
use Rattle.itag_frames.specs.Classify.{content_in}
use Rattle.itag_frames.specs.Frame as frames
use Rattle.spb_tlvs.specs.declared.codes.TheConstants.{THREE_WAY_ADJACENCY}
use Rattle.spb_types.specs.declared.drop_reason.DropReason.{DropReason}
use Rattle.spb_types.specs.declared.drop_reason.DropReason.TheVariants as drop

-- a frame that every bridge drops, or one that it hears by its kind
pub data Parsed : Type 0 where
  dropped : DropReason → Parsed
  hello : HelloValue → ThreeWay → Parsed
  lsp : LspValue → Parsed
  csnp : CsnpValue → Parsed
  psnp : PsnpValue → Parsed
  customer : Mac → Mac → Vid → Isid → List ℕ → Parsed

-- a hello is heard by its first three-way adjacency TLV, and is of no use without one that can be read (RFC 5303, 3)
abbrev pub by_reading : HelloValue → Result ThreeWay TlvError → Parsed
by_reading h (Ok way) = hello h way
by_reading h (Err e) = dropped drop.Tlv

abbrev pub by_three_way : HelloValue → Option (List ℕ) → Parsed
by_three_way h None = dropped drop.Tlv
by_three_way h (Some value) = by_reading h (three_way_of value)

abbrev pub by_pdu : Result PduValue PduError → Parsed
by_pdu (Err e) = dropped drop.Pdu
by_pdu (Ok (pdus.hello h)) = by_three_way h (slice_get (values_with THREE_WAY_ADJACENCY h.tlvs) 0)
by_pdu (Ok (pdus.lsp l)) = lsp l
by_pdu (Ok (pdus.csnp c)) = csnp c
by_pdu (Ok (pdus.psnp p)) = psnp p

abbrev pub by_content : Result Content FrameError → Parsed
by_content (Err e) = dropped drop.Frame
by_content (Ok (frames.Pdu pdu)) = by_pdu (read pdu)
by_content (Ok (frames.Customer da sa vid isid payload)) = customer da sa vid isid payload

-- a frame is a list of octets; no other list of numbers is one
abbrev pub is_octets : List ℕ → Bool
is_octets frame = list_all (λ b. nat_lt b 256) frame

unfoldable pub parsed : List ℕ → Parsed
parsed frame = if is_octets frame then by_content (content_in frame) else dropped drop.Frame

-- whether a frame is taken for one that carries a customer's
abbrev pub is_carrying : Parsed → Bool
is_carrying (dropped reason) = false
is_carrying (hello h way) = false
is_carrying (lsp l) = false
is_carrying (csnp c) = false
is_carrying (psnp s) = false
is_carrying (customer da sa vid isid f) = true

-- the hello that a frame was taken for, with its three-way adjacency
abbrev pub hello_in : Parsed → Option (HelloValue × ThreeWay)
hello_in (dropped reason) = None
hello_in (hello h way) = Some (h, way)
hello_in (lsp l) = None
hello_in (csnp c) = None
hello_in (psnp s) = None
hello_in (customer da sa vid isid payload) = None

-- whether a frame is heard as a hello
abbrev pub is_hello : List ℕ → Bool
is_hello frame = is_some (hello_in (parsed frame))
