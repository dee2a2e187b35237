-- What a frame that is heard was read from.
use Rattle.std.proofs.Common.{◌≡◌, ℕ, ◌-◌, Bool, true, false, List, length, drop, refl, ap, subst, Option, Some, None, Result, Ok, Err}
use Rattle.std.specs.Prelude.{if◌then◌else◌, nat_lt, not, slice_get}
use Rattle.isis_pdu.specs.declared.pdu.PduError.{PduError}
use Rattle.isis_pdu.specs.Pdu.{HelloValue, PduValue, hello, lsp, csnp, psnp}
use Rattle.isis_pdu.specs.Reading.{read}
use Rattle.isis_pdu.specs.Grammar.{IsBytes, IsReadFrom}
use Rattle.isis_pdu.proofs.Read.{read_is_spelled}
use Rattle.spb_tlvs.specs.declared.error.TlvError.{TlvError}
use Rattle.spb_tlvs.specs.declared.three_way.ThreeWay.{ThreeWay}
use Rattle.spb_tlvs.specs.Tlv.{values_with}
use Rattle.spb_tlvs.specs.ThreeWay.{three_way_of}
use Rattle.itag_frames.specs.declared.frame.FrameError.{FrameError}
use Rattle.itag_frames.specs.declared.frame.FrameError.TheVariants as refusals
use Rattle.itag_frames.specs.Frame.{Content, is_to_bridges, has_pdu, pdu_of}
use Rattle.itag_frames.specs.Backbone.{has_b_tag, has_i_tag, parts_of}
use Rattle.itag_frames.specs.Classify.{content_in}
use Rattle.itag_frames.specs.Frame as frames
use Rattle.bridge_api.specs.Parsing.{Parsed, is_octets, parsed, by_content, by_pdu, by_three_way, by_reading}
use Rattle.bridge_api.specs.Parsing as parsing
use Rattle.spb_types.specs.declared.drop_reason.DropReason.TheVariants as drop
use Rattle.bridge_api.proofs.Octets.{AreSmall, small_octets, small_bytes, small_take, small_drop}

-- the PDU that a frame was taken for
abbrev pub pdu_in : Parsed → Option PduValue
pdu_in (parsing.dropped reason) = None
pdu_in (parsing.hello h way) = Some (hello h)
pdu_in (parsing.lsp l) = Some (lsp l)
pdu_in (parsing.csnp c) = Some (csnp c)
pdu_in (parsing.psnp s) = Some (psnp s)
pdu_in (parsing.customer da sa vid isid customer) = None

-- the bytes of which it was read, which are octets
pub record IsHeardPdu (bytes : List ℕ) (p : PduValue) : Type 0 where
  pub pdu : List ℕ
  pub is : content_in bytes ≡ Ok (frames.Pdu pdu)
  pub octets : IsBytes pdu
  pub read_as : read pdu ≡ Ok p
  pub from : IsReadFrom pdu p

-- its octets are those of the frame
-- what carries a PDU is a control frame, and this is its PDU
pdu_at : (short bridges has few tag itag : Bool) (frame pdu : List ℕ)
    → (if short then Err refusals.Short else (if bridges then (if has then Ok (frames.Pdu (pdu_of frame)) else Err refusals.NotBackbone)
    else (if few then Err refusals.Short else (if not tag then Err refusals.NotBackbone else (if not itag then Err refusals.NoItag else Ok (parts_of frame)))))) ≡ Ok (frames.Pdu pdu)
    → (has ≡ true) × (pdu_of frame ≡ pdu)
pdu_at true bridges has few tag itag frame pdu e = absurd cc
pdu_at false true true few tag itag frame pdu e = (refl, cc)
pdu_at false true false few tag itag frame pdu e = absurd cc
pdu_at false false has true tag itag frame pdu e = absurd cc
pdu_at false false has false false itag frame pdu e = absurd cc
pdu_at false false has false true false frame pdu e = absurd cc
pdu_at false false has false true true frame pdu e = absurd cc

pub is_control_pdu : (frame pdu : List ℕ) → content_in frame ≡ Ok (frames.Pdu pdu) → (has_pdu frame ≡ true) × (pdu_of frame ≡ pdu)
is_control_pdu frame pdu e = pdu_at (nat_lt (length frame) 17) (is_to_bridges frame) (has_pdu frame) (nat_lt (length frame) 36) (has_b_tag frame) (has_i_tag frame) frame pdu e

pdu_octets : (bytes pdu : List ℕ) → content_in bytes ≡ Ok (frames.Pdu pdu) → is_octets bytes ≡ true → IsBytes pdu
pdu_octets bytes pdu is octets =
    let small : AreSmall (pdu_of bytes) = small_take (frames.length_of bytes - 3) (drop 17 bytes) (small_drop 17 bytes (small_octets bytes octets)) in
    subst IsBytes (is_control_pdu bytes pdu is).1 (small_bytes (pdu_of bytes) small)

by_way : (r : Result ThreeWay TlvError) (h : HelloValue) (p : PduValue) → pdu_in (by_reading h r) ≡ Some p → hello h ≡ p
by_way (Ok way) h p e = cc
by_way (Err r) h p e = absurd cc

by_value : (o : Option (List ℕ)) (h : HelloValue) (p : PduValue) → pdu_in (by_three_way h o) ≡ Some p → hello h ≡ p
by_value None h p e = absurd cc
by_value (Some value) h p e = by_way (three_way_of value) h p e

by_read : (r : Result PduValue PduError) (p : PduValue) → pdu_in (by_pdu r) ≡ Some p → r ≡ Ok p
by_read (Err r) p e = absurd cc
by_read (Ok (hello h)) p e = ap (λ (q : PduValue). Ok q) (by_value (slice_get (values_with 240 h.tlvs) 0) h p e)
by_read (Ok (lsp l)) p e = cc
by_read (Ok (csnp c)) p e = cc
by_read (Ok (psnp s)) p e = cc

in_content : (r : Result Content FrameError) (bytes : List ℕ) (p : PduValue) → content_in bytes ≡ r → is_octets bytes ≡ true → pdu_in (by_content r) ≡ Some p → IsHeardPdu bytes p
in_content (Err r) bytes p is octets e = absurd cc
in_content (Ok (frames.Customer da sa vid isid customer)) bytes p is octets e = absurd cc
in_content (Ok (frames.Pdu pdu)) bytes p is octets e =
    let small : IsBytes pdu = pdu_octets bytes pdu is octets in
    let read_as : read pdu ≡ Ok p = by_read (read pdu) p e in
    record { pdu = pdu; is = is; octets = small; read_as = read_as; from = read_is_spelled pdu p small read_as }

in_octets : (b : Bool) (bytes : List ℕ) (p : PduValue) → is_octets bytes ≡ b → pdu_in (if b then by_content (content_in bytes) else parsing.dropped drop.Frame) ≡ Some p → IsHeardPdu bytes p
in_octets true bytes p octets e = in_content (content_in bytes) bytes p refl octets e
in_octets false bytes p octets e = absurd cc

pub heard_pdu : (bytes : List ℕ) (p : PduValue) → pdu_in (parsed bytes) ≡ Some p → IsHeardPdu bytes p
unfolding parsed
heard_pdu bytes p e = in_octets (is_octets bytes) bytes p refl e
