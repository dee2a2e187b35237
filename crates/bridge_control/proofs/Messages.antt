-- What the code takes a frame for: a slice of bytes is a list of octets.
use Rattle.std.proofs.Common.{◌≡◌, Bool, true, false, List, refl, sym, ap, ◌∙◌, Result, Ok, Err, Option, Some, None, ℕ}
use Rattle.std.specs.Prelude.{if◌then◌else◌}
use Rattle.isis_pdu.specs.Grammar.{IsBytes}
use Rattle.itag_frames.specs.declared.frame.FrameError.{FrameError}
use Rattle.itag_frames.specs.Frame.{Content}
use Rattle.itag_frames.specs.Frame as frames
use Rattle.itag_frames.specs.Classify.{content_in}
use Rattle.isis_pdu.specs.declared.pdu.PduError.{PduError}
use Rattle.isis_pdu.specs.Pdu.{HelloValue, PduValue}
use Rattle.isis_pdu.specs.Pdu as pdus
use Rattle.isis_pdu.specs.Reading.{read}
use Rattle.spb_tlvs.specs.declared.error.TlvError.{TlvError}
use Rattle.spb_tlvs.specs.declared.three_way.ThreeWay.{ThreeWay}
use Rattle.spb_tlvs.specs.ThreeWay.{three_way_of}
use Rattle.spb_tlvs.specs.Tlv.{values_with}
use Rattle.spb_tlvs.specs.declared.codes.TheConstants.{THREE_WAY_ADJACENCY}
use Rattle.std.specs.Prelude.{slice_get}
use Rattle.bridge_control.specs.Carrying.{is_customer, carries_customer}
use Rattle.bridge_api.specs.Parsing.{by_content, by_pdu, by_three_way, by_reading, parsed}
use Rattle.bridge_api.specs.Parsing as parsing
use Rattle.spb_types.specs.declared.drop_reason.DropReason.TheVariants as drop
use Rattle.bridge_api.proofs.Octets.{bytes_small, octets_small}

pub parsed_as : (frame : List ℕ) (content : Result Content FrameError) → IsBytes frame → content ≡ content_in frame → by_content content ≡ parsed frame
unfolding parsed
parsed_as frame content bytes is =
    ap by_content is ∙ sym (ap (λ (all : Bool). if all then by_content (content_in frame) else parsing.dropped drop.Frame) (octets_small frame (bytes_small frame bytes)))

-- ---- a customer's frame

hello_reads : (h : HelloValue) (r : Result ThreeWay TlvError) → is_customer (by_reading h r) ≡ false
hello_reads h (Ok way) = refl
hello_reads h (Err e) = refl

hello_says : (h : HelloValue) (o : Option (List ℕ)) → is_customer (by_three_way h o) ≡ false
hello_says h None = refl
hello_says h (Some value) = hello_reads h (three_way_of value)

pdu_says : (r : Result PduValue PduError) → is_customer (by_pdu r) ≡ false
pdu_says (Err e) = refl
pdu_says (Ok (pdus.hello h)) = hello_says h (slice_get (values_with THREE_WAY_ADJACENCY h.tlvs) 0)
pdu_says (Ok (pdus.lsp l)) = refl
pdu_says (Ok (pdus.csnp c)) = refl
pdu_says (Ok (pdus.psnp p)) = refl

abbrev pub is_backbone : Result Content FrameError → Bool
is_backbone (Err e) = false
is_backbone (Ok (frames.Pdu pdu)) = false
is_backbone (Ok (frames.Customer da sa vid isid payload)) = true

backbone_says : (c : Result Content FrameError) → is_customer (by_content c) ≡ is_backbone c
backbone_says (Err e) = refl
backbone_says (Ok (frames.Pdu pdu)) = pdu_says (read pdu)
backbone_says (Ok (frames.Customer da sa vid isid payload)) = refl

pub customer_is : (frame : List ℕ) (content : Result Content FrameError) → IsBytes frame → content ≡ content_in frame → is_backbone content ≡ carries_customer frame
customer_is frame content bytes is = sym (backbone_says content) ∙ ap is_customer (parsed_as frame content bytes is)
