-- What the code takes a frame for: a slice of bytes is a list of octets.
use Rattle.std.proofs.Common.{◌≡◌, ℕ, List, Bool, true, false, not, refl, sym, ap, ◌∙◌, Option, Some, None, Result, Ok, Err}
use Rattle.std.specs.Prelude.{if◌then◌else◌, slice_get}
use Rattle.isis_pdu.specs.Grammar.{IsBytes}
use Rattle.isis_pdu.specs.declared.pdu.PduError.{PduError}
use Rattle.isis_pdu.specs.Pdu.{HelloValue, PduValue}
use Rattle.isis_pdu.specs.Pdu as pdus
use Rattle.isis_pdu.specs.Reading.{read}
use Rattle.itag_frames.specs.declared.frame.FrameError.{FrameError}
use Rattle.itag_frames.specs.Frame.{Content}
use Rattle.itag_frames.specs.Frame as frames
use Rattle.itag_frames.specs.Classify.{content_in}
use Rattle.spb_types.specs.declared.drop_reason.DropReason.TheVariants as drop
use Rattle.spb_tlvs.specs.declared.codes.TheConstants.{THREE_WAY_ADJACENCY}
use Rattle.spb_tlvs.specs.declared.error.TlvError.{TlvError}
use Rattle.spb_tlvs.specs.declared.three_way.ThreeWay.{ThreeWay}
use Rattle.spb_tlvs.specs.ThreeWay.{three_way_of}
use Rattle.spb_tlvs.specs.Tlv.{values_with}
use Rattle.bridge_api.specs.Parsing.{by_content, by_pdu, by_three_way, by_reading, parsed, is_carrying}
use Rattle.bridge_api.specs.Parsing as parsing
use Rattle.bridge_api.proofs.Octets.{bytes_small, octets_small}
use Rattle.network_rounds.specs.Premises.{is_plain}

pub parsed_as : (frame : List ℕ) (content : Result Content FrameError) → IsBytes frame → content ≡ content_in frame → by_content content ≡ parsed frame
unfolding parsed
parsed_as frame content bytes is =
    ap by_content is ∙ sym (ap (λ (all : Bool). if all then by_content (content_in frame) else parsing.dropped drop.Frame) (octets_small frame (bytes_small frame bytes)))

-- ---- a customer's frame

hello_reads : (h : HelloValue) (r : Result ThreeWay TlvError) → is_carrying (by_reading h r) ≡ false
hello_reads h (Ok way) = refl
hello_reads h (Err e) = refl

hello_says : (h : HelloValue) (o : Option (List ℕ)) → is_carrying (by_three_way h o) ≡ false
hello_says h None = refl
hello_says h (Some value) = hello_reads h (three_way_of value)

pdu_says : (r : Result PduValue PduError) → is_carrying (by_pdu r) ≡ false
pdu_says (Err e) = refl
pdu_says (Ok (pdus.hello h)) = hello_says h (slice_get (values_with THREE_WAY_ADJACENCY h.tlvs) 0)
pdu_says (Ok (pdus.lsp l)) = refl
pdu_says (Ok (pdus.csnp c)) = refl
pdu_says (Ok (pdus.psnp p)) = refl

abbrev pub is_control : Result Content FrameError → Bool
is_control (Err e) = true
is_control (Ok (frames.Pdu pdu)) = true
is_control (Ok (frames.Customer da sa vid isid payload)) = false

control_says : (c : Result Content FrameError) → is_control c ≡ not (is_carrying (by_content c))
control_says (Err e) = refl
control_says (Ok (frames.Pdu pdu)) = ap not (sym (pdu_says (read pdu)))
control_says (Ok (frames.Customer da sa vid isid payload)) = refl

pub plain_as : (frame : List ℕ) (content : Result Content FrameError) → IsBytes frame → content ≡ content_in frame → is_control content ≡ is_plain frame
plain_as frame content bytes is = control_says content ∙ ap (λ p. not (is_carrying p)) (parsed_as frame content bytes is)
