-- What a frame that carries a customer's frame is taken for.
use Rattle.std.proofs.Common.{◌≡◌, ◌⊎◌, inl, inr, ℕ, ◌<◌, Bool, true, false, List, [], ◌∷◌, length, refl, sym, ap, ◌∙◌, Option, Some, None, Result, Ok, Err}
use Rattle.std.specs.Prelude.{if◌then◌else◌, ◌&&◌, nat_lt, slice_get}
use Rattle.std.specs.List.{AllByRecursion}
use Rattle.std.proofs.lemmas.Bool.{true≢false}
use Rattle.spb_types.specs.declared.address.Mac.{Mac}
use Rattle.spb_types.specs.declared.service.Vid.{Vid}
use Rattle.spb_types.specs.declared.service.Isid.{Isid}
use Rattle.isis_pdu.specs.declared.pdu.PduError.{PduError}
use Rattle.isis_pdu.specs.Pdu.{HelloValue, PduValue, hello, lsp, csnp, psnp}
use Rattle.isis_pdu.specs.Reading.{read}
use Rattle.spb_tlvs.specs.declared.error.TlvError.{TlvError}
use Rattle.spb_tlvs.specs.declared.three_way.ThreeWay.{ThreeWay}
use Rattle.spb_tlvs.specs.Tlv.{values_with}
use Rattle.spb_tlvs.specs.ThreeWay.{three_way_of}
use Rattle.itag_frames.specs.declared.frame.FrameError.{FrameError}
use Rattle.itag_frames.specs.declared.frame.FrameError.TheVariants as refusals
use Rattle.itag_frames.specs.Frame.{Content, control_bytes, is_to_bridges, has_pdu, is_control, pdu_of}
use Rattle.itag_frames.specs.Frame as frames
use Rattle.itag_frames.specs.Backbone.{CanBeCarried, backbone_in, backbone_bytes}
use Rattle.itag_frames.specs.Classify.{content_in}
use Rattle.itag_frames.proofs.BackboneLaws.{encapsulated_again, encapsulated_is_no_control, opened_can_be_carried}
use Rattle.spb_types.specs.declared.drop_reason.DropReason.TheVariants as drop
use Rattle.bridge_api.specs.Parsing.{Parsed, is_octets, parsed, by_content, by_pdu, by_three_way, by_reading, is_carrying}
use Rattle.bridge_api.specs.Parsing as parsing
use Rattle.bridge_api.proofs.Octets.{AreSmall, small_octets}

-- ---- a PDU carries none

way_carries_none : (h : HelloValue) (r : Result ThreeWay TlvError) → is_carrying (by_reading h r) ≡ false
way_carries_none h (Ok way) = refl
way_carries_none h (Err e) = refl

value_carries_none : (h : HelloValue) (o : Option (List ℕ)) → is_carrying (by_three_way h o) ≡ false
value_carries_none h None = refl
value_carries_none h (Some value) = way_carries_none h (three_way_of value)

pdu_carries_none : (r : Result PduValue PduError) → is_carrying (by_pdu r) ≡ false
pdu_carries_none (Err e) = refl
pdu_carries_none (Ok (hello h)) = value_carries_none h (slice_get (values_with 240 h.tlvs) 0)
pdu_carries_none (Ok (lsp l)) = refl
pdu_carries_none (Ok (csnp c)) = refl
pdu_carries_none (Ok (psnp s)) = refl

-- nor does a frame to the group address of the bridges
to_bridges_carries_none : (short has : Bool) (pdu : List ℕ) → is_carrying (by_content (if short then Err refusals.Short else (if has then Ok (frames.Pdu pdu) else Err refusals.NotBackbone))) ≡ false
to_bridges_carries_none true has pdu = refl
to_bridges_carries_none false true pdu = pdu_carries_none (read pdu)
to_bridges_carries_none false false pdu = refl

octets_carry_none : (octets : Bool) (j : Parsed) → is_carrying j ≡ false → is_carrying (if octets then j else parsing.dropped drop.Frame) ≡ false
octets_carry_none true j none = none
octets_carry_none false j none = refl

pub control_carries_none : (sa : Mac) (pdu : List ℕ) → is_carrying (parsed (control_bytes sa pdu)) ≡ false
unfolding parsed
control_carries_none sa pdu =
    let frame : List ℕ = control_bytes sa pdu in
    octets_carry_none (is_octets frame) (by_content (content_in frame)) (to_bridges_carries_none (nat_lt (length frame) 17) (has_pdu frame) (pdu_of frame))

-- ---- what is taken for a customer's frame was opened

of_content : (r : Result Content FrameError) (da sa : Mac) (vid : Vid) (isid : Isid) (f : List ℕ) → by_content r ≡ parsing.customer da sa vid isid f → r ≡ Ok (frames.Customer da sa vid isid f)
of_content (Err e) da sa vid isid f is = absurd cc
of_content (Ok (frames.Pdu pdu)) da sa vid isid f is = absurd (true≢false (sym (ap is_carrying is) ∙ pdu_carries_none (read pdu)))
of_content (Ok (frames.Customer a b c d e)) da sa vid isid f is = cc

open_at : (short bridges has : Bool) (pdu : List ℕ) (o : Result Content FrameError) (da sa : Mac) (vid : Vid) (isid : Isid) (f : List ℕ)
    → (if short then Err refusals.Short else (if bridges then (if has then Ok (frames.Pdu pdu) else Err refusals.NotBackbone) else o)) ≡ Ok (frames.Customer da sa vid isid f)
    → o ≡ Ok (frames.Customer da sa vid isid f)
open_at true bridges has pdu o da sa vid isid f is = absurd cc
open_at false true true pdu o da sa vid isid f is = absurd cc
open_at false true false pdu o da sa vid isid f is = absurd cc
open_at false false has pdu o da sa vid isid f is = is

-- a frame of octets, and what it was opened as
pub record IsOpened (bytes : List ℕ) (da sa : Mac) (vid : Vid) (isid : Isid) (f : List ℕ) : Type 0 where
  pub octets : is_octets bytes ≡ true
  pub opened : backbone_in bytes ≡ Ok (frames.Customer da sa vid isid f)

opened_at : (octets : Bool) (bytes : List ℕ) (da sa : Mac) (vid : Vid) (isid : Isid) (f : List ℕ) → is_octets bytes ≡ octets
    → (if octets then by_content (content_in bytes) else parsing.dropped drop.Frame) ≡ parsing.customer da sa vid isid f → IsOpened bytes da sa vid isid f
opened_at true bytes da sa vid isid f octets is = record {
  octets = octets;
  opened = open_at (nat_lt (length bytes) 17) (is_to_bridges bytes) (has_pdu bytes) (pdu_of bytes) (backbone_in bytes) da sa vid isid f (of_content (content_in bytes) da sa vid isid f is);
}
opened_at false bytes da sa vid isid f octets is = absurd cc

pub is_opened : (bytes : List ℕ) (da sa : Mac) (vid : Vid) (isid : Isid) (f : List ℕ) → parsed bytes ≡ parsing.customer da sa vid isid f → IsOpened bytes da sa vid isid f
unfolding parsed
is_opened bytes da sa vid isid f is = opened_at (is_octets bytes) bytes da sa vid isid f refl is

small_all : (bytes : List ℕ) → AreSmall bytes → AllByRecursion (λ b. b < 256) bytes
small_all [] small = tt
small_all (b ∷ bytes) small = (small.0, small_all bytes small.1)

-- so it can be carried
pub taken_can_be_carried : (bytes : List ℕ) (da sa : Mac) (vid : Vid) (isid : Isid) (f : List ℕ) → parsed bytes ≡ parsing.customer da sa vid isid f → CanBeCarried da sa vid isid f
taken_can_be_carried bytes da sa vid isid f is =
    let whole : IsOpened bytes da sa vid isid f = is_opened bytes da sa vid isid f is in
    opened_can_be_carried bytes da sa vid isid f (small_all bytes (small_octets bytes whole.octets)) whole.opened

-- ---- what carries a customer's frame and is no control frame is taken for that, or for nothing

take_at : (octets short bridges has : Bool) (pdu : List ℕ) (o : Result Content FrameError) (da sa : Mac) (vid : Vid) (isid : Isid) (f : List ℕ) → (bridges && has) ≡ false → o ≡ Ok (frames.Customer da sa vid isid f)
    → ((if octets then by_content (if short then Err refusals.Short else (if bridges then (if has then Ok (frames.Pdu pdu) else Err refusals.NotBackbone) else o)) else parsing.dropped drop.Frame) ≡ parsing.dropped drop.Frame)
    ⊎ ((if octets then by_content (if short then Err refusals.Short else (if bridges then (if has then Ok (frames.Pdu pdu) else Err refusals.NotBackbone) else o)) else parsing.dropped drop.Frame) ≡ parsing.customer da sa vid isid f)
take_at false short bridges has pdu o da sa vid isid f no_control is = inl refl
take_at true true bridges has pdu o da sa vid isid f no_control is = inl refl
take_at true false true true pdu o da sa vid isid f no_control is = absurd (true≢false no_control)
take_at true false true false pdu o da sa vid isid f no_control is = inl refl
take_at true false false has pdu o da sa vid isid f no_control is = inr (ap by_content is)

abbrev pub IsTaken : List ℕ → Mac → Mac → Vid → Isid → List ℕ → Type 0
IsTaken bytes da sa vid isid f = (parsed bytes ≡ parsing.dropped drop.Frame) ⊎ (parsed bytes ≡ parsing.customer da sa vid isid f)

pub is_taken : (bytes : List ℕ) (da sa : Mac) (vid : Vid) (isid : Isid) (f : List ℕ) → is_control bytes ≡ false → backbone_in bytes ≡ Ok (frames.Customer da sa vid isid f) → IsTaken bytes da sa vid isid f
unfolding parsed
is_taken bytes da sa vid isid f no_control is =
    take_at (is_octets bytes) (nat_lt (length bytes) 17) (is_to_bridges bytes) (has_pdu bytes) (pdu_of bytes) (backbone_in bytes) da sa vid isid f no_control is

pub encapsulated_is_taken : (da sa : Mac) (vid : Vid) (isid : Isid) (f : List ℕ) → CanBeCarried da sa vid isid f → IsTaken (backbone_bytes da sa vid isid f) da sa vid isid f
encapsulated_is_taken da sa vid isid f can =
    is_taken (backbone_bytes da sa vid isid f) da sa vid isid f (encapsulated_is_no_control da sa vid isid f can.to can.from) (encapsulated_again da sa vid isid f can)
