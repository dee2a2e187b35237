-- The frames of the backbone as bytes.
use Rattle.std.specs.Prelude.{ℕ, ◌+◌, ◌-◌, List, [], ◌∷◌, ◌++◌, length, take, drop, Bool, ◌&&◌, nat_le, Result, Ok, Err}
use Rattle.std.specs.Str.{bytes_eq}
use Rattle.std.specs.Int.{w16, to_be_bytes}
use Rattle.spb_types.specs.Bytes.{u16_at}
use Rattle.spb_types.specs.declared.address.Mac.{Mac}
use Rattle.spb_types.specs.declared.service.Vid.{Vid}
use Rattle.spb_types.specs.declared.service.Isid.{Isid}
use Rattle.itag_frames.specs.declared.frame.Frame.{Frame}
use Rattle.itag_frames.specs.declared.frame.Frame.TheVariants as frames
use Rattle.itag_frames.specs.declared.frame.FrameError.{FrameError}

-- what a frame carries, without where it lies in memory: a PDU, or the fields and the customer frame of a backbone
-- frame
pub data Content : Type 0 where
  Pdu : List ℕ → Content
  Customer : Mac → Mac → Vid → Isid → List ℕ → Content

abbrev pub content_of : Frame → Content
content_of (frames.Control pdu) = Pdu pdu.now
content_of (frames.Backbone b) = Customer b.da b.sa b.vid b.isid b.customer.now

abbrev pub contents : Result Frame FrameError → Result Content FrameError
contents (Ok f) = Ok (content_of f)
contents (Err e) = Err e

-- ---- control frames

-- the group address of the bridges, 01-80-C2-00-00-14 (ISO/IEC 10589, 8.4.8)
abbrev pub control_address : List ℕ
control_address = 0x01 ∷ 0x80 ∷ 0xc2 ∷ 0x00 ∷ 0x00 ∷ 0x14 ∷ []

-- the LLC bytes of an IS-IS PDU: DSAP and SSAP FE, and the control byte of an unnumbered information PDU
-- (ISO/IEC 10589, 8.4.8; ISO/IEC 8802-2, 3)
abbrev pub llc : List ℕ
llc = 0xfe ∷ 0xfe ∷ 0x03 ∷ []

-- the one spelling: the group address, the sender's address, the length of the LLC bytes and the PDU, the LLC bytes and
-- the PDU, without padding (IEEE 802.3, 3.1.1)
abbrev pub control_bytes : Mac → List ℕ → List ℕ
control_bytes sa pdu = control_address ++ sa.bytes ++ to_be_bytes w16 (3 + length pdu) ++ llc ++ pdu

-- the length field, which stands behind the two addresses and counts bytes after it
abbrev pub length_of : List ℕ → ℕ
length_of frame = u16_at frame 12

-- whether a frame goes to the group address of the bridges
abbrev pub is_to_bridges : List ℕ → Bool
is_to_bridges frame = bytes_eq (take 6 frame) control_address

-- whether such a frame of at least 17 bytes has a PDU: a length of the LLC bytes up to 1,500 that the frame has, and
-- the LLC bytes
abbrev pub has_pdu : List ℕ → Bool
has_pdu frame =
    (nat_le 3 (length_of frame) && nat_le (length_of frame) 1500 && nat_le (length_of frame) (length frame - 14))
    && bytes_eq (take 3 (drop 14 frame)) llc

abbrev pub is_control : List ℕ → Bool
is_control frame = is_to_bridges frame && has_pdu frame

-- its PDU; bytes after the length are ignored
abbrev pub pdu_of : List ℕ → List ℕ
pdu_of frame = take (length_of frame - 3) (drop 17 frame)
