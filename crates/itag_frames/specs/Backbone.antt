-- Frames with a B-TAG and an I-TAG, which carry a customer's frame over the backbone (IEEE 802.1ah, 9.7).
use Rattle.std.specs.Prelude.{◌≡◌, ℕ, ◌%◌, ◌≤◌, ◌<◌, List, ◌∷◌, ◌++◌, length, drop, Bool, false, not, ◌&&◌, ◌==◌, nat_le, nat_lt, Result, Ok, Err, if◌then◌else◌}
use Rattle.std.specs.List.{AllByRecursion}
use Rattle.std.specs.Int.{w16, w32, to_be_bytes}
use Rattle.spb_types.specs.Bytes.{u16_at, u24_at, mac_at}
use Rattle.spb_types.specs.declared.address.Mac.{Mac}
use Rattle.spb_types.specs.declared.service.Vid.{Vid}
use Rattle.spb_types.specs.declared.service.Isid.{Isid}
use Rattle.spb_types.specs.declared.limits.TheConstants.{GREATEST_VID, GREATEST_ISID}
use Rattle.itag_frames.specs.declared.frame.Backbone.{Backbone}
use Rattle.itag_frames.specs.declared.frame.FrameError.{FrameError}
use Rattle.itag_frames.specs.declared.frame.FrameError.TheVariants.{Short, NotBackbone, NoItag}
use Rattle.itag_frames.specs.Frame.{Content, Customer, is_control}

abbrev pub carried : Backbone → Content
carried b = Customer b.da b.sa b.vid b.isid b.customer.now

abbrev pub opened : Result Backbone FrameError → Result Content FrameError
opened (Ok b) = Ok (carried b)
opened (Err e) = Err e

-- ---- how it is written

-- the B-TAG: its type 88-A8, and in two octets a priority and a DEI of 0 and the 12 bits of the VID (IEEE 802.1Q, 9.6)
abbrev pub b_tag : Vid → List ℕ
b_tag vid = 0x88 ∷ 0xa8 ∷ to_be_bytes w16 (vid.value % 4096)

-- the I-TAG: its type 88-E7, and in four octets one of flags of 0 and the 24 bits of the I-SID (IEEE 802.1ah, 9.7)
abbrev pub i_tag : Isid → List ℕ
i_tag isid = 0x88 ∷ 0xe7 ∷ to_be_bytes w32 (isid.value % 16777216)

-- the one spelling: the two backbone addresses, the tags, and the whole customer frame
abbrev pub backbone_bytes : Mac → Mac → Vid → Isid → List ℕ → List ℕ
backbone_bytes da sa vid isid customer = da.bytes ++ sa.bytes ++ b_tag vid ++ i_tag isid ++ customer

-- ---- how it is read; priorities, the DEI bits, the UCA bit and what is reserved are ignored

-- a VID that a frame can have: 0 and 4095 are reserved (IEEE 802.1Q, 9.6)
abbrev pub is_vid : ℕ → Bool
is_vid vid = nat_le 1 vid && nat_le vid GREATEST_VID

abbrev pub vid_at : List ℕ → ℕ
vid_at frame = u16_at frame 14 % 4096

abbrev pub isid_at : List ℕ → ℕ
isid_at frame = u24_at frame 19

-- a frame of at least 36 bytes has a B-TAG behind the two addresses, and an I-TAG behind that
abbrev pub has_b_tag : List ℕ → Bool
has_b_tag frame = (u16_at frame 12 == 0x88a8) && is_vid (vid_at frame)

abbrev pub has_i_tag : List ℕ → Bool
has_i_tag frame = (u16_at frame 16 == 0x88e7) && nat_le 1 (isid_at frame)

-- the five parts of the frame
abbrev pub parts_of : List ℕ → Content
parts_of frame =
    Customer (mac_at frame 0) (mac_at frame 6) (record { value = vid_at frame }) (record { value = isid_at frame })
    (drop 22 frame)

-- the customer's frame, which has both of its addresses and a type, and what carries it; or the first refusal
abbrev pub backbone_in : List ℕ → Result Content FrameError
backbone_in frame =
    if nat_lt (length frame) 36 then Err Short
    else (if not (has_b_tag frame) then Err NotBackbone
    else (if not (has_i_tag frame) then Err NoItag
    else Ok (parts_of frame)))

-- ---- what is written is read again

-- what a frame of the backbone can carry: two addresses, a VID of 1 to 4094, an I-SID of 1 to 16,777,215, and a frame
-- with two addresses and a type of its own
pub record CanBeCarried (da sa : Mac) (vid : Vid) (isid : Isid) (customer : List ℕ) : Type 0 where
  pub to : length da.bytes ≡ 6
  pub from : length sa.bytes ≡ 6
  pub vid_low : 1 ≤ vid.value
  pub vid_high : vid.value ≤ GREATEST_VID
  pub isid_low : 1 ≤ isid.value
  pub isid_high : isid.value ≤ GREATEST_ISID
  pub whole : 14 ≤ length customer

abbrev pub EncapsulatedAgain : Type 0
EncapsulatedAgain = (da sa : Mac) (vid : Vid) (isid : Isid) (customer : List ℕ) → CanBeCarried da sa vid isid customer
    → backbone_in (backbone_bytes da sa vid isid customer) ≡ Ok (Customer da sa vid isid customer)

-- and it is no control frame, whatever its destination: 88-A8 is no length
abbrev pub EncapsulatedIsNoControl : Type 0
EncapsulatedIsNoControl = (da sa : Mac) (vid : Vid) (isid : Isid) (customer : List ℕ)
    → length da.bytes ≡ 6 → length sa.bytes ≡ 6 → is_control (backbone_bytes da sa vid isid customer) ≡ false

-- what is opened from a frame of bytes can be carried; whatever it is opened from, it has two addresses and a type
abbrev pub OpenedCanBeCarried : Type 0
OpenedCanBeCarried = (frame : List ℕ) (da sa : Mac) (vid : Vid) (isid : Isid) (customer : List ℕ)
    → AllByRecursion (λ b. b < 256) frame → backbone_in frame ≡ Ok (Customer da sa vid isid customer)
    → CanBeCarried da sa vid isid customer

abbrev pub OpenedIsWhole : Type 0
OpenedIsWhole = (frame : List ℕ) (da sa : Mac) (vid : Vid) (isid : Isid) (customer : List ℕ)
    → backbone_in frame ≡ Ok (Customer da sa vid isid customer) → 14 ≤ length customer
