-- What a frame of the backbone is.
use Rattle.std.specs.Prelude.{◌≡◌, ◌≢◌, ℕ, ◌≤◌, List, ◌++◌, length, nat_lt, Result, Ok, Err, if◌then◌else◌}
use Rattle.spb_types.specs.declared.address.Mac.{Mac}
use Rattle.spb_types.specs.declared.service.Vid.{Vid}
use Rattle.spb_types.specs.declared.service.Isid.{Isid}
use Rattle.itag_frames.specs.declared.frame.FrameError.{FrameError}
use Rattle.itag_frames.specs.declared.frame.FrameError.TheVariants.{Short, NotBackbone}
use Rattle.itag_frames.specs.Frame.{Content, Pdu, Customer, control_address, control_bytes, is_to_bridges, has_pdu, pdu_of}
use Rattle.itag_frames.specs.Backbone.{CanBeCarried, backbone_bytes, backbone_in}

-- a frame to the group address of the bridges carries a PDU, or nothing
abbrev pub control_in : List ℕ → Result Content FrameError
control_in frame = if has_pdu frame then Ok (Pdu (pdu_of frame)) else Err NotBackbone

-- every other frame is one that carries a customer's frame, or none
abbrev pub content_in : List ℕ → Result Content FrameError
content_in frame =
    if nat_lt (length frame) 17 then Err Short
    else (if is_to_bridges frame then control_in frame
    else backbone_in frame)

-- ---- what is written is read again

-- a control frame, whatever follows it
abbrev pub ControlAgain : Type 0
ControlAgain = (sa : Mac) (pdu more : List ℕ) → length sa.bytes ≡ 6 → length pdu ≤ 1497
    → content_in (control_bytes sa pdu ++ more) ≡ Ok (Pdu pdu)

-- a frame that carries a customer's frame to another address than that of the bridges
abbrev pub CarriedAgain : Type 0
CarriedAgain = (da sa : Mac) (vid : Vid) (isid : Isid) (customer : List ℕ) → CanBeCarried da sa vid isid customer
    → da.bytes ≢ control_address
    → content_in (backbone_bytes da sa vid isid customer) ≡ Ok (Customer da sa vid isid customer)
