-- What a capture is, and that what is listed of a file is what the file is of.
use Rattle.std.specs.Prelude.{◌≡◌, ℕ, ◌+◌, ◌<◌, ◌^◌, ◌⊎◌, List, [], ◌++◌, ◌∷◌, length, drop, Option, Some, None, Ok}
use Rattle.std.specs.List.{AllByRecursion}
use Rattle.frame_capture.specs.declared.delivered.Delivered.{Delivered}
use Rattle.frame_capture.specs.declared.error.CaptureError.{CaptureError}
use Rattle.frame_capture.specs.declared.error.CaptureError.TheVariants.{Short, NotCapture, Cut}
use Rattle.frame_capture.specs.declared.order.Order.{Order}
use Rattle.frame_capture.specs.declared.order.Order.TheVariants.{Big}
use Rattle.frame_capture.specs.Capture.{header_of, capture_bytes, u32_by, packet_in, Listed, listed_by, behind, listed}

-- the bytes of the packet of a frame: its seconds, the length of the frame, and the frame; they may have any fraction
-- of a second, and any original length
pub record IsPacketOf (o : Order) (d : Delivered) (bytes : List ℕ) : Type 0 where
  pub long : length bytes ≡ 16 + length d.frame
  pub seconds : u32_by o bytes 0 ≡ d.tick
  pub captured : u32_by o bytes 8 ≡ length d.frame
  pub frame : drop 16 bytes ≡ d.frame

-- the packets of these frames, one behind another
abbrev pub ArePacketsOf : Order → List Delivered → List ℕ → Type 0
ArePacketsOf o [] bytes = bytes ≡ []
ArePacketsOf o (d ∷ ds) bytes =
    (packet : List ℕ) × (more : List ℕ) × (bytes ≡ packet ++ more) × IsPacketOf o d packet × ArePacketsOf o ds more

-- the beginning of a packet that isn't whole: fewer bytes than the 16 before its frame, or than these and the frame
pub record IsCut (o : Order) (bytes : List ℕ) : Type 0 where
  pub some : 0 < length bytes
  pub short : (length bytes < 16) ⊎ (length bytes < 16 + u32_by o bytes 8)

-- what stands behind all packets that are whole
abbrev pub IsEnd : Order → Option CaptureError → List ℕ → Type 0
IsEnd o None bytes = bytes ≡ []
IsEnd o (Some Cut) bytes = IsCut o bytes
IsEnd o (Some Short) bytes = ⊥
IsEnd o (Some NotCapture) bytes = ⊥

-- a file, with numbers of this order: a header that is read, the packets of these frames, and nothing else but the
-- beginning of a packet, where one is refused
pub record IsFileOf (o : Order) (l : Listed) (bytes : List ℕ) : Type 0 where
  pub header : List ℕ
  pub packets : List ℕ
  pub rest : List ℕ
  pub whole : bytes ≡ header ++ (packets ++ rest)
  pub long : length header ≡ 24
  pub read : header_of bytes ≡ Ok o
  pub each : ArePacketsOf o l.frames packets
  pub end : IsEnd o l.refused rest

-- a capture of these frames
abbrev pub IsCaptureOf : Order → List Delivered → List ℕ → Type 0
IsCaptureOf o ds bytes = IsFileOf o (record { frames = ds; refused = None }) bytes

-- a frame that can be written: its length, and its seconds, have 32 bits
pub record CanBeWritten (d : Delivered) : Type 0 where
  pub tick : d.tick < 2 ^ 32
  pub length : length d.frame < 2 ^ 32

-- ---- the laws

abbrev pub WrittenIsCapture : Type 0
WrittenIsCapture = (ds : List Delivered) → AllByRecursion CanBeWritten ds → IsCaptureOf Big ds (capture_bytes ds)

abbrev pub WrittenIsListed : Type 0
WrittenIsListed = (ds : List Delivered) → AllByRecursion CanBeWritten ds
    → (header_of (capture_bytes ds) ≡ Ok Big)
    × (listed Big (drop 24 (capture_bytes ds)) ≡ record { frames = ds; refused = None })

abbrev pub CapturesAreListed : Type 0
CapturesAreListed = (o : Order) (l : Listed) (bytes : List ℕ) → IsFileOf o l bytes
    → (header_of bytes ≡ Ok o) × (listed o (drop 24 bytes) ≡ l)

abbrev pub ListingsAreCaptures : Type 0
ListingsAreCaptures = (o : Order) (bytes : List ℕ) → header_of bytes ≡ Ok o
    → IsFileOf o (listed o (drop 24 bytes)) bytes

abbrev pub ListingGoesOn : Type 0
ListingGoesOn = (o : Order) (bytes : List ℕ)
    → listed o bytes ≡ listed_by (λ d. listed o (behind d bytes)) (packet_in o bytes)
