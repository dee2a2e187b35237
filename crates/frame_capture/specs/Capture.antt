-- Captures of frames: files of the classic pcap format (draft-ietf-opsawg-pcap), as they are written and as they are
-- read.
use Rattle.std.specs.Prelude.{ℕ, zero, suc, ◌+◌, ◌%◌, List, [], ◌∷◌, ◌++◌, length, take, drop, flat_map, Bool, ◌&&◌, ◌||◌, ◌==◌, nat_lt, Option, Some, None, Result, Ok, Err, if◌then◌else◌}
use Rattle.std.specs.Int.{w16, w32, to_be_bytes, from_be_bytes, from_le_bytes}
use Rattle.frame_capture.specs.declared.delivered.Delivered.{Delivered}
use Rattle.frame_capture.specs.declared.error.CaptureError.{CaptureError}
use Rattle.frame_capture.specs.declared.error.CaptureError.TheVariants as error
use Rattle.frame_capture.specs.declared.order.Order.{Order}
use Rattle.frame_capture.specs.declared.order.Order.TheVariants.{Big, Little}
use Rattle.frame_capture.specs.declared.reading.Packet.{Packet}

-- ---- what is written

-- the header (draft-ietf-opsawg-pcap, section 4): the magic number of microseconds, version 2.4, two reserved fields,
-- frames of at most 65,535 bytes, the link type of Ethernet
abbrev pub header_bytes : List ℕ
header_bytes =
    0xa1 ∷ 0xb2 ∷ 0xc3 ∷ 0xd4 ∷ 0 ∷ 2 ∷ 0 ∷ 4 ∷ 0 ∷ 0 ∷ 0 ∷ 0 ∷ 0 ∷ 0 ∷ 0 ∷ 0 ∷ 0 ∷ 0 ∷ 0xff ∷ 0xff ∷ 0 ∷ 0 ∷ 0 ∷ 1 ∷ []

-- what stands before the frame in its packet (draft-ietf-opsawg-pcap, section 5): its seconds, no microseconds, its
-- length as captured and as it was
abbrev pub packet_head : ℕ → ℕ → List ℕ
packet_head seconds len =
    to_be_bytes w32 seconds ++ (to_be_bytes w32 0 ++ (to_be_bytes w32 len ++ to_be_bytes w32 len))

abbrev pub packet_bytes : Delivered → List ℕ
packet_bytes d = packet_head d.tick (length d.frame) ++ d.frame

abbrev pub capture_bytes : List Delivered → List ℕ
capture_bytes ds = header_bytes ++ flat_map packet_bytes ds

-- ---- what is read

-- the numbers that bytes spell from a place on, in either order of bytes
abbrev pub u16_by : Order → List ℕ → ℕ → ℕ
u16_by Big bytes at = from_be_bytes w16 (take 2 (drop at bytes))
u16_by Little bytes at = from_le_bytes w16 (take 2 (drop at bytes))

abbrev pub u32_by : Order → List ℕ → ℕ → ℕ
u32_by Big bytes at = from_be_bytes w32 (take 4 (drop at bytes))
u32_by Little bytes at = from_le_bytes w32 (take 4 (drop at bytes))

-- the magic numbers of microseconds and of nanoseconds
abbrev pub is_magic : ℕ → Bool
is_magic n = (n == 0xa1b2c3d4) || (n == 0xa1b23c4d)

-- whether a file has, in this order of bytes, a magic number, version 2.4, and Ethernet in the low 16 bits of the last
-- field; the high ones tell of the frames' check sequence, and the fields between of the machine
abbrev pub is_header : Order → List ℕ → Bool
is_header o bytes = is_magic (u32_by o bytes 0)
    && ((u16_by o bytes 4 == 2) && ((u16_by o bytes 6 == 4) && (u32_by o bytes 20 % 65536 == 1)))

-- the order of bytes of a file
abbrev pub header_of : List ℕ → Result Order CaptureError
header_of bytes =
    if nat_lt (length bytes) 24 then Err error.Short
    else (if is_header Big bytes then Ok Big
    else (if is_header Little bytes then Ok Little
    else Err error.NotCapture))

-- whether bytes are fewer than the 16 before a frame, or than these and the captured bytes that they announce
abbrev pub is_cut : Order → List ℕ → Bool
is_cut o bytes = nat_lt (length bytes) 16 || nat_lt (length bytes) (16 + u32_by o bytes 8)

-- the frame of the packet that begins the bytes, with its seconds; its fraction of a second and its original length are
-- passed over
abbrev pub frame_in : Order → List ℕ → Delivered
frame_in o bytes = record { tick = u32_by o bytes 0; frame = take (u32_by o bytes 8) (drop 16 bytes) }

-- what begins the bytes behind a header, or behind a packet: nothing, or a packet, which may not be whole
abbrev pub packet_in : Order → List ℕ → Result (Option Delivered) CaptureError
packet_in o [] = Ok None
packet_in o (byte ∷ bytes) =
    if is_cut o (byte ∷ bytes) then Err error.Cut else Ok (Some (frame_in o (byte ∷ bytes)))

-- a packet that was read, without where it lies in memory
abbrev pub seen : Result (Option Packet) CaptureError → Result (Option Delivered) CaptureError
seen (Ok None) = Ok None
seen (Ok (Some p)) = Ok (Some (record { tick = p.seconds; frame = p.frame.now }))
seen (Err e) = Err e

-- ---- what is listed

-- the frames of a file's packets, in order, and why the packet behind them is refused, if there is one
pub record Listed : Type 0 where
  pub frames : List Delivered
  pub refused : Option CaptureError

abbrev pub listed_by : (Delivered → Listed) → Result (Option Delivered) CaptureError → Listed
listed_by more (Ok None) = record { frames = []; refused = None }
listed_by more (Ok (Some d)) = record (more d) { frames = d ∷ (more d).frames }
listed_by more (Err e) = record { frames = []; refused = Some e }

-- the bytes behind the packet of this frame, which begins them
abbrev pub behind : Delivered → List ℕ → List ℕ
behind d bytes = drop (16 + length d.frame) bytes

abbrev pub listed_from : ℕ → Order → List ℕ → Listed
listed_from zero o bytes = record { frames = []; refused = None }
listed_from (suc n) o bytes = listed_by (λ d. listed_from n o (behind d bytes)) (packet_in o bytes)

-- what is listed of the bytes behind a header. A packet takes 16 bytes or more, so there are no more of them than bytes
abbrev pub listed : Order → List ℕ → Listed
listed o bytes = listed_from (length bytes) o bytes
