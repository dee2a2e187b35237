-- What is written of a file: a line for each packet that is read, and one that tells which isn't.
use Rattle.std.specs.Prelude.{ℕ, ◌+◌, List, [], ◌∷◌, ◌++◌, length, drop, flat_map, nat_lt, Option, Some, None, Result, Ok, Err, codes, decimal, if◌then◌else◌}
use Rattle.hex.specs.Hex.{encode_lower}
use Rattle.report.specs.Lines.{error_text}
use Rattle.report.specs.Words.{spaced, line}
use Rattle.frame_capture.specs.Capture.{header_of, Listed, listed}
use Rattle.frame_capture.specs.declared.delivered.Delivered.{Delivered}
use Rattle.frame_capture.specs.declared.error.CaptureError.{CaptureError}
use Rattle.frame_capture.specs.declared.order.Order.{Order}
use Rattle.script_run.specs.declared.refusal.Refusal.TheVariants.{Capture}
use Rattle.script_run.specs.declared.status.Status.{Status}
use Rattle.script_run.specs.declared.status.Status.TheVariants.{Done, Refused, TooLong}

-- how many bytes a file may have
abbrev pub most_listed : ℕ
most_listed = 67108864

-- two hexadecimal digits for each byte of a frame, and `-` for a frame without bytes
abbrev pub hex_or_dash : List ℕ → List ℕ
hex_or_dash [] = codes "-"
hex_or_dash (byte ∷ bytes) = encode_lower (byte ∷ bytes)

-- the line of a packet: `f SECONDS LENGTH HEX`, with the length of the frame as captured
unfoldable pub frame_line : Delivered → List ℕ
frame_line d = line (codes "f") (decimal d.tick ∷ decimal (length d.frame) ∷ hex_or_dash d.frame ∷ [])

-- what stands before the frame in that line
abbrev pub line_head : ℕ → ℕ → List ℕ
line_head seconds len = codes "f" ++ spaced (decimal seconds) ++ spaced (decimal len) ++ codes " "

-- the line of a packet that isn't read, by its number from 1, or of a header that isn't, by 0
abbrev pub refused_line : ℕ → List ℕ
refused_line number = error_text number 15 (codes "Capture") None

-- what is written, and the status, faults and running out of memory aside
pub record Listing : Type 0 where
  pub text : List ℕ
  pub status : Status

abbrev pub refused_at : ℕ → Listing
refused_at number = record { text = refused_line number; status = Refused number Capture }

-- what stands behind so many packets that are read
abbrev pub ending : ℕ → Option CaptureError → Listing
ending count None = record { text = []; status = Done }
ending count (Some why) = refused_at (count + 1)

-- packets behind so many others, in order
abbrev pub told : ℕ → Listed → Listing
told count l = record {
  text = flat_map frame_line l.frames ++ (ending (count + length l.frames) l.refused).text;
  status = (ending (count + length l.frames) l.refused).status;
}

abbrev pub listing_by : Result Order CaptureError → List ℕ → Listing
listing_by (Err why) bytes = refused_at 0
listing_by (Ok o) bytes = told 0 (listed o (drop 24 bytes))

-- a file
unfoldable pub listing : List ℕ → Listing
listing bytes =
    if nat_lt most_listed (length bytes) then record { text = []; status = TooLong }
    else listing_by (header_of bytes) bytes
