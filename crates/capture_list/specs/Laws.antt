-- A capture is listed as its frames.
use Rattle.std.specs.Prelude.{◌≡◌, ℕ, ◌≤◌, List, length, flat_map}
use Rattle.frame_capture.specs.Grammar.{IsCaptureOf}
use Rattle.frame_capture.specs.declared.delivered.Delivered.{Delivered}
use Rattle.frame_capture.specs.declared.order.Order.{Order}
use Rattle.script_run.specs.declared.status.Status.TheVariants.{Done}
use Rattle.capture_list.specs.Listing.{most_listed, frame_line, listing}

abbrev pub FramesAreListed : Type 0
FramesAreListed = (o : Order) (ds : List Delivered) (bytes : List ℕ) → IsCaptureOf o ds bytes
    → length bytes ≤ most_listed → listing bytes ≡ record { text = flat_map frame_line ds; status = Done }
