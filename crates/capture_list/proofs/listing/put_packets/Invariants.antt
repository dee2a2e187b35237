use Rattle.std.proofs.Common.{◌≡◌, ◌≤◌, ◌-◌, length, drop}
use Rattle.frame_capture.specs.Capture.{listed}
use Rattle.capture_list.specs.Listing.{told}
use Rattle.script_run.proofs.Putting.{Putting}
use Rattle.capture_list.proofs.listing.put_packets.Given as goal

abbrev pub invariant-loop-packet : goal.invariant-loop-packet
invariant-loop-packet g l =
    Putting g.K.Sink.holds g.K.Sink.faults g.K.Sink.is_reliable l.fn.sink l.sink l.fn.held.items l.held.items
    (told 0 (listed l.order (drop 24 l.bytes))).text (told l.number (listed l.order (drop l.at l.bytes))).text
    × ((told 0 (listed l.order (drop 24 l.bytes))).status ≡ (told l.number (listed l.order (drop l.at l.bytes))).status)
    × (l.number ≤ l.at)

abbrev pub decreases-loop-packet : goal.decreases-loop-packet
decreases-loop-packet g l = length l.bytes - l.at
