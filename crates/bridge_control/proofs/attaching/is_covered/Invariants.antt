use Rattle.std.proofs.Common.{◌≡◌, true, drop}
use Rattle.std.specs.Option.{option_map_or}
use Rattle.forwarding.specs.Ports.{attachment_of}
use Rattle.bridge_control.specs.Attaching.{is_done_beside, is_covered}
use Rattle.bridge_control.proofs.attaching.is_covered.Given as goal

-- the port is not before this
abbrev pub invariant-loop-a : goal.invariant-loop-a
invariant-loop-a l =
    is_covered l.port l.attached ≡ option_map_or (is_done_beside l.attached) (attachment_of l.port (drop l.a-index l.attached)) true
