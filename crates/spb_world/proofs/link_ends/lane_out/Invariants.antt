use Rattle.std.proofs.Common.{◌≡◌, ◌≤◌, length, drop}
use Rattle.spb_world.specs.World.{things_of}
use Rattle.spb_world.specs.Links.{lane_out_from}
use Rattle.spb_world.proofs.link_ends.lane_out.Given as goal

abbrev pub invariant-loop-place : goal.invariant-loop-place
invariant-loop-place l =
    (l.place ≤ length l.links.entries) ×
    (lane_out_from 0 (things_of l.links.entries) l.bridge l.port ≡ lane_out_from l.place (drop l.place (things_of l.links.entries)) l.bridge l.port)
