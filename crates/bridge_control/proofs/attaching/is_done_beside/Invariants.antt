use Rattle.std.proofs.Common.{◌≡◌, ◌&&◌, ◌||◌, drop}
use Rattle.bridge_control.specs.Attaching.{sends_beside, receives_beside, is_done_beside}
use Rattle.bridge_control.proofs.attaching.is_done_beside.Given as goal

-- all is done where what is left to be done is done from here on
abbrev pub invariant-loop-b : goal.invariant-loop-b
invariant-loop-b l =
    is_done_beside l.attached l.a ≡ ((l.sends || sends_beside (drop l.b-index l.attached) l.a) && (l.receives || receives_beside (drop l.b-index l.attached) l.a))
