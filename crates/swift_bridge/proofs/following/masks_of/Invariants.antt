use Rattle.std.proofs.Common.{◌≡◌, take}
use Rattle.swift_bridge.specs.Following.{masks_of}
use Rattle.swift_bridge.proofs.following.masks_of.Given as goal

abbrev pub invariant-loop-plan : goal.invariant-loop-plan
invariant-loop-plan l = l.masks.items ≡ masks_of (take l.plan-index l.plans)
