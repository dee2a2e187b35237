use Rattle.std.proofs.Common.{sym, ◌∙◌}
use Rattle.spb_world.specs.World.{things_of}
use Rattle.spb_world.proofs.HintLemmas.{place-holds}
use Rattle.spb_world.proofs.world.World.hinted_place.Goals as goal

pub returns-then-is : goal.returns-then-is
returns-then-is c =
    place-holds (things_of c.args.self.now.bridges) c.bridge_at-place.result c.in_ok-bridge.bridge c.args.system (rw (← c.self.view_is) c.self.invariant.0.systems) (sym c.bridge.ensures ∙ c.in_ok-bridge.was) (sym c.is.ensures ∙ c.if-is.true)
