use Rattle.std.proofs.Common.{sym, arith}
use Rattle.spb_world.proofs.ServiceLemmas.{past_isids}
use Rattle.spb_world.proofs.world.World.vid_of_isid.Goals as goal

pub returns-then-isid-from : goal.returns-then-isid-from
returns-then-isid-from c =
    rw (← c.self.view_is) (sym (past_isids c.self.inside.vids.items c.self.inside.services.entries c.args.isid c.self.invariant.0.services (omega (arith, c.if-isid-from.true, c.from.ensures))))
