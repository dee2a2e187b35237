use Rattle.std.proofs.Common.{arith}
use Rattle.spb_world.proofs.WorldLemmas.{ports_at-le}
use Rattle.spb_world.proofs.world.World.ports.Goals as goal

pub returns-clause-few : goal.returns-clause-few
returns-clause-few c = omega (arith, c.ports_at.ensures, ports_at-le c.self.inside.bridges.entries c.args.place c.self.invariant.0.ports)
