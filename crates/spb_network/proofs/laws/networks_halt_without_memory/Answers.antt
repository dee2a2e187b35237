use Rattle.spb_network.proofs.Halts.{halts_without_memory}
use Rattle.spb_network.proofs.laws.networks_halt_without_memory.Goals as goal

pub returns : goal.returns
returns g c = halts_without_memory g.B.Bridge.shown
