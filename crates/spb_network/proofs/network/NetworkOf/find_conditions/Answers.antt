use Rattle.spb_network.specs.Network.{state_of}
use Rattle.spb_network.proofs.Keeping.{conditions_found}
use Rattle.spb_network.proofs.network.NetworkOf.find_conditions.Goals as goal

pub returns : goal.returns
returns g c = conditions_found (state_of g.B.Bridge.shown c.args.self.now) _ c.are_links_up.ensures c.are_lanes_empty.ensures c.are_flags_clear.ensures
