use Rattle.std.proofs.Common.{◌∙◌}
use Rattle.network_model.specs.Quiet.{holds_q2}
use Rattle.spb_network.proofs.QuietWalks.{none_full}
use Rattle.spb_network.proofs.network.NetworkOf.are_lanes_empty.Goals as goal

pub returns : goal.returns
unfolding holds_q2
returns g c = c.are_empty.ensures ∙ none_full 0 c.args.self.now.lanes
