use Rattle.std.proofs.Common.{sym, subst}
use Rattle.bridge_api.specs.Config.{IsWhole}
use Rattle.spb_network.specs.Network.{state_of}
use Rattle.network_model.proofs.RestartConfig.{restart_whole}
use Rattle.spb_network.proofs.network.NetworkOf.restart_in.Goals as goal

pub replace_box-requires-clause-whole : goal.replace_box-requires-clause-whole
replace_box-requires-clause-whole g c =
    subst IsWhole (sym c.in_ok-config.ensures) (restart_whole (state_of g.B.Bridge.shown c.args.self.now) c.args.i c.args.bridge c.requires.sound.state c.requires.bridge)
