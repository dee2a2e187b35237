use Rattle.spb_network.specs.Network.{state_of}
use Rattle.network_model.proofs.StateRefusals.{declared_refusal_none}
use Rattle.spb_network.proofs.network.NetworkOf.play_bridge.Goals as goal

pub take_box-requires-clause-accepted : goal.take_box-requires-clause-accepted
take_box-requires-clause-accepted g c =
    declared_refusal_none (state_of g.B.Bridge.shown c.args.self.now) c.args.name c.args.priority c.args.system c.args.source c.args.ports c.requires.accepted
