use Rattle.std.proofs.Common.{ap, ◌∙◌}
use Rattle.spb_network.specs.Network.{state_of}
use Rattle.network_model.specs.Quieting.{numbers_of}
use Rattle.network_model.specs.State.{State}
use Rattle.spb_network.proofs.Keeping.{failing_is, if_ok}
use Rattle.spb_network.proofs.network.NetworkOf.failing.Goals as goal

pub returns : goal.returns
returns g c =
    let s : State = state_of g.B.Bridge.shown c.args.self.now in
    if_ok c.numbers_of.result (λ numbers e. e ∙ (ap numbers_of c.conditions.ensures ∙ failing_is s)) c.numbers_of.ensures
