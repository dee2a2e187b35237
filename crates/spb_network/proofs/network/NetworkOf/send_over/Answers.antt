use Rattle.std.proofs.Common.{sym, ap, ◌∙◌}
use Rattle.network_model.specs.State.{State, links_of}
use Rattle.spb_world.specs.Links.{lane_out}
use Rattle.spb_network.specs.Network.{state_of}
use Rattle.spb_world.proofs.BoxLemmas.{on_ok}
use Rattle.spb_network.proofs.SendLemmas.{sent-live}
use Rattle.spb_network.proofs.network.NetworkOf.send_over.Goals as goal

pub returns-in-Some-clause-state : goal.returns-in-Some-clause-state
returns-in-Some-clause-state g c =
    let s : State = state_of g.B.Bridge.shown c.args.self.now in
    on_ok c.push.result (λ e. ap (λ l. record s { lanes = l }) e ∙ sym (sent-live s (lane_out (links_of s) c.args.i c.args.port) c.in-Some.lane c.args.frame (sym c.live_lane.ensures ∙ c.in-Some.is))) c.push.ensures.ok
