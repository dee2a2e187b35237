use Rattle.std.proofs.Common.{refl, ap, ◌∙◌}
use Rattle.spb_types.specs.declared.link.Dir.TheVariants.{Ab, Ba}
use Rattle.network_model.specs.State.{State}
use Rattle.network_model.specs.Events.{lane_served}
use Rattle.network_model.specs.Captured.{seen_lane, seen_link}
use Rattle.spb_network.specs.Network.{state_of}
use Rattle.spb_network.specs.Watching.{noted}
use Rattle.spb_world.proofs.BoxLemmas.{on_ok}
use Rattle.spb_network.proofs.SeenLemmas.{noted-on}
use Rattle.spb_network.proofs.network.NetworkOf.serve_link.Goals as goal

pub returns-clause-seen : goal.returns-clause-seen
returns-clause-seen g c =
    let s : State = state_of g.B.Bridge.shown c.args.self.now in
    let first = seen_lane s c.args.link Ab in
    let second = seen_lane (lane_served s c.args.link Ab) c.args.link Ba in
    on_ok c.serve_lane-2.result (λ e. e
    ∙ (ap (λ t. noted c.serve_lane.new.seen (seen_lane t c.args.link Ba)) c.in_ok-serve_lane.ensures.state
    ∙ noted-on c.args.seen.now c.serve_lane.new.seen first second (seen_link s c.args.link) c.in_ok-serve_lane.ensures.seen refl)) c.serve_lane-2.ensures.seen
