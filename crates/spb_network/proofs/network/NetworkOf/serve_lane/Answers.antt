use Rattle.std.proofs.Common.{◌+◌, ◌-◌, sym, ap, ◌∙◌, arith}
use Rattle.network_model.specs.Captured.{seen_at, seen_times}
use Rattle.network_model.specs.Events.{delivered_times}
use Rattle.spb_network.specs.Network.{state_of}
use Rattle.spb_network.specs.Watching.{noted}
use Rattle.spb_network.proofs.SeenLemmas.{noted-on, seen_times-step}
use Rattle.spb_network.proofs.RoundLemmas.{delivered-step}
use Rattle.spb_network.proofs.network.NetworkOf.serve_lane.Goals as goal

pub loop-preserved : goal.loop-preserved
loop-preserved g c = (
  c.in_ok-deliver.ensures.order,
  omega (arith, c.loop-test.true),
  ap (delivered_times (_ - (c.loop.counter + 1)) c.args.lane.link c.args.lane.dir) c.in_ok-deliver.ensures.state ∙ sym (delivered-step (state_of g.B.Bridge.shown c.loop.self) c.args.lane.link c.args.lane.dir _ c.loop.counter (omega (arith, c.loop-test.true))) ∙ c.loop.invariant.2,
  ap (λ t. noted c.deliver.new.seen (seen_times (c.frames-end.result - (c.loop.counter + 1)) c.args.lane.link c.args.lane.dir t)) c.in_ok-deliver.ensures.state ∙ noted-on c.loop.seen c.deliver.new.seen (seen_at (state_of g.B.Bridge.shown c.loop.self) c.args.lane.link c.args.lane.dir) _ _ c.in_ok-deliver.ensures.seen (seen_times-step (state_of g.B.Bridge.shown c.loop.self) c.args.lane.link c.args.lane.dir c.frames-end.result c.loop.counter (omega (arith, c.loop-test.true))) ∙ c.loop.invariant.3,
)
