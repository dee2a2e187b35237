use Rattle.std.proofs.Common.{sym, subst}
use Rattle.bridge_api.specs.Step as comes
use Rattle.spb_network.specs.Network.{state_of}
use Rattle.network_model.specs.State.{Fits}
use Rattle.spb_world.proofs.BoxLemmas.{on_ok, both}
use Rattle.spb_network.proofs.SendLemmas.{stepped-is, frames-none}
use Rattle.network_model.proofs.FitsLemmas.{Fits-stepped, end_is_port}
use Rattle.spb_network.proofs.network.NetworkOf.set_end_metric.Goals as goal

pub set_metric-requires-clause-port : goal.set_metric-requires-clause-port
set_metric-requires-clause-port g c = end_is_port (state_of g.B.Bridge.shown c.args.self.now) c.args.end c.requires.order.fits c.requires.end

pub returns-clause-state : goal.returns-clause-state
returns-clause-state g c =
    on_ok c.set_metric.result (λ e. stepped-is (comes.metric c.args.end.port c.args.end.metric) (state_of g.B.Bridge.shown c.args.self.now) c.args.end.bridge _ _ e (frames-none (state_of g.B.Bridge.shown c.args.self.now).views c.args.end.bridge) (frames-none (state_of g.B.Bridge.shown c.args.self.now).views c.args.end.bridge)) c.set_metric.ensures.views

pub returns-clause-order : goal.returns-clause-order
returns-clause-order g c =
    both c.set_metric.result (λ made e. record {
      made = made;
      fits = subst Fits (sym e) (Fits-stepped (comes.metric c.args.end.port c.args.end.metric) (state_of g.B.Bridge.shown c.args.self.now) c.args.end.bridge c.requires.order.fits);
    }) c.set_metric.ensures.made (returns-clause-state g c)

pub set_metric-requires-clause-metric : goal.set_metric-requires-clause-metric
set_metric-requires-clause-metric g c = record { low = c.requires.end.metric_low; high = c.requires.end.metric_high }
