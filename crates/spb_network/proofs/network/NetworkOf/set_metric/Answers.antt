use Rattle.std.proofs.Common.{ap, sym, subst}
use Rattle.spb_world.specs.World.{IsEnd}
use Rattle.network_model.specs.State.{State, Fits}
use Rattle.spb_network.specs.Network.{state_of}
use Rattle.spb_world.proofs.WorldLemmas.{end_on-is}
use Rattle.network_model.proofs.FitsLemmas.{Fits-with_end_metric}
use Rattle.spb_network.proofs.network.NetworkOf.set_metric.Goals as goal

pub set_end_metric-requires-clause-order : goal.set_end_metric-requires-clause-order
set_end_metric-requires-clause-order g c =
    let s : State = state_of g.B.Bridge.shown c.args.self.now in
    record {
      made = c.requires.order.made;
      fits = subst Fits (ap (λ w. record s { world = w }) (sym c.set_metric.ensures)) (Fits-with_end_metric c.args.side c.args.metric s c.args.place c.requires.order.fits);
    }

pub set_end_metric-requires-clause-end : goal.set_end_metric-requires-clause-end
set_end_metric-requires-clause-end g c = subst (IsEnd c.set_metric.new.self.bridges) (sym c.end_on.ensures) (end_on-is c.args.side c.set_metric.new.self.bridges c.in-Some.link c.in-Some.ensures.ends)

pub returns-in-None-clause-order : goal.returns-in-None-clause-order
returns-in-None-clause-order g c =
    let s : State = state_of g.B.Bridge.shown c.args.self.now in
    record {
      made = c.requires.order.made;
      fits = subst Fits (ap (λ w. record s { world = w }) (sym c.set_metric.ensures)) (Fits-with_end_metric c.args.side c.args.metric s c.args.place c.requires.order.fits);
    }
