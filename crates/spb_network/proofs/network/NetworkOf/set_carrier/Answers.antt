use Rattle.std.proofs.Common.{sym, subst}
use Rattle.bridge_api.specs.Step as comes
use Rattle.spb_network.specs.Network.{state_of}
use Rattle.network_model.specs.State.{Fits}
use Rattle.spb_world.proofs.BoxLemmas.{on_ok, both}
use Rattle.spb_network.proofs.SendLemmas.{stepped-is, frames-none}
use Rattle.network_model.proofs.FitsLemmas.{Fits-stepped, end_is_port}
use Rattle.spb_network.proofs.network.NetworkOf.set_carrier.Goals as goal

pub set_carrier-requires-clause-port : goal.set_carrier-requires-clause-port
set_carrier-requires-clause-port g c = end_is_port (state_of g.B.Bridge.shown c.args.self.now) c.args.end c.requires.order.fits c.requires.end

pub returns-clause-state : goal.returns-clause-state
returns-clause-state g c =
    on_ok c.set_carrier.result (λ e. stepped-is (comes.carrier c.args.end.port c.args.on) (state_of g.B.Bridge.shown c.args.self.now) c.args.end.bridge _ _ e (frames-none (state_of g.B.Bridge.shown c.args.self.now).views c.args.end.bridge) (frames-none (state_of g.B.Bridge.shown c.args.self.now).views c.args.end.bridge)) c.set_carrier.ensures.views

pub returns-clause-order : goal.returns-clause-order
returns-clause-order g c =
    both c.set_carrier.result (λ made e. record {
      made = made;
      fits = subst Fits (sym e) (Fits-stepped (comes.carrier c.args.end.port c.args.on) (state_of g.B.Bridge.shown c.args.self.now) c.args.end.bridge c.requires.order.fits);
    }) c.set_carrier.ensures.made (returns-clause-state g c)
