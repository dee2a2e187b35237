use Rattle.std.proofs.Common.{sym, subst}
use Rattle.network_model.specs.State.{State, Fits}
use Rattle.spb_network.specs.Network.{state_of}
use Rattle.network_model.proofs.FitsLemmas.{Fits-flushed}
use Rattle.spb_network.proofs.network.NetworkOf.cut.Goals as goal

pub set_carrier-requires-clause-order : goal.set_carrier-requires-clause-order
set_carrier-requires-clause-order g c =
    let s : State = state_of g.B.Bridge.shown c.args.self.now in
    record {
      made = c.requires.order.made;
      fits = subst Fits (λ i. record s { lanes = sym c.flush.ensures i }) (Fits-flushed s c.args.place c.requires.order.fits);
    }
