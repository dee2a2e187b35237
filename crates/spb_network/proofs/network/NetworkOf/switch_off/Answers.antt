use Rattle.std.proofs.Common.{sym, subst, false, IfSome}
use Rattle.spb_world.specs.World.{IsLink}
use Rattle.spb_world.specs.Declaring.{with_live}
use Rattle.network_model.specs.State.{State, Fits}
use Rattle.network_model.specs.Events.{flushed}
use Rattle.spb_network.specs.Network.{state_of}
use Rattle.network_model.proofs.FitsLemmas.{Fits-with_live, Fits-flushed}
use Rattle.spb_network.proofs.network.NetworkOf.switch_off.Goals as goal

pub set_carriers-requires-clause-order : goal.set_carriers-requires-clause-order
set_carriers-requires-clause-order g c =
    let s : State = state_of g.B.Bridge.shown c.args.self.now in
    record {
      made = c.requires.made;
      fits = subst Fits (λ i. record s { world = sym c.set_live.ensures i; lanes = sym c.flush.ensures i }) (Fits-with_live false (flushed s c.args.place) c.args.place (Fits-flushed s c.args.place c.requires.fits));
    }

pub set_carriers-requires-clause-ends : goal.set_carriers-requires-clause-ends
unfolding with_live
set_carriers-requires-clause-ends g c = subst (λ w. IfSome c.link-link.result (IsLink w.bridges)) (sym c.set_live.ensures) c.link-link.ensures.ends
