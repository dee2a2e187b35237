use Rattle.std.proofs.Common.{ap, sym, subst, true, IfSome}
use Rattle.spb_world.specs.World.{IsLink}
use Rattle.spb_world.specs.Declaring.{with_live}
use Rattle.spb_network.specs.Network.{state_of}
use Rattle.network_model.specs.State.{Fits}
use Rattle.network_model.proofs.FitsLemmas.{Fits-with_live}
use Rattle.spb_network.proofs.network.NetworkOf.switch_on.Goals as goal

pub set_carriers-requires-clause-order : goal.set_carriers-requires-clause-order
set_carriers-requires-clause-order g c = record {
  made = c.requires.made;
  fits = subst Fits (ap (λ w. record (state_of g.B.Bridge.shown c.args.self.now) { world = w }) (sym c.set_live.ensures)) (Fits-with_live true (state_of g.B.Bridge.shown c.args.self.now) c.args.place c.requires.fits);
}

pub set_carriers-requires-clause-ends : goal.set_carriers-requires-clause-ends
unfolding with_live
set_carriers-requires-clause-ends g c = subst (λ w. IfSome c.link-link.result (IsLink w.bridges)) (sym c.set_live.ensures) c.link-link.ensures.ends
