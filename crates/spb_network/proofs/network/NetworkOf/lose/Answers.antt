use Rattle.std.proofs.Common.{sym, ap, subst}
use Rattle.link_model.specs.Lane.{after_lose}
use Rattle.spb_network.specs.Network.{state_of}
use Rattle.network_model.specs.State.{Fits}
use Rattle.network_model.proofs.FitsLemmas.{Fits-with_frames}
use Rattle.spb_network.proofs.network.NetworkOf.lose.Goals as goal

pub returns-clause-order : goal.returns-clause-order
returns-clause-order g c = record {
  made = c.requires.made;
  fits = subst Fits (ap (λ l. record (state_of g.B.Bridge.shown c.args.self.now) { lanes = l }) (sym c.lose.ensures)) (Fits-with_frames (λ frames. after_lose frames c.args.place) (state_of g.B.Bridge.shown c.args.self.now) c.args.lane.link c.args.lane.dir c.requires.fits);
}
