use Rattle.std.proofs.Common.{sym, ap, subst}
use Rattle.link_model.specs.Lane.{after_double}
use Rattle.std.specs.Prelude.{slice_get}
use Rattle.spb_network.specs.Network.{state_of}
use Rattle.network_model.specs.State.{Fits}
use Rattle.spb_world.proofs.BoxLemmas.{on_ok}
use Rattle.network_model.proofs.FitsLemmas.{Fits-with_frames}
use Rattle.spb_network.proofs.network.NetworkOf.double.Goals as goal

pub returns-clause-order : goal.returns-clause-order
returns-clause-order g c =
    on_ok c.double.result (λ e. record {
      made = c.requires.made;
      fits = subst Fits (ap (λ l. record (state_of g.B.Bridge.shown c.args.self.now) { lanes = l }) (sym e)) (Fits-with_frames (λ frames. after_double frames c.args.place (slice_get frames c.args.place)) (state_of g.B.Bridge.shown c.args.self.now) c.args.lane.link c.args.lane.dir c.requires.fits);
    }) c.double.ensures.ok
