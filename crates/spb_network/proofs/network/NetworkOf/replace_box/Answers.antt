use Rattle.std.proofs.Common.{map, slice_set, subst, sym, ap, ◌∙◌}
use Rattle.network_model.specs.State.{State, Fits}
use Rattle.spb_network.specs.Network.{state_of, spare}
use Rattle.spb_network.proofs.CommandFits.{map-remove}
use Rattle.network_model.proofs.RestartSound.{Fits-replaced}
use Rattle.spb_network.proofs.network.NetworkOf.replace_box.Goals as goal

pub returns-clause-state : goal.returns-clause-state
returns-clause-state g c =
    let s : State = state_of g.B.Bridge.shown c.args.self.now in
    λ k. record s {
      rack = (ap (map (spare g.B.Bridge.shown)) c.remove-fresh.ensures.items ∙ map-remove (spare g.B.Bridge.shown) c.args.self.now.rack.items c.args.place) k;
      views = (c.replace.ensures.views ∙ ap (λ v. slice_set s.views c.args.i v) c.in_ok-configure.ensures.view) k;
    }

pub returns-clause-order : goal.returns-clause-order
returns-clause-order g c =
    let s : State = state_of g.B.Bridge.shown c.args.self.now in
    record {
      made = c.replace.ensures.made;
      fits = subst Fits (sym (returns-clause-state g c)) (Fits-replaced s c.args.i c.args.bridge c.args.config.now c.args.place c.requires.order.fits c.requires.bridge c.requires.whole c.requires.ports);
    }
