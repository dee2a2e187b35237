use Rattle.std.proofs.Common.{[], ◌++◌, sym, ap, ◌∙◌, subst}
use Rattle.std.specs.Option.{option_map_or}
use Rattle.std.specs.Prelude.{slice_get}
use Rattle.bridge_api.specs.Step as comes
use Rattle.bridge_api.specs.Shown.{views_of}
use Rattle.spb_network.specs.Network.{state_of, AreConfigured}
use Rattle.network_model.specs.State.{Fits}
use Rattle.network_model.specs.Events.{with_second}
use Rattle.spb_network.proofs.SendLemmas.{stepped-is, frames-none}
use Rattle.network_model.proofs.FitsLemmas.{Fits-ticked}
use Rattle.spb_network.proofs.network.NetworkOf.tick.Goals as goal

pub returns-clause-state : goal.returns-clause-state
returns-clause-state g c =
    let shown = g.B.Bridge.shown in
    let frames =
    c.into_vec.ensures ∙ ap (λ outbox. outbox.wire) c.in_ok-tick.ensures.sent
    ∙ ap (λ w. w ++ option_map_or (comes.sent comes.second) (slice_get (views_of shown c.args.self.now.boxes.items) c.args.i) []) c.in_ok-outbox.ensures in
    c.count_second.ensures.state ∙ ap (λ s. with_second s c.args.i) (c.in_ok-send_all.ensures.state
    ∙ stepped-is comes.second (state_of shown c.args.self.now) c.args.i _ _ c.in_ok-tick.ensures.views frames (frames-none (state_of shown c.args.self.now).views c.args.i))

pub returns-clause-order : goal.returns-clause-order
returns-clause-order g c =
    let configured = subst (λ b. AreConfigured g.B.Bridge.shown b.items) (sym c.in_ok-send_all.ensures.boxes) c.in_ok-tick.ensures.made in
    record {
      made = subst (λ b. AreConfigured g.B.Bridge.shown b.items) (sym c.count_second.ensures.boxes) configured;
      fits = subst Fits (sym (returns-clause-state g c)) (Fits-ticked (state_of g.B.Bridge.shown c.args.self.now) c.args.i c.requires.fits);
    }
