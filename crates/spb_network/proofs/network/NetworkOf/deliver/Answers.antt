use Rattle.std.proofs.Common.{◌≡◌, ap, sym, subst, ◌∙◌, None, slice_get}
use Rattle.link_model.specs.Lanes.{rest}
use Rattle.network_model.specs.State.{State, lane_at, Fits}
use Rattle.network_model.specs.Captured.{seen_front, seen_at}
use Rattle.network_model.specs.Events.{delivered, delivered_front}
use Rattle.spb_network.specs.Network.{state_of}
use Rattle.spb_network.specs.Watching.{noted}
use Rattle.spb_network.proofs.Keeping.{on_ok}
use Rattle.network_model.proofs.FitsLemmas.{Fits-with_frames}
use Rattle.spb_network.proofs.SendLemmas.{rest-none}
use Rattle.spb_network.proofs.network.NetworkOf.deliver.Goals as goal

pub hear_over-requires : goal.hear_over-requires
hear_over-requires g c =
    let s : State = state_of g.B.Bridge.shown c.args.self.now in
    record {
      made = c.requires.made;
      fits = subst Fits (ap (λ l. record s { lanes = l }) (sym c.pop.ensures.rest)) (Fits-with_frames rest s c.args.lane.link c.args.lane.dir c.requires.fits);
    }

pub returns-in-None-clause-state : goal.returns-in-None-clause-state
unfolding delivered
returns-in-None-clause-state g c =
    let s : State = state_of g.B.Bridge.shown c.args.self.now in
    let none : slice_get (lane_at s c.args.lane.link c.args.lane.dir) 0 ≡ None = sym c.pop.ensures.frame ∙ c.in-None.is in
    ap (λ l. record s { lanes = l }) (c.pop.ensures.rest ∙ sym (rest-none c.args.lane.dir s.lanes c.args.lane.link none)) ∙ sym (ap (delivered_front s c.args.lane.link c.args.lane.dir) none)

pub returns-in-None-clause-order : goal.returns-in-None-clause-order
returns-in-None-clause-order g c =
    let s : State = state_of g.B.Bridge.shown c.args.self.now in
    record {
      made = c.requires.made;
      fits = subst Fits (ap (λ l. record s { lanes = l }) (sym c.pop.ensures.rest)) (Fits-with_frames rest s c.args.lane.link c.args.lane.dir c.requires.fits);
    }

pub returns-in-None-clause-seen : goal.returns-in-None-clause-seen
unfolding seen_at
returns-in-None-clause-seen g c =
    let s : State = state_of g.B.Bridge.shown c.args.self.now in
    let none : slice_get (lane_at s c.args.lane.link c.args.lane.dir) 0 ≡ None = sym c.pop.ensures.frame ∙ c.in-None.is in
    ap (λ o. noted c.args.seen.now (seen_front s c.args.lane.link c.args.lane.dir o)) (sym none)

pub returns-in_ok-note-in-Some-clause-seen : goal.returns-in_ok-note-in-Some-clause-seen
unfolding seen_at
returns-in_ok-note-in-Some-clause-seen g c =
    let s : State = state_of g.B.Bridge.shown c.args.self.now in
    on_ok c.hear_over.result (c.in_ok-note-in-Some.ensures ∙ ap (λ o. noted c.args.seen.now (seen_front s c.args.lane.link c.args.lane.dir o)) (sym (sym c.pop.ensures.frame ∙ c.in-Some.is)))
