use Rattle.std.proofs.Common.{ap, ◌∙◌}
use Rattle.spb_types.specs.Places.{changed_at}
use Rattle.spb_types.proofs.Places.{set-is, none-is, lent, lent-none}
use Rattle.link_model.specs.contracts.all_lanes.AllLanes.{the_view}
use Rattle.link_model.specs.Lanes.{no_frames}
use Rattle.link_model.proofs.all_lanes.AllLanes.flush.Goals as goal
use Rattle.link_model.proofs.all_lanes.AllLanes.flush.Goals.{in-Some, in_default}

pub returns : goal.returns
returns c =
    let all = c.self.inside.links.items in let k = c.args.link in
    let seen = ap (λ lanes. changed_at (λ _. no_frames) lanes k) c.self.view_is in
    elim c.match-get_mut.branch [
      | in-Some w ↦ ap the_view w.self-inside-is ∙ set-is (λ _. no_frames) all k w.in-Some.lanes.now _ (lent all k c.get_mut.result w.in-Some.lanes c.get_mut.ensures.item w.in-Some.is) w.flush.ensures ∙ seen
      | in_default w ↦ ap the_view w.self-inside-is ∙ none-is (λ _. no_frames) all k (lent-none all k c.get_mut.result c.get_mut.ensures.item w.in_default.is) ∙ seen
    ]
