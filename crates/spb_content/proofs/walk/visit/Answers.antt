use Rattle.std.proofs.Common.{List, get_or, sym, ◌∙◌, subst}
use Rattle.std.proofs.lemmas.List.{take_more, take_all}
use Rattle.spb_types.specs.declared.address.SystemId.{SystemId}
use Rattle.spb_tlvs.specs.declared.neighbours.Neighbour.{Neighbour}
use Rattle.spb_content.specs.declared.content.Content.{Content}
use Rattle.spb_content.proofs.Walked.{Visiting, visiting_past, visiting_mark, visits, queued}
use Rattle.spb_content.proofs.walk.visit.Goals as goal
use Rattle.spb_content.proofs.walk.visit.Goals.{in-Some+in_ok-mark, in_default}

pub loop-neighbour-preserved : goal.loop-neighbour-preserved
loop-neighbour-preserved c =
    let q = queued c.args.backbone.now.list.now c.args.walk.now c.args.place c.index-backbone-place.result c.requires.walk c.requires.queued in
    let more = take_more c.as_slice-neighbour-items.result.now c.loop-neighbour.neighbour-index _ c.loop-neighbour-test.true in
    elim c.match-place_beyond.branch [
      | in-Some+in_ok-mark w ↦ rw w.walk-is (visiting_mark _ _ c.args.walk.now c.loop-neighbour.walk _ _ _ _ _ more c.loop-neighbour.invariant q.reached (sym w.in-Some.ensures.place) w.in_ok-mark.ensures)
      | in_default w ↦ rw w.walk-is (visiting_past _ _ c.args.walk.now c.loop-neighbour.walk _ _ _ more c.loop-neighbour.invariant (sym w.in_default.ensures.place))
    ]

pub returns : goal.returns
returns c =
    let list = c.args.backbone.now.list.now in
    let q = queued list c.args.walk.now c.args.place c.index-backbone-place.result c.requires.walk c.requires.queued in
    let e : SystemId × Content = get_or list c.args.place c.index-backbone-place.result in
    let items : List Neighbour = c.as_slice-neighbour-items.result.now in
    let all = take_all c.loop-neighbour.neighbour-index items c.loop-neighbour-test.false in
    visits list c.args.place e.0 e.1 c.args.walk.now c.loop-neighbour.walk q.said q.here
    (subst (λ ns. Visiting list e.0 c.args.walk.now c.loop-neighbour.walk ns) (all ∙ c.as_slice-neighbour-items.ensures) c.loop-neighbour.invariant)
