use Rattle.std.proofs.Common.{◌<◌, length, arith, ◌∙◌}
use Rattle.spb_content.proofs.Put.{graph_more, graph_past}
use Rattle.spb_content.proofs.graph.graph_among.Goals as goal
use Rattle.spb_content.proofs.graph.graph_among.Goals.{then-marks-place+in_ok-put, else-marks-place}

pub loop-place-preserved : goal.loop-place-preserved
loop-place-preserved c =
    let list = c.args.backbone.now.list.now in
    let marks = c.args.marks.now in
    let place = c.loop-place.place in
    let lt : place < length list = omega (arith, c.loop-place-test.true, c.requires.places) in
    elim c.if-marks-place.branch [
      | then-marks-place+in_ok-put w ↦ graph_more list marks place w.index-backbone-place.result c.loop-place.graph c.if-marks-place.graph _ lt c.requires.places w.if-marks-place.true (w.graph-is ∙ w.in_ok-put.ensures) c.loop-place.invariant
      | else-marks-place w ↦ rw w.graph-is (graph_past list marks place c.loop-place.graph _ lt c.requires.places w.if-marks-place.false c.loop-place.invariant)
    ]
