use Rattle.std.proofs.Common.{◌≡◌, ◌<◌, [], length, get_or, sym, ap, ◌∙◌, arith}
use Rattle.ect_trees.specs.Arcs.{rows_of}
use Rattle.ect_trees.proofs.Places.{no_arc}
use Rattle.ect_trees.proofs.Grouped.{read_row, read_arc}
use Rattle.what_if.proofs.Arcs.{none_from_more, none_from_all, arc_is_from}
use Rattle.what_if.proofs.following.arc_from.Goals as goal

pub returns-then-is : goal.returns-then-is
returns-then-is c =
    let r = c.args.mesh.now in
    let k = c.loop-arc.arc-index in
    let arcs = c.deref-arc-items.result.now in
    let within : c.args.place < length r.arcs.items = omega (arith, c.requires.within, c.requires.ready.places) in
    let row : arcs ≡ get_or (rows_of r) c.args.place [] = c.deref-arc-items.ensures.value ∙ read_row r c.args.place c.index.result.now within c.index.ensures in
    arc_is_from r c.args.place k c.args.neighbour c.system_at.result (get_or arcs k no_arc) c.requires.ready (read_arc r c.args.place k arcs row c.loop-arc-test.true) c.system_at.ensures (sym c.is.ensures ∙ c.if-is.true)

pub loop-arc-preserved : goal.loop-arc-preserved
loop-arc-preserved c =
    let r = c.args.mesh.now in
    let k = c.loop-arc.arc-index in
    let arcs = c.deref-arc-items.result.now in
    let within : c.args.place < length r.arcs.items = omega (arith, c.requires.within, c.requires.ready.places) in
    let row : arcs ≡ get_or (rows_of r) c.args.place [] = c.deref-arc-items.ensures.value ∙ read_row r c.args.place c.index.result.now within c.index.ensures in
    none_from_more r c.args.place k c.args.neighbour c.system_at.result (get_or arcs k no_arc) c.loop-arc.invariant (read_arc r c.args.place k arcs row c.loop-arc-test.true) c.system_at.ensures (sym c.is.ensures ∙ c.if-is.false)

pub returns : goal.returns
returns c =
    let r = c.args.mesh.now in
    let arcs = c.deref-arc-items.result.now in
    let within : c.args.place < length r.arcs.items = omega (arith, c.requires.within, c.requires.ready.places) in
    let row : arcs ≡ get_or (rows_of r) c.args.place [] = c.deref-arc-items.ensures.value ∙ read_row r c.args.place c.index.result.now within c.index.ensures in
    none_from_all r c.args.place c.loop-arc.arc-index c.args.neighbour c.requires.ready c.loop-arc.invariant (omega (arith, c.loop-arc-test.false, ap length row))
