use Rattle.std.proofs.Common.{◌≡◌, ◌<◌, [], length, get_or, ap, ◌∙◌, arith}
use Rattle.ect_trees.specs.Arcs.{rows_of}
use Rattle.ect_trees.proofs.Places.{no_arc}
use Rattle.ect_trees.proofs.Grouped.{read_row, read_arc}
use Rattle.ect_trees.proofs.Relaxed.{relaxing_none, relaxing_more, relaxed_all}
use Rattle.ect_trees.proofs.search.Search.relax_all.Goals as goal

pub loop-arc-init : goal.loop-arc-init
loop-arc-init c = relaxing_none c.args.self.now c.args.place c.args.labels.now.items c.args.front.now c.requires.state

pub relax-requires-clause-arc : goal.relax-requires-clause-arc
relax-requires-clause-arc c =
    let r = c.args.self.now.mesh.now in
    let k = c.loop-arc.arc-index in
    let arcs = c.deref-arc-items.result.now in
    let within : c.args.place < length r.arcs.items = omega (arith, c.requires.within, c.requires.state.labels.places, c.requires.ready.places) in
    let row : arcs ≡ get_or (rows_of r) c.args.place [] = c.deref-arc-items.ensures.value ∙ read_row r c.args.place c.index.result.now within c.index.ensures in
    (c.requires.ready.lead c.args.place k (get_or arcs k no_arc) (read_arc r c.args.place k arcs row c.loop-arc-test.true)).1

pub relax-requires-clause-state : goal.relax-requires-clause-state
relax-requires-clause-state c = c.loop-arc.invariant.state

pub loop-arc-preserved : goal.loop-arc-preserved
loop-arc-preserved c =
    let s = c.args.self.now in
    let r = s.mesh.now in
    let k = c.loop-arc.arc-index in
    let arcs = c.deref-arc-items.result.now in
    let within : c.args.place < length r.arcs.items = omega (arith, c.requires.within, c.requires.state.labels.places, c.requires.ready.places) in
    let row : arcs ≡ get_or (rows_of r) c.args.place [] = c.deref-arc-items.ensures.value ∙ read_row r c.args.place c.index.result.now within c.index.ensures in
    relaxing_more s c.args.place k (get_or arcs k no_arc) c.args.labels.now.items c.loop-arc.labels.items c.relax.new.labels.items c.args.front.now c.loop-arc.front c.relax.new.front c.requires.ready
    (read_arc r c.args.place k arcs row c.loop-arc-test.true) c.loop-arc.invariant c.in_ok-relax.ensures

pub returns-clause-state : goal.returns-clause-state
returns-clause-state c = c.loop-arc.invariant.state

pub returns-clause-done : goal.returns-clause-done
returns-clause-done c =
    let s = c.args.self.now in
    let r = s.mesh.now in
    let arcs = c.deref-arc-items.result.now in
    let within : c.args.place < length r.arcs.items = omega (arith, c.requires.within, c.requires.state.labels.places, c.requires.ready.places) in
    let row : arcs ≡ get_or (rows_of r) c.args.place [] = c.deref-arc-items.ensures.value ∙ read_row r c.args.place c.index.result.now within c.index.ensures in
    relaxed_all s c.args.place c.loop-arc.arc-index c.args.labels.now.items c.loop-arc.labels.items c.args.front.now c.loop-arc.front (omega (arith, c.loop-arc-test.false, ap length row)) c.loop-arc.invariant
