use Rattle.std.proofs.Common.{◌≡◌, ◌<◌, [], length, get_or, sym, ap, subst, ◌∙◌, arith}
use Rattle.ect_trees.specs.Arcs.{CanGo, rows_of}
use Rattle.ect_trees.specs.Search.{graph_of, IsRelaxed}
use Rattle.ect_trees.proofs.Places.{no_arc}
use Rattle.ect_trees.proofs.Grouped.{read_row, read_arc}
use Rattle.ect_trees.proofs.Repairing.{turned_goes, into_none, into_more, into_all}
use Rattle.ect_trees.proofs.search.Search.relax_into.Goals as goal

pub loop-arc-init : goal.loop-arc-init
loop-arc-init c = into_none c.args.self.now c.args.place c.args.labels.now.items c.args.front.now c.requires.ready c.requires.state

pub relax-requires-clause-arc : goal.relax-requires-clause-arc
relax-requires-clause-arc c =
    let r = c.args.self.now.mesh.now in
    let k = c.loop-arc.arc-index in
    let arcs = c.deref-arc-items.result.now in
    let within : c.args.place < length r.arcs.items = omega (arith, c.requires.within, c.requires.state.labels.places, c.requires.ready.places) in
    let row : arcs ≡ get_or (rows_of r) c.args.place [] = c.deref-arc-items.ensures.value ∙ read_row r c.args.place c.index.result.now within c.index.ensures in
    subst (CanGo (graph_of c.args.self.now)) (sym c.turned.ensures)
    (turned_goes (graph_of c.args.self.now) (get_or arcs k no_arc) (c.requires.ready.lead c.args.place k (get_or arcs k no_arc) (read_arc r c.args.place k arcs row c.loop-arc-test.true)).1)

pub relax-requires-clause-state : goal.relax-requires-clause-state
relax-requires-clause-state c = c.loop-arc.invariant.state

pub loop-arc-preserved : goal.loop-arc-preserved
loop-arc-preserved c =
    let s = c.args.self.now in
    let r = s.mesh.now in
    let k = c.loop-arc.arc-index in
    let arcs = c.deref-arc-items.result.now in
    let within : c.args.place < length r.arcs.items = omega (arith, c.requires.within, c.requires.state.labels.places, c.requires.ready.places) in
    let row : arcs ≡ get_or (rows_of r) c.args.place [] = c.deref-arc-items.ensures.value ∙ read_row r c.args.place c.index.result.now within c.index.ensures in
    into_more s c.args.place k (get_or arcs k no_arc) c.args.labels.now.items c.loop-arc.labels.items c.relax.new.labels.items c.args.front.now c.loop-arc.front c.relax.new.front c.requires.ready
    (read_arc r c.args.place k arcs row c.loop-arc-test.true) c.loop-arc.invariant
    (subst (λ t. IsRelaxed s t c.loop-arc.labels.items c.relax.new.labels.items c.loop-arc.front c.relax.new.front) c.turned.ensures c.in_ok-relax.ensures)

pub returns-clause-state : goal.returns-clause-state
returns-clause-state c = c.loop-arc.invariant.state

pub returns-clause-reached : goal.returns-clause-reached
returns-clause-reached c =
    let s = c.args.self.now in
    let r = s.mesh.now in
    let arcs = c.deref-arc-items.result.now in
    let within : c.args.place < length r.arcs.items = omega (arith, c.requires.within, c.requires.state.labels.places, c.requires.ready.places) in
    let row : arcs ≡ get_or (rows_of r) c.args.place [] = c.deref-arc-items.ensures.value ∙ read_row r c.args.place c.index.result.now within c.index.ensures in
    into_all s c.args.place c.loop-arc.arc-index c.args.labels.now.items c.loop-arc.labels.items c.args.front.now c.loop-arc.front (omega (arith, c.loop-arc-test.false, ap length row)) c.loop-arc.invariant
