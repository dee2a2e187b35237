use Rattle.std.proofs.Common.{◌≡◌, ◌<◌, [], length, get_or, ap, ◌∙◌, arith}
use Rattle.ect_trees.specs.Arcs.{rows_of}
use Rattle.ect_trees.proofs.Places.{no_arc}
use Rattle.ect_trees.proofs.Grouped.{read_row, read_arc}
use Rattle.ect_trees.proofs.Repairing.{none_more, no_arc_between}
use Rattle.ect_trees.proofs.repair.arc_between.Goals as goal

pub loop-arc-init : goal.loop-arc-init
loop-arc-init c = λ number arc below at to. absurd (omega (arith, below))

pub returns-then-arc-to-clause-some : goal.returns-then-arc-to-clause-some
returns-then-arc-to-clause-some c =
    let r = c.args.mesh.now in
    let k = c.loop-arc.arc-index in
    let arcs = c.deref-arc-items.result.now in
    let within : c.args.from < length r.arcs.items = omega (arith, c.requires.within, c.requires.ready.places) in
    let row : arcs ≡ get_or (rows_of r) c.args.from [] = c.deref-arc-items.ensures.value ∙ read_row r c.args.from c.index.result.now within c.index.ensures in
    let lead = c.requires.ready.lead c.args.from k (get_or arcs k no_arc) (read_arc r c.args.from k arcs row c.loop-arc-test.true) in
    record { from_is = lead.0; to_is = c.if-arc-to.true; leads = lead.1 }

pub loop-arc-preserved : goal.loop-arc-preserved
loop-arc-preserved c =
    let r = c.args.mesh.now in
    let k = c.loop-arc.arc-index in
    let arcs = c.deref-arc-items.result.now in
    let within : c.args.from < length r.arcs.items = omega (arith, c.requires.within, c.requires.ready.places) in
    let row : arcs ≡ get_or (rows_of r) c.args.from [] = c.deref-arc-items.ensures.value ∙ read_row r c.args.from c.index.result.now within c.index.ensures in
    none_more r c.args.from c.args.to k (get_or arcs k no_arc) (read_arc r c.args.from k arcs row c.loop-arc-test.true) c.if-arc-to.false c.loop-arc.invariant

pub returns-clause-none : goal.returns-clause-none
returns-clause-none c =
    let r = c.args.mesh.now in
    let arcs = c.deref-arc-items.result.now in
    let within : c.args.from < length r.arcs.items = omega (arith, c.requires.within, c.requires.ready.places) in
    let row : arcs ≡ get_or (rows_of r) c.args.from [] = c.deref-arc-items.ensures.value ∙ read_row r c.args.from c.index.result.now within c.index.ensures in
    no_arc_between r c.args.from c.args.to c.loop-arc.arc-index c.requires.ready (omega (arith, c.loop-arc-test.false, ap length row)) c.loop-arc.invariant
