use Rattle.std.proofs.Common.{◌≡◌, ◌<◌, [], length, get_or, subst, ap, ◌∙◌, arith}
use Rattle.ect_trees.specs.Arcs.{rows_of}
use Rattle.ect_trees.proofs.Places.{no_arc}
use Rattle.ect_trees.proofs.Grouped.{read_row, read_arc}
use Rattle.what_if.specs.Claim.{TellsBetter}
use Rattle.what_if.proofs.Told.{none_yet, none_more, none_left, one_is}
use Rattle.what_if.proofs.checking.Claim.has_better.Goals as goal

pub loop-arc-init : goal.loop-arc-init
loop-arc-init c = none_yet c.args.self.now c.requires.claim c.args.place

pub gives_better-requires-clause-arc : goal.gives_better-requires-clause-arc
gives_better-requires-clause-arc c =
    let r = c.args.self.now.mesh.now in
    let k = c.loop-arc.arc-index in
    let arcs = c.deref-arc-items.result.now in
    let within : c.args.place < length r.arcs.items = omega (arith, c.requires.within, c.requires.claim.ready.places) in
    let row : arcs ≡ get_or (rows_of r) c.args.place [] = c.deref-arc-items.ensures.value ∙ read_row r c.args.place c.index.result.now within c.index.ensures in
    (c.requires.claim.ready.lead c.args.place k (get_or arcs k no_arc) (read_arc r c.args.place k arcs row c.loop-arc-test.true)).1

pub returns-then-branch : goal.returns-then-branch
returns-then-branch c =
    let r = c.args.self.now.mesh.now in
    let k = c.loop-arc.arc-index in
    let arcs = c.deref-arc-items.result.now in
    let within : c.args.place < length r.arcs.items = omega (arith, c.requires.within, c.requires.claim.ready.places) in
    let row : arcs ≡ get_or (rows_of r) c.args.place [] = c.deref-arc-items.ensures.value ∙ read_row r c.args.place c.index.result.now within c.index.ensures in
    one_is c.args.self.now c.requires.claim c.args.place k (get_or arcs k no_arc) (read_arc r c.args.place k arcs row c.loop-arc-test.true) (subst (TellsBetter c.args.self.now (get_or arcs k no_arc)) c.if-branch.true c.in_ok-gives_better.ensures)

pub loop-arc-preserved : goal.loop-arc-preserved
loop-arc-preserved c =
    let r = c.args.self.now.mesh.now in
    let k = c.loop-arc.arc-index in
    let arcs = c.deref-arc-items.result.now in
    let within : c.args.place < length r.arcs.items = omega (arith, c.requires.within, c.requires.claim.ready.places) in
    let row : arcs ≡ get_or (rows_of r) c.args.place [] = c.deref-arc-items.ensures.value ∙ read_row r c.args.place c.index.result.now within c.index.ensures in
    none_more c.args.self.now c.requires.claim c.args.place k (get_or arcs k no_arc) c.loop-arc.invariant (read_arc r c.args.place k arcs row c.loop-arc-test.true) (subst (TellsBetter c.args.self.now (get_or arcs k no_arc)) c.if-branch.false c.in_ok-gives_better.ensures)

pub returns : goal.returns
returns c =
    let r = c.args.self.now.mesh.now in
    let arcs = c.deref-arc-items.result.now in
    let within : c.args.place < length r.arcs.items = omega (arith, c.requires.within, c.requires.claim.ready.places) in
    let row : arcs ≡ get_or (rows_of r) c.args.place [] = c.deref-arc-items.ensures.value ∙ read_row r c.args.place c.index.result.now within c.index.ensures in
    none_left c.args.self.now c.requires.claim c.args.place c.loop-arc.arc-index c.loop-arc.invariant (omega (arith, c.loop-arc-test.false, ap length row))
