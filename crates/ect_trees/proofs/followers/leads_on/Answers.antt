use Rattle.std.proofs.Common.{◌≡◌, ◌<◌, ◌≤◌, [], length, get_or, ap, ◌∙◌, arith}
use Rattle.std.proofs.lemmas.Option.{slice_get_within}
use Rattle.ect_trees.specs.Arcs.{rows_of}
use Rattle.ect_trees.proofs.Followed.{none_follows}
use Rattle.ect_trees.proofs.Grouped.{read_row}
use Rattle.ect_trees.proofs.followers.leads_on.Goals as goal

pub returns : goal.returns
returns c =
    let r = c.args.mesh.now in
    let k = c.loop-arc.arc-index in
    let within : c.args.me < length r.arcs.items = omega (arith, c.requires.me, c.requires.ready.places) in
    let row : c.deref-arc-items.result.now ≡ get_or (rows_of r) c.args.me [] = c.deref-arc-items.ensures.value ∙ read_row r c.args.me c.index.result.now within c.index.ensures in
    let all : length (get_or (rows_of r) c.args.me []) ≤ k = omega (arith, c.loop-arc-test.false, ap length row) in
    λ no. none_follows r c.args.steps.now c.args.me c.requires.ready
    (λ number arc listed. c.loop-arc.invariant number arc (omega (arith, slice_get_within (get_or (rows_of r) c.args.me []) number arc listed, all)) listed)
