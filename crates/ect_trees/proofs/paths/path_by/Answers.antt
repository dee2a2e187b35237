use Rattle.std.proofs.Common.{sym, ◌∙◌}
use Rattle.ect_trees.proofs.ReadBack.{read_back}
use Rattle.ect_trees.proofs.paths.path_by.Goals as goal

pub returns : goal.returns
returns c =
    let m = c.args.mesh.now in
    let step = c.in-Some-step_at.step in
    read_back m.graph c.args.source c.args.steps.now c.args.to c.in-Some.place step c.from_vec.result
    (sym c.place_of.ensures ∙ c.in-Some.is) (sym c.step_at.ensures ∙ c.in-Some-step_at.is) (c.from_vec.ensures ∙ c.in_ok-bridges.ensures)
