use Rattle.std.proofs.Common.{◌≡◌, true, false, is_gt, ◌∙◌}
use Rattle.ect_trees.specs.Key.{id_cmp}
use Rattle.ect_trees.proofs.Lesser.{first_stays, first_comes, only_comes}
use Rattle.ect_trees.proofs.ways.lesser.Goals as goal

pub returns-in-Some : goal.returns-in-Some
returns-in-Some c =
    let order = c.compare_masked.ensures in
    let gt = c.is_gt.ensures in
    let test = c.if-is_gt.true in
    let above : is_gt (id_cmp c.args.id c.in-Some.other) ≡ true = cc in
    λ ids e. first_stays c.args.id c.in-Some.other above ids (e ∙ c.in-Some.is)

pub returns-in_default : goal.returns-in_default
returns-in_default c =
    let order = c.compare_masked.ensures in
    let gt = c.is_gt.ensures in
    let test = c.if-is_gt.false in
    let below : is_gt (id_cmp c.args.id c.in-Some.other) ≡ false = cc in
    λ ids e. first_comes c.args.id c.in-Some.other below ids (e ∙ c.in-Some.is)

pub returns-in_default-2 : goal.returns-in_default-2
returns-in_default-2 c = λ ids e. only_comes c.args.id ids (e ∙ c.in_default.is)
