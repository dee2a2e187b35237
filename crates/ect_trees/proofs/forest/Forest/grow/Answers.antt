use Rattle.std.proofs.Common.{◌≡◌, true, arith, Some, slice_get, sym, subst}
use Rattle.std.proofs.lemmas.Option.{slice_get_read}
use Rattle.ect_trees.specs.Forest.{ForestView, keeps}
use Rattle.ect_trees.proofs.Keeping.{keeps_new, keeps_old}
use Rattle.ect_trees.proofs.forest.Forest.grow.Goals as goal

pub returns-clause-kept : goal.returns-clause-kept
returns-clause-kept c = λ within.
    let at : slice_get c.self.inside.rows.items c.args.from ≡ Some c.index_mut.result.now = slice_get_read c.self.inside.rows.items c.len.result c.args.from c.index_mut.result.now (search (arith)) (omega (arith, c.if-from-len.false)) c.index_mut.ensures.value in
    keeps_new c.self.inside.rows.items c.args.from c.index_mut.result.now c.push.new.self c.in_ok-routes.routes at c.in_ok-push.ensures.items c.args.mask c.in_ok-routes.ensures.serve

pub returns-clause-still : goal.returns-clause-still
returns-clause-still c = λ f m was.
    let at : slice_get c.self.inside.rows.items c.args.from ≡ Some c.index_mut.result.now = slice_get_read c.self.inside.rows.items c.len.result c.args.from c.index_mut.result.now (search (arith)) (omega (arith, c.if-from-len.false)) c.index_mut.ensures.value in
    keeps_old c.self.inside.rows.items c.args.from c.index_mut.result.now c.push.new.self c.in_ok-routes.routes at c.in_ok-push.ensures.items f m (subst (λ (v : ForestView). keeps v f m ≡ true) (sym c.self.view_is) was)
