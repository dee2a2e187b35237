use Rattle.std.proofs.Common.{◌≡◌, ◌++◌, length, sym, ap, ◌∙◌, arith}
use Rattle.std.proofs.lemmas.Bool.Decides.{nat_tests}
use Rattle.settle_laws.proofs.Watching.{watched_items, none_there}
use Rattle.settle_laws.proofs.watch.Watch.move_behind.Goals as goal

pub returns-then-is_empty-clause-ok : goal.returns-then-is_empty-clause-ok
returns-then-is_empty-clause-ok c =
    let none : length c.args.list.now.items ≡ 0 = grind (arith, nat_tests, c.is_empty.ensures, c.if-is_empty.true) in
    λ ds is.
    watched_items c.self.inside.watched c.self.inside.items.items ds (c.self.view_is ∙ is) ∙ ap (λ l. l ++ ds) (sym (none_there c.args.list.now.items none))

pub returns-clause-ok : goal.returns-clause-ok
returns-clause-ok c =
    λ ds is.
    c.in_ok-append.ensures.items ∙ ap (λ l. c.args.list.now.items ++ l) (watched_items c.self.inside.watched c.self.inside.items.items ds (c.self.view_is ∙ is))
