use Rattle.std.proofs.Common.{◌≡◌, ◌+◌, ◌<◌, None, Some, sym, subst, ◌∙◌, arith}
use Rattle.std.proofs.lemmas.List.{get_or_read}
use Rattle.std.proofs.lemmas.Bool.Decides.{nat_tests}
use Rattle.ect_trees.specs.Search.{label_at}
use Rattle.what_if.proofs.Kept.{cost_on_fits, start_within, cheaper_told, named_told}
use Rattle.what_if.proofs.checking.Claim.keeps_way.Goals as goal

pub overflow_add-cost : goal.overflow_add-cost
overflow_add-cost c = omega (arith, cost_on_fits c.args.self.now c.requires.claim c.args.arc c.args.way.now c.requires.arc c.requires.way, c.from.ensures)

pub returns-then-own-cost : goal.returns-then-own-cost
returns-then-own-cost c = λ yes.
    let s = c.args.self.now in
    let own : label_at s.ways.items c.args.arc.from ≡ Some c.in-Some.own = sym (get_or_read s.ways.items c.args.arc.from c.index.result.now (start_within s c.requires.claim c.args.arc c.requires.arc) c.index.ensures None) ∙ c.in-Some.is in
    named_told s c.requires.claim c.args.arc c.args.way.now c.in-Some.own c.requires.arc c.requires.way own (c.names_end.ensures yes)

pub returns-else-own-cost : goal.returns-else-own-cost
returns-else-own-cost c = λ yes.
    let s = c.args.self.now in
    let own : label_at s.ways.items c.args.arc.from ≡ Some c.in-Some.own = sym (get_or_read s.ways.items c.args.arc.from c.index.result.now (start_within s c.requires.claim c.args.arc c.requires.arc) c.index.ensures None) ∙ c.in-Some.is in
    let less : c.in-Some.own.cost < c.args.way.now.cost + c.from.result = grind (arith, nat_tests, yes) in
    cheaper_told s c.requires.claim c.args.arc c.args.way.now c.in-Some.own c.requires.arc c.requires.way own (subst (λ n. c.in-Some.own.cost < c.args.way.now.cost + n) c.from.ensures less)
