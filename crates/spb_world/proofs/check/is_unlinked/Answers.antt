use Rattle.std.proofs.Common.{ap, not, rules, tests}
use Rattle.std.proofs.lemmas.Iterator.Consumers.{YieldsList-from_rest}
use Rattle.std.proofs.lemmas.Iterator.Search.{any_from_yields_List}
use Rattle.spb_world.specs.World.{things_of, is_between}
use Rattle.spb_world.specs.Declaring.{is_unlinked}
use Rattle.spb_world.proofs.check.is_unlinked.Goals as goal

pub returns : goal.returns
unfolding is_unlinked
returns c =
    let all = YieldsList-from_rest (things_of c.args.links.now.entries) c.values.ensures.rest in
    ap not (any_from_yields_List (λ l. is_between l c.args.i c.args.j) _ _ c.any.result c.any.ensures.ran all (λ x b q k. search (rules, tests)))
