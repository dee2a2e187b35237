use Rattle.std.proofs.Common.{ap, not, rules, tests, ◌==◌}
use Rattle.std.proofs.lemmas.Iterator.Consumers.{YieldsList-from_rest}
use Rattle.std.proofs.lemmas.Iterator.Search.{any_from_yields_List}
use Rattle.spb_world.specs.World.{things_of}
use Rattle.spb_world.specs.Declaring.{is_new_source}
use Rattle.spb_world.proofs.check.is_new_source.Goals as goal

pub returns : goal.returns
unfolding is_new_source
returns c =
    let all = YieldsList-from_rest (things_of c.args.bridges.now.entries) c.values.ensures.rest in
    ap not (any_from_yields_List (λ b. b.bridge.source.value == c.args.source.value) _ _ c.any.result c.any.ensures.ran all (λ x b q k. search (rules, tests)))
