use Rattle.std.proofs.Common.{ap, not, rules, tests}
use Rattle.std.proofs.lemmas.Iterator.Consumers.{YieldsList-from_rest}
use Rattle.std.proofs.lemmas.Iterator.Search.{any_from_yields_List}
use Rattle.spb_world.specs.World.{things_of, is_at_port}
use Rattle.spb_world.specs.Declaring.{is_free_port}
use Rattle.spb_world.proofs.check.is_free_port.Goals as goal

pub returns : goal.returns
unfolding is_free_port
returns c =
    let all = YieldsList-from_rest (things_of c.args.links.now.entries) c.values.ensures.rest in
    ap not (any_from_yields_List (λ l. is_at_port l c.args.place c.args.port) _ _ c.any.result c.any.ensures.ran all (λ x b q k. search (rules, tests)))
