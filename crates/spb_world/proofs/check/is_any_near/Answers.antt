use Rattle.std.proofs.Common.{◌||◌, rules, tests}
use Rattle.std.proofs.lemmas.Iterator.Consumers.{YieldsList-from_rest}
use Rattle.std.proofs.lemmas.Iterator.Search.{any_from_yields_List}
use Rattle.spb_world.specs.World.{things_of, is_at_port, is_between}
use Rattle.spb_world.proofs.check.is_any_near.Goals as goal

pub returns : goal.returns
returns c =
    let all = YieldsList-from_rest (things_of c.args.links.now.entries) c.values.ensures.rest in
    any_from_yields_List (λ l. is_at_port l c.args.i c.args.port_a || (is_at_port l c.args.j c.args.port_b || is_between l c.args.i c.args.j)) _ _ c.any.result c.any.ensures.ran all (λ x b q k. search (rules, tests))
