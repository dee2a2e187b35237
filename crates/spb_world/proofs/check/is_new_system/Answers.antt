use Rattle.std.proofs.Common.{ap, not, rules, tests}
use Rattle.std.proofs.lemmas.Iterator.Consumers.{YieldsList-from_rest}
use Rattle.std.proofs.lemmas.Iterator.Search.{any_from_yields_List}
use Rattle.std.specs.Str.{bytes_eq}
use Rattle.spb_world.specs.World.{things_of}
use Rattle.spb_world.specs.Declaring.{is_new_system}
use Rattle.spb_world.proofs.check.is_new_system.Goals as goal

pub returns : goal.returns
unfolding is_new_system
returns c =
    let all = YieldsList-from_rest (things_of c.args.bridges.now.entries) c.values.ensures.rest in
    ap not (any_from_yields_List (λ b. bytes_eq b.bridge.id.system.mac.bytes c.args.system.bytes) _ _ c.any.result c.any.ensures.ran all (λ x b q k. search (rules, tests)))
