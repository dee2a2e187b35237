use Rattle.std.proofs.Common.{ap, ◌∙◌}
use Rattle.std.specs.List.{list_any}
use Rattle.spb_types.specs.Address.{same_system}
use Rattle.ect_trees.proofs.Extended.{passes_is}
use Rattle.ect_trees.proofs.search.Label.passes.Goals as goal

pub returns : goal.returns
returns c =
    passes_is c.args.system c.args.self.now.bridges.items c.contains.result (c.contains.ensures.value ∙ ap (list_any (λ t. same_system t c.args.system)) c.deref.ensures.value)
