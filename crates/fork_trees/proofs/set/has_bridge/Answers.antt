use Rattle.std.proofs.Common.{◌↔◌, Bool, is_some, IsTrue, sym, ap, subst, ◌∙◌}
use Rattle.spb_types.specs.Graph.{IsBridge}
use Rattle.fork_trees.proofs.Found.{place_tells}
use Rattle.fork_trees.proofs.set.has_bridge.Goals as goal

pub returns : goal.returns
returns c =
    subst (λ (b : Bool). IsTrue b ↔ IsBridge c.args.roads.now c.args.system) (sym (c.is_some.ensures ∙ ap is_some c.place_of.ensures))
    (place_tells c.args.roads.now c.args.system)
