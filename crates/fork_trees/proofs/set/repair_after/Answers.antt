use Rattle.std.proofs.Common.{sym, subst}
use Rattle.spb_types.specs.declared.graph.Graph.{Graph}
use Rattle.fork_trees.specs.Set.{AreRows, WereRows}
use Rattle.fork_trees.proofs.Kept.{rows_kept, were_rows}
use Rattle.fork_trees.proofs.set.repair_after.Goals as goal

pub returns-then-keeps_cost-clause-trees : goal.returns-then-keeps_cost-clause-trees
returns-then-keeps_cost-clause-trees c =
    subst (λ (g : Graph). AreRows g c.args.rows.now.items) (sym c.requires.roads) (rows_kept c.args.before.now c.args.edge.now c.args.present c.args.rows.now.items c.requires.valid c.requires.edge (c.keeps_cost.ensures.0 c.if-keeps_cost.true) c.requires.rows)

pub repair_rows-requires : goal.repair_rows-requires
repair_rows-requires c =
    subst (λ (g : Graph). WereRows g c.args.edge.now c.args.rows.now.items) (sym c.requires.roads) (were_rows c.args.before.now c.args.edge.now c.args.present c.args.rows.now.items c.requires.valid c.requires.rows)
