use Rattle.std.proofs.Common.{◌≡◌, ◌≤◌, ◌*◌, ◌-◌, ◌^◌, length, false, ap, sym, subst, ◌∙◌, arith}
use Rattle.spb_types.specs.Graph.{IsValid, IsEdgeOf}
use Rattle.spb_types.specs.declared.graph.Graph.{Graph}
use Rattle.fork_trees.specs.Edges.{with_edge, KeepsCost}
use Rattle.fork_trees.specs.Set.{Kept, IsCounted}
use Rattle.fork_trees.proofs.WithEdge.{stays_valid}
use Rattle.fork_trees.proofs.Kept.{counted}
use Rattle.fork_trees.proofs.set.TreeSet.change_edge.Goals as goal

pub over-requires : goal.over-requires
over-requires c =
    let same : c.in_ok-changed.changed ≡ with_edge c.self.inside.roads c.args.edge.now c.args.present = c.in_ok-changed.ensures ∙ ap (λ (g : Graph). with_edge g c.args.edge.now c.args.present) c.graph.ensures in
    let edge : IsEdgeOf c.self.inside.roads c.args.edge.now = subst (λ (s : Kept). IsEdgeOf s.graph c.args.edge.now) (sym c.self.view_is) c.requires in
    subst IsValid (sym same) (stays_valid c.self.inside.roads c.args.edge.now c.args.present c.self.invariant.valid edge)

pub returns-clause-counted : goal.returns-clause-counted
returns-clause-counted c =
    let low : c.self.inside.relabelled ≤ 2 ^ 64 - 1 = omega arith in
    let few = subst (λ (g : Graph). c.in_ok-anew.anew ≤ length c.self.inside.rows.items * (length g.bridges * length g.bridges)) c.graph-before.ensures c.in_ok-anew.ensures.few in
    let none = subst (λ (g : Graph). KeepsCost g c.args.edge.now c.args.present → c.in_ok-anew.anew ≡ 0) c.graph-before.ensures c.in_ok-anew.ensures.none in
    let old : Kept = record { graph = c.self.inside.roads; masks = c.self.inside.masks.items; failed = c.self.inside.failed; relabelled = c.self.inside.relabelled } in
    let new : Kept = record { graph = c.in_ok-roads.roads; masks = c.self.inside.masks.items; failed = false; relabelled = c.saturating_add-self-inside.result } in
    subst (λ (s : Kept). IsCounted s c.args.edge.now c.args.present new) c.self.view_is (counted old new c.args.edge.now c.args.present c.self.inside.rows.items c.in_ok-anew.anew (2 ^ 64 - 1) (c.self.invariant.can c.if-self.false) low c.saturating_add-self-inside.ensures few none)
