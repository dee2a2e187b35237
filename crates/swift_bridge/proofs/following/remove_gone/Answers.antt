use Rattle.std.proofs.Common.{◌+◌, ◌≤◌, length, refl, sym, subst, ◌∙◌, arith}
use Rattle.fork_trees.specs.Set.{Kept}
use Rattle.swift_bridge.specs.Following.{Stays}
use Rattle.swift_bridge.proofs.UpToDate.{Cut, stays_more, cut_keep, cut_drop, cut_all}
use Rattle.swift_bridge.proofs.following.remove_gone.Goals as goal
use Rattle.swift_bridge.proofs.following.remove_gone.Goals.{then-not-joins_ends+in_ok-change_edge, else-not-joins_ends}

pub loop-edge-preserved : goal.loop-edge-preserved
loop-edge-preserved c =
    let g = c.args.graph.now in
    let all = c.deref-edge-items.result.now in
    elim c.if-not-joins_ends.branch [
      | then-not-joins_ends+in_ok-change_edge w ↦
          subst (λ (s : Kept). Stays c.args.set.now s × Cut g all (c.loop-edge.edge-index + 1) s.graph) (sym w.set-is)
          (stays_more _ _ _ _ _ c.loop-edge.invariant.0 w.in_ok-change_edge.ensures.changed, cut_drop g all c.loop-edge.edge-index _ _ _ _ refl w.in_ok-change_edge.ensures.changed c.loop-edge.invariant.1)
      | else-not-joins_ends w ↦
          subst (λ (s : Kept). Stays c.args.set.now s × Cut g all (c.loop-edge.edge-index + 1) s.graph) (sym w.set-is)
          (c.loop-edge.invariant.0, cut_keep g all c.loop-edge.edge-index _ _ _ refl (sym c.joins_ends.ensures ∙ w.if-not-joins_ends.false) c.loop-edge.invariant.1)
    ]

pub returns-clause-joined : goal.returns-clause-joined
returns-clause-joined c =
    let all = c.deref-edge-items.result.now in
    let long : length all ≤ c.loop-edge.edge-index = omega (arith, c.loop-edge-test.false) in
    cut_all c.args.graph.now all c.loop-edge.edge-index c.loop-edge.set.graph long c.loop-edge.invariant.1
