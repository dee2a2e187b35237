use Rattle.std.proofs.Common.{◌+◌, ◌≤◌, length, get_or, List, [], sym, ap, subst, arith}
use Rattle.spb_types.specs.declared.graph.Edge.{Edge}
use Rattle.ect_trees.proofs.Members.{Has}
use Rattle.ect_trees.specs.Laws.{HasEdge}
use Rattle.fork_trees.specs.Set.{Kept}
use Rattle.swift_bridge.specs.Following.{Stays}
use Rattle.swift_bridge.proofs.Edges.{has_within}
use Rattle.swift_bridge.proofs.UpToDate.{Grown, stays_more, grown_keep, grown_put, grown_all}
use Rattle.swift_bridge.proofs.following.set_others.Goals as goal
use Rattle.swift_bridge.proofs.following.set_others.Goals.{then-not-has_edge+in_ok-change_edge, else-not-has_edge}

abbrev none : Edge
none = record { a = record { mac = record { bytes = [] } }; port_a = 0; b = record { mac = record { bytes = [] } }; port_b = 0; cost = 0 }

pub loop-edge-preserved : goal.loop-edge-preserved
loop-edge-preserved c =
    let g = c.args.graph.now in
    let items = c.as_slice-edge-items.result.now in
    let i = c.loop-edge.edge-index in
    elim c.if-not-has_edge.branch [
      | then-not-has_edge+in_ok-change_edge w ↦
          subst (λ (s : Kept). Stays c.args.set.now s × Grown g (i + 1) s.graph) (sym w.set-is) (
            stays_more _ _ _ _ _ c.loop-edge.invariant.0 w.in_ok-change_edge.ensures.changed,
            grown_put g i _ _ (get_or items i none) none c.requires.valid (subst (λ (es : List Edge). Has (get_or items i none) es) c.as_slice-edge-items.ensures (has_within items i none c.loop-edge-test.true)) (ap (λ (es : List Edge). get_or es i none) c.as_slice-edge-items.ensures) w.in_ok-change_edge.ensures.changed c.loop-edge.invariant.1,
          )
      | else-not-has_edge w ↦
          subst (λ (s : Kept). Stays c.args.set.now s × Grown g (i + 1) s.graph) (sym w.set-is)
          (c.loop-edge.invariant.0, grown_keep g i _ (get_or items i none) none (ap (λ (es : List Edge). get_or es i none) c.as_slice-edge-items.ensures) (subst (λ h. HasEdge h (get_or items i none)) c.graph-in-loop-edge.ensures.same (c.has_edge.ensures w.if-not-has_edge.false)) c.loop-edge.invariant.1)
    ]

pub returns-clause-has : goal.returns-clause-has
returns-clause-has c =
    let g = c.args.graph.now in
    let long : length g.edges ≤ c.loop-edge.edge-index = omega (arith, c.loop-edge-test.false, ap length c.as_slice-edge-items.ensures) in
    grown_all g c.loop-edge.edge-index c.loop-edge.set.graph long c.loop-edge.invariant.1
