use Rattle.std.proofs.Common.{◌≡◌, ◌+◌, ◌-◌, List, [], ◌∷◌, ◌++◌, reverse, sym, ap, ◌∙◌, arith}
use Rattle.std.proofs.lemmas.List.{append_assoc}
use Rattle.spb_types.specs.declared.address.SystemId.{SystemId}
use Rattle.ect_trees.specs.Ways.{place_before, way_back, bridge_at}
use Rattle.ect_trees.proofs.ReadBack.{back_more}
use Rattle.ect_trees.proofs.paths.bridges_back.Goals as goal

pub loop-left-preserved : goal.loop-left-preserved
loop-left-preserved c =
    let g = c.args.mesh.now.graph in
    let a = c.args.source in
    let steps = c.args.steps.now in
    let left = c.loop-left.left in
    let place = c.loop-left.place in
    let was = c.loop-left.bridges.items in
    let one : left ≡ (left - 1) + 1 = omega (arith, c.loop-left-test.true) in
    let back : List SystemId = reverse (way_back g a steps (left - 1) (place_before steps place)) in
    ap (λ p. c.push.new.self.items ++ reverse (way_back g a steps (left - 1) p)) c.place_before-place.ensures
    ∙ (ap (λ (t : List SystemId). t ++ back) c.in_ok-push.ensures.items
    ∙ (ap (λ y. (was ++ y ∷ []) ++ back) c.system_at.ensures
    ∙ (append_assoc was (bridge_at g a place ∷ []) back
    ∙ (sym (ap (λ (t : List SystemId). was ++ t) (back_more g a steps (left - 1) left place one))
    ∙ c.loop-left.invariant))))
