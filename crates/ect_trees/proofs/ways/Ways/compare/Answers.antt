use Rattle.std.proofs.Common.{◌≡◌, sym, ap, ◌∙◌, subst}
use Rattle.ect_trees.specs.Arcs.{IsBridgeAt}
use Rattle.ect_trees.specs.Ways.{place_before}
use Rattle.ect_trees.proofs.Compared.{compared_last, compared_last_two}
use Rattle.ect_trees.proofs.ways.Ways.compare.Goals as goal

pub returns-then-before-other : goal.returns-then-before-other
returns-then-before-other c =
    let w = c.args.self.now in
    let same : place_before w.steps.now c.args.a ≡ place_before w.steps.now c.args.b = sym c.place_before-before.ensures ∙ (c.if-before-other.true ∙ c.place_before-other.ensures) in
    compared_last w.mesh.now w.mask w.steps.now c.args.hops c.args.a c.args.b c.compare_last.result same c.compare_last.ensures

pub returns-then-place_before : goal.returns-then-place_before
returns-then-place_before c =
    let w = c.args.self.now in
    let steps = w.steps.now in
    let g = w.mesh.now.graph in
    let first = c.place_before.ensures ∙ ap (place_before steps) c.place_before-before.ensures in
    let other = c.place_before-then-hops-gt1.ensures ∙ ap (place_before steps) c.place_before-other.ensures in
    let same : place_before steps (place_before steps c.args.a) ≡ place_before steps (place_before steps c.args.b) = sym first ∙ (c.if-place_before.true ∙ other) in
    compared_last_two w.mesh.now w.mask steps c.args.hops c.args.a c.args.b c.compare_last_two.result c.if-hops-gt1.true same
    (λ u x v y valid hu hx hv hy. c.compare_last_two.ensures u x v y valid (subst (λ t. IsBridgeAt g t u) (sym c.place_before-before.ensures) hu) hx (subst (λ t. IsBridgeAt g t v) (sym c.place_before-other.ensures) hv) hy)
