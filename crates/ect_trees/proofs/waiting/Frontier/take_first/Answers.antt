use Rattle.std.proofs.Common.{◌≡◌, ◌∙◌, ◌<◌, ◌≤◌, ℕ, length, get_or, sym, ap, subst, cond, false, arith}
use Rattle.std.specs.Ordering.{is_eq}
use Rattle.ect_trees.specs.declared.waiting.Waiting.{Waiting}
use Rattle.ect_trees.specs.Waits.{waits, waiting_cmp}
use Rattle.ect_trees.proofs.Waits.{at_waits, least_waits, swapped_out, one_out, one_out_once}
use Rattle.ect_trees.proofs.waiting.Frontier.take_first.Goals as goal

pub invariant_of-self : goal.invariant_of-self
invariant_of-self c =
    let x = c.swap_remove.result in
    let ws = c.self.inside.items.items in
    let within = subst (λ t. c.least_of-place.result < length t) c.as_slice.ensures.value c.least_of-place.ensures.within in
    one_out_once x ws c.swap_remove.new.self.items c.self.invariant (λ e. swapped_out x e ws c.swap_remove.new.self.items c.least_of-place.result x within c.swap_remove.ensures.items (sym c.swap_remove.ensures.value))

pub returns-else-is_empty-clause-first : goal.returns-else-is_empty-clause-first
returns-else-is_empty-clause-first c =
    let x = c.swap_remove.result in
    let ws = c.self.inside.items.items in
    let within = subst (λ t. c.least_of-place.result < length t) c.as_slice.ensures.value c.least_of-place.ensures.within in
    ap (λ t. waits t x) (sym c.self.view_is) ∙ (ap (waits ws) c.swap_remove.ensures.value ∙ at_waits ws c.least_of-place.result x within)

pub returns-else-is_empty-clause-least : goal.returns-else-is_empty-clause-least
returns-else-is_empty-clause-least c =
    let x = c.swap_remove.result in
    let ws = c.self.inside.items.items in
    let i = c.least_of-place.result in
    let least = subst (λ t. (k : ℕ) (d : Waiting) → k < length t → (get_or t i d).cost ≤ (get_or t k d).cost) c.as_slice.ensures.value c.least_of-place.ensures.least in
    let own : x.cost ≡ (get_or ws i x).cost = ap (λ (t : Waiting). t.cost) c.swap_remove.ensures.value in
    λ e h. least_waits ws x x (λ k below. let low = least k x below in omega (arith, low, own)) e (ap (λ t. waits t e) c.self.view_is ∙ h)

pub returns-else-is_empty-clause-others : goal.returns-else-is_empty-clause-others
returns-else-is_empty-clause-others c =
    let x = c.swap_remove.result in
    let ws = c.self.inside.items.items in
    let within = subst (λ t. c.least_of-place.result < length t) c.as_slice.ensures.value c.least_of-place.ensures.within in
    λ e. one_out x e ws c.swap_remove.new.self.items c.self.invariant (swapped_out x e ws c.swap_remove.new.self.items c.least_of-place.result x within c.swap_remove.ensures.items (sym c.swap_remove.ensures.value))
    ∙ ap (λ t. cond (is_eq (waiting_cmp x e)) false (waits t e)) c.self.view_is
