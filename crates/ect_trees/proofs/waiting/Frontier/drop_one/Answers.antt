use Rattle.std.proofs.Common.{◌≡◌, ◌∙◌, sym, ap, cond, false}
use Rattle.std.specs.Ordering.{is_eq}
use Rattle.std.specs.List.{position}
use Rattle.ect_trees.specs.declared.waiting.Waiting.{Waiting}
use Rattle.ect_trees.specs.Waits.{waits, waiting_cmp}
use Rattle.ect_trees.proofs.Waits.{found_at, missing, swapped_out, one_out, one_out_once, none_out}
use Rattle.ect_trees.proofs.waiting.Frontier.drop_one.Goals as goal

pub invariant_of-self : goal.invariant_of-self
invariant_of-self c =
    let w = c.args.waiting in
    let ws = c.self.inside.items.items in
    let found : c.place_among.result ≡ position (λ (e : Waiting). is_eq (waiting_cmp e w)) ws = c.place_among.ensures ∙ ap (position (λ (e : Waiting). is_eq (waiting_cmp e w))) c.as_slice.ensures.value in
    let at = found_at w ws c.in-Some.place c.swap_remove.result (sym found ∙ c.in-Some.is) in
    one_out_once w ws c.swap_remove.new.self.items c.self.invariant (λ e. swapped_out w e ws c.swap_remove.new.self.items c.in-Some.place c.swap_remove.result at.0 c.swap_remove.ensures.items at.1)

pub returns-in-Some : goal.returns-in-Some
returns-in-Some c =
    let w = c.args.waiting in
    let ws = c.self.inside.items.items in
    let found : c.place_among.result ≡ position (λ (e : Waiting). is_eq (waiting_cmp e w)) ws = c.place_among.ensures ∙ ap (position (λ (e : Waiting). is_eq (waiting_cmp e w))) c.as_slice.ensures.value in
    let at = found_at w ws c.in-Some.place c.swap_remove.result (sym found ∙ c.in-Some.is) in
    λ e. one_out w e ws c.swap_remove.new.self.items c.self.invariant (swapped_out w e ws c.swap_remove.new.self.items c.in-Some.place c.swap_remove.result at.0 c.swap_remove.ensures.items at.1)
    ∙ ap (λ t. cond (is_eq (waiting_cmp w e)) false (waits t e)) c.self.view_is

pub returns-in_default : goal.returns-in_default
returns-in_default c =
    let w = c.args.waiting in
    let ws = c.self.inside.items.items in
    let found : c.place_among.result ≡ position (λ (e : Waiting). is_eq (waiting_cmp e w)) ws = c.place_among.ensures ∙ ap (position (λ (e : Waiting). is_eq (waiting_cmp e w))) c.as_slice.ensures.value in
    let none = missing w ws (sym found ∙ c.in_default.is) in
    λ e. none_out w e c.args.self.now (ap (λ t. waits t w) (sym c.self.view_is) ∙ none)
