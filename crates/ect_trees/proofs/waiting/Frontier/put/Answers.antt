use Rattle.std.proofs.Common.{◌∙◌, sym, ap, subst, cond, true}
use Rattle.std.specs.Ordering.{is_eq}
use Rattle.ect_trees.specs.Waits.{waits, waiting_cmp, WaitOnce}
use Rattle.ect_trees.proofs.Waits.{put_waits, put_once}
use Rattle.ect_trees.proofs.waiting.Frontier.put.Goals as goal

pub returns : goal.returns
returns c =
    let w = c.args.waiting in
    let ws = c.self.inside.items.items in
    λ e. ap (λ t. waits t e) c.in_ok-push.ensures.items ∙ (put_waits w e ws ∙ ap (λ t. cond (is_eq (waiting_cmp w e)) true (waits t e)) c.self.view_is)

pub invariant_of-self-2 : goal.invariant_of-self-2
invariant_of-self-2 c =
    let w = c.args.waiting in
    let ws = c.self.inside.items.items in
    subst WaitOnce (sym c.in_ok-push.ensures.items) (put_once w ws (ap (λ t. waits t w) c.self.view_is ∙ c.requires) c.self.invariant)
