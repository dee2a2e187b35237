-- What waits in the frontier of a search.
use Rattle.std.specs.Prelude.{◌≤◌, ℕ, Bool, true, false, cond, List, [], ◌∷◌, sum_by}
use Rattle.std.specs.declared.cmp.Ordering.{Ordering}
use Rattle.std.specs.Ordering.{nat_cmp, ordering_then, is_eq}
use Rattle.ect_trees.specs.declared.waiting.Waiting.{Waiting}

-- those that wait compare by cost, then by hops, then by place
abbrev pub waiting_cmp : Waiting → Waiting → Ordering
waiting_cmp w e = ordering_then (nat_cmp w.cost e.cost)
    (ordering_then (nat_cmp w.hops e.hops) (nat_cmp w.place e.place))

-- whether it waits in the frontier
abbrev pub waits : List Waiting → Waiting → Bool
waits [] e = false
waits (w ∷ ws) e = cond (is_eq (waiting_cmp w e)) true (waits ws e)

-- how often it stands in the frontier
abbrev pub times : List Waiting → Waiting → ℕ
times ws e = sum_by (λ w. cond (is_eq (waiting_cmp w e)) 1 0) ws

-- each waits once
abbrev pub WaitOnce : List Waiting → Type 0
WaitOnce ws = (e : Waiting) → times ws e ≤ 1
