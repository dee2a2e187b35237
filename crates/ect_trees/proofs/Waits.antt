-- The frontier as a list in no order: one is put in, one is taken out, and one that costs least is found.
use Rattle.std.proofs.Common.{◌≡◌, ℕ, zero, suc, ◌+◌, ◌<◌, ◌≤◌, Bool, true, false, true≢false, not, cond, List, [], ◌∷◌, ◌++◌, length, get_or, Some, None, refl, sym, ap, ◌∙◌, subst, arith, ltb}
use Rattle.std.specs.Ordering.{is_eq}
use Rattle.std.specs.List.{swap_remove, position, position_or_len}
use Rattle.std.proofs.lemmas.Bool.{ltb-false}
use Rattle.std.proofs.lemmas.List.Quantifiers.{position-Some}
use Rattle.std.proofs.lemmas.List.Sums.{sum_by-cons, sum_by_push, sum_by-swap_remove}
use Rattle.std.proofs.lemmas.Option.{none-some}
use Rattle.ect_trees.specs.declared.waiting.Waiting.{Waiting}
use Rattle.ect_trees.specs.Waits.{waiting_cmp, waits, times, WaitOnce}
use Rattle.ect_trees.proofs.Ranks.{entry_same, same_entry}

abbrev is_same : Waiting → Waiting → Bool
is_same w e = is_eq (waiting_cmp w e)

-- what one that waits adds to how often another does
abbrev pub one : Waiting → Waiting → ℕ
one e w = cond (is_same w e) 1 0

some_times : (ws : List Waiting) (e : Waiting) → waits ws e ≡ true → 1 ≤ times ws e
some_times [] e h = absurd (true≢false (sym h))
some_times (w ∷ ws) e h = by (is_same w e) refl h (some_times ws e)
  where
    whole : times (w ∷ ws) e ≡ one e w + times ws e
    whole = sum_by-cons (one e) w ws

    by : (t : Bool) → is_same w e ≡ t → cond t true (waits ws e) ≡ true → (waits ws e ≡ true → 1 ≤ times ws e) → 1 ≤ times (w ∷ ws) e
    by true k m ih = let here : one e w ≡ 1 = ap (λ t. cond t 1 0) k in omega (arith, whole, here)
    by false k m ih = let rest = ih m in omega (arith, whole, rest)

no_times : (ws : List Waiting) (e : Waiting) → waits ws e ≡ false → times ws e ≡ 0
no_times [] e h = refl
no_times (w ∷ ws) e h = by (is_same w e) refl h (no_times ws e)
  where
    whole : times (w ∷ ws) e ≡ one e w + times ws e
    whole = sum_by-cons (one e) w ws

    by : (t : Bool) → is_same w e ≡ t → cond t true (waits ws e) ≡ false → (waits ws e ≡ false → times ws e ≡ 0) → times (w ∷ ws) e ≡ 0
    by true k m ih = absurd (true≢false m)
    by false k m ih = let here : one e w ≡ 0 = ap (λ t. cond t 1 0) k in let rest = ih m in omega (arith, whole, here, rest)

-- one is taken out
pub one_out : (x e : Waiting) (ws next : List Waiting) → WaitOnce ws → times next e + one e x ≡ times ws e → waits next e ≡ cond (is_same x e) false (waits ws e)
one_out x e ws next once whole = by (is_same x e) (waits ws e) (waits next e) refl refl refl
  where
    by : (s t u : Bool) → is_same x e ≡ s → waits ws e ≡ t → waits next e ≡ u → u ≡ cond s false t
    by true t false a b c = refl
    by true t true a b c =
        let here : one e x ≡ 1 = ap (λ v. cond v 1 0) a in
        let still = some_times next e c in
        let few = once e in
        absurd (omega (arith, whole, here, still, few))
    by false true true a b c = refl
    by false false false a b c = refl
    by false true false a b c =
        let here : one e x ≡ 0 = ap (λ v. cond v 1 0) a in
        let was = some_times ws e b in
        let gone = no_times next e c in
        absurd (omega (arith, whole, here, was, gone))
    by false false true a b c =
        let here : one e x ≡ 0 = ap (λ v. cond v 1 0) a in
        let was = no_times ws e b in
        let still = some_times next e c in
        absurd (omega (arith, whole, here, was, still))

pub one_out_once : (x : Waiting) (ws next : List Waiting) → WaitOnce ws → ((e : Waiting) → times next e + one e x ≡ times ws e) → WaitOnce next
one_out_once x ws next once whole = λ e. let few = once e in let all = whole e in omega (arith, few, all)

-- the one that stands at a place
pub swapped_out : (x e : Waiting) (ws next : List Waiting) (i : ℕ) (d : Waiting) → i < length ws → next ≡ swap_remove ws i d → get_or ws i d ≡ x → times next e + one e x ≡ times ws e
swapped_out x e ws next i d within gone here =
    ap (λ t. times t e + one e x) gone ∙ (ap (λ t. times (swap_remove ws i d) e + one e t) (sym here) ∙ sum_by-swap_remove (one e) ws i d within)

-- one more
pub put_waits : (w e : Waiting) (ws : List Waiting) → waits (ws ++ w ∷ []) e ≡ cond (is_same w e) true (waits ws e)
put_waits w e [] = refl
put_waits w e (y ∷ ys) = ap (λ t. cond (is_same y e) true t) (put_waits w e ys) ∙ by (is_same y e) (is_same w e)
  where
    by : (s t : Bool) → cond s true (cond t true (waits ys e)) ≡ cond t true (cond s true (waits ys e))
    by true true = refl
    by true false = refl
    by false t = refl

pub put_once : (w : Waiting) (ws : List Waiting) → waits ws w ≡ false → WaitOnce ws → WaitOnce (ws ++ w ∷ [])
put_once w ws new once = λ e. by e (is_same w e) refl
  where
    by : (e : Waiting) (t : Bool) → is_same w e ≡ t → times (ws ++ w ∷ []) e ≤ 1
    by e true k =
        let whole : times (ws ++ w ∷ []) e ≡ times ws e + one e w = sum_by_push (one e) ws w in
        let here : one e w ≡ 1 = ap (λ v. cond v 1 0) k in
        let none : times ws e ≡ 0 = no_times ws e (subst (λ v. waits ws v ≡ false) (entry_same w e k) new) in
        omega (arith, whole, here, none)
    by e false k =
        let whole : times (ws ++ w ∷ []) e ≡ times ws e + one e w = sum_by_push (one e) ws w in
        let here : one e w ≡ 0 = ap (λ v. cond v 1 0) k in
        let few = once e in
        omega (arith, whole, here, few)

-- one that stands at a place waits
pub at_waits : (ws : List Waiting) (k : ℕ) (d : Waiting) → k < length ws → waits ws (get_or ws k d) ≡ true
at_waits [] k d h = absurd (omega (arith, h))
at_waits (w ∷ ws) zero d h = ap (λ t. cond t true (waits ws w)) (same_entry w w refl)
at_waits (w ∷ ws) (suc k) d h = by (is_same w (get_or ws k d)) (at_waits ws k d (omega (arith, h)))
  where
    by : (t : Bool) → waits ws (get_or ws k d) ≡ true → cond t true (waits ws (get_or ws k d)) ≡ true
    by true m = refl
    by false m = m

-- and one that waits stands at a place
waits_at : (ws : List Waiting) (e d : Waiting) → waits ws e ≡ true → (k : ℕ) × (k < length ws) × (get_or ws k d ≡ e)
waits_at [] e d h = absurd (true≢false (sym h))
waits_at (w ∷ ws) e d h = by (is_same w e) refl h (waits_at ws e d)
  where
    by : (t : Bool) → is_same w e ≡ t → cond t true (waits ws e) ≡ true → (waits ws e ≡ true → (k : ℕ) × (k < length ws) × (get_or ws k d ≡ e)) → (k : ℕ) × (k < length (w ∷ ws)) × (get_or (w ∷ ws) k d ≡ e)
    by true s m ih = (0, omega arith, entry_same w e s)
    by false s m ih = let r = ih m in (suc r.0, omega (arith, r.1), r.2)

-- what costs no more than each that stands at a place costs no more than each that waits
pub least_waits : (ws : List Waiting) (first d : Waiting) → ((k : ℕ) → k < length ws → first.cost ≤ (get_or ws k d).cost) → (e : Waiting) → waits ws e ≡ true → first.cost ≤ e.cost
least_waits ws first d least e h =
    let r = waits_at ws e d h in
    let low = least r.0 r.1 in
    let same : (get_or ws r.0 d).cost ≡ e.cost = ap (λ (t : Waiting). t.cost) r.2 in
    omega (arith, low, same)

-- the place of one, or the end
abbrev where_is : Waiting → List Waiting → ℕ
where_is w ws = position_or_len (λ e. is_same e w) ws

none_at : (w : Waiting) (ws : List Waiting) → length ws ≤ where_is w ws → waits ws w ≡ false
none_at w [] h = refl
none_at w (y ∷ ys) h = by (is_same y w) h (none_at w ys)
  where
    by : (t : Bool) → suc (length ys) ≤ cond (not t) (1 + where_is w ys) 0 → (length ys ≤ where_is w ys → waits ys w ≡ false) → cond t true (waits ys w) ≡ false
    by true m ih = absurd (omega (arith, m))
    by false m ih = ih (omega (arith, m))

-- one that isn't found doesn't wait
pub missing : (w : Waiting) (ws : List Waiting) → position (λ e. is_same e w) ws ≡ None → waits ws w ≡ false
missing w ws none = by (ltb (where_is w ws) (length ws)) refl (sym none)
  where
    by : (t : Bool) → ltb (where_is w ws) (length ws) ≡ t → None ≡ cond t (Some (where_is w ws)) None → waits ws w ≡ false
    by true k h = absurd (none-some (where_is w ws) h)
    by false k h = none_at w ws (ltb-false (where_is w ws) (length ws) k)

-- and one that is found stands at its place
pub found_at : (w : Waiting) (ws : List Waiting) (i : ℕ) (d : Waiting) → position (λ e. is_same e w) ws ≡ Some i → (i < length ws) × (get_or ws i d ≡ w)
found_at w ws i d found =
    let r = position-Some (λ e. is_same e w) ws i d found in
    (r.0, entry_same (get_or ws i d) w r.1)

-- without one that doesn't wait all stay
pub none_out : (w e : Waiting) (ws : List Waiting) → waits ws w ≡ false → waits ws e ≡ cond (is_same w e) false (waits ws e)
none_out w e ws none = by (is_same w e) refl
  where
    by : (t : Bool) → is_same w e ≡ t → waits ws e ≡ cond t false (waits ws e)
    by true k = subst (λ v. waits ws v ≡ false) (entry_same w e k) none
    by false k = refl
