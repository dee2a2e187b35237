-- Different ids that are found one after another are as many as the different ids of the whole list.
use Rattle.std.proofs.Common.{◌≡◌, ℕ, zero, suc, ◌+◌, ◌<◌, ◌≤◌, drop, slice_get, nat_le, Bool, true, false, true≢false, ◌||◌, List, [], ◌∷◌, ◌++◌, length, length-append, refl, sym, ap, subst, ◌∙◌, arith, inl, inr}
use Rattle.std.specs.Prelude.{if◌then◌else◌}
use Rattle.std.specs.Ordering.{is_eq}
use Rattle.std.specs.Option.{option_map_or}
use Rattle.std.proofs.lemmas.Bool.{cases_Bool}
use Rattle.std.proofs.lemmas.Bool.Decides.{nat_tests}
use Rattle.bridge_api.specs.View.{BridgeView}
use Rattle.spb_types.specs.declared.address.LspId.{LspId}
use Rattle.lsdb.specs.Database.{id_cmp}
use Rattle.lsdb.proofs.Ids.{tied_same}
use Rattle.lsdb.proofs.LookupLemmas.{tied_is}
use Rattle.snp_sync.specs.Hearing.{is_among}
use Rattle.network_rounds.specs.Premises.{different_ids, ids_of, ids_held}
use Rattle.settle_laws.specs.Ids.{with_id, with_ids}
use Rattle.settle_laws.proofs.Walks.{suc-on}

-- 1 for an id that wasn't found
abbrev pub weight : Bool → ℕ
weight true = 0
weight false = 1

-- how many of a list aren't among those that were found
abbrev pub fresh : List LspId → List LspId → ℕ
fresh found [] = 0
fresh found (y ∷ ys) = weight (is_among found y) + fresh found ys

fresh_old : (found : List LspId) (y : LspId) (ys : List LspId) → is_among found y ≡ true → fresh found (y ∷ ys) ≡ fresh found ys
fresh_old found y ys old = let e : weight (is_among found y) ≡ 0 = ap weight old in omega (arith, e)

fresh_new : (found : List LspId) (y : LspId) (ys : List LspId) → is_among found y ≡ false → fresh found (y ∷ ys) ≡ 1 + fresh found ys
fresh_new found y ys new = let e : weight (is_among found y) ≡ 1 = ap weight new in omega (arith, e)

fresh_all : (ys : List LspId) → fresh [] ys ≡ length ys
fresh_all [] = refl
fresh_all (y ∷ ys) = omega (arith, fresh_new [] y ys refl, fresh_all ys)

different_again : (x : LspId) (xs : List LspId) → is_among xs x ≡ true → different_ids (x ∷ xs) ≡ different_ids xs
different_again x xs again = ap (λ b. if b then different_ids xs else x ∷ different_ids xs) again

different_once : (x : LspId) (xs : List LspId) → is_among xs x ≡ false → different_ids (x ∷ xs) ≡ x ∷ different_ids xs
different_once x xs once = ap (λ b. if b then different_ids xs else x ∷ different_ids xs) once

with_old : (found : List LspId) (x : LspId) → is_among found x ≡ true → with_id found x ≡ found
with_old found x old = ap (λ b. if b then found else found ++ x ∷ []) old

with_new : (found : List LspId) (x : LspId) → is_among found x ≡ false → with_id found x ≡ found ++ x ∷ []
with_new found x new = ap (λ b. if b then found else found ++ x ∷ []) new

-- the two tests of an id that is another
turned : (x y : LspId) → is_eq (id_cmp y x) ≡ false → is_eq (id_cmp x y) ≡ false
turned x y other =
    elim (cases_Bool (is_eq (id_cmp x y))) [
      | inl same ↦ absurd (true≢false (sym (ap is_eq (tied_same y x (sym (tied_is x y same)))) ∙ other))
      | inr apart ↦ apart
    ]

or_parts : (a b : Bool) → (a || b) ≡ false → (a ≡ false) × (b ≡ false)
or_parts true b h = cc h
or_parts false b h = (refl, h)

or_false : (a : Bool) → (a || false) ≡ a
or_false true = refl
or_false false = refl

or_true : (a : Bool) → (a || true) ≡ true
or_true true = refl
or_true false = refl

or_assoc : (a b c : Bool) → (a || (b || c)) ≡ ((a || b) || c)
or_assoc true b c = refl
or_assoc false b c = refl

among_more : (found : List LspId) (x y : LspId) → is_among (found ++ x ∷ []) y ≡ (is_among found y || is_eq (id_cmp x y))
among_more [] x y = or_false (is_eq (id_cmp x y))
among_more (z ∷ found) x y = ap (λ b. is_eq (id_cmp z y) || b) (among_more found x y) ∙ or_assoc (is_eq (id_cmp z y)) (is_among found y) (is_eq (id_cmp x y))

-- whether another id was found doesn't change
among_other : (found : List LspId) (x y : LspId) → is_eq (id_cmp y x) ≡ false → is_among (found ++ x ∷ []) y ≡ is_among found y
among_other found x y other = among_more found x y ∙ (ap (λ b. is_among found y || b) (turned x y other) ∙ or_false (is_among found y))

among_itself : (found : List LspId) (x : LspId) → is_among (found ++ x ∷ []) x ≡ true
among_itself found x = among_more found x x ∙ (ap (λ o. is_among found x || is_eq o) (tied_same x x refl) ∙ or_true (is_among found x))

-- an id that isn't in the list makes nothing of it less fresh
fresh_beside : (found : List LspId) (x : LspId) (ys : List LspId) → is_among ys x ≡ false → fresh (found ++ x ∷ []) ys ≡ fresh found ys
fresh_beside found x [] none = refl
fresh_beside found x (y ∷ ys) none =
    let parts = or_parts (is_eq (id_cmp y x)) (is_among ys x) none in
    let head : weight (is_among (found ++ x ∷ []) y) ≡ weight (is_among found y) = ap weight (among_other found x y parts.0) in
    omega (arith, head, fresh_beside found x ys parts.1)

-- what isn't in a list isn't among its different ids
different_none : (xs : List LspId) (x : LspId) → is_among xs x ≡ false → is_among (different_ids xs) x ≡ false
different_none [] x none = refl
different_none (y ∷ ys) x none =
    let parts = or_parts (is_eq (id_cmp y x)) (is_among ys x) none in
    elim (cases_Bool (is_among ys y)) [
      | inl again ↦ ap (λ l. is_among l x) (different_again y ys again) ∙ different_none ys x parts.1
      | inr once ↦ ap (λ l. is_among l x) (different_once y ys once) ∙ (ap (λ b. b || is_among (different_ids ys) x) parts.0 ∙ different_none ys x parts.1)
    ]

-- an id of the list that wasn't found is one of the fresh
fresh_less : (found : List LspId) (x : LspId) (xs : List LspId) → is_among found x ≡ false → is_among xs x ≡ true → fresh found (different_ids xs) ≡ 1 + fresh (found ++ x ∷ []) (different_ids xs)
fresh_less found x [] new some = cc some
fresh_less found x (y ∷ ys) new some =
    elim (cases_Bool (is_among ys y)) [
      | inl again ↦ subst (λ (l : List LspId). fresh found l ≡ 1 + fresh (found ++ x ∷ []) l) (sym (different_again y ys again)) (fresh_less found x ys new (among_still (is_eq (id_cmp y x)) refl again))
      | inr once ↦ subst (λ (l : List LspId). fresh found l ≡ 1 + fresh (found ++ x ∷ []) l) (sym (different_once y ys once)) (by_head (is_eq (id_cmp y x)) refl (fresh_less found x ys new) once)
    ]
  where
    among_still : (b : Bool) → is_eq (id_cmp y x) ≡ b → is_among ys y ≡ true → is_among ys x ≡ true
    among_still true same again = subst (λ (z : LspId). is_among ys z ≡ true) (tied_is y x same) again
    among_still false other again = sym (ap (λ b. b || is_among ys x) other) ∙ some

    by_head : (b : Bool) → is_eq (id_cmp y x) ≡ b → (is_among ys x ≡ true → fresh found (different_ids ys) ≡ 1 + fresh (found ++ x ∷ []) (different_ids ys)) → is_among ys y ≡ false
        → fresh found (y ∷ different_ids ys) ≡ 1 + fresh (found ++ x ∷ []) (y ∷ different_ids ys)
    by_head true same more once =
        let is : y ≡ x = tied_is y x same in
        let none : is_among ys x ≡ false = subst (λ (z : LspId). is_among ys z ≡ false) is once in
        let here : is_among found y ≡ false = subst (λ (z : LspId). is_among found z ≡ false) (sym is) new in
        let there : is_among (found ++ x ∷ []) y ≡ true = subst (λ (z : LspId). is_among (found ++ x ∷ []) z ≡ true) (sym is) (among_itself found x) in
        omega (arith, fresh_new found y (different_ids ys) here, fresh_old (found ++ x ∷ []) y (different_ids ys) there, fresh_beside found x (different_ids ys) (different_none ys x none))
    by_head false other more once =
        let left : is_among ys x ≡ true = sym (ap (λ b. b || is_among ys x) other) ∙ some in
        let head : weight (is_among (found ++ x ∷ []) y) ≡ weight (is_among found y) = ap weight (among_other found x y other) in
        omega (arith, head, more left)

length_more : (found : List LspId) (x : LspId) → length (found ++ x ∷ []) ≡ length found + 1
length_more found x = length-append found (x ∷ [])

pub counted : (found xs : List LspId) → length (with_ids found xs) ≡ length found + fresh found (different_ids xs)
counted found [] = omega arith
counted found (x ∷ xs) =
    elim (cases_Bool (is_among found x)) [
      | inl old ↦
          let step : length (with_ids (with_id found x) xs) ≡ length (with_ids found xs) = ap (λ l. length (with_ids l xs)) (with_old found x old) in
          omega (arith, step, counted found xs, old_head (is_among xs x) refl old)
      | inr new ↦
          let step : length (with_ids (with_id found x) xs) ≡ length (with_ids (found ++ x ∷ []) xs) = ap (λ l. length (with_ids l xs)) (with_new found x new) in
          omega (arith, step, counted (found ++ x ∷ []) xs, length_more found x, new_head (is_among xs x) refl new)
    ]
  where
    old_head : (b : Bool) → is_among xs x ≡ b → is_among found x ≡ true → fresh found (different_ids (x ∷ xs)) ≡ fresh found (different_ids xs)
    old_head true again old = ap (fresh found) (different_again x xs again)
    old_head false once old = ap (fresh found) (different_once x xs once) ∙ fresh_old found x (different_ids xs) old

    new_head : (b : Bool) → is_among xs x ≡ b → is_among found x ≡ false → fresh found (different_ids (x ∷ xs)) ≡ 1 + fresh (found ++ x ∷ []) (different_ids xs)
    new_head true again new = ap (fresh found) (different_again x xs again) ∙ fresh_less found x xs new again
    new_head false once new = ap (fresh found) (different_once x xs once) ∙ (fresh_new found x (different_ids xs) new ∙ ap (λ n. 1 + n) (sym (fresh_beside found x (different_ids xs) (different_none xs x once))))

pub all_counted : (xs : List LspId) → length (with_ids [] xs) ≡ length (different_ids xs)
all_counted xs = omega (arith, counted [] xs, fresh_all (different_ids xs))

pub found_within : (found xs : List LspId) → length found ≤ length (with_ids found xs)
found_within found xs = omega (arith, counted found xs)

pub with_both : (found xs ys : List LspId) → with_ids found (xs ++ ys) ≡ with_ids (with_ids found xs) ys
with_both found [] ys = refl
with_both found (x ∷ xs) ys = with_both (with_id found x) xs ys

-- ---- bridge by bridge

-- the ids from a bridge on are its own, and those of the bridges behind it
pub ids_from : (found : List LspId) (views : List BridgeView) (k : ℕ) → k < length views
    → with_ids found (ids_held (drop k views)) ≡ with_ids (option_map_or (λ v. with_ids found (ids_of v)) (slice_get views k) found) (ids_held (drop (k + 1) views))
ids_from found [] k within = absurd (omega (arith, within))
ids_from found (v ∷ views) zero within = with_both found (ids_of v) (ids_held views)
ids_from found (v ∷ views) (suc k) within =
    ids_from found views k (omega (arith, within))
    ∙ ap (λ m. with_ids (option_map_or (λ v. with_ids found (ids_of v)) (slice_get views k) found) (ids_held (drop m (v ∷ views)))) (suc-on k)

pub ids_past : (found : List LspId) (views : List BridgeView) (k : ℕ) → length views ≤ k → with_ids found (ids_held (drop k views)) ≡ found
ids_past found [] zero past = refl
ids_past found [] (suc k) past = refl
ids_past found (v ∷ views) zero past = absurd (omega (arith, past))
ids_past found (v ∷ views) (suc k) past = ids_past found views k (omega (arith, past))

too_many : (n : ℕ) → 900 < n → nat_le n 900 ≡ false
too_many n many = grind (arith, nat_tests, many)

pub more_than_few : (views : List BridgeView) (found : List LspId) (k : ℕ) → with_ids [] (ids_held views) ≡ with_ids found (ids_held (drop k views)) → 900 < length found
    → nat_le (length (different_ids (ids_held views))) 900 ≡ false
more_than_few views found k is many =
    let same : length (with_ids [] (ids_held views)) ≡ length (with_ids found (ids_held (drop k views))) = ap length is in
    too_many (length (different_ids (ids_held views))) (omega (arith, many, same, found_within found (ids_held (drop k views)), all_counted (ids_held views)))

few_enough : (n : ℕ) → n ≤ 900 → nat_le n 900 ≡ true
few_enough n few = grind (arith, nat_tests, few)

pub few_found : (views : List BridgeView) (found : List LspId) → with_ids [] (ids_held views) ≡ found → length found ≤ 900
    → nat_le (length (different_ids (ids_held views))) 900 ≡ true
few_found views found is few =
    let same : length (with_ids [] (ids_held views)) ≡ length found = ap length is in
    few_enough (length (different_ids (ids_held views))) (omega (arith, few, same, all_counted (ids_held views)))
