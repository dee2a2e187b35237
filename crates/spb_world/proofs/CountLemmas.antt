-- How many different numbers a list has, told by its ascending order.
use Rattle.std.proofs.Common.{◌≡◌, ◌≢◌, ◌<◌, ◌≤◌, ◌+◌, ℕ, suc, Bool, true, false, true≢false, not, ◌||◌, List, [], ◌∷◌, length, drop, get_or, ltb, Option, Some, None, Bor, if◌then◌else◌, inl, inr, refl, sym, ap, ◌∙◌, subst, arith}
use Rattle.std.specs.Prelude.{nat_eq}
use Rattle.std.specs.List.{AllByRecursion, list_any, Contains}
use Rattle.std.specs.List.Sorted.{IsPermutation, IsSorted, IsNonDecreasingBy}
use Rattle.std.specs.Option.{is_some, option_eq, IfSome}
use Rattle.std.specs.Ordering.{nat_cmp}
use Rattle.std.proofs.lemmas.Bool.{eq-eqb, ne_eqb, ltb-true, ltb-false}
use Rattle.std.proofs.lemmas.List.{drop_more, drop_all}
use Rattle.std.proofs.lemmas.List.Sorted.{Contains-permutation, IsPermutation-sym, IsNonDecreasingBy-from_sort, IsNonDecreasingBy-drop}
use Rattle.spb_content.proofs.Members.{Has, has_from_contains, contains_from_has, has_all, weaker}
use Rattle.spb_content.proofs.Kept.{Apart, length-within}
use Rattle.bridge_api.specs.Config.{different}
use Rattle.bridge_api.proofs.Saying.{has_different}
use Rattle.spb_world.proofs.AttachedLemmas.{turned, add_one}

-- ---- a list in another order has as many different numbers

-- each of the different numbers of a list is in it
different_has : (n : ℕ) (ns : List ℕ) → Has n (different ns) → Has n ns
different_has n [] h = h
different_has n (m ∷ ns) h = by (list_any (nat_eq m) ns) h (different_has n ns)
  where
    by : (b : Bool) → Has n (if b then different ns else m ∷ different ns) → (Has n (different ns) → Has n ns) → Has n (m ∷ ns)
    by true i rest = inr (rest i)
    by false (inl e) rest = inl e
    by false (inr i) rest = inr (rest i)

-- what no number of a list is equal to isn't in it
unlisted : (n m : ℕ) (ns : List ℕ) → list_any (nat_eq n) ns ≡ false → Has m ns → n ≢ m
unlisted n m [] none h e = absurd h
unlisted n m (k ∷ ns) none h e = by (nat_eq n k) refl none h (λ others i. unlisted n m ns others i e)
  where
    by : (b : Bool) → nat_eq n k ≡ b → (b || list_any (nat_eq n) ns) ≡ false → Has m (k ∷ ns) → (list_any (nat_eq n) ns ≡ false → Has m ns → ⊥) → ⊥
    by true is none h rest = true≢false none
    by false is none (inl i) rest = true≢false (sym (eq-eqb n k (e ∙ i)) ∙ is)
    by false is none (inr i) rest = rest none i

-- no two of the different numbers are one
different_apart : (ns : List ℕ) → Apart (λ n. n) (different ns)
different_apart [] = tt
different_apart (n ∷ ns) = by (list_any (nat_eq n) ns) refl (different_apart ns)
  where
    by : (b : Bool) → list_any (nat_eq n) ns ≡ b → Apart (λ m. m) (different ns) → Apart (λ m. m) (if b then different ns else n ∷ different ns)
    by true among rest = rest
    by false none rest = (has_all _ (different ns) (λ m h. unlisted n m ns none (different_has m ns h)), rest)

different_within : (ms ns : List ℕ) → ((n : ℕ) → Has n ms → Has n ns) → length (different ms) ≤ length (different ns)
different_within ms ns within =
    length-within (λ n. n) (λ n. n) (different ms) (different ns) (different_apart ms)
    (λ n h. record { item = n; has = has_different n ns (within n (different_has n ms h)); is = refl })

moved_within : (ms ns : List ℕ) → IsPermutation ms ns → (n : ℕ) → Has n ms → Has n ns
moved_within ms ns moved n h = has_from_contains n ns (Contains-permutation ms ns n moved (contains_from_has n ms h))

pub different_moved : (ms ns : List ℕ) → IsPermutation ms ns → length (different ns) ≡ length (different ms)
different_moved ms ns moved =
    omega (arith, different_within ms ns (moved_within ms ns moved), different_within ns ms (moved_within ns ms (IsPermutation-sym ms ns moved)))

-- ---- among ascending numbers the next one tells whether a number comes again

-- no number of a list is below an earlier one
abbrev Rises : List ℕ → Type 0
Rises [] = Unit {0}
Rises (n ∷ ns) = AllByRecursion (λ m. n ≤ m) ns × Rises ns

rises : (ns : List ℕ) → IsNonDecreasingBy (λ n. n) ns → Rises ns
rises [] up = tt
rises (n ∷ ns) up =
    (has_all _ ns (λ m h. first m (contains_from_has m ns h)), rises ns (λ i j d le lt. up (suc i) (suc j) d (omega (arith, le)) (omega (arith, lt))))
  where
    first : (m : ℕ) → Contains ns m → n ≤ m
    first m c = subst (λ k. n ≤ k) c.2 (up 0 (suc c.0) m (omega arith) (omega (arith, c.1)))

-- a number is the first of a list
abbrev leads : ℕ → List ℕ → Bool
leads n [] = false
leads n (m ∷ ms) = nat_eq n m

none_above : (n : ℕ) (ns : List ℕ) → AllByRecursion (λ m. n < m) ns → list_any (nat_eq n) ns ≡ false
none_above n [] above = refl
none_above n (m ∷ ns) above = ap (λ (b : Bool). b || list_any (nat_eq n) ns) (ne_eqb n m (λ e. omega (arith, e, above.0))) ∙ none_above n ns above.1

again : (n : ℕ) (ns : List ℕ) → Rises (n ∷ ns) → list_any (nat_eq n) ns ≡ leads n ns
again n [] up = refl
again n (m ∷ ns) up = by (nat_eq n m) refl
  where
    by : (b : Bool) → nat_eq n m ≡ b → (b || list_any (nat_eq n) ns) ≡ b
    by true is = refl
    by false apart =
        let above : n < m = omega (arith, up.0.0, λ (e : n ≡ m). true≢false (sym (eq-eqb n m e) ∙ apart)) in
        none_above n ns (weaker (λ k. m ≤ k) (λ k. n < k) ns (λ k h. omega (arith, above, h)) up.1.0)

-- what is read at a place is the first from there on
pub leads_there : (ns : List ℕ) (i : ℕ) (read : Option (Bor ℕ)) (this : Bor ℕ) → is_some read ≡ ltb i (length ns) → IfSome read (λ x. x.now ≡ get_or ns i x.now) → option_eq {T = Bor ℕ} (λ x y. nat_eq x.now y.now) read (Some this) ≡ leads this.now (drop i ns)
leads_there ns i None this within is = ap (leads this.now) (sym (drop_all i ns (ltb-false i (length ns) (sym within))))
leads_there ns i (Some x) this within is =
    turned x.now this.now (nat_eq this.now x.now) refl
    ∙ (ap (nat_eq this.now) is
    ∙ ap (leads this.now) (sym (drop_more ns i x.now (ltb-true i (length ns) (sym within)))))

-- the different numbers from a place on, by those behind it
different_from : (ns : List ℕ) (k : ℕ) → k < length ns → IsSorted nat_cmp ns → length (different (drop k ns)) ≡ (if leads (get_or ns k 0) (drop (k + 1) ns) then length (different (drop (k + 1) ns)) else length (different (drop (k + 1) ns)) + 1)
different_from ns k low sorted =
    let n : ℕ = get_or ns k 0 in
    let rest : List ℕ = drop (k + 1) ns in
    let parts : drop k ns ≡ n ∷ rest = drop_more ns k 0 low in
    let up : Rises (n ∷ rest) = subst Rises parts (rises (drop k ns) (IsNonDecreasingBy-drop (λ m. m) k ns (IsNonDecreasingBy-from_sort (λ m. m) ns sorted))) in
    ap (λ (l : List ℕ). length (different l)) parts
    ∙ (ap (λ (b : Bool). length (if b then different rest else n ∷ different rest)) (again n rest up)
    ∙ by n (different rest) (leads n rest))
  where
    by : (n : ℕ) (ms : List ℕ) (b : Bool) → length (if b then ms else n ∷ ms) ≡ (if b then length ms else length ms + 1)
    by n ms true = refl
    by n ms false = add_one (length ms)

-- one place further, of which the count has one more where another number is next
pub counted_on : (ns : List ℕ) (k old new : ℕ) (same other : Bool) → k < length ns → IsSorted nat_cmp ns → same ≡ leads (get_or ns k 0) (drop (k + 1) ns) → other ≡ not same → old + length (different (drop k ns)) ≡ length (different ns) → new ≡ (if other then old + 1 else old) → new + length (different (drop (k + 1) ns)) ≡ length (different ns)
counted_on ns k old new same other low sorted same_is other_is before new_is =
    by same (different_from ns k low sorted ∙ ap (λ (b : Bool). if b then behind else behind + 1) (sym same_is)) (new_is ∙ ap (λ (b : Bool). if b then old + 1 else old) other_is)
  where
    behind : ℕ
    behind = length (different (drop (k + 1) ns))

    by : (b : Bool) → length (different (drop k ns)) ≡ (if b then behind else behind + 1) → new ≡ (if not b then old + 1 else old) → new + behind ≡ length (different ns)
    by true from is = omega (arith, from, is, before)
    by false from is = omega (arith, from, is, before)
