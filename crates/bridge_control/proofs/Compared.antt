-- LSPs that are held beside those that were read: the same, one by one.
use Rattle.std.proofs.Common.{◌≡◌, ℕ, zero, suc, ◌+◌, ◌<◌, Bool, true, ◌&&◌, eqb-true, eq-eqb, subst, List, [], ◌∷◌, ◌++◌, map, length, length-append, take, drop, false, slice_get, get_or, refl, sym, ap, ◌∙◌, Option, Some, None, arith, add-one}
use Rattle.std.specs.Prelude.{◌==◌, ◌≤◌, if◌then◌else◌}
use Rattle.std.specs.Option.{option_map, option_to_list}
use Rattle.std.specs.List.{filter_map}
use Rattle.std.proofs.lemmas.List.{append-nil, map-append, length-map, length-take-le}
use Rattle.std.proofs.lemmas.List.Elements.{filter_map-append}
use Rattle.std.proofs.lemmas.Option.{same_Some}
use Rattle.std.proofs.lemmas.Bool.{and_parts}
use Rattle.spb_types.specs.declared.service.VidPlan.{VidPlan}
use Rattle.bridge_control.proofs.OwnTables.{read_more, read_one}

-- one LSP more is what its entry is read as
map_next : {X Y : Type 0} (g : X → Y) (xs : List X) (n : ℕ) (d : X) → n < length xs → map g (take (suc n) xs) ≡ map g (take n xs) ++ g (get_or xs n d) ∷ []
map_next g [] n d low = absurd (omega (arith, low))
map_next g (x ∷ xs) zero d low = refl
map_next g (x ∷ xs) (suc n) d low = ap (λ ys. g x ∷ ys) (map_next g xs n d (omega (arith, low)))

pub same_more : {X Y Z : Type 0} (f : X → Option Y) (g : Z → Y) (es : List X) (xs : List Z) (k n : ℕ) (e : X) (d : Z) → slice_get es k ≡ Some e → n < length xs
    → map g (take n xs) ≡ filter_map f (take k es) → f e ≡ Some (g (get_or xs n d)) → map g (take (n + 1) xs) ≡ filter_map f (take (k + 1) es)
same_more f g es xs k n e d is low was same =
    read_more f es k e (map g (take n xs)) (map g (take (n + 1) xs)) is was
    (ap (λ (m : ℕ). map g (take m xs)) (add-one n) ∙ (map_next g xs n d low ∙ ap (λ (o : Option _). map g (take n xs) ++ option_to_list o) (sym same)))

-- an entry of which nothing is read
pub none_more : {X Y : Type 0} (f : X → Option Y) (es : List X) (k : ℕ) (e : X) (old : List Y) → slice_get es k ≡ Some e
    → old ≡ filter_map f (take k es) → f e ≡ None → old ≡ filter_map f (take (k + 1) es)
none_more f es k e old is was none =
    read_more f es k e old old is was (sym (append-nil old) ∙ ap (λ (o : Option _). old ++ option_to_list o) (sym none))

-- ---- where lists go on differently

-- there is an entry at a place within
pub there : {X : Type 0} (es : List X) (k : ℕ) → k < length es → slice_get es k ≡ None → ⊥
there [] k low none = absurd (omega (arith, low))
there (x ∷ es) zero low none = absurd cc
there (x ∷ es) (suc k) low none = there es k (omega (arith, low)) none

cut_at : {X : Type 0} (es : List X) (k : ℕ) (e : X) → slice_get es k ≡ Some e → es ≡ take k es ++ e ∷ drop (suc k) es
cut_at [] k e is = absurd cc
cut_at (x ∷ es) zero e is = ap (λ z. z ∷ es) (same_Some x e is)
cut_at (x ∷ es) (suc k) e is = ap (λ l. x ∷ l) (cut_at es k e is)

first_read : {X Y : Type 0} (f : X → Option Y) (x : X) (xs : List X) → filter_map f (x ∷ xs) ≡ option_to_list (f x) ++ filter_map f xs
first_read f x xs = filter_map-append f (x ∷ []) xs ∙ ap (λ (ys : List _). ys ++ filter_map f xs) (read_one f x)

-- what is read of the entry at a place stands behind what is read of those before it
read_there : {X Y : Type 0} (f : X → Option Y) (es : List X) (k : ℕ) (e : X) (y : Y) → slice_get es k ≡ Some e → f e ≡ Some y
    → filter_map f es ≡ filter_map f (take k es) ++ y ∷ filter_map f (drop (suc k) es)
read_there f es k e y is reads =
    let rest : List _ = drop (suc k) es in
    ap (filter_map f) (cut_at es k e is) ∙ (filter_map-append f (take k es) (e ∷ rest)
    ∙ ap (λ (ys : List _). filter_map f (take k es) ++ ys) (first_read f e rest ∙ ap (λ (o : Option _). option_to_list o ++ filter_map f rest) reads))

goes_on : {Y Z : Type 0} (g : Z → Y) (xs : List Z) (n : ℕ) (y : Y) (rest : List Y) → map g xs ≡ map g (take n xs) ++ y ∷ rest → (n < length xs) × ((d : Z) → g (get_or xs n d) ≡ y)
goes_on g [] n y rest same = absurd (omega (arith, ap length same, length-append (map g (take n [])) (y ∷ rest)))
goes_on g (x ∷ xs) zero y rest same = (omega arith, λ d. ap (λ l. get_or l 0 (g x)) same)
goes_on g (x ∷ xs) (suc n) y rest same = let on = goes_on g xs n y rest (ap (drop 1) same) in (omega (arith, on.0), on.1)

-- where n were read before place k and were the same, what is read there is the next, if all are the same
pub next_same : {X Y Z : Type 0} (f : X → Option Y) (g : Z → Y) (es : List X) (xs : List Z) (k n : ℕ) (e : X) (y : Y) → slice_get es k ≡ Some e → f e ≡ Some y
    → map g (take n xs) ≡ filter_map f (take k es) → filter_map f es ≡ map g xs → (n < length xs) × ((d : Z) → g (get_or xs n d) ≡ y)
next_same f g es xs k n e y is reads was same =
    let rest : List _ = filter_map f (drop (suc k) es) in
    goes_on g xs n y rest (sym same ∙ (read_there f es k e y is reads ∙ ap (λ (ys : List _). ys ++ y ∷ rest) (sym was)))

-- where n were read and were the same, and these are all, they are as many
pub as_many : {X Y Z : Type 0} (f : X → Option Y) (g : Z → Y) (es : List X) (xs : List Z) (n : ℕ) → n ≤ length xs → map g (take n xs) ≡ filter_map f es → filter_map f es ≡ map g xs → n ≡ length xs
as_many f g es xs n few was same =
    omega (arith, few, ap length (was ∙ same), length-map (take n xs) g, length-map xs g, length-take-le n xs few)

-- ---- base VIDs that compare as equal are the same

both : (b c : Bool) → b ≡ true → c ≡ true → (b && c) ≡ true
both b c e f = ap (λ x. x && c) e ∙ f

abbrev pub plan_eq : VidPlan → VidPlan → Bool
plan_eq p q = (p.vid.value == q.vid.value) && (p.ect == q.ect)

pub same_plan : (p q : VidPlan) → (plan_eq p q ≡ true → p ≡ q) × (p ≡ q → plan_eq p q ≡ true)
same_plan p q = (to, λ e. subst (λ x. ((p.vid.value == x.vid.value) && (p.ect == x.ect)) ≡ true) e itself)
  where
    to : plan_eq p q ≡ true → p ≡ q
    to h =
        let parts = and_parts (p.vid.value == q.vid.value) (p.ect == q.ect) h in
        let vid : p.vid.value ≡ q.vid.value = eqb-true p.vid.value q.vid.value parts.0 in
        let ect : p.ect ≡ q.ect = eqb-true p.ect q.ect parts.1 in
        λ i. record { vid = record { value = vid i }; ect = ect i }

    itself : ((p.vid.value == p.vid.value) && (p.ect == p.ect)) ≡ true
    itself = both _ _ (eq-eqb p.vid.value p.vid.value refl) (eq-eqb p.ect p.ect refl)
