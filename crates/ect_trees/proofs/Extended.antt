-- One bridge more at the end of a label, and when that makes a better one.
use Rattle.std.proofs.Common.{◌≡◌, ℕ, ◌+◌, ◌^◌, ◌<◌, Bool, true, false, true≢false, ◌||◌, not, inl, inr, List, [], ◌∷◌, ◌++◌, length, map, take, Option, Some, IsSome, unwrap_or, refl, sym, ap, ◌∙◌, subst, arith, length-append, Ordering, Less, Equal, Greater, nat_cmp}
use Rattle.std.specs.List.{list_any}
use Rattle.std.specs.Bool.{MatchBool}
use Rattle.std.specs.Ordering.{MatchOrdering, ordering_then, is_lt}
use Rattle.std.specs.Cmp.Lexicographic.{slice_cmp}
use Rattle.std.proofs.Math.Seq.{take-append_seam}
use Rattle.std.proofs.lemmas.List.{length-map}
use Rattle.std.proofs.lemmas.Cmp.{ranked}
use Rattle.std.proofs.lemmas.Option.{same_Some}
use Rattle.spb_types.specs.Address.{same_system}
use Rattle.spb_types.specs.Graph.{IsAmong, IsValid, systems_of, cost_between}
use Rattle.spb_types.specs.declared.address.SystemId.{SystemId}
use Rattle.spb_types.specs.declared.graph.Graph.{Graph}
use Rattle.ect_trees.specs.declared.mesh.Arc.{Arc}
use Rattle.ect_trees.specs.declared.search.Label.{Label}
use Rattle.ect_trees.specs.declared.search.Search.{Search}
use Rattle.ect_trees.specs.Path.{IsPath, cost_of, hops_of}
use Rattle.ect_trees.specs.Key.{id_cmp, masked_id, sorted_ids, key_of, key_cmp, IsBelow}
use Rattle.ect_trees.specs.Arcs.{IsBridgeAt, Leads}
use Rattle.ect_trees.specs.Search.{graph_of, IsLabel, Extends, IsExtended, longer_key, longer_cost, ids_of, HasLowerIds, IsLow, Tells, IsLower}
use Rattle.ect_trees.proofs.Among.{same_is, same_self}
use Rattle.ect_trees.proofs.Walks.{step, path_snoc, cost-snoc, map-snoc}
use Rattle.ect_trees.proofs.KeyOrder.{nat_cmp-add}
use Rattle.ect_trees.proofs.Steps.{front_and_last, path_ends, path_fits, step_high}
use Rattle.ect_trees.proofs.Behind.{before_end}
use Rattle.ect_trees.proofs.Places.{at_among}

-- the cost of one edge more fits
pub cost_fits : (s : Search) (arc : Arc) (l : Label) → IsValid (graph_of s) → Extends s arc l → l.cost + arc.cost < 2 ^ 64
cost_fits s arc l valid e =
    let g = graph_of s in
    let small = (path_fits g s.source e.0 l.bridges.items valid e.3.path).0 in
    let own : step g e.0 e.1 ≡ arc.cost = ap (λ o. unwrap_or o 0) e.2.cost in
    omega (arith, small, own, e.3.cost_is, step_high g e.0 e.1 valid)

-- a place has one bridge
pub at_same : (g : Graph) (i : ℕ) (x y : SystemId) → IsBridgeAt g i x → IsBridgeAt g i y → x ≡ y
at_same g i x y h k = same_Some x y (sym h ∙ k)

-- the label's cost and that of the arc are the cost of the longer path
pub longer_cost_is : (s : Search) (arc : Arc) (x y : SystemId) (l : Label) → Leads (graph_of s) arc x y → IsLabel s x l → l.cost + arc.cost ≡ longer_cost s l y
longer_cost_is s arc x y l go h =
    let g = graph_of s in
    let more : cost_of g (l.bridges.items ++ y ∷ []) ≡ cost_of g l.bridges.items + step g x y = cost-snoc g s.source x y l.bridges.items h.path in
    let own : step g x y ≡ arc.cost = ap (λ o. unwrap_or o 0) go.cost in
    omega (arith, more, own, h.cost_is)

then_then : (a b r : Ordering) → ordering_then a (ordering_then b r) ≡ ordering_then (ordering_then a b) r
then_then Less b r = refl
then_then Equal b r = refl
then_then Greater b r = refl

-- the order of two numbers of hops is that of the numbers of bridges
hops_cmp : (g : Graph) (a x y : SystemId) (p q : List SystemId) → IsPath g a y q → nat_cmp (hops_of (p ++ x ∷ [])) (hops_of q) ≡ nat_cmp (length p + 1) (length q)
hops_cmp g a x y p [] w = absurd w
hops_cmp g a x y p (z ∷ q) w =
    let long : length (p ++ x ∷ []) ≡ length p + 1 = length-append p (x ∷ []) in
    sym (nat_cmp-add (hops_of (p ++ x ∷ [])) (hops_of (z ∷ q)) 1 (length p + 1) (length (z ∷ q)) (omega (arith, long)) (omega arith))

-- the order of the lengths: of the cost, and then of the number of bridges
abbrev pub lengths_cmp : ℕ → Label → Label → Ordering
lengths_cmp cost l o = ordering_then (nat_cmp cost o.cost) (nat_cmp (length l.bridges.items + 1) (length o.bridges.items))

-- the ids of the label's path with y, and those of another's
abbrev longer_ids : Search → Label → SystemId → List (List ℕ)
longer_ids s l y = ids_of s (l.bridges.items ++ y ∷ [])

-- keys compare by these lengths, and then by ids
keys_by_lengths : (s : Search) (l o : Label) (y : SystemId) (cost : ℕ) → IsLabel s y o → cost ≡ longer_cost s l y → key_cmp (longer_key s l y) (key_of (graph_of s) s.mask o.bridges.items) ≡ ordering_then (lengths_cmp cost l o) (slice_cmp id_cmp (longer_ids s l y) (ids_of s o.bridges.items))
keys_by_lengths s l o y cost old e =
    let g = graph_of s in
    let ids : Ordering = slice_cmp id_cmp (longer_ids s l y) (ids_of s o.bridges.items) in
    let hops = hops_cmp g s.source y y l.bridges.items o.bridges.items old.path in
    (λ i. ordering_then (nat_cmp (sym e i) (sym old.cost_is i)) (ordering_then (hops i) ids)) ∙
    then_then (nat_cmp cost o.cost) (nat_cmp (length l.bridges.items + 1) (length o.bridges.items)) ids

-- a path that has n bridges before its end
last_off : (g : Graph) (a y : SystemId) (q : List SystemId) (n : ℕ) → IsPath g a y q → length q ≡ n + 1 → q ≡ take n q ++ y ∷ []
last_off g a y [] n w e = absurd w
last_off g a y (z ∷ zs) n w e =
    let parts = front_and_last z zs in
    let front : List SystemId = parts.0 in
    let same : parts.1 ≡ y = path_ends g a y parts.1 front (subst (IsPath g a y) parts.2 w) in
    let whole : z ∷ zs ≡ front ++ y ∷ [] = parts.2 ∙ ap (λ t. front ++ t ∷ []) same in
    let long : length front ≡ n = omega (arith, ap length whole, e, length-append front (y ∷ [])) in
    let cut : take n (z ∷ zs) ≡ front = (λ i. take (sym long i) (whole i)) ∙ take-append_seam front (y ∷ []) in
    whole ∙ ap (λ t. t ++ y ∷ []) (sym cut)

-- of two paths of one length that end at one bridge, the ids compare as those before that bridge
ids_by_fronts : (s : Search) (l o : Label) (y : SystemId) → IsLabel s y o → length o.bridges.items ≡ length l.bridges.items + 1 → slice_cmp id_cmp (longer_ids s l y) (ids_of s o.bridges.items) ≡ slice_cmp id_cmp (ids_of s l.bridges.items) (ids_of s (take (length l.bridges.items) o.bridges.items))
ids_by_fronts s l o y old e =
    let f : SystemId → List ℕ = masked_id (graph_of s) s.mask in
    let p = l.bridges.items in
    let q = take (length p) o.bridges.items in
    let whole : o.bridges.items ≡ q ++ y ∷ [] = last_off (graph_of s) s.source y o.bridges.items (length p) old.path e in
    let long : length q ≡ length p = omega (arith, ap length whole, e, length-append q (y ∷ [])) in
    let same : length (map f p) ≡ length (map f q) = length-map p f ∙ (sym long ∙ sym (length-map q f)) in
    (λ i. slice_cmp id_cmp (sorted_ids (map-snoc f p y i)) (sorted_ids ((ap (map f) whole ∙ map-snoc f q y) i))) ∙
    before_end (map f p) (map f q) (f y) same

-- costs more, or as much and has more hops: it isn't below
pub tells_not : (s : Search) (l o : Label) (y : SystemId) (cost : ℕ) → IsLabel s y o → cost ≡ longer_cost s l y → lengths_cmp cost l o ≡ Greater → IsLow s l y (Some o)
tells_not s l o y cost old e greater =
    let key = keys_by_lengths s l o y cost old e ∙ ap (λ t. ordering_then t (slice_cmp id_cmp (longer_ids s l y) (ids_of s o.bridges.items))) greater in
    (o, refl, λ below. let t : Less ≡ Greater = sym below ∙ key in absurd (cc))

nat_more : (m n : ℕ) → n < m → nat_cmp m n ≡ Greater
nat_more m n h = by (nat_cmp m n) (ranked m n (nat_cmp m n) refl)
  where
    by : (o : Ordering) → MatchOrdering o (m < n) (m ≡ n) (n < m) → o ≡ Greater
    by Less k = absurd (omega (arith, h, k))
    by Equal k = absurd (omega (arith, h, k))
    by Greater k = refl

-- what costs more isn't lower
pub dearer_is_not : (s : Search) (l o : Label) (y : SystemId) (cost : ℕ) → IsLabel s y o → cost ≡ longer_cost s l y → o.cost < cost → IsLow s l y (Some o)
dearer_is_not s l o y cost old e more =
    tells_not s l o y cost old e (ap (λ t. ordering_then t (nat_cmp (length l.bridges.items + 1) (length o.bridges.items))) (nat_more cost o.cost more))

lt_is : (o : Ordering) → is_lt o ≡ true → o ≡ Less
lt_is Less h = refl
lt_is Equal h = absurd (true≢false (sym h))
lt_is Greater h = absurd (true≢false (sym h))

-- a tie is told by the ids
tie_key : (s : Search) (l o : Label) (y : SystemId) (cost : ℕ) → IsLabel s y o → cost ≡ longer_cost s l y → lengths_cmp cost l o ≡ Equal → length o.bridges.items ≡ length l.bridges.items + 1 → key_cmp (longer_key s l y) (key_of (graph_of s) s.mask o.bridges.items) ≡ slice_cmp id_cmp (ids_of s l.bridges.items) (ids_of s (take (length l.bridges.items) o.bridges.items))
tie_key s l o y cost old e tie long =
    keys_by_lengths s l o y cost old e ∙ (ap (λ t. ordering_then t (slice_cmp id_cmp (longer_ids s l y) (ids_of s o.bridges.items))) tie ∙ ids_by_fronts s l o y old long)

-- where they are lower, it is left whether the path passes the bridge
pub tells_won : (s : Search) (l o : Label) (y : SystemId) (cost : ℕ) (passes : Bool) → IsLabel s y o → cost ≡ longer_cost s l y → lengths_cmp cost l o ≡ Equal → length o.bridges.items ≡ length l.bridges.items + 1 → HasLowerIds s l o true → MatchBool passes (IsAmong y l.bridges.items) (IsAmong y l.bridges.items → ⊥) → Tells s l y (Some o) (not passes)
tells_won s l o y cost true old e tie long ids m = λ free. absurd (free m)
tells_won s l o y cost false old e tie long ids m =
    (m, λ k f. subst (λ (t : Label). IsBelow (longer_key s l y) (key_of (graph_of s) s.mask t.bridges.items)) (same_Some o k f) (tie_key s l o y cost old e tie long ∙ lt_is _ (sym ids)))

-- where they aren't, the path isn't lower
pub tells_lost : (s : Search) (l o : Label) (y : SystemId) (cost : ℕ) → IsLabel s y o → cost ≡ longer_cost s l y → lengths_cmp cost l o ≡ Equal → length o.bridges.items ≡ length l.bridges.items + 1 → HasLowerIds s l o false → Tells s l y (Some o) false
tells_lost s l o y cost old e tie long ids =
    λ off. (o, refl, λ below. true≢false (sym (ap is_lt (sym (tie_key s l o y cost old e tie long) ∙ below)) ∙ sym ids))

-- a path with one bridge more that was told lower is a lower label
pub lower_label : (s : Search) (arc : Arc) (l new : Label) (old : Option Label) (cost : ℕ) (y : SystemId) → IsValid (graph_of s) → Extends s arc l → IsBridgeAt (graph_of s) arc.to y → cost ≡ longer_cost s l y → Tells s l y old true → IsExtended l y cost new → IsLower s l y old new
lower_label s arc l new old cost y valid ext here e told new_is =
    let g = graph_of s in
    let p = l.bridges.items in
    let same : ext.1 ≡ y = at_same g arc.to ext.1 y ext.2.to here in
    let joined : IsSome (cost_between g ext.0 y) = subst (λ t. IsSome (cost_between g ext.0 t)) same (subst (λ o. IsSome o) (sym ext.2.cost) refl) in
    let path : IsPath g s.source y (p ++ y ∷ []) = path_snoc g s.source ext.0 y p ext.3.path joined (at_among (systems_of g.bridges) arc.to y here) told.0 in
    record {
      label = record { path = subst (IsPath g s.source y) (sym new_is.longer) path; cost_is = new_is.cost_is ∙ (e ∙ ap (cost_of g) (sym new_is.longer)) };
      longer = new_is.longer;
      free = told.0;
      below = told.1;
    }

any_among : (x : SystemId) (xs : List SystemId) → list_any (λ y. same_system y x) xs ≡ true → IsAmong x xs
any_among x [] h = absurd (true≢false (sym h))
any_among x (y ∷ ys) h = by (same_system y x) refl h (any_among x ys)
  where
    by : (t : Bool) → same_system y x ≡ t → (t || list_any (λ y. same_system y x) ys) ≡ true → (list_any (λ y. same_system y x) ys ≡ true → IsAmong x ys) → IsAmong x (y ∷ ys)
    by true e k ih = inl (sym (same_is y x e))
    by false e k ih = inr (ih k)

among_any : (x : SystemId) (xs : List SystemId) → IsAmong x xs → list_any (λ y. same_system y x) xs ≡ true
among_any x [] h = absurd h
among_any x (y ∷ ys) (inl e) = ap (λ t. t || list_any (λ y. same_system y x) ys) (subst (λ t. same_system t x ≡ true) e (same_self x))
among_any x (y ∷ ys) (inr h) = or_true (same_system y x) (list_any (λ y. same_system y x) ys) (among_any x ys h)
  where
    or_true : (a b : Bool) → b ≡ true → (a || b) ≡ true
    or_true true b h = refl
    or_true false b h = h

-- what `contains` answers says whether the bridge is on the path
pub passes_is : (x : SystemId) (xs : List SystemId) (t : Bool) → t ≡ list_any (λ y. same_system y x) xs → MatchBool t (IsAmong x xs) (IsAmong x xs → ⊥)
passes_is x xs true e = any_among x xs (sym e)
passes_is x xs false e = λ i. true≢false (sym (e ∙ among_any x xs i))
