-- Paths of a graph: one bridge more at an end, reversal, and the parts at a bridge; their costs and their ids.
use Rattle.std.proofs.Common.{◌≡◌, ℕ, suc, ◌+◌, ◌-◌, ◌≤◌, Bool, true, false, ◌&&◌, ◌||◌, if◌then◌else◌, true≢false, inl, inr, List, [], ◌∷◌, ◌++◌, length, map, reverse, Some, IsSome, unwrap_or, refl, sym, ap, ◌∙◌, subst, arith, length-append}
use Rattle.std.specs.List.{AllByRecursion}
use Rattle.std.proofs.lemmas.List.{length-reverse}
use Rattle.spb_types.specs.Address.{same_system}
use Rattle.spb_types.specs.Graph.{IsAmong, IsDistinct, IsBridge, joins, cost_among, cost_between, IsEdgeOf, IsValid, systems_of}
use Rattle.spb_types.specs.declared.address.SystemId.{SystemId}
use Rattle.spb_types.specs.declared.graph.Edge.{Edge}
use Rattle.spb_types.specs.declared.graph.GraphBridge.{GraphBridge}
use Rattle.spb_types.specs.declared.graph.Graph.{Graph}
use Rattle.ect_trees.specs.Path.{Leads, IsPath, cost_along, cost_of, hops_of}
use Rattle.ect_trees.specs.Key.{masked_id, inserted, sorted_ids}
use Rattle.ect_trees.proofs.Among.{among_left, distinct_snoc, distinct_back, among_reverse, reverse-cons, length-within}
use Rattle.ect_trees.proofs.Placing.{sorted-snoc}

or_comm : (a b : Bool) → (a || b) ≡ (b || a)
or_comm true true = refl
or_comm true false = refl
or_comm false true = refl
or_comm false false = refl

pub joins_comm : (e : Edge) (x y : SystemId) → joins e x y ≡ joins e y x
joins_comm e x y = or_comm (same_system e.a x && same_system e.b y) (same_system e.a y && same_system e.b x)

cost_among_comm : (es : List Edge) (x y : SystemId) → cost_among es x y ≡ cost_among es y x
cost_among_comm [] x y = refl
cost_among_comm (e ∷ es) x y =
    ap (λ b. if b then Some e.cost else cost_among es x y) (joins_comm e x y) ∙ ap (λ o. if joins e y x then Some e.cost else o) (cost_among_comm es x y)

-- the cost of an edge is the same both ways
pub cost_comm : (g : Graph) (x y : SystemId) → cost_between g x y ≡ cost_between g y x
cost_comm g x y = cost_among_comm g.edges x y

-- the cost of one step
abbrev pub step : Graph → SystemId → SystemId → ℕ
step g x y = unwrap_or (cost_between g x y) 0

pub step_comm : (g : Graph) (x y : SystemId) → step g x y ≡ step g y x
step_comm g x y = ap (λ o. unwrap_or o 0) (cost_comm g x y)

step_among : (g : Graph) (es : List Edge) (x y : SystemId) → AllByRecursion (λ e. IsEdgeOf g e) es → IsSome (cost_among es x y) → 1 ≤ unwrap_or (cost_among es x y) 0
step_among g [] x y v s = absurd (true≢false (sym s))
step_among g (e ∷ es) x y v s = step_at (joins e x y) s (step_among g es x y v.1)
  where
    step_at : (b : Bool) → IsSome (if b then Some e.cost else cost_among es x y) → (IsSome (cost_among es x y) → 1 ≤ unwrap_or (cost_among es x y) 0) → 1 ≤ unwrap_or (if b then Some e.cost else cost_among es x y) 0
    step_at true s h = v.0.low
    step_at false s h = h s

-- each edge costs at least 1
pub step_positive : (g : Graph) (x y : SystemId) → IsValid g → IsSome (cost_between g x y) → 1 ≤ step g x y
step_positive g x y v s = step_among g g.edges x y v.edges s

pub leads_bridges : (g : Graph) (a b z : SystemId) (xs : List SystemId) → Leads g a xs b → IsAmong z (a ∷ xs) → IsBridge g z
leads_bridges g a b z [] l (inl e) = subst (λ t. IsBridge g t) (sym e) l.0
leads_bridges g a b z [] l (inr i) = absurd i
leads_bridges g a b z (x ∷ xs) l (inl e) = subst (λ t. IsBridge g t) (sym e) l.0
leads_bridges g a b z (x ∷ xs) l (inr i) = leads_bridges g x b z xs l.2 i

-- each member of a path is a bridge of the graph
pub path_bridges : (g : Graph) (a b z : SystemId) (p : List SystemId) → IsPath g a b p → IsAmong z p → IsBridge g z
path_bridges g a b z [] w i = absurd w
path_bridges g a b z (x ∷ xs) w i = leads_bridges g x b z xs w.1 i

pub path_distinct : (g : Graph) (a b : SystemId) (p : List SystemId) → IsPath g a b p → IsDistinct p
path_distinct g a b [] w = absurd w
path_distinct g a b (x ∷ xs) w = w.2

pub length-systems : (bs : List GraphBridge) → length (systems_of bs) ≡ length bs
length-systems [] = refl
length-systems (b ∷ bs) = ap suc (length-systems bs)

-- a path has at most as many bridges as the graph
pub path_length : (g : Graph) (a b : SystemId) (p : List SystemId) → IsPath g a b p → length p ≤ length g.bridges
path_length g a b p w =
    let h : length p ≤ length (systems_of g.bridges) = length-within p (systems_of g.bridges) (path_distinct g a b p w) (λ x i. path_bridges g a b x p w i) in
    omega (arith, h, length-systems g.bridges)

-- a walk's end is on it
pub leads_end : (g : Graph) (a b : SystemId) (xs : List SystemId) → Leads g a xs b → IsAmong b (a ∷ xs)
leads_end g a b [] l = inl (sym l.1)
leads_end g a b (x ∷ xs) l = inr (leads_end g x b xs l.2)

-- both ends are on the path
pub path_end : (g : Graph) (a b : SystemId) (p : List SystemId) → IsPath g a b p → IsAmong b p
path_end g a b [] w = absurd w
path_end g a b (x ∷ xs) w = leads_end g x b xs w.1

pub path_start : (g : Graph) (a b : SystemId) (p : List SystemId) → IsPath g a b p → IsAmong a p
path_start g a b [] w = absurd w
path_start g a b (x ∷ xs) w = inl (sym w.0)

leads_snoc : (g : Graph) (a x y : SystemId) (xs : List SystemId) → Leads g a xs x → IsSome (cost_between g x y) → IsBridge g y → Leads g a (xs ++ y ∷ []) y
leads_snoc g a x y [] l s b = (l.0, subst (λ t. IsSome (cost_between g t y)) (sym l.1) s, (b, refl))
leads_snoc g a x y (z ∷ xs) l s b = (l.0, l.1, leads_snoc g z x y xs l.2 s b)

-- a path with one bridge more, joined to its last and not on it, is a path
pub path_snoc : (g : Graph) (a x y : SystemId) (p : List SystemId) → IsPath g a x p → IsSome (cost_between g x y) → IsBridge g y → (IsAmong y p → ⊥) → IsPath g a y (p ++ y ∷ [])
path_snoc g a x y [] w s b n = absurd w
path_snoc g a x y (z ∷ xs) w s b n = (w.0, leads_snoc g z x y xs w.1 s b, distinct_snoc (z ∷ xs) y w.2 n)

-- the same at its start
pub path_cons : (g : Graph) (a b x : SystemId) (p : List SystemId) → IsPath g x b p → IsSome (cost_between g a x) → IsBridge g a → (IsAmong a p → ⊥) → IsPath g a b (a ∷ p)
path_cons g a b x [] w s h n = absurd w
path_cons g a b x (z ∷ xs) w s h n = (refl, (h, subst (λ t. IsSome (cost_between g a t)) (sym w.0) s, w.1), (n, w.2))

-- the path of one bridge
pub path_single : (g : Graph) (a : SystemId) → IsBridge g a → IsPath g a a (a ∷ [])
path_single g a h = (refl, (h, refl), ((λ i. i), tt))

reverse_from : (g : Graph) (x b : SystemId) (xs : List SystemId) → Leads g x xs b → IsDistinct (x ∷ xs) → IsPath g b x (reverse (x ∷ xs))
reverse_from g x b [] l d = (l.1, (l.0, refl), d)
reverse_from g x b (y ∷ ys) l d =
    let back : IsPath g b y (reverse (y ∷ ys)) = reverse_from g y b ys l.2 d.1 in
    let joined : IsSome (cost_between g y x) = subst (λ o. IsSome o) (cost_comm g x y) l.1 in
    subst (λ t. IsPath g b x t) (sym (reverse-cons x (y ∷ ys))) (path_snoc g b y x (reverse (y ∷ ys)) back joined l.0 (λ i. d.0 (among_reverse x (y ∷ ys) i)))

-- a path in reverse is a path back
pub path_reverse : (g : Graph) (a b : SystemId) (p : List SystemId) → IsPath g a b p → IsPath g b a (reverse p)
path_reverse g a b [] w = absurd w
path_reverse g a b (x ∷ xs) w = subst (λ t. IsPath g b t (reverse (x ∷ xs))) w.0 (reverse_from g x b xs w.1 w.2)

leads_back : (g : Graph) (a b x : SystemId) (l r : List SystemId) → Leads g a (l ++ x ∷ r) b → Leads g x r b
leads_back g a b x [] r h = h.2
leads_back g a b x (z ∷ l) r h = leads_back g z b x l r h.2

-- the part of a path from a bridge on it is a path
pub path_back : (g : Graph) (a b x : SystemId) (l r : List SystemId) → IsPath g a b (l ++ x ∷ r) → IsPath g x b (x ∷ r)
path_back g a b x [] r w = (refl, w.1, w.2)
path_back g a b x (z ∷ l) r w = (refl, leads_back g z b x l r w.1, distinct_back (z ∷ l) (x ∷ r) w.2)

leads_front : (g : Graph) (a b x : SystemId) (l r : List SystemId) → Leads g a (l ++ x ∷ r) b → Leads g a (l ++ x ∷ []) x
leads_front g a b x [] [] h = (h.0, h.1, (h.2.0, refl))
leads_front g a b x [] (y ∷ r) h = (h.0, h.1, (h.2.0, refl))
leads_front g a b x (z ∷ l) r h = (h.0, h.1, leads_front g z b x l r h.2)

distinct_front : (l r : List SystemId) → IsDistinct (l ++ r) → IsDistinct l
distinct_front [] r d = tt
distinct_front (x ∷ l) r d = ((λ i. d.0 (among_left x l r i)), distinct_front l r d.1)

front_whole : (x : SystemId) (l r : List SystemId) → l ++ x ∷ r ≡ (l ++ x ∷ []) ++ r
front_whole x [] r = refl
front_whole x (z ∷ l) r = ap (λ t. z ∷ t) (front_whole x l r)

-- the part of a path up to a bridge on it is a path
pub path_front : (g : Graph) (a b x : SystemId) (l r : List SystemId) → IsPath g a b (l ++ x ∷ r) → IsPath g a x (l ++ x ∷ [])
path_front g a b x [] [] w = (w.0, (w.1.0, refl), ((λ i. i), tt))
path_front g a b x [] (y ∷ r) w = (w.0, (w.1.0, refl), ((λ i. i), tt))
path_front g a b x (z ∷ l) r w = (w.0, leads_front g z b x l r w.1, distinct_front (z ∷ l ++ x ∷ []) r (subst (λ t. IsDistinct t) (ap (λ t. z ∷ t) (front_whole x l r)) w.2))

along_snoc : (g : Graph) (a x y : SystemId) (xs : List SystemId) → Leads g a xs x → cost_along g a (xs ++ y ∷ []) ≡ cost_along g a xs + step g x y
along_snoc g a x y [] l = let e : step g a y ≡ step g x y = ap (λ t. step g t y) l.1 in omega (arith, e)
along_snoc g a x y (z ∷ xs) l = let e : cost_along g z (xs ++ y ∷ []) ≡ cost_along g z xs + step g x y = along_snoc g z x y xs l.2 in omega (arith, e)

-- one bridge more adds the cost of its edge
pub cost-snoc : (g : Graph) (a x y : SystemId) (p : List SystemId) → IsPath g a x p → cost_of g (p ++ y ∷ []) ≡ cost_of g p + step g x y
cost-snoc g a x y [] w = absurd w
cost-snoc g a x y (z ∷ xs) w = along_snoc g z x y xs w.1

-- and one hop
pub hops-snoc : (g : Graph) (a x y : SystemId) (p : List SystemId) → IsPath g a x p → hops_of (p ++ y ∷ []) ≡ suc (hops_of p)
hops-snoc g a x y [] w = absurd w
hops-snoc g a x y (z ∷ xs) w = omega (arith, length-append xs (y ∷ []))

-- and places its id among the others
pub map-snoc : (f : SystemId → List ℕ) (p : List SystemId) (y : SystemId) → map f (p ++ y ∷ []) ≡ map f p ++ f y ∷ []
map-snoc f [] y = refl
map-snoc f (x ∷ xs) y = ap (λ t. f x ∷ t) (map-snoc f xs y)

pub ids-snoc : (g : Graph) (mask : ℕ) (y : SystemId) (p : List SystemId) → sorted_ids (map (masked_id g mask) (p ++ y ∷ [])) ≡ inserted (masked_id g mask y) (sorted_ids (map (masked_id g mask) p))
ids-snoc g mask y p = ap sorted_ids (map-snoc (masked_id g mask) p y) ∙ sorted-snoc (map (masked_id g mask) p) (masked_id g mask y)

along_back : (g : Graph) (a x : SystemId) (l r : List SystemId) → cost_along g x r ≤ cost_along g a (l ++ x ∷ r)
along_back g a x [] r = omega arith
along_back g a x (z ∷ l) r = let h : cost_along g x r ≤ cost_along g z (l ++ x ∷ r) = along_back g z x l r in omega (arith, h)

-- the part of a list from a bridge on costs at most as much
pub cost_back : (g : Graph) (x : SystemId) (l r : List SystemId) → cost_of g (x ∷ r) ≤ cost_of g (l ++ x ∷ r)
cost_back g x [] r = omega arith
cost_back g x (z ∷ l) r = along_back g z x l r

along_front : (g : Graph) (a x : SystemId) (l r : List SystemId) → cost_along g a (l ++ x ∷ []) ≤ cost_along g a (l ++ x ∷ r)
along_front g a x [] r = omega arith
along_front g a x (z ∷ l) r = let h : cost_along g z (l ++ x ∷ []) ≤ cost_along g z (l ++ x ∷ r) = along_front g z x l r in omega (arith, h)

-- and so does the part up to it
pub cost_front : (g : Graph) (x : SystemId) (l r : List SystemId) → cost_of g (l ++ x ∷ []) ≤ cost_of g (l ++ x ∷ r)
cost_front g x [] r = omega arith
cost_front g x (z ∷ l) r = along_front g z x l r

cost_reverse_from : (g : Graph) (x b : SystemId) (xs : List SystemId) → Leads g x xs b → IsDistinct (x ∷ xs) → cost_of g (reverse (x ∷ xs)) ≡ cost_along g x xs
cost_reverse_from g x b [] l d = refl
cost_reverse_from g x b (y ∷ ys) l d =
    let back : IsPath g b y (reverse (y ∷ ys)) = reverse_from g y b ys l.2 d.1 in
    let ih : cost_of g (reverse (y ∷ ys)) ≡ cost_along g y ys = cost_reverse_from g y b ys l.2 d.1 in
    let more : cost_of g (reverse (y ∷ ys) ++ x ∷ []) ≡ cost_of g (reverse (y ∷ ys)) + step g y x = cost-snoc g b y x (reverse (y ∷ ys)) back in
    let same : cost_of g (reverse (x ∷ y ∷ ys)) ≡ cost_of g (reverse (y ∷ ys) ++ x ∷ []) = ap (cost_of g) (reverse-cons x (y ∷ ys)) in
    let comm : step g y x ≡ step g x y = step_comm g y x in
    omega (arith, ih, more, same, comm)

pub cost-reverse : (g : Graph) (a b : SystemId) (p : List SystemId) → IsPath g a b p → cost_of g (reverse p) ≡ cost_of g p
cost-reverse g a b [] w = refl
cost-reverse g a b (x ∷ xs) w = cost_reverse_from g x b xs w.1 w.2

pub ids-reverse : (g : Graph) (mask : ℕ) (p : List SystemId) → sorted_ids (map (masked_id g mask) (reverse p)) ≡ sorted_ids (map (masked_id g mask) p)
ids-reverse g mask [] = refl
ids-reverse g mask (x ∷ xs) =
    ap (λ t. sorted_ids (map (masked_id g mask) t)) (reverse-cons x xs) ∙ (ids-snoc g mask x (reverse xs) ∙ ap (inserted (masked_id g mask x)) (ids-reverse g mask xs))

pub hops-reverse : (p : List SystemId) → hops_of (reverse p) ≡ hops_of p
hops-reverse p = ap (λ n. n - 1) (length-reverse p)
