-- Steps of a search for best paths: a best path is a best path and one edge more; edges, their costs and how far costs go.
use Rattle.std.proofs.Common.{◌↔◌, ◌≡◌, ℕ, ◌+◌, ◌*◌, ◌^◌, ◌<◌, ◌≤◌, Bool, true, false, true≢false, ◌&&◌, ◌||◌, ◌⊎◌, inl, inr, List, [], ◌∷◌, ◌++◌, length, Some, IsSome, unwrap_or, if◌then◌else◌, refl, sym, ap, ◌∙◌, subst, arith, append_assoc}
use Rattle.std.specs.List.{AllByRecursion}
use Rattle.spb_types.specs.Address.{same_system}
use Rattle.spb_types.specs.Graph.{IsAmong, IsDistinct, IsBridge, IsValid, IsEdgeOf, OneEdge, joins, cost_among, cost_between}
use Rattle.spb_types.specs.declared.address.SystemId.{SystemId}
use Rattle.spb_types.specs.declared.graph.Edge.{Edge}
use Rattle.spb_types.specs.declared.graph.Graph.{Graph}
use Rattle.ect_trees.specs.Path.{Leads, IsPath, cost_along, cost_of, hops_of}
use Rattle.ect_trees.specs.Key.{key_of, IsBelow}
use Rattle.ect_trees.specs.Best.{IsBest}
use Rattle.ect_trees.proofs.Among.{same_is, same_self, among_right}
use Rattle.ect_trees.proofs.Members.{Has}
use Rattle.ect_trees.proofs.Walks.{leads_end, path_single, step, path_length}
use Rattle.ect_trees.proofs.Least.{best_front, lists_eq_or_not}
use Rattle.spb_types.specs.declared.limits.TheConstants.{GREATEST_METRIC, MOST_GRAPH_BRIDGES}

-- a list that isn't empty has a last element
pub front_and_last : (x : SystemId) (xs : List SystemId) → (l : List SystemId) × (z : SystemId) × (x ∷ xs ≡ l ++ z ∷ [])
front_and_last x [] = ([], x, refl)
front_and_last x (y ∷ ys) = let s = front_and_last y ys in (x ∷ s.0, s.1, ap (λ t. x ∷ t) s.2)

leads_last : (g : Graph) (a b x y : SystemId) (l : List SystemId) → Leads g a (l ++ x ∷ y ∷ []) b → IsSome (cost_between g x y) × (y ≡ b)
leads_last g a b x y [] h = (h.2.1, h.2.2.1)
leads_last g a b x y (z ∷ l) h = leads_last g z b x y l h.2

-- the last two bridges of a path are joined, and the last is where it ends
pub path_last : (g : Graph) (a b x y : SystemId) (l : List SystemId) → IsPath g a b (l ++ x ∷ y ∷ []) → IsSome (cost_between g x y) × (y ≡ b)
path_last g a b x y [] w = (w.1.1, w.1.2.1)
path_last g a b x y (z ∷ l) w = leads_last g z b x y l w.1

leads_only : (g : Graph) (a b x : SystemId) (l : List SystemId) → Leads g a (l ++ x ∷ []) b → x ≡ b
leads_only g a b x [] h = h.2.1
leads_only g a b x (z ∷ l) h = leads_only g z b x l h.2

-- a path ends with its end
pub path_ends : (g : Graph) (a b x : SystemId) (l : List SystemId) → IsPath g a b (l ++ x ∷ []) → x ≡ b
path_ends g a b x [] w = w.1.1
path_ends g a b x (z ∷ l) w = leads_only g z b x l w.1

-- p is q with one bridge more, y, at the end of an edge from x, where q is best to x
pub record IsStep (g : Graph) (mask : ℕ) (a y : SystemId) (p : List SystemId) (x : SystemId) (q : List SystemId) : Type 0 where
  pub whole : p ≡ q ++ y ∷ []
  pub best : IsBest g mask a x q
  pub joined : IsSome (cost_between g x y)

-- a best path is the path of one bridge, or a best path with one bridge more
pub best_step : (g : Graph) (mask : ℕ) (a y : SystemId) (p : List SystemId) → IsValid g → IsBest g mask a y p → ((p ≡ a ∷ []) × (y ≡ a)) ⊎ ((x : SystemId) × (q : List SystemId) × IsStep g mask a y p x q)
best_step g mask a y [] valid h = absurd h.path
best_step g mask a y (z ∷ []) valid h = let e : z ≡ a = h.path.0 in let f : z ≡ y = h.path.1.1 in inl (ap (λ t. t ∷ []) e, sym f ∙ e)
best_step g mask a y (z ∷ t ∷ ts) valid h = from_last (front_and_last t ts)
  where
    from_last : (l : List SystemId) × (u : SystemId) × (t ∷ ts ≡ l ++ u ∷ []) → ((z ∷ t ∷ ts ≡ a ∷ []) × (y ≡ a)) ⊎ ((x : SystemId) × (q : List SystemId) × IsStep g mask a y (z ∷ t ∷ ts) x q)
    from_last s =
        let m = front_and_last z s.0 in
        let whole : z ∷ t ∷ ts ≡ (z ∷ s.0) ++ s.1 ∷ [] = ap (λ r. z ∷ r) s.2 in
        let split : z ∷ t ∷ ts ≡ m.0 ++ m.1 ∷ s.1 ∷ [] = whole ∙ (ap (λ r. r ++ s.1 ∷ []) m.2 ∙ append_assoc m.0 (m.1 ∷ []) (s.1 ∷ [])) in
        let best : IsBest g mask a y (m.0 ++ m.1 ∷ s.1 ∷ []) = subst (λ r. IsBest g mask a y r) split h in
        let last = path_last g a y m.1 s.1 m.0 best.path in
        let front : IsBest g mask a m.1 (m.0 ++ m.1 ∷ []) = best_front g mask a y m.1 m.0 (s.1 ∷ []) valid best in
        inr (
          m.1,
          z ∷ s.0,
          record {
            whole = whole ∙ ap (λ r. (z ∷ s.0) ++ r ∷ []) last.1;
            best = subst (λ r. IsBest g mask a m.1 r) (sym m.2) front;
            joined = subst (λ r. IsSome (cost_between g m.1 r)) last.1 last.0;
          },
        )

step_low_high : (g : Graph) (es : List Edge) (x y : SystemId) → AllByRecursion (λ e. IsEdgeOf g e) es → unwrap_or (cost_among es x y) 0 ≤ GREATEST_METRIC
step_low_high g [] x y v = omega arith
step_low_high g (e ∷ es) x y v = high_at (joins e x y) (step_low_high g es x y v.1)
  where
    high_at : (b : Bool) → unwrap_or (cost_among es x y) 0 ≤ GREATEST_METRIC → unwrap_or (if b then Some e.cost else cost_among es x y) 0 ≤ GREATEST_METRIC
    high_at true h = v.0.high
    high_at false h = h

-- an edge costs at most 16,777,214
pub step_high : (g : Graph) (x y : SystemId) → IsValid g → step g x y ≤ GREATEST_METRIC
step_high g x y v = step_low_high g g.edges x y v.edges

along_high : (g : Graph) (x : SystemId) (xs : List SystemId) → IsValid g → cost_along g x xs ≤ length xs * GREATEST_METRIC
along_high g x [] v = omega arith
along_high g x (y ∷ ys) v = let h = along_high g y ys v in let s = step_high g x y v in omega (arith, h, s)

-- and a path so much for each hop
pub cost_high : (g : Graph) (p : List SystemId) → IsValid g → cost_of g p ≤ hops_of p * GREATEST_METRIC
cost_high g [] v = omega arith
cost_high g (x ∷ xs) v = let h = along_high g x xs v in omega (arith, h)

-- a path has at most 65,535 bridges
pub path_few : (g : Graph) (a b : SystemId) (p : List SystemId) → IsValid g → IsPath g a b p → length p ≤ MOST_GRAPH_BRIDGES
path_few g a b p v w = omega (arith, path_length g a b p w, v.few)

-- so its cost and that of one edge more is a number of 64 bits, and its hops and one more one of 32
pub path_fits : (g : Graph) (a b : SystemId) (p : List SystemId) → IsValid g → IsPath g a b p → (cost_of g p + GREATEST_METRIC < 2 ^ 64) × (hops_of p + 1 < 2 ^ 32)
path_fits g a b p v w = let h = cost_high g p v in let f = path_few g a b p v w in (omega (arith, h, f), omega (arith, f))

and_parts : (a b : Bool) → (a && b) ≡ true → (a ≡ true) × (b ≡ true)
and_parts true b h = (refl, h)
and_parts false b h = absurd (true≢false (sym h))

joins_at : (a b : Bool) (P : Type 0) → (a || b) ≡ true → (a ≡ true → P) → (b ≡ true → P) → P
joins_at true b P h f k = f refl
joins_at false b P h f k = k h

-- the edge joins its own ends
pub joins_ends : (e : Edge) → joins e e.a e.b ≡ true
joins_ends e = rw (same_self e.a, same_self e.b) refl

-- an edge that joins x and y leads from x to y or from y to x
pub joins_is : (e : Edge) (x y : SystemId) → joins e x y ≡ true → ((e.a ≡ x) × (e.b ≡ y)) ⊎ ((e.a ≡ y) × (e.b ≡ x))
joins_is e x y h =
    joins_at (same_system e.a x && same_system e.b y) (same_system e.a y && same_system e.b x) (((e.a ≡ x) × (e.b ≡ y)) ⊎ ((e.a ≡ y) × (e.b ≡ x))) h
    (λ p. let q = and_parts (same_system e.a x) (same_system e.b y) p in inl (same_is e.a x q.0, same_is e.b y q.1))
    (λ p. let q = and_parts (same_system e.a y) (same_system e.b x) p in inr (same_is e.a y q.0, same_is e.b x q.1))

edge_among : (es : List Edge) (x y : SystemId) → IsSome (cost_among es x y) → (e : Edge) × Has e es × (joins e x y ≡ true) × (cost_among es x y ≡ Some e.cost)
edge_among [] x y s = absurd (true≢false (sym s))
edge_among (e ∷ es) x y s = edge_at (joins e x y) refl s (edge_among es x y)
  where
    edge_at : (b : Bool) → joins e x y ≡ b → IsSome (if b then Some e.cost else cost_among es x y) → (IsSome (cost_among es x y) → (f : Edge) × Has f es × (joins f x y ≡ true) × (cost_among es x y ≡ Some f.cost)) → (f : Edge) × Has f (e ∷ es) × (joins f x y ≡ true) × ((if b then Some e.cost else cost_among es x y) ≡ Some f.cost)
    edge_at true j s h = (e, inl refl, j, refl)
    edge_at false j s h = let r = h s in (r.0, inr r.1, r.2, r.3)

-- bridges that are joined have an edge between them, with that cost
pub edge_between : (g : Graph) (x y : SystemId) → IsSome (cost_between g x y) → (e : Edge) × Has e g.edges × (joins e x y ≡ true) × (cost_between g x y ≡ Some e.cost)
edge_between g x y s = edge_among g.edges x y s

all_has : (g : Graph) (es : List Edge) (e : Edge) → AllByRecursion (λ f. IsEdgeOf g f) es → Has e es → IsEdgeOf g e
all_has g [] e v h = absurd h
all_has g (f ∷ es) e v (inl i) = subst (λ t. IsEdgeOf g t) (sym i) v.0
all_has g (f ∷ es) e v (inr i) = all_has g es e v.1 i

-- an edge of the graph is one that a valid graph may have
pub edge_valid : (g : Graph) (e : Edge) → IsValid g → Has e g.edges → IsEdgeOf g e
edge_valid g e v h = all_has g g.edges e v.edges h

-- joined bridges are bridges of the graph
pub joined_bridges : (g : Graph) (x y : SystemId) → IsValid g → IsSome (cost_between g x y) → IsBridge g x × IsBridge g y
joined_bridges g x y v s = ends_at (edge_between g x y s)
  where
    ends_at : (e : Edge) × Has e g.edges × (joins e x y ≡ true) × (cost_between g x y ≡ Some e.cost) → IsBridge g x × IsBridge g y
    ends_at r =
        let edge = edge_valid g r.0 v r.1 in
        elim (joins_is r.0 x y r.2) [
          | inl i ↦ (subst (λ t. IsBridge g t) i.0 edge.from, subst (λ t. IsBridge g t) i.1 edge.to)
          | inr i ↦ (subst (λ t. IsBridge g t) i.1 edge.to, subst (λ t. IsBridge g t) i.0 edge.from)
        ]

pub first_joins : (f e : Edge) (es : List Edge) → AllByRecursion (λ h. joins f h.a h.b ≡ false) es → Has e es → joins f e.a e.b ≡ false
first_joins f e [] v h = absurd h
first_joins f e (d ∷ es) v (inl i) = subst (λ t. joins f t.a t.b ≡ false) (sym i) v.0
first_joins f e (d ∷ es) v (inr i) = first_joins f e es v.1 i

cost_has : (es : List Edge) (e : Edge) → OneEdge es → Has e es → cost_among es e.a e.b ≡ Some e.cost
cost_has [] e o h = absurd h
cost_has (f ∷ es) e o (inl i) = rw (subst (λ t. joins t e.a e.b ≡ true) i (joins_ends e)) (ap (λ t. Some t.cost) (sym i))
cost_has (f ∷ es) e o (inr i) = rw (first_joins f e es o.0 i) (cost_has es e o.1 i)

-- the cost between the ends of an edge of a valid graph is its cost
pub cost_of_edge : (g : Graph) (e : Edge) → IsValid g → Has e g.edges → cost_between g e.a e.b ≡ Some e.cost
cost_of_edge g e v h = cost_has g.edges e v.one_edge h

-- the path from a bridge to itself is that bridge alone
pub path_to_itself : (g : Graph) (a : SystemId) (p : List SystemId) → IsPath g a a p → p ≡ a ∷ []
path_to_itself g a [] w = absurd w
path_to_itself g a (x ∷ []) w = ap (λ t. t ∷ []) w.0
path_to_itself g a (x ∷ y ∷ ys) w = absurd (w.2.0 (subst (λ t. IsAmong t (y ∷ ys)) (sym w.0) (leads_end g y a ys w.1.2)))

pub best_to_itself : (g : Graph) (mask : ℕ) (a : SystemId) (p : List SystemId) → IsBridge g a → IsBest g mask a a p ↔ (p ≡ a ∷ [])
best_to_itself g mask a p h = ((λ k. path_to_itself g a p k.path), (λ e. subst (λ q. IsBest g mask a a q) (sym e) alone))
  where
    alone : IsBest g mask a a (a ∷ [])
    alone = record { path = path_single g a h; below = λ q w d. absurd (d (path_to_itself g a q w)) }

-- the last of distinct bridges is none of the others
pub distinct_end : (xs : List SystemId) (y : SystemId) → IsDistinct (xs ++ y ∷ []) → IsAmong y xs → ⊥
distinct_end [] y d h = h
distinct_end (x ∷ xs) y d (inl e) = d.0 (among_right x xs (y ∷ []) (inl (sym e)))
distinct_end (x ∷ xs) y d (inr h) = distinct_end xs y d.1 h

-- a path that the best one isn't below is the best one
pub same_as_best : (g : Graph) (mask : ℕ) (a b : SystemId) (p q : List SystemId) → IsBest g mask a b p → IsPath g a b q → (IsBelow (key_of g mask p) (key_of g mask q) → ⊥) → q ≡ p
same_as_best g mask a b p q best w n = elim (lists_eq_or_not q p) [ inl e ↦ e | inr d ↦ absurd (n (best.below q w d)) ]
