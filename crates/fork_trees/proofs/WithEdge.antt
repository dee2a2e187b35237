-- The graph in which the edge between two bridges is changed: it is valid, and differs from the old one there alone.
use Rattle.std.proofs.Common.{◌≡◌, Bool, true, false, true≢false, not, ◌⊎◌, inl, inr, List, [], ◌∷◌, Contains, filter, Some, None, if◌then◌else◌, refl, sym, ap, ◌∙◌}
use Rattle.std.specs.List.{AllByRecursion}
use Rattle.spb_types.specs.Graph.{IsValid, IsEdgeOf, OneEdge, joins, cost_among}
use Rattle.spb_types.specs.declared.address.SystemId.{SystemId}
use Rattle.spb_types.specs.declared.graph.Edge.{Edge}
use Rattle.spb_types.specs.declared.graph.Graph.{Graph}
use Rattle.ect_trees.proofs.Members.{Has, has_filter, filter_has, has_from_contains, contains_from_has}
use Rattle.ect_trees.proofs.Walks.{joins_comm}
use Rattle.ect_trees.proofs.Steps.{joins_is}
use Rattle.fork_trees.specs.Edges.{others, edges_with, with_edge, StaysValid, EdgesStand, CostsChangeThere}

-- what holds of each edge holds of each of some of them
all_kept : (P : Edge → Type 0) (keep : Edge → Bool) (es : List Edge) → AllByRecursion P es → AllByRecursion P (filter keep es)
all_kept P keep [] h = tt
all_kept P keep (f ∷ fs) h = at (keep f) (all_kept P keep fs h.1)
  where
    at : (b : Bool) → AllByRecursion P (filter keep fs) → AllByRecursion P (if b then f ∷ filter keep fs else filter keep fs)
    at true r = (h.0, r)
    at false r = r

one_edge_kept : (keep : Edge → Bool) (es : List Edge) → OneEdge es → OneEdge (filter keep es)
one_edge_kept keep [] h = tt
one_edge_kept keep (f ∷ fs) h = at (keep f) (one_edge_kept keep fs h.1)
  where
    at : (b : Bool) → OneEdge (filter keep fs) → OneEdge (if b then f ∷ filter keep fs else filter keep fs)
    at true r = (all_kept (λ d. joins f d.a d.b ≡ false) keep fs h.0, r)
    at false r = r

-- the others don't join the ends of the edge
others_apart : (e : Edge) (es : List Edge) → AllByRecursion (λ f. joins e f.a f.b ≡ false) (others e es)
others_apart e [] = tt
others_apart e (f ∷ fs) = at (joins e f.a f.b) refl (others_apart e fs)
  where
    at : (b : Bool) → joins e f.a f.b ≡ b → AllByRecursion (λ d. joins e d.a d.b ≡ false) (others e fs) → AllByRecursion (λ d. joins e d.a d.b ≡ false) (if not b then f ∷ others e fs else others e fs)
    at true j r = r
    at false j r = (j, r)

edges_valid : (g : Graph) (e : Edge) (present : Bool) → IsValid g → IsEdgeOf g e → AllByRecursion (λ f. IsEdgeOf g f) (edges_with g.edges e present)
edges_valid g e true v i = (i, all_kept (λ f. IsEdgeOf g f) (λ f. not (joins e f.a f.b)) g.edges v.edges)
edges_valid g e false v i = all_kept (λ f. IsEdgeOf g f) (λ f. not (joins e f.a f.b)) g.edges v.edges

one_edge_with : (e : Edge) (es : List Edge) (present : Bool) → OneEdge es → OneEdge (edges_with es e present)
one_edge_with e es true o = (others_apart e es, one_edge_kept (λ f. not (joins e f.a f.b)) es o)
one_edge_with e es false o = one_edge_kept (λ f. not (joins e f.a f.b)) es o

-- edges of a graph are edges of one with the same bridges
edges_moved : (g h : Graph) (es : List Edge) → g.bridges ≡ h.bridges → AllByRecursion (λ f. IsEdgeOf g f) es → AllByRecursion (λ f. IsEdgeOf h f) es
edges_moved g h [] same v = tt
edges_moved g h (f ∷ fs) same v = (
  record {
    from = rw (← same) v.0.from;
    to = rw (← same) v.0.to;
    apart = v.0.apart;
    low = v.0.low;
    high = v.0.high;
  },
  edges_moved g h fs same v.1,
)

pub stays_valid : StaysValid
stays_valid g e present v i = record {
  few = v.few;
  apart = v.apart;
  edges = edges_moved g (with_edge g e present) (edges_with g.edges e present) refl (edges_valid g e present v i);
  one_edge = one_edge_with e g.edges present v.one_edge;
  members = tt;
}

-- ---- the edges that stand

-- whether an edge is kept
kept_is : (e f : Edge) → not (joins e f.a f.b) ≡ true → joins e f.a f.b ≡ false
kept_is e f h = at (joins e f.a f.b) h
  where
    at : (b : Bool) → not b ≡ true → b ≡ false
    at true k = sym k
    at false k = refl

filter_from : (keep : Edge → Bool) (es : List Edge) (f : Edge) → Has f (filter keep es) → Has f es
filter_from keep [] f h = h
filter_from keep (d ∷ es) f h = at (keep d) h (filter_from keep es f)
  where
    at : (b : Bool) → Has f (if b then d ∷ filter keep es else filter keep es) → (Has f (filter keep es) → Has f es) → Has f (d ∷ es)
    at true (inl i) r = inl i
    at true (inr k) r = inr (r k)
    at false k r = inr (r k)

others_has : (e f : Edge) (es : List Edge) → Has f (others e es) → Has f es × (joins e f.a f.b ≡ false)
others_has e f es h =
    (filter_from (λ d. not (joins e d.a d.b)) es f h, kept_is e f (filter_has (λ d. not (joins e d.a d.b)) f es h))

has_others : (e f : Edge) (es : List Edge) → Has f es → joins e f.a f.b ≡ false → Has f (others e es)
has_others e f es h j = has_filter (λ d. not (joins e d.a d.b)) f es h (ap not j)

pub edges_stand : EdgesStand
edges_stand g e f true = (there, back)
  where
    there : Contains (e ∷ others e g.edges) f → ((f ≡ e) × (true ≡ true)) ⊎ (Contains g.edges f × (joins e f.a f.b ≡ false))
    there c = elim (has_from_contains (e ∷ others e g.edges) f c) [
      | inl i ↦ inl (i, refl)
      | inr k ↦ (let r = others_has e f g.edges k in inr (contains_from_has g.edges f r.0, r.1))
    ]

    back : ((f ≡ e) × (true ≡ true)) ⊎ (Contains g.edges f × (joins e f.a f.b ≡ false)) → Contains (e ∷ others e g.edges) f
    back (inl i) = contains_from_has (e ∷ others e g.edges) f (inl i.0)
    back (inr k) = contains_from_has (e ∷ others e g.edges) f (inr (has_others e f g.edges (has_from_contains g.edges f k.0) k.1))
edges_stand g e f false = (there, back)
  where
    there : Contains (others e g.edges) f → ((f ≡ e) × (false ≡ true)) ⊎ (Contains g.edges f × (joins e f.a f.b ≡ false))
    there c = let r = others_has e f g.edges (has_from_contains (others e g.edges) f c) in inr (contains_from_has g.edges f r.0, r.1)

    back : ((f ≡ e) × (false ≡ true)) ⊎ (Contains g.edges f × (joins e f.a f.b ≡ false)) → Contains (others e g.edges) f
    back (inl i) = absurd (true≢false (sym i.1))
    back (inr k) = contains_from_has (others e g.edges) f (has_others e f g.edges (has_from_contains g.edges f k.0) k.1)

-- ---- costs

-- two edges that join the same bridges join each other's ends
joins_alike : (e f : Edge) (x y : SystemId) → joins f x y ≡ true → joins e f.a f.b ≡ joins e x y
joins_alike e f x y j =
    elim (joins_is f x y j) [
      | inl i ↦ ap (λ z. joins e z f.b) i.0 ∙ ap (λ z. joins e x z) i.1
      | inr i ↦ ap (λ z. joins e z f.b) i.0 ∙ (ap (λ z. joins e y z) i.1 ∙ joins_comm e y x)
    ]

-- between the ends of the edge none of the others has a cost, and between other bridges each has its own
others_cost : (e : Edge) (es : List Edge) (x y : SystemId) (b : Bool) → joins e x y ≡ b → cost_among (others e es) x y ≡ (if b then None else cost_among es x y)
others_cost e [] x y true j = refl
others_cost e [] x y false j = refl
others_cost e (f ∷ fs) x y b j = at (joins e f.a f.b) (joins f x y) b refl refl j (others_cost e fs x y b j)
  where
    at : (d c b : Bool) → joins e f.a f.b ≡ d → joins f x y ≡ c → joins e x y ≡ b → cost_among (others e fs) x y ≡ (if b then None else cost_among fs x y) → cost_among (if not d then f ∷ others e fs else others e fs) x y ≡ (if b then None else (if c then Some f.cost else cost_among fs x y))
    at true true true k l m r = r
    at true true false k l m r = absurd (true≢false (sym k ∙ (joins_alike e f x y l ∙ m)))
    at true false true k l m r = r
    at true false false k l m r = r
    at false true true k l m r = absurd (true≢false (sym m ∙ (sym (joins_alike e f x y l) ∙ k)))
    at false true false k l m r = ap (λ t. if t then Some f.cost else cost_among (others e fs) x y) l
    at false false true k l m r = ap (λ t. if t then Some f.cost else cost_among (others e fs) x y) l ∙ r
    at false false false k l m r = ap (λ t. if t then Some f.cost else cost_among (others e fs) x y) l ∙ r

pub costs_change_there : CostsChangeThere
costs_change_there g e true x y = at (joins e x y) refl
  where
    at : (b : Bool) → joins e x y ≡ b → (if b then Some e.cost else cost_among (others e g.edges) x y) ≡ (if b then Some e.cost else cost_among g.edges x y)
    at true j = refl
    at false j = others_cost e g.edges x y false j
costs_change_there g e false x y = at (joins e x y) refl
  where
    at : (b : Bool) → joins e x y ≡ b → cost_among (others e g.edges) x y ≡ (if b then None else cost_among g.edges x y)
    at true j = others_cost e g.edges x y true j
    at false j = others_cost e g.edges x y false j
