-- The edge between two bridges: its cost and its port don't depend on the order of the edges, nor of an edge's ends.
use Rattle.std.proofs.Common.{◌≡◌, ℕ, Bool, true, false, true≢false, ◌⊎◌, inl, inr, List, [], ◌∷◌, Option, Some, None, option_map, find, cond, if◌then◌else◌, refl, sym, ap, ◌∙◌, subst}
use Rattle.spb_types.specs.Address.{same_system}
use Rattle.spb_types.specs.Graph.{IsValid, OneEdge, joins, port_at, cost_among, port_among}
use Rattle.spb_types.specs.declared.address.SystemId.{SystemId}
use Rattle.spb_types.specs.declared.graph.Edge.{Edge}
use Rattle.spb_types.specs.declared.graph.Graph.{Graph}
use Rattle.ect_trees.specs.Laws.{turned, HasEdge, AreAlike, AlikeHaveSamePorts}
use Rattle.ect_trees.proofs.Among.{same_is, same_self}
use Rattle.ect_trees.proofs.Members.{Has, has_from_contains, contains_from_has}
use Rattle.ect_trees.proofs.Walks.{joins_comm}
use Rattle.ect_trees.proofs.Steps.{joins_is, joins_ends, first_joins, edge_valid}

-- the first edge that joins two bridges
abbrev pub first_edge : List Edge → SystemId → SystemId → Option Edge
first_edge es x y = find (λ e. joins e x y) es

-- has their cost and their port
pub cost_among_find : (es : List Edge) (x y : SystemId) → cost_among es x y ≡ option_map (λ e. e.cost) (first_edge es x y)
cost_among_find [] x y = refl
cost_among_find (e ∷ es) x y = by (joins e x y) (cost_among_find es x y)
  where
    by : (b : Bool) → cost_among es x y ≡ option_map (λ f. f.cost) (find (λ f. joins f x y) es) → (if b then Some e.cost else cost_among es x y) ≡ option_map (λ f. f.cost) (cond b (Some e) (find (λ f. joins f x y) es))
    by true h = refl
    by false h = h

pub port_among_find : (es : List Edge) (x y : SystemId) → port_among es x y ≡ option_map (λ e. port_at e x) (first_edge es x y)
port_among_find [] x y = refl
port_among_find (e ∷ es) x y = by (joins e x y) (port_among_find es x y)
  where
    by : (b : Bool) → port_among es x y ≡ option_map (λ f. port_at f x) (find (λ f. joins f x y) es) → (if b then Some (port_at e x) else port_among es x y) ≡ option_map (λ f. port_at f x) (cond b (Some e) (find (λ f. joins f x y) es))
    by true h = refl
    by false h = h

first_has : (es : List Edge) (x y : SystemId) (e : Edge) → first_edge es x y ≡ Some e → Has e es × (joins e x y ≡ true)
first_has [] x y e h = absurd cc
first_has (f ∷ fs) x y e h = by (joins f x y) refl h (first_has fs x y e)
  where
    by : (b : Bool) → joins f x y ≡ b → cond b (Some f) (find (λ k. joins k x y) fs) ≡ Some e → (find (λ k. joins k x y) fs ≡ Some e → Has e fs × (joins e x y ≡ true)) → Has e (f ∷ fs) × (joins e x y ≡ true)
    by true j k r = let same : f ≡ e = cc in (inl (sym same), subst (λ t. joins t x y ≡ true) same j)
    by false j k r = let s = r k in (inr s.0, s.1)

-- an edge that joins two bridges joins what another edge between them has for ends
joins_same : (f e : Edge) (x y : SystemId) → joins e x y ≡ true → joins f x y ≡ joins f e.a e.b
joins_same f e x y j =
    elim (joins_is e x y j) [
      | inl i ↦ ap (λ z. joins f z y) (sym i.0) ∙ ap (λ z. joins f e.a z) (sym i.1)
      | inr i ↦ joins_comm f x y ∙ (ap (λ z. joins f z x) (sym i.0) ∙ ap (λ z. joins f e.a z) (sym i.1))
    ]

-- where there is one edge between two bridges, it is the first
only_edge : (es : List Edge) (x y : SystemId) (e : Edge) → OneEdge es → Has e es → joins e x y ≡ true → first_edge es x y ≡ Some e
only_edge [] x y e one h j = absurd h
only_edge (f ∷ fs) x y e one (inl i) j = rw (subst (λ t. joins t x y ≡ true) i j) (ap Some (sym i))
only_edge (f ∷ fs) x y e one (inr i) j = rw (joins_same f e x y j ∙ first_joins f e fs one.0 i) (only_edge fs x y e one.1 i j)

-- the edge with its ends exchanged joins the same bridges
joins_turned : (e : Edge) (x y : SystemId) → joins e x y ≡ true → joins (turned e) x y ≡ true
joins_turned e x y j =
    elim (joins_is e x y j) [
      | inl i ↦ joins_comm (turned e) x y ∙ subst (λ z. joins (turned e) y z ≡ true) i.0 (subst (λ z. joins (turned e) z e.a ≡ true) i.1 (joins_ends (turned e)))
      | inr i ↦ subst (λ z. joins (turned e) x z ≡ true) i.0 (subst (λ z. joins (turned e) z e.a ≡ true) i.1 (joins_ends (turned e)))
    ]

-- a number that an edge between x and y has, whichever of its ends is named first
abbrev IsEven : (Edge → ℕ) → SystemId → SystemId → Type 0
IsEven value x y = (e : Edge) → same_system e.a e.b ≡ false → joins e x y ≡ true → value (turned e) ≡ value e

-- such as its port at x
even_port : (x y : SystemId) → IsEven (λ e. port_at e x) x y
even_port x y e apart j = by (same_system e.a x) (same_system e.b x) refl refl (joins_is e x y j)
  where
    by : (p q : Bool) → same_system e.a x ≡ p → same_system e.b x ≡ q → ((e.a ≡ x) × (e.b ≡ y)) ⊎ ((e.a ≡ y) × (e.b ≡ x)) → (if q then e.port_b else e.port_a) ≡ (if p then e.port_a else e.port_b)
    by true true a b i = absurd (true≢false (sym (ap (same_system e.a) (same_is e.b x b) ∙ a) ∙ apart))
    by true false a b i = refl
    by false true a b i = refl
    by false false a b (inl i) = absurd (true≢false (sym (subst (λ z. same_system e.a z ≡ true) i.0 (same_self e.a)) ∙ a))
    by false false a b (inr i) = absurd (true≢false (sym (subst (λ z. same_system e.b z ≡ true) i.1 (same_self e.b)) ∙ b))

-- the number of the edge between two bridges
abbrev value_between : (Edge → ℕ) → Graph → SystemId → SystemId → Option ℕ
value_between value g x y = option_map value (first_edge g.edges x y)

value_there : (value : Edge → ℕ) (g h : Graph) (x y : SystemId) → IsEven value x y → IsValid g → IsValid h → ((e : Edge) → HasEdge g e → HasEdge h e) → (e : Edge) → first_edge g.edges x y ≡ Some e → value_between value h x y ≡ Some (value e)
value_there value g h x y even v w there e found =
    let f = first_has g.edges x y e found in
    by f (there e (inl (contains_from_has g.edges e f.0)))
  where
    by : Has e g.edges × (joins e x y ≡ true) → HasEdge h e → value_between value h x y ≡ Some (value e)
    by f (inl i) = ap (option_map value) (only_edge h.edges x y e w.one_edge (has_from_contains h.edges e i) f.1)
    by f (inr i) =
        ap (option_map value) (only_edge h.edges x y (turned e) w.one_edge (has_from_contains h.edges (turned e) i) (joins_turned e x y f.1)) ∙ ap Some (even e (edge_valid g e v f.0).apart f.1)

values_same : (value : Edge → ℕ) (g h : Graph) (x y : SystemId) → IsEven value x y → IsValid g → IsValid h → AreAlike g h → value_between value g x y ≡ value_between value h x y
values_same value g h x y even v w s = by (first_edge g.edges x y) (first_edge h.edges x y) refl refl
  where
    by : (o p : Option Edge) → first_edge g.edges x y ≡ o → first_edge h.edges x y ≡ p → value_between value g x y ≡ value_between value h x y
    by None None e f = ap (option_map value) e ∙ sym (ap (option_map value) f)
    by None (Some d) e f = value_there value h g x y even w v (λ k. (s.edges k).1) d f ∙ sym (ap (option_map value) f)
    by (Some d) p e f = ap (option_map value) e ∙ sym (value_there value g h x y even v w (λ k. (s.edges k).0) d e)

pub same_ports : AlikeHaveSamePorts
same_ports g h x y v w s = (
  cost_among_find g.edges x y ∙ (values_same (λ e. e.cost) g h x y (λ e a j. refl) v w s ∙ sym (cost_among_find h.edges x y)),
  port_among_find g.edges x y ∙ (values_same (λ e. port_at e x) g h x y (even_port x y) v w s ∙ sym (port_among_find h.edges x y)),
)
