-- The edges of the graph say what the contents do.
use Rattle.std.proofs.Common.{◌≡◌, ℕ, Bool, true, false, true≢false, cond, ◌&&◌, ◌||◌, ◌⊎◌, inl, inr, List, [], ◌∷◌, max, flat_map, Option, Some, None, refl, sym, ap, ◌∙◌, subst, arith}
use Rattle.std.specs.Prelude.{IsSome, option_map}
use Rattle.std.specs.Ordering.{is_lt}
use Rattle.std.proofs.lemmas.Bool.{and_parts}
use Rattle.spb_types.specs.Address.{same_system}
use Rattle.spb_types.specs.Graph.{OneEdge, joins, port_at, cost_among, port_among}
use Rattle.spb_types.specs.declared.address.SystemId.{SystemId}
use Rattle.spb_types.specs.declared.graph.Edge.{Edge}
use Rattle.spb_tlvs.specs.declared.neighbours.Neighbour.{Neighbour}
use Rattle.spb_content.specs.Graph.{Contents, said_of, link_said, cost_said, port_said}
use Rattle.spb_content.specs.Building.{system_cmp, edge_with, edges_from}
use Rattle.spb_content.proofs.Members.{Has, has_flat_map, flat_map_has}
use Rattle.spb_content.proofs.Links.{same_is, same_self, apart_is, entries_of, link_turned, link_of, ends_said, listed_in, some_is}
use Rattle.spb_content.proofs.Chosen.{AreChosen, said_has}
use Rattle.spb_content.proofs.Made.{Made, one_below, edge_of_link, from_made, from_at, from_has, made_apart, all_one}

-- ---- the edges of the graph

-- these are the edges of the links of bridges of which P holds, each once
pub record AreEdges (list : Contents) (P : SystemId → Type 0) (es : List Edge) : Type 0 where
  pub closed : (x y : SystemId) → P x → IsSome (link_said list x y) → P y
  pub made : (e : Edge) → Has e es → Made list e
  pub holds : (e : Edge) → Has e es → P e.a
  pub all : (x y : SystemId) (l : Neighbour × Neighbour) → P x → is_lt (system_cmp x y) ≡ true → link_said list x y ≡ Some l → Has (edge_with x y l) es
  pub one : OneEdge es

each_has : (list : Contents) (P : SystemId → Type 0) (ks : Contents) (x y : SystemId) (l : Neighbour × Neighbour) → AreChosen list P ks → P x → is_lt (system_cmp x y) ≡ true → link_said list x y ≡ Some l → Has (edge_with x y l) (flat_map (edges_from list) ks)
each_has list P ks x y l h holds low link =
    let some : IsSome (link_said list x y) = subst (λ o. IsSome o) (sym link) refl in
    let c = some_is (said_of list x) (ends_said list x y some).0 in
    let n = listed_in list x y c.0 c.1 some in
    has_flat_map (edges_from list) (x, c.0) (edge_with x y l) ks (h.all (x, c.0) (said_has list x c.0 c.1) holds)
    (from_has list (x, c.0) y (edge_with x y l) n.0 n.1 n.2 (edge_of_link list x y l low link))

pub are_edges : (list : Contents) (P : SystemId → Type 0) (ks : Contents) → AreChosen list P ks → AreEdges list P (flat_map (edges_from list) ks)
are_edges list P ks h = record {
  closed = h.closed;
  made = λ e k. (let c = flat_map_has (edges_from list) e ks k in from_made list c.0 e c.2);
  holds = λ e k. (let c = flat_map_has (edges_from list) e ks k in subst P (sym (from_at list c.0 e c.2)) (h.holds c.0 c.1));
  all = λ x y l r low link. each_has list P ks x y l h r low link;
  one = all_one list ks h.apart;
}

-- ---- an edge and its link

-- which ends an edge between x and y has
joins_ends : (e : Edge) (x y : SystemId) → joins e x y ≡ true → ((e.a ≡ x) × (e.b ≡ y)) ⊎ ((e.a ≡ y) × (e.b ≡ x))
joins_ends e x y h = at (same_system e.a x && same_system e.b y) refl h
  where
    at : (b : Bool) → (same_system e.a x && same_system e.b y) ≡ b → (b || (same_system e.a y && same_system e.b x)) ≡ true → ((e.a ≡ x) × (e.b ≡ y)) ⊎ ((e.a ≡ y) × (e.b ≡ x))
    at true t k = let p = and_parts _ _ t in inl (same_is e.a x p.0, same_is e.b y p.1)
    at false t k = let p = and_parts _ _ k in inr (same_is e.a y p.0, same_is e.b x p.1)

-- an edge between x and y has the link of x to y
pub record Between (list : Contents) (e : Edge) (x y : SystemId) : Type 0 where
  pub link : Neighbour × Neighbour
  pub said : link_said list x y ≡ Some link
  pub cost : e.cost ≡ max link.0.metric link.1.metric
  pub port : port_at e x ≡ link.0.port

between_there : (list : Contents) (e : Edge) → Made list e → Between list e e.a e.b
between_there list e m = record { link = m.link; said = m.said; cost = m.cost; port = ap (λ b. cond b e.port_a e.port_b) (same_self e.a) ∙ m.port_a }

between_back : (list : Contents) (e : Edge) → Made list e → Between list e e.b e.a
between_back list e m = record {
  link = (m.link.1, m.link.0);
  said = link_turned list e.a e.b m.link m.said;
  cost = omega (arith, m.cost);
  port = ap (λ b. cond b e.port_a e.port_b) (apart_is e.a e.b (made_apart list e m)) ∙ m.port_b;
}

pub between : (list : Contents) (e : Edge) (x y : SystemId) → Made list e → joins e x y ≡ true → Between list e x y
between list e x y m h =
    elim (joins_ends e x y h) [
      | inl p ↦ subst (λ z. Between list e x z) p.1 (subst (λ z. Between list e z e.b) p.0 (between_there list e m))
      | inr p ↦ subst (λ z. Between list e z y) p.1 (subst (λ z. Between list e e.b z) p.0 (between_back list e m))
    ]

-- ---- costs and ports, at a bridge of which P holds wherever it has a link

-- a number of the first of the edges that joins x and y
value_among : (Edge → ℕ) → List Edge → SystemId → SystemId → Option ℕ
value_among value [] x y = None
value_among value (e ∷ es) x y = cond (joins e x y) (Some (value e)) (value_among value es x y)

costs_are : (es : List Edge) (x y : SystemId) → cost_among es x y ≡ value_among (λ e. e.cost) es x y
unfolding value_among
costs_are [] x y = refl
costs_are (e ∷ es) x y = ap (λ o. cond (joins e x y) (Some e.cost) o) (costs_are es x y)

ports_are : (es : List Edge) (x y : SystemId) → port_among es x y ≡ value_among (λ e. port_at e x) es x y
unfolding value_among
ports_are [] x y = refl
ports_are (e ∷ es) x y = ap (λ o. cond (joins e x y) (Some (port_at e x)) o) (ports_are es x y)

value_found : (value : Edge → ℕ) (es : List Edge) (x y : SystemId) (k : ℕ) → ((e : Edge) → Has e es → joins e x y ≡ true → value e ≡ k) → (e : Edge) → Has e es → joins e x y ≡ true → value_among value es x y ≡ Some k
unfolding value_among
value_found value [] x y k each e h j = absurd h
value_found value (f ∷ fs) x y k each e h j = at (joins f x y) refl h (λ i. value_found value fs x y k (λ g m. each g (inr m)) e i j)
  where
    at : (b : Bool) → joins f x y ≡ b → Has e (f ∷ fs) → (Has e fs → value_among value fs x y ≡ Some k) → cond b (Some (value f)) (value_among value fs x y) ≡ Some k
    at true t i r = ap Some (each f (inl refl) t)
    at false t (inl i) r = absurd (true≢false (sym j ∙ (ap (λ g. joins g x y) i ∙ t)))
    at false t (inr i) r = r i

value_none : (value : Edge → ℕ) (es : List Edge) (x y : SystemId) → ((e : Edge) → Has e es → joins e x y ≡ true → ⊥) → value_among value es x y ≡ None
unfolding value_among
value_none value [] x y each = refl
value_none value (f ∷ fs) x y each = at (joins f x y) refl (value_none value fs x y (λ e h. each e (inr h)))
  where
    at : (b : Bool) → joins f x y ≡ b → value_among value fs x y ≡ None → cond b (Some (value f)) (value_among value fs x y) ≡ None
    at true t r = absurd (each f (inl refl) t)
    at false t r = r

-- an edge that joins two bridges
pub record Joins (es : List Edge) (x y : SystemId) : Type 0 where
  pub edge : Edge
  pub has : Has edge es
  pub joins : joins edge x y ≡ true

value_is : (value : Edge → ℕ) (es : List Edge) (x y : SystemId) (o : Option ℕ) → ((e : Edge) → Has e es → joins e x y ≡ true → o ≡ Some (value e)) → (IsSome o → Joins es x y) → value_among value es x y ≡ o
value_is value es x y None each there = value_none value es x y (λ e h j. absurd (let k = each e h j in cc))
value_is value es x y (Some k) each there =
    let j = there refl in
    value_found value es x y k (λ e h i. (let s = each e h i in cc)) j.edge j.has j.joins

either_way : (b : Bool) → (b || true) ≡ true
either_way true = refl
either_way false = refl

-- each link of such a bridge has its edge
pub link_joined : (list : Contents) (P : SystemId → Type 0) (es : List Edge) (x y : SystemId) (l : Neighbour × Neighbour) → AreEdges list P es → P x → link_said list x y ≡ Some l → Joins es x y
link_joined list P es x y l h holds link =
    elim (one_below x y (entries_of list x y l link).apart) [
      | inl low ↦ record { edge = edge_with x y l; has = h.all x y l holds low link; joins = rw (same_self x, same_self y) refl }
      | inr low ↦ record {
        edge = edge_with y x (l.1, l.0);
        has = h.all y x (l.1, l.0) (h.closed x y holds (subst (λ o. IsSome o) (sym link) refl)) low (link_turned list x y l link);
        joins = ap (λ b. (same_system y x && same_system x y) || b) (rw (same_self x, same_self y) refl) ∙ either_way _;
      }
    ]

map_some : {A B : Type 0} (f : A → B) (o : Option A) → IsSome (option_map f o) → IsSome o
map_some f None h = h
map_some f (Some a) h = refl

some_joined : (list : Contents) (P : SystemId → Type 0) (es : List Edge) (x y : SystemId) → AreEdges list P es → P x → IsSome (link_said list x y) → Joins es x y
some_joined list P es x y h holds some = let l = link_of list x y some in link_joined list P es x y l.0 h holds l.1

pub costs : (list : Contents) (P : SystemId → Type 0) (es : List Edge) (x y : SystemId) → AreEdges list P es → (IsSome (link_said list x y) → P x) → cost_among es x y ≡ cost_said list x y
costs list P es x y h holds =
    costs_are es x y ∙ value_is (λ e. e.cost) es x y (cost_said list x y)
    (λ e k j. (let b = between list e x y (h.made e k) j in ap (option_map (λ l. max l.0.metric l.1.metric)) b.said ∙ ap Some (sym b.cost)))
    (λ some. (let link = map_some _ (link_said list x y) some in some_joined list P es x y h (holds link) link))

pub ports : (list : Contents) (P : SystemId → Type 0) (es : List Edge) (x y : SystemId) → AreEdges list P es → (IsSome (link_said list x y) → P x) → port_among es x y ≡ port_said list x y
ports list P es x y h holds =
    ports_are es x y ∙ value_is (λ e. port_at e x) es x y (port_said list x y)
    (λ e k j. (let b = between list e x y (h.made e k) j in ap (option_map (λ l. l.0.port)) b.said ∙ ap Some (sym b.port)))
    (λ some. (let link = map_some _ (link_said list x y) some in some_joined list P es x y h (holds link) link))

-- only such bridges have edges
some_among : (es : List Edge) (x y : SystemId) → IsSome (cost_among es x y) → Joins es x y
some_among [] x y h = absurd (true≢false (sym h))
some_among (e ∷ es) x y h = at (joins e x y) refl h (λ k. some_among es x y k)
  where
    at : (b : Bool) → joins e x y ≡ b → IsSome (cond b (Some e.cost) (cost_among es x y)) → (IsSome (cost_among es x y) → Joins es x y) → Joins (e ∷ es) x y
    at true t k r = record { edge = e; has = inl refl; joins = t }
    at false t k r = let j = r k in record { edge = j.edge; has = inr j.has; joins = j.joins }

pub holds_far : (list : Contents) (P : SystemId → Type 0) (es : List Edge) (e : Edge) → AreEdges list P es → Has e es → P e.b
holds_far list P es e h k = h.closed e.a e.b (h.holds e k) (subst (λ o. IsSome o) (sym (h.made e k).said) refl)

pub within : (list : Contents) (P : SystemId → Type 0) (es : List Edge) (x y : SystemId) → AreEdges list P es → IsSome (cost_among es x y) → P x
within list P es x y h some =
    let j = some_among es x y some in
    elim (joins_ends j.edge x y j.joins) [
      | inl p ↦ subst P p.0 (h.holds j.edge j.has)
      | inr p ↦ subst P p.1 (holds_far list P es j.edge h j.has)
    ]
