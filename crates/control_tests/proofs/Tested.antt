-- A test of a graph that computes: one that is written out is valid where `refl` shows that the test is true.
use Rattle.std.proofs.Common.{◌≡◌, ℕ, ◌≤◌, Bool, true, false, true≢false, inl, inr, List, [], ◌∷◌, length, refl, sym, ap, ◌∙◌}
use Rattle.std.specs.Prelude.{not, ◌&&◌, ◌||◌, leb, eqb}
use Rattle.std.specs.List.{AllByRecursion}
use Rattle.std.proofs.lemmas.Bool.{and_parts, or_cases, or_left, or_right, not-true, leb-true, eqb-false}
use Rattle.spb_types.specs.Address.{same_system}
use Rattle.spb_types.specs.Graph.{IsAmong, IsDistinct, OneEdge, IsEdgeOf, IsValid, IsValidFor, ArePortsApart, systems_of, joins, port_at, edges_at}
use Rattle.spb_types.specs.declared.address.SystemId.{SystemId}
use Rattle.spb_types.specs.declared.graph.Edge.{Edge}
use Rattle.spb_types.specs.declared.graph.Graph.{Graph}
use Rattle.spb_types.specs.declared.limits.TheConstants.{GREATEST_METRIC, MOST_GRAPH_BRIDGES, MOST_PORTS}
use Rattle.ect_trees.proofs.Among.{same_is, same_self}

abbrev all : {A : Type 0} → (A → Bool) → List A → Bool
all f [] = true
all f (x ∷ xs) = f x && all f xs

all_are : {A : Type 0} (f : A → Bool) (P : A → Type 0) → ((x : A) → f x ≡ true → P x) → (xs : List A) → all f xs ≡ true → AllByRecursion P xs
all_are f P each [] h = tt
all_are f P each (x ∷ xs) h = let p = and_parts (f x) (all f xs) h in (each x p.0, all_are f P each xs p.1)

-- ---- the bridges

abbrev among : SystemId → List SystemId → Bool
among x [] = false
among x (y ∷ ys) = same_system x y || among x ys

among_is : (x : SystemId) (ys : List SystemId) → among x ys ≡ true → IsAmong x ys
among_is x [] h = absurd (true≢false (sym h))
among_is x (y ∷ ys) h = elim (or_cases (same_system x y) (among x ys) h) [ inl e ↦ inl (same_is x y e) | inr i ↦ inr (among_is x ys i) ]

is_among : (x : SystemId) (ys : List SystemId) → IsAmong x ys → among x ys ≡ true
is_among x [] h = absurd h
is_among x (y ∷ ys) (inl e) = or_left (same_system x y) (among x ys) (ap (λ z. same_system x z) (sym e) ∙ same_self x)
is_among x (y ∷ ys) (inr i) = or_right (same_system x y) (among x ys) (is_among x ys i)

abbrev distinct : List SystemId → Bool
distinct [] = true
distinct (x ∷ xs) = not (among x xs) && distinct xs

distinct_are : (xs : List SystemId) → distinct xs ≡ true → IsDistinct xs
distinct_are [] h = tt
distinct_are (x ∷ xs) h =
    let p = and_parts (not (among x xs)) (distinct xs) h in
    ((λ i. true≢false (sym (is_among x xs i) ∙ not-true (among x xs) p.0)), distinct_are xs p.1)

-- ---- the edges

abbrev fits : List SystemId → Edge → Bool
fits xs e = among e.a xs && (among e.b xs && (not (same_system e.a e.b) && (leb 1 e.cost && leb e.cost GREATEST_METRIC)))

fits_is : (g : Graph) (e : Edge) → fits (systems_of g.bridges) e ≡ true → IsEdgeOf g e
fits_is g e h =
    let xs = systems_of g.bridges in
    let p = and_parts (among e.a xs) (among e.b xs && (not (same_system e.a e.b) && (leb 1 e.cost && leb e.cost GREATEST_METRIC))) h in
    let q = and_parts (among e.b xs) (not (same_system e.a e.b) && (leb 1 e.cost && leb e.cost GREATEST_METRIC)) p.1 in
    let r = and_parts (not (same_system e.a e.b)) (leb 1 e.cost && leb e.cost GREATEST_METRIC) q.1 in
    let s = and_parts (leb 1 e.cost) (leb e.cost GREATEST_METRIC) r.1 in
    record { from = among_is e.a xs p.0; to = among_is e.b xs q.0; apart = not-true (same_system e.a e.b) r.0; low = leb-true 1 e.cost s.0; high = leb-true e.cost GREATEST_METRIC s.1 }

abbrev one : List Edge → Bool
one [] = true
one (e ∷ es) = all (λ f. not (joins e f.a f.b)) es && one es

one_is : (es : List Edge) → one es ≡ true → OneEdge es
one_is [] h = tt
one_is (e ∷ es) h =
    let p = and_parts (all (λ f. not (joins e f.a f.b)) es) (one es) h in
    (all_are (λ f. not (joins e f.a f.b)) (λ f. joins e f.a f.b ≡ false) (λ f n. not-true (joins e f.a f.b) n) es p.0, one_is es p.1)

-- ---- the graph

abbrev edges_fit : Graph → Bool
edges_fit g = all (fits (systems_of g.bridges)) g.edges

abbrev members_fit : Graph → Bool
members_fit g = all (λ m. among m.system (systems_of g.bridges)) g.members

abbrev pub is_valid : Graph → Bool
is_valid g = leb (length g.bridges) MOST_GRAPH_BRIDGES && (distinct (systems_of g.bridges) && (edges_fit g && (one g.edges && members_fit g)))

pub valid_if : (g : Graph) → is_valid g ≡ true → IsValid g
valid_if g h =
    let xs = systems_of g.bridges in
    let p = and_parts (leb (length g.bridges) MOST_GRAPH_BRIDGES) (distinct xs && (edges_fit g && (one g.edges && members_fit g))) h in
    let q = and_parts (distinct xs) (edges_fit g && (one g.edges && members_fit g)) p.1 in
    let r = and_parts (edges_fit g) (one g.edges && members_fit g) q.1 in
    let s = and_parts (one g.edges) (members_fit g) r.1 in
    record {
      few = leb-true (length g.bridges) MOST_GRAPH_BRIDGES p.0;
      apart = distinct_are xs q.0;
      edges = all_are (fits xs) (λ e. IsEdgeOf g e) (fits_is g) g.edges r.0;
      one_edge = one_is g.edges s.0;
      members = all_are (λ m. among m.system xs) (λ m. IsAmong m.system xs) (λ m i. among_is m.system xs i) g.members s.1;
    }

-- ---- its ports at a bridge

abbrev port_fits : SystemId → Edge → Bool
port_fits x e = leb 1 (port_at e x) && leb (port_at e x) MOST_PORTS

abbrev ports_apart : List Edge → SystemId → Bool
ports_apart [] x = true
ports_apart (e ∷ es) x = all (λ f. not (eqb (port_at e x) (port_at f x))) es && ports_apart es x

are_apart : (es : List Edge) (x : SystemId) → ports_apart es x ≡ true → ArePortsApart es x
are_apart [] x h = tt
are_apart (e ∷ es) x h =
    let p = and_parts (all (λ f. not (eqb (port_at e x) (port_at f x))) es) (ports_apart es x) h in
    (all_are (λ f. not (eqb (port_at e x) (port_at f x))) (λ f. port_at e x ≡ port_at f x → ⊥) (λ f n. eqb-false (port_at e x) (port_at f x) (not-true (eqb (port_at e x) (port_at f x)) n)) es p.0, are_apart es x p.1)

abbrev pub is_valid_for : Graph → SystemId → Bool
is_valid_for g x = is_valid g && (all (port_fits x) (edges_at g.edges x) && ports_apart (edges_at g.edges x) x)

pub valid_for_if : (g : Graph) (x : SystemId) → is_valid_for g x ≡ true → IsValidFor g x
valid_for_if g x h =
    let es = edges_at g.edges x in
    let p = and_parts (is_valid g) (all (port_fits x) es && ports_apart es x) h in
    let q = and_parts (all (port_fits x) es) (ports_apart es x) p.1 in
    record {
      valid = valid_if g p.0;
      ports = all_are (port_fits x) (λ e. (1 ≤ port_at e x) × (port_at e x ≤ MOST_PORTS)) (λ e f. let r = and_parts (leb 1 (port_at e x)) (leb (port_at e x) MOST_PORTS) f in (leb-true 1 (port_at e x) r.0, leb-true (port_at e x) MOST_PORTS r.1)) es q.0;
      ports_apart = are_apart es x q.1;
    }
