-- Edges of valid graphs, and where they stand after a change.
use Rattle.std.proofs.Common.{◌≡◌, ℕ, zero, suc, ◌+◌, ◌<◌, Bool, true, false, true≢false, ◌&&◌, ◌⊎◌, inl, inr, List, [], ◌∷◌, Contains, get_or, take, refl, eqb-true, eq-eqb, sym, ap, ◌∙◌, subst, add-one, arith, length}
use Rattle.std.specs.List.{AllByRecursion}
use Rattle.std.specs.Prelude.{◌==◌}
use Rattle.std.specs.Str.{bytes_eq}
use Rattle.std.proofs.lemmas.Bool.{and_parts}
use Rattle.std.proofs.lemmas.Slice.Eq.{bytes_eq-Decides}
use Rattle.spb_types.specs.Graph.{IsValid, IsEdgeOf, OneEdge, joins, IsBridge}
use Rattle.spb_types.specs.declared.graph.Edge.{Edge}
use Rattle.spb_types.specs.declared.graph.Graph.{Graph}
use Rattle.spb_types.specs.declared.graph.GraphBridge.{GraphBridge}
use Rattle.ect_trees.specs.Laws.{turned, HasEdge}
use Rattle.ect_trees.proofs.Members.{Has, has_from_contains, contains_from_has}
use Rattle.ect_trees.proofs.Walks.{joins_comm}
use Rattle.ect_trees.proofs.Steps.{joins_ends, joins_is, first_joins}
use Rattle.fork_trees.specs.Edges.{with_edge}
use Rattle.fork_trees.proofs.WithEdge.{edges_stand}

-- what is among the first i + 1 is among the first i, or the one at i
has_suc : {X : Type 0} (xs : List X) (i : ℕ) (x d : X) → Has x (take (suc i) xs) → Has x (take i xs) ⊎ (x ≡ get_or xs i d)
has_suc [] zero x d h = inl h
has_suc [] (suc i) x d h = inl h
has_suc (y ∷ ys) zero x d (inl same) = inr same
has_suc (y ∷ ys) zero x d (inr h) = absurd h
has_suc (y ∷ ys) (suc i) x d (inl same) = inl (inl same)
has_suc (y ∷ ys) (suc i) x d (inr h) = behind (has_suc ys i x d h)
  where
    behind : Has x (take i ys) ⊎ (x ≡ get_or ys i d) → Has x (take (suc i) (y ∷ ys)) ⊎ (x ≡ get_or ys i d)
    behind (inl k) = inl (inr k)
    behind (inr e) = inr e

pub has_more : {X : Type 0} (xs : List X) (i : ℕ) (x d : X) → Has x (take (i + 1) xs) → Has x (take i xs) ⊎ (x ≡ get_or xs i d)
has_more xs i x d h = has_suc xs i x d (subst (λ n. Has x (take n xs)) (add-one i) h)

pub has_within : {X : Type 0} (xs : List X) (i : ℕ) (d : X) → i < length xs → Has (get_or xs i d) xs
has_within [] i d low = absurd (omega (arith, low))
has_within (y ∷ ys) zero d low = inl refl
has_within (y ∷ ys) (suc i) d low = inr (has_within ys i d (omega (arith, low)))

-- the edges of a valid graph, one by one
all_has : {X : Type 0} (P : X → Type 0) (xs : List X) (x : X) → AllByRecursion P xs → Has x xs → P x
all_has P [] x all h = absurd h
all_has P (y ∷ ys) x all (inl same) = subst P (sym same) all.0
all_has P (y ∷ ys) x all (inr h) = all_has P ys x all.1 h

pub edge_of : (g h : Graph) (e : Edge) → IsValid g → h.bridges ≡ g.bridges → Has e g.edges → IsEdgeOf h e
edge_of g h e v same k =
    let is : IsEdgeOf g e = all_has (λ d. IsEdgeOf g d) g.edges e v.edges k in
    record {
      from = subst (λ (bs : List GraphBridge). IsBridge (record g { bridges = bs }) e.a) (sym same) is.from;
      to = subst (λ (bs : List GraphBridge). IsBridge (record g { bridges = bs }) e.b) (sym same) is.to;
      apart = is.apart;
      low = is.low;
      high = is.high;
    }

-- edges that join the same bridges are one
joins_turned : (d e : Edge) → joins d e.a e.b ≡ true → joins e d.a d.b ≡ true
joins_turned d e h = by (joins_is d e.a e.b h)
  where
    by : ((d.a ≡ e.a) × (d.b ≡ e.b)) ⊎ ((d.a ≡ e.b) × (d.b ≡ e.a)) → joins e d.a d.b ≡ true
    by (inl p) = (λ i. joins e (p.0 i) (p.1 i)) ∙ joins_ends e
    by (inr p) = (λ i. joins e (p.0 i) (p.1 i)) ∙ (joins_comm e e.b e.a ∙ joins_ends e)

pub one_is : (es : List Edge) (d e : Edge) → OneEdge es → Has d es → Has e es → joins d e.a e.b ≡ true → d ≡ e
one_is [] d e one h k j = absurd h
one_is (f ∷ fs) d e one (inl p) (inl q) j = p ∙ sym q
one_is (f ∷ fs) d e one (inl p) (inr k) j = absurd (true≢false (sym j ∙ (ap (λ x. joins x e.a e.b) p ∙ first_joins f e fs one.0 k)))
one_is (f ∷ fs) d e one (inr h) (inl q) j =
    absurd (true≢false (sym (joins_turned d e j) ∙ (ap (λ x. joins x d.a d.b) q ∙ first_joins f d fs one.0 h)))
one_is (f ∷ fs) d e one (inr h) (inr k) j = one_is fs d e one.1 h k j

-- ---- a change

pub stands : (g : Graph) (e f : Edge) (present : Bool) → Has f (with_edge g e present).edges → ((f ≡ e) × (present ≡ true)) ⊎ (Has f g.edges × (joins e f.a f.b ≡ false))
stands g e f present h = by ((edges_stand g e f present).0 (contains_from_has (with_edge g e present).edges f h))
  where
    by : ((f ≡ e) × (present ≡ true)) ⊎ (Contains g.edges f × (joins e f.a f.b ≡ false)) → ((f ≡ e) × (present ≡ true)) ⊎ (Has f g.edges × (joins e f.a f.b ≡ false))
    by (inl p) = inl p
    by (inr p) = inr (has_from_contains g.edges f p.0, p.1)

pub set_stands : (g : Graph) (e : Edge) → Contains (with_edge g e true).edges e
set_stands g e = (edges_stand g e e true).1 (inl (refl, refl))

-- an edge that joins other bridges stays
pub has_edge_stays : (g : Graph) (e d : Edge) → joins e d.a d.b ≡ false → HasEdge g d → HasEdge (with_edge g e true) d
has_edge_stays g e d j (inl c) = inl ((edges_stand g e d true).1 (inr (c, j)))
has_edge_stays g e d j (inr c) = inr ((edges_stand g e (turned d) true).1 (inr (c, sym (joins_comm e d.a d.b) ∙ j)))

-- ---- bridges

both : (b c : Bool) → b ≡ true → c ≡ true → (b && c) ≡ true
both b c e f = ap (λ x. x && c) e ∙ f

abbrev pub bridge_eq : GraphBridge → GraphBridge → Bool
bridge_eq a b = ((a.id.priority == b.id.priority) && bytes_eq a.id.system.mac.bytes b.id.system.mac.bytes) && (a.source.value == b.source.value)

pub same_bridge : (a b : GraphBridge) → (bridge_eq a b ≡ true → a ≡ b) × (a ≡ b → bridge_eq a b ≡ true)
same_bridge a b = (to, λ e. subst (λ x. (((a.id.priority == x.id.priority) && bytes_eq a.id.system.mac.bytes x.id.system.mac.bytes) && (a.source.value == x.source.value)) ≡ true) e itself)
  where
    to : bridge_eq a b ≡ true → a ≡ b
    to h =
        let outer = and_parts ((a.id.priority == b.id.priority) && bytes_eq a.id.system.mac.bytes b.id.system.mac.bytes) (a.source.value == b.source.value) h in
        let inner = and_parts (a.id.priority == b.id.priority) (bytes_eq a.id.system.mac.bytes b.id.system.mac.bytes) outer.0 in
        let p : a.id.priority ≡ b.id.priority = eqb-true a.id.priority b.id.priority inner.0 in
        let m : a.id.system.mac.bytes ≡ b.id.system.mac.bytes = (bytes_eq-Decides a.id.system.mac.bytes b.id.system.mac.bytes).0 inner.1 in
        let s : a.source.value ≡ b.source.value = eqb-true a.source.value b.source.value outer.1 in
        λ i. record { id = record { priority = p i; system = record { mac = record { bytes = m i } } }; source = record { value = s i } }

    itself : (((a.id.priority == a.id.priority) && bytes_eq a.id.system.mac.bytes a.id.system.mac.bytes) && (a.source.value == a.source.value)) ≡ true
    itself = both _ _ (both _ _ (eq-eqb a.id.priority a.id.priority refl) ((bytes_eq-Decides a.id.system.mac.bytes a.id.system.mac.bytes).1 refl)) (eq-eqb a.source.value a.source.value refl)

-- edges that compare as equal are the same
pub same_edge : (e f : Edge) → bytes_eq e.a.mac.bytes f.a.mac.bytes && ((e.port_a == f.port_a) && (bytes_eq e.b.mac.bytes f.b.mac.bytes && ((e.port_b == f.port_b) && (e.cost == f.cost)))) ≡ true → e ≡ f
same_edge e f h =
    let four = and_parts (bytes_eq e.a.mac.bytes f.a.mac.bytes) ((e.port_a == f.port_a) && (bytes_eq e.b.mac.bytes f.b.mac.bytes && ((e.port_b == f.port_b) && (e.cost == f.cost)))) h in
    let three = and_parts (e.port_a == f.port_a) (bytes_eq e.b.mac.bytes f.b.mac.bytes && ((e.port_b == f.port_b) && (e.cost == f.cost))) four.1 in
    let two = and_parts (bytes_eq e.b.mac.bytes f.b.mac.bytes) ((e.port_b == f.port_b) && (e.cost == f.cost)) three.1 in
    let one = and_parts (e.port_b == f.port_b) (e.cost == f.cost) two.1 in
    let a : e.a.mac.bytes ≡ f.a.mac.bytes = (bytes_eq-Decides e.a.mac.bytes f.a.mac.bytes).0 four.0 in
    let pa : e.port_a ≡ f.port_a = eqb-true e.port_a f.port_a three.0 in
    let b : e.b.mac.bytes ≡ f.b.mac.bytes = (bytes_eq-Decides e.b.mac.bytes f.b.mac.bytes).0 two.0 in
    let pb : e.port_b ≡ f.port_b = eqb-true e.port_b f.port_b one.0 in
    let c : e.cost ≡ f.cost = eqb-true e.cost f.cost one.1 in
    λ i. record { a = record { mac = record { bytes = a i } }; port_a = pa i; b = record { mac = record { bytes = b i } }; port_b = pb i; cost = c i }

-- within a list the default says nothing
pub within_is : {X : Type 0} (xs : List X) (i : ℕ) (d e : X) → i < length xs → get_or xs i d ≡ get_or xs i e
within_is [] i d e low = absurd (omega (arith, low))
within_is (y ∷ ys) zero d e low = refl
within_is (y ∷ ys) (suc i) d e low = within_is ys i d e (omega (arith, low))
