use Rattle.std.proofs.Common.{◌≡◌, ◌≢◌, inl, inr, ℕ, zero, suc, ◌<◌, ◌≤◌, ◌==◌, ◌&&◌, ◌||◌, Bool, true, false, true≢false, List, [], ◌∷◌, length, max, Option, Some, None, refl, sym, ap, ◌∙◌, subst, arith, if◌then◌else◌}
use Rattle.spb_types.specs.declared.limits.TheConstants.{GREATEST_METRIC}
use Rattle.std.proofs.lemmas.Bool.Decides.{nat_tests}
use Rattle.std.specs.List.{AllByRecursion, filter_map, cons_option}
use Rattle.spb_types.specs.Graph.{IsAmong, IsDistinct, IsBridge, systems_of, joins, port_at, edges_at, ArePortsApart, OneEdge, IsEdgeOf, IsValid, IsValidFor}
use Rattle.spb_types.specs.Address.{same_system}
use Rattle.spb_types.specs.declared.address.SystemId.{SystemId}
use Rattle.spb_types.specs.declared.graph.Edge.{Edge}
use Rattle.ect_trees.proofs.Among.{same_is, same_self}
use Rattle.spb_content.proofs.Members.{has_all}
use Rattle.spb_world.specs.declared.declaration.DeclaredLink.{DeclaredLink}
use Rattle.spb_world.specs.World.{World, Bridges, things_of, graph_bridges, system_at, edge_of, live_edge, world_members, world_graph, is_between, is_at_port, IsLink, AreApart, AllApart, Sound}
use Rattle.spb_world.proofs.ListLemmas.{All-map}
use Rattle.spb_world.proofs.MemberLemmas.{member_there}
use Rattle.spb_world.proofs.WorldLemmas.{ports_at-le}

length-graph_bridges : (bs : Bridges) → length (graph_bridges bs) ≡ length bs
length-graph_bridges [] = refl
length-graph_bridges (b ∷ bs) = ap suc (length-graph_bridges bs)

-- the system id at a place is one of the bridges'
pub among_at : (bs : Bridges) (i : ℕ) → i < length bs → IsAmong (system_at bs i) (systems_of (graph_bridges bs))
among_at [] i h = absurd (omega arith)
among_at (b ∷ bs) zero h = inl refl
among_at (b ∷ bs) (suc i) h = inr (among_at bs i (omega arith))

-- at different places stand different system ids
pub place_from : (bs : Bridges) → IsDistinct (systems_of (graph_bridges bs)) → (i j : ℕ) → i < length bs → j < length bs → system_at bs i ≡ system_at bs j → i ≡ j
place_from [] d i j hi hj e = absurd (omega arith)
place_from (b ∷ bs) d zero zero hi hj e = refl
place_from (b ∷ bs) d zero (suc j) hi hj e = absurd (d.0 (subst (λ x. IsAmong x (systems_of (graph_bridges bs))) (sym e) (among_at bs j (omega arith))))
place_from (b ∷ bs) d (suc i) zero hi hj e = absurd (d.0 (subst (λ x. IsAmong x (systems_of (graph_bridges bs))) e (among_at bs i (omega arith))))
place_from (b ∷ bs) d (suc i) (suc j) hi hj e = ap suc (place_from bs d.1 i j (omega arith) (omega arith) e)

eq-self : (i j : ℕ) → i ≡ j → (i == j) ≡ true
eq-self i j e = grind (arith, nat_tests)

eq-apart : (i j : ℕ) → (i ≡ j → ⊥) → (i == j) ≡ false
eq-apart i j ne = grind (arith, nat_tests)

pub same_at : (bs : Bridges) → IsDistinct (systems_of (graph_bridges bs)) → (i j : ℕ) → i < length bs → j < length bs → same_system (system_at bs i) (system_at bs j) ≡ (i == j)
same_at bs d i j hi hj = by (same_system (system_at bs i) (system_at bs j)) refl
  where
    by : (r : Bool) → same_system (system_at bs i) (system_at bs j) ≡ r → r ≡ (i == j)
    by true e = sym (eq-self i j (place_from bs d i j hi hj (same_is _ _ e)))
    by false e = sym (eq-apart i j (λ k. true≢false (sym (same_self (system_at bs i)) ∙ ap (λ n. same_system (system_at bs i) (system_at bs n)) k ∙ e)))

All-filter_map : {X Y : Type 0} (P : X → Type 0) (Q : Y → Type 0) (f : X → Option Y) → ((x : X) (y : Y) → P x → f x ≡ Some y → Q y) → (xs : List X) → AllByRecursion P xs → AllByRecursion Q (filter_map f xs)
All-filter_map P Q f step [] h = tt
All-filter_map P Q f step (x ∷ xs) h = put (f x) refl (All-filter_map P Q f step xs h.1)
  where
    put : (o : Option _) → f x ≡ o → AllByRecursion Q (filter_map f xs) → AllByRecursion Q (cons_option o (filter_map f xs))
    put None e rest = rest
    put (Some y) e rest = (step x y h.0 e, rest)

live_is : (bs : Bridges) (l : DeclaredLink) (e : Edge) → live_edge bs l ≡ Some e → e ≡ edge_of bs l
live_is bs l e h = by l.live h
  where
    by : (b : Bool) → (if b then Some (edge_of bs l) else None) ≡ Some e → e ≡ edge_of bs l
    by true h = cc
    by false h = cc

max-low : (m n : ℕ) → 1 ≤ m → 1 ≤ max m n
max-low m n h = omega arith

max-high : (m n k : ℕ) → m ≤ k → n ≤ k → max m n ≤ k
max-high m n k h i = omega arith

edge_is : (w : World) → Sound w → (l : DeclaredLink) → IsLink w.bridges l → IsEdgeOf (world_graph w) (edge_of w.bridges l)
edge_is w sound l h = record {
  from = among_at w.bridges l.a.bridge h.a.bridge;
  to = among_at w.bridges l.b.bridge h.b.bridge;
  apart = same_at w.bridges sound.systems l.a.bridge l.b.bridge h.a.bridge h.b.bridge ∙ eq-apart l.a.bridge l.b.bridge h.apart;
  low = max-low l.a.metric l.b.metric h.a.metric_low;
  high = max-high l.a.metric l.b.metric GREATEST_METRIC h.a.metric_high h.b.metric_high;
}

-- the edges of two links that are apart join different pairs of bridges
joins_at : (bs : Bridges) → IsDistinct (systems_of (graph_bridges bs)) → (l m : DeclaredLink) → IsLink bs l → IsLink bs m → joins (edge_of bs l) (edge_of bs m).a (edge_of bs m).b ≡ is_between l m.a.bridge m.b.bridge
joins_at bs d l m hl hm =
    let aa = same_at bs d l.a.bridge m.a.bridge hl.a.bridge hm.a.bridge in
    let bb = same_at bs d l.b.bridge m.b.bridge hl.b.bridge hm.b.bridge in
    let ab = same_at bs d l.a.bridge m.b.bridge hl.a.bridge hm.b.bridge in
    let ba = same_at bs d l.b.bridge m.a.bridge hl.b.bridge hm.a.bridge in
    λ k. (aa k && bb k) || (ab k && ba k)

-- what is known of two links of a world, the first declared before the second
record AreTwo (bs : Bridges) (l m : DeclaredLink) : Type 0 where
  first : IsLink bs l
  second : IsLink bs m
  apart : AreApart l m

all_two : (bs : Bridges) (l : DeclaredLink) → IsLink bs l → (ls : List DeclaredLink) → AllByRecursion (IsLink bs) ls → AllByRecursion (AreApart l) ls → AllByRecursion (AreTwo bs l) ls
all_two bs l hl [] links apart = tt
all_two bs l hl (m ∷ ms) links apart =
    (record { first = hl; second = links.0; apart = apart.0 }, all_two bs l hl ms links.1 apart.1)

one_edge : (bs : Bridges) → IsDistinct (systems_of (graph_bridges bs)) → (ls : List DeclaredLink) → AllByRecursion (IsLink bs) ls → AllApart ls → OneEdge (filter_map (live_edge bs) ls)
one_edge bs d [] links apart = tt
one_edge bs d (l ∷ ls) links apart = put (live_edge bs l) refl (one_edge bs d ls links.1 apart.1)
  where
    put : (o : Option Edge) → live_edge bs l ≡ o → OneEdge (filter_map (live_edge bs) ls) → OneEdge (cons_option o (filter_map (live_edge bs) ls))
    put None e rest = rest
    put (Some edge) e rest =
        let two = all_two bs l links.0 ls links.1 apart.0 in
        (All-filter_map (AreTwo bs l) (λ f. joins edge f.a f.b ≡ false) (live_edge bs) (λ m f h g. subst (λ x. joins x f.a f.b ≡ false) (sym (live_is bs l edge e)) (subst (λ x. joins (edge_of bs l) x.a x.b ≡ false) (sym (live_is bs m f g)) (joins_at bs d l m h.first h.second ∙ h.apart.bridges))) ls two, rest)

-- each member is a bridge
members_are : (w : World) → Sound w → AllByRecursion (λ m. IsBridge (world_graph w) m.system) (world_members w)
members_are w sound =
    has_all (λ m. IsBridge (world_graph w) m.system) (world_members w)
    (λ m h. let at = member_there w m h in subst (IsBridge (world_graph w)) (sym at.system) (among_at w.bridges at.place at.within))

pub valid : (w : World) → Sound w → IsValid (world_graph w)
valid w sound = record {
  few = omega (arith, length-graph_bridges w.bridges, sound.few);
  apart = sound.systems;
  edges = All-filter_map (IsLink w.bridges) (IsEdgeOf (world_graph w)) (live_edge w.bridges) (λ l e h g. subst (IsEdgeOf (world_graph w)) (sym (live_is w.bridges l e g)) (edge_is w sound l h)) (things_of w.links) sound.links;
  one_edge = one_edge w.bridges sound.systems (things_of w.links) sound.links sound.links_apart;
  members = members_are w sound;
}

record HasPorts (e : Edge) : Type 0 where
  a_low : 1 ≤ e.port_a
  a_high : e.port_a ≤ 32
  b_low : 1 ≤ e.port_b
  b_high : e.port_b ≤ 32

has_ports : (w : World) → Sound w → (l : DeclaredLink) → IsLink w.bridges l → HasPorts (edge_of w.bridges l)
has_ports w sound l h = record {
  a_low = h.a.port_low;
  a_high = omega (arith, h.a.port_high, ports_at-le w.bridges l.a.bridge sound.ports);
  b_low = h.b.port_low;
  b_high = omega (arith, h.b.port_high, ports_at-le w.bridges l.b.bridge sound.ports);
}

port_range : (e : Edge) (x : SystemId) → HasPorts e → (1 ≤ port_at e x) × (port_at e x ≤ 32)
port_range e x h = by (same_system e.a x)
  where
    by : (b : Bool) → (1 ≤ (if b then e.port_a else e.port_b)) × ((if b then e.port_a else e.port_b) ≤ 32)
    by true = (h.a_low, h.a_high)
    by false = (h.b_low, h.b_high)

-- the edge ends at x
abbrev is_at : SystemId → Edge → Bool
is_at x e = same_system e.a x || same_system e.b x

All-edges_at : (P : Edge → Type 0) (x : SystemId) (es : List Edge) → AllByRecursion P es → AllByRecursion (λ e. P e × (is_at x e ≡ true)) (edges_at es x)
All-edges_at P x [] h = tt
All-edges_at P x (e ∷ es) h = put (is_at x e) refl (All-edges_at P x es h.1)
  where
    put : (b : Bool) → is_at x e ≡ b → AllByRecursion (λ f. P f × (is_at x f ≡ true)) (edges_at es x) → AllByRecursion (λ f. P f × (is_at x f ≡ true)) (if b then e ∷ edges_at es x else edges_at es x)
    put true at rest = ((h.0, at), rest)
    put false at rest = rest

at_port_a : (l : DeclaredLink) (i p : ℕ) → l.a.bridge ≡ i → l.a.port ≡ p → is_at_port l i p ≡ true
at_port_a l i p e f = ap (λ b. (b && (l.a.port == p)) || ((l.b.bridge == i) && (l.b.port == p))) (eq-self _ _ e) ∙ ap (λ b. b || ((l.b.bridge == i) && (l.b.port == p))) (eq-self _ _ f)

or-true : (b : Bool) → (b || true) ≡ true
or-true true = refl
or-true false = refl

at_port_b : (l : DeclaredLink) (i p : ℕ) → l.b.bridge ≡ i → l.b.port ≡ p → is_at_port l i p ≡ true
at_port_b l i p e f = ap (λ b. ((l.a.bridge == i) && (l.a.port == p)) || (b && (l.b.port == p))) (eq-self _ _ e) ∙ ap (λ b. ((l.a.bridge == i) && (l.a.port == p)) || b) (eq-self _ _ f) ∙ or-true ((l.a.bridge == i) && (l.a.port == p))

-- at a bridge where two links end, they end at different ports
apart_ports : (bs : Bridges) → IsDistinct (systems_of (graph_bridges bs)) → (x : SystemId) (l m : DeclaredLink) → AreTwo bs l m → is_at x (edge_of bs l) ≡ true → is_at x (edge_of bs m) ≡ true → port_at (edge_of bs l) x ≢ port_at (edge_of bs m) x
apart_ports bs d x l m two at_l at_m =
    by (same_system (system_at bs l.a.bridge) x) (same_system (system_at bs m.a.bridge) x) refl refl at_l at_m
  where
    meet : (i j : ℕ) → i < length bs → j < length bs → same_system (system_at bs i) x ≡ true → same_system (system_at bs j) x ≡ true → i ≡ j
    meet i j hi hj e f = place_from bs d i j hi hj (same_is _ _ e ∙ sym (same_is _ _ f))

    clash : (b : Bool) → b ≡ true → b ≡ false → ⊥
    clash b e f = true≢false (sym e ∙ f)

    by : (p q : Bool) → same_system (system_at bs l.a.bridge) x ≡ p → same_system (system_at bs m.a.bridge) x ≡ q → (p || same_system (system_at bs l.b.bridge) x) ≡ true → (q || same_system (system_at bs m.b.bridge) x) ≡ true → (if p then l.a.port else l.b.port) ≢ (if q then m.a.port else m.b.port)
    by true true hp hq tl tm = λ e. clash _ (at_port_a l _ _ (meet _ _ two.first.a.bridge two.second.a.bridge hp hq) e) two.apart.port_a
    by true false hp hq tl tm = λ e. clash _ (at_port_a l _ _ (meet _ _ two.first.a.bridge two.second.b.bridge hp tm) e) two.apart.port_b
    by false true hp hq tl tm = λ e. clash _ (at_port_b l _ _ (meet _ _ two.first.b.bridge two.second.a.bridge tl hq) e) two.apart.port_a
    by false false hp hq tl tm = λ e. clash _ (at_port_b l _ _ (meet _ _ two.first.b.bridge two.second.b.bridge tl tm) e) two.apart.port_b

record IsOther (bs : Bridges) (l : DeclaredLink) (f : Edge) : Type 0 where
  link : DeclaredLink
  is : f ≡ edge_of bs link
  two : AreTwo bs l link

ports_apart : (bs : Bridges) → IsDistinct (systems_of (graph_bridges bs)) → (x : SystemId) (ls : List DeclaredLink) → AllByRecursion (IsLink bs) ls → AllApart ls → ArePortsApart (edges_at (filter_map (live_edge bs) ls) x) x
ports_apart bs d x [] links apart = tt
ports_apart bs d x (l ∷ ls) links apart = put (live_edge bs l) refl (ports_apart bs d x ls links.1 apart.1)
  where
    others : AllByRecursion (λ f. IsOther bs l f × (is_at x f ≡ true)) (edges_at (filter_map (live_edge bs) ls) x)
    others = All-edges_at (IsOther bs l) x (filter_map (live_edge bs) ls) (All-filter_map (AreTwo bs l) (IsOther bs l) (live_edge bs) (λ m f h g. record { link = m; is = live_is bs m f g; two = h }) ls (all_two bs l links.0 ls links.1 apart.0))

    here : (e : Edge) → e ≡ edge_of bs l → (b : Bool) → is_at x e ≡ b → ArePortsApart (edges_at (filter_map (live_edge bs) ls) x) x → ArePortsApart (if b then e ∷ edges_at (filter_map (live_edge bs) ls) x else edges_at (filter_map (live_edge bs) ls) x) x
    here e is true at rest =
        (All-map (λ f. IsOther bs l f × (is_at x f ≡ true)) (λ f. port_at e x ≢ port_at f x) (edges_at (filter_map (live_edge bs) ls) x) (λ f o. subst (λ y. port_at y x ≢ port_at f x) (sym is) (subst (λ y. port_at (edge_of bs l) x ≢ port_at y x) (sym o.0.is) (apart_ports bs d x l o.0.link o.0.two (subst (λ y. is_at x y ≡ true) is at) (subst (λ y. is_at x y ≡ true) o.0.is o.1)))) others, rest)
    here e is false at rest = rest

    put : (o : Option Edge) → live_edge bs l ≡ o → ArePortsApart (edges_at (filter_map (live_edge bs) ls) x) x → ArePortsApart (edges_at (cons_option o (filter_map (live_edge bs) ls)) x) x
    put None e rest = rest
    put (Some edge) e rest = here edge (live_is bs l edge e) (is_at x edge) refl rest

pub valid_for : (w : World) (me : SystemId) → Sound w → IsValidFor (world_graph w) me
valid_for w me sound = record {
  valid = valid w sound;
  ports = All-map (λ e. HasPorts e × (is_at me e ≡ true)) (λ e. (1 ≤ port_at e me) × (port_at e me ≤ 32)) (edges_at (world_graph w).edges me) (λ e h. port_range e me h.0) (All-edges_at HasPorts me (world_graph w).edges (All-filter_map (IsLink w.bridges) HasPorts (live_edge w.bridges) (λ l e h g. subst HasPorts (sym (live_is w.bridges l e g)) (has_ports w sound l h)) (things_of w.links) sound.links));
  ports_apart = ports_apart w.bridges sound.systems me (things_of w.links) sound.links sound.links_apart;
}
