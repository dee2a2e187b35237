-- The graph is that of the contents, and it is valid.
use Rattle.std.proofs.Common.{◌≡◌, ◌≢◌, ◌≤◌, Bool, true, false, true≢false, cond, ◌&&◌, ◌||◌, ◌⊎◌, inl, inr, List, [], ◌∷◌, length, flat_map, Option, Some, None, refl, sym, ap, ◌∙◌, subst, arith}
use Rattle.std.specs.Prelude.{IsSome, option_map, Contains, Result, Ok, Err, IfOk}
use Rattle.std.specs.List.{filter_map, cons_option}
use Rattle.spb_types.specs.Address.{same_system}
use Rattle.spb_types.specs.Graph.{IsAmong, IsDistinct, IsBridge, OneEdge, IsEdgeOf, IsValid, IsValidFor, joins, port_at, edges_at, systems_of}
use Rattle.spb_types.specs.Graph.{ArePortsApart as AreEndsApart}
use Rattle.spb_types.specs.declared.address.SystemId.{SystemId}
use Rattle.spb_types.specs.declared.graph.Edge.{Edge}
use Rattle.spb_types.specs.declared.graph.Graph.{Graph}
use Rattle.spb_types.specs.declared.graph.GraphBridge.{GraphBridge}
use Rattle.spb_types.specs.declared.graph.Member.{Member}
use Rattle.spb_tlvs.specs.declared.neighbours.Neighbour.{Neighbour}
use Rattle.spb_content.specs.declared.content.Content.{Content}
use Rattle.spb_content.specs.declared.content.Inst.{Inst}
use Rattle.spb_content.specs.Graph.{Contents, systems_in, said_of, bridge_of, member_of, members_of, IsReached, IsGraphOf, ArePortsApart, HasOwnPorts}
use Rattle.spb_content.specs.Building.{Reaches, kept, edges_from, graph_among}
use Rattle.spb_content.proofs.Members.{Has, has_from_contains, contains_from_has, all_has, has_all, has_flat_map, flat_map_has}
use Rattle.spb_content.proofs.Links.{same_is, same_self, entries_of, said_for, entry_is, some_is, some_same}
use Rattle.spb_content.proofs.Chosen.{AreChosen, are_reached, said_has}
use Rattle.spb_content.proofs.Made.{Made}
use Rattle.spb_content.proofs.Merged.{merged_systems}
use Rattle.spb_content.proofs.Joined.{are_edges, between, costs, ports, within, holds_far}
use Rattle.spb_types.specs.declared.limits.TheConstants.{MOST_GRAPH_BRIDGES}

-- ---- what is there of each content

filter_map_has : {X Y : Type 0} (f : X → Option Y) (y : Y) (xs : List X) → Has y (filter_map f xs) → (x : X) × Has x xs × (f x ≡ Some y)
filter_map_has f y [] h = absurd h
filter_map_has f y (x ∷ xs) h = at (f x) refl h (λ k. filter_map_has f y xs k)
  where
    at : (o : Option _) → f x ≡ o → Has y (cons_option o (filter_map f xs)) → (Has y (filter_map f xs) → (z : _) × Has z xs × (f z ≡ Some y)) → (z : _) × Has z (x ∷ xs) × (f z ≡ Some y)
    at None e k r = let s = r k in (s.0, inr s.1, s.2)
    at (Some z) e (inl k) r = (x, inl refl, e ∙ ap Some (sym k))
    at (Some z) e (inr k) r = let s = r k in (s.0, inr s.1, s.2)

has_filter_map : {X Y : Type 0} (f : X → Option Y) (x : X) (y : Y) (xs : List X) → Has x xs → f x ≡ Some y → Has y (filter_map f xs)
has_filter_map f x y [] h e = absurd h
has_filter_map f x y (z ∷ zs) (inl i) e = subst (λ o. Has y (cons_option o (filter_map f zs))) (sym (ap f (sym i) ∙ e)) (inl refl)
has_filter_map f x y (z ∷ zs) (inr i) e = at (f z) (has_filter_map f x y zs i e)
  where
    at : (o : Option _) → Has y (filter_map f zs) → Has y (cons_option o (filter_map f zs))
    at None h = h
    at (Some w) h = inr h

-- ---- bridges

bridge_system : (c : SystemId × Content) (b : GraphBridge) → bridge_of c ≡ Some b → b.id.system ≡ c.0
bridge_system c b h = at c.1.inst h
  where
    at : (o : Option Inst) → option_map (λ i. record { id = record { priority = i.priority; system = c.0 }; source = i.source }) o ≡ Some b → b.id.system ≡ c.0
    at None e = absurd cc
    at (Some i) e = ap (λ (t : GraphBridge). t.id.system) (sym (some_same _ b e))

map_is_some : {A B : Type 0} (f : A → B) (o : Option A) → IsSome o → IsSome (option_map f o)
map_is_some f None h = h
map_is_some f (Some a) h = refl

pub bridges_are : (list : Contents) (P : SystemId → Type 0) (ks : Contents) (b : GraphBridge) → AreChosen list P ks → Contains (filter_map bridge_of ks) b → Contains (filter_map bridge_of list) b × P b.id.system
bridges_are list P ks b h k =
    let c = filter_map_has bridge_of b ks (has_from_contains b _ k) in
    (contains_from_has b _ (has_filter_map bridge_of c.0 b list (h.has c.0 c.1) c.2), subst P (sym (bridge_system c.0 b c.2)) (h.holds c.0 c.1))

pub are_bridges : (list : Contents) (P : SystemId → Type 0) (ks : Contents) (b : GraphBridge) → AreChosen list P ks → Contains (filter_map bridge_of list) b × P b.id.system → Contains (filter_map bridge_of ks) b
are_bridges list P ks b h k =
    let c = filter_map_has bridge_of b list (has_from_contains b _ k.0) in
    contains_from_has b _ (has_filter_map bridge_of c.0 b ks (h.all c.0 c.1 (subst P (bridge_system c.0 b c.2) k.1)) c.2)

bridge_among : (bs : List GraphBridge) (b : GraphBridge) → Has b bs → IsAmong b.id.system (systems_of bs)
bridge_among [] b h = absurd h
bridge_among (c ∷ cs) b (inl e) = inl (ap (λ (t : GraphBridge). t.id.system) e)
bridge_among (c ∷ cs) b (inr h) = inr (bridge_among cs b h)

among_content : (ks : Contents) (x : SystemId) → IsAmong x (systems_of (filter_map bridge_of ks)) → IsAmong x (systems_in ks)
among_content [] x h = absurd h
among_content (c ∷ cs) x h = at (bridge_of c) (λ b e. bridge_system c b e) h (λ k. among_content cs x k)
  where
    at : (o : Option GraphBridge) → ((b : GraphBridge) → o ≡ Some b → b.id.system ≡ c.0) → IsAmong x (systems_of (cons_option o (filter_map bridge_of cs))) → (IsAmong x (systems_of (filter_map bridge_of cs)) → IsAmong x (systems_in cs)) → IsAmong x (systems_in (c ∷ cs))
    at None s k r = inr (r k)
    at (Some b) s (inl k) r = inl (k ∙ s b refl)
    at (Some b) s (inr k) r = inr (r k)

bridges_distinct : (ks : Contents) → IsDistinct (systems_in ks) → IsDistinct (systems_of (filter_map bridge_of ks))
bridges_distinct [] h = tt
bridges_distinct (c ∷ cs) h = at (bridge_of c) (λ b e. bridge_system c b e) (bridges_distinct cs h.1)
  where
    at : (o : Option GraphBridge) → ((b : GraphBridge) → o ≡ Some b → b.id.system ≡ c.0) → IsDistinct (systems_of (filter_map bridge_of cs)) → IsDistinct (systems_of (cons_option o (filter_map bridge_of cs)))
    at None s r = r
    at (Some b) s r = (λ k. h.0 (subst (λ x. IsAmong x (systems_in cs)) (s b refl) (among_content cs b.id.system k)), r)

bridges_few : (ks : Contents) → length (filter_map bridge_of ks) ≤ length ks
bridges_few [] = omega arith
bridges_few (c ∷ cs) = at (bridge_of c) (bridges_few cs)
  where
    at : (o : Option GraphBridge) → length (filter_map bridge_of cs) ≤ length cs → length (cons_option o (filter_map bridge_of cs)) ≤ length (c ∷ cs)
    at None h = omega (arith, h)
    at (Some b) h = omega (arith, h)

-- where P holds is a bridge of the graph
pub is_bridge : (list : Contents) (P : SystemId → Type 0) (ks : Contents) (x : SystemId) → AreChosen list P ks → P x → IsBridge (graph_among list ks) x
is_bridge list P ks x h holds =
    let c = some_is (said_of list x) (h.said x holds) in
    let k = h.all (x, c.0) (said_has list x c.0 c.1) holds in
    let b = some_is (bridge_of (x, c.0)) (map_is_some _ c.0.inst (h.bridge (x, c.0) k)) in
    subst (λ y. IsBridge (graph_among list ks) y) (bridge_system (x, c.0) b.0 b.1) (bridge_among _ b.0 (has_filter_map bridge_of (x, c.0) b.0 ks k b.1))

-- ---- members

member_system : (c : SystemId × Content) (m : Member) → Has m (members_of c) → m.system ≡ c.0
member_system c m h = all_has (λ (n : Member). n.system ≡ c.0) m (members_of c) (merged_systems c.0 (filter_map (member_of c.0) c.1.services)) h

pub members_are : (list : Contents) (P : SystemId → Type 0) (ks : Contents) (m : Member) → AreChosen list P ks → Contains (flat_map members_of ks) m → Contains (flat_map members_of list) m × P m.system
members_are list P ks m h k =
    let c = flat_map_has members_of m ks (has_from_contains m _ k) in
    (contains_from_has m _ (has_flat_map members_of c.0 m list (h.has c.0 c.1) c.2), subst P (sym (member_system c.0 m c.2)) (h.holds c.0 c.1))

pub are_members : (list : Contents) (P : SystemId → Type 0) (ks : Contents) (m : Member) → AreChosen list P ks → Contains (flat_map members_of list) m × P m.system → Contains (flat_map members_of ks) m
are_members list P ks m h k =
    let c = flat_map_has members_of m list (has_from_contains m _ k.0) in
    contains_from_has m _ (has_flat_map members_of c.0 m ks (h.all c.0 c.1 (subst P (member_system c.0 m c.2) k.1)) c.2)

-- ---- the graph

graph_of_reached : (list : Contents) (me : SystemId) (ks : Contents) → AreChosen list (IsReached list me) ks → IsGraphOf me list (graph_among list ks)
graph_of_reached list me ks h =
    let es = are_edges list (IsReached list me) ks h in
    record {
      bridges = λ b. (λ k. bridges_are list _ ks b h k, λ k. are_bridges list _ ks b h k);
      costs = λ x y r. costs list _ _ x y es (λ l. r);
      ports = λ x y r. ports list _ _ x y es (λ l. r);
      within = λ x y s. within list _ _ x y es s;
      members = λ m. (λ k. members_are list _ ks m h k, λ k. are_members list _ ks m h k);
    }

edge_of_graph : (list : Contents) (P : SystemId → Type 0) (ks : Contents) (e : Edge) → AreChosen list P ks → Has e (flat_map (edges_from list) ks) → IsEdgeOf (graph_among list ks) e
edge_of_graph list P ks e h k =
    let es = are_edges list P ks h in
    let m = es.made e k in
    let l = entries_of list e.a e.b m.link m.said in
    let there = said_for list e.a e.b m.link.0 l.there in
    let back = said_for list e.b e.a m.link.1 l.back in
    let n = entry_is e.b there.content m.link.0 there.entry in
    let o = entry_is e.a back.content m.link.1 back.entry in
    record {
      from = is_bridge list P ks e.a h (es.holds e k);
      to = is_bridge list P ks e.b h (holds_far list P _ e es k);
      apart = l.apart;
      low = omega (arith, m.cost, n.low, o.low);
      high = omega (arith, m.cost, n.high, o.high);
    }

pub valid_chosen : (list : Contents) (P : SystemId → Type 0) (ks : Contents) → length list ≤ MOST_GRAPH_BRIDGES → AreChosen list P ks → IsValid (graph_among list ks)
valid_chosen list P ks few h = record {
  few = omega (arith, bridges_few ks, h.few, few);
  apart = bridges_distinct ks h.apart;
  edges = has_all (λ e. IsEdgeOf (graph_among list ks) e) (flat_map (edges_from list) ks) (λ e k. edge_of_graph list P ks e h k);
  one_edge = (are_edges list P ks h).one;
  members = has_all (λ m. IsBridge (graph_among list ks) m.system) (flat_map members_of ks) (λ m k. is_bridge list P ks m.system h (members_are list P ks m h (contains_from_has m _ k)).1);
}

-- ---- the ports of one bridge

is_at : Edge → SystemId → Bool
is_at e x = same_system e.a x || same_system e.b x

far : Edge → SystemId → SystemId
far e x = cond (same_system e.a x) e.b e.a

abbrev Ends : Edge → SystemId → SystemId → Type 0
Ends e x y = ((e.a ≡ x) × (e.b ≡ y)) ⊎ ((e.a ≡ y) × (e.b ≡ x))

far_ends : (e : Edge) (x : SystemId) → is_at e x ≡ true → Ends e x (far e x)
unfolding is_at far
far_ends e x h = at (same_system e.a x) refl h
  where
    at : (b : Bool) → same_system e.a x ≡ b → (b || same_system e.b x) ≡ true → Ends e x (cond b e.b e.a)
    at true t k = inl (same_is e.a x t, refl)
    at false t k = inr (refl, same_is e.b x k)

or_true : (b : Bool) → (b || true) ≡ true
or_true true = refl
or_true false = refl

ends_join : (e : Edge) (x y : SystemId) → Ends e x y → joins e x y ≡ true
ends_join e x y (inl (a, b)) = subst (λ z. joins e z y ≡ true) a (subst (λ z. joins e e.a z ≡ true) b (rw (same_self e.a, same_self e.b) refl))
ends_join e x y (inr (a, b)) =
    subst (λ z. joins e z y ≡ true) b (subst (λ z. joins e e.b z ≡ true) a
    (ap (λ t. (same_system e.a e.b && same_system e.b e.a) || t) (rw (same_self e.a, same_self e.b) refl) ∙ or_true _))

turn : (e : Edge) (x y : SystemId) → Ends e x y → Ends e y x
turn e x y (inl p) = inr p
turn e x y (inr p) = inl p

-- edges of one bridge that don't join the same two have different far ends
far_apart : (e f : Edge) (x : SystemId) → is_at e x ≡ true → is_at f x ≡ true → joins e f.a f.b ≡ false → far e x ≢ far f x
far_apart e f x h k apart same =
    let ends : Ends e x (far f x) = subst (λ y. Ends e x y) same (far_ends e x h) in
    let joined : joins e f.a f.b ≡ true = elim (far_ends f x k) [
      | inl p ↦ subst (λ z. joins e z f.b ≡ true) (sym p.0) (subst (λ z. joins e x z ≡ true) (sym p.1) (ends_join e x (far f x) ends))
      | inr p ↦ subst (λ z. joins e z f.b ≡ true) (sym p.0) (subst (λ z. joins e (far f x) z ≡ true) (sym p.1) (ends_join e (far f x) x (turn e x (far f x) ends)))
    ] in
    true≢false (sym joined ∙ apart)

-- the entry of a bridge that made the edge
record OwnEnd (list : Contents) (x : SystemId) (e : Edge) : Type 0 where
  content : Content
  said : said_of list x ≡ Some content
  entry : Neighbour
  listed : Has entry content.neighbours
  system : entry.system ≡ far e x
  port : port_at e x ≡ entry.port

own_end : (list : Contents) (x : SystemId) (e : Edge) → Made list e → is_at e x ≡ true → OwnEnd list x e
own_end list x e m h =
    let b = between list e x (far e x) m (ends_join e x (far e x) (far_ends e x h)) in
    let s = said_for list x (far e x) b.link.0 (entries_of list x (far e x) b.link b.said).there in
    let n = entry_is (far e x) s.content b.link.0 s.entry in
    record { content = s.content; said = s.said; entry = b.link.0; listed = n.listed; system = n.system; port = b.port }

at_has : (es : List Edge) (x : SystemId) (e : Edge) → Has e (edges_at es x) → Has e es × (is_at e x ≡ true)
unfolding is_at
at_has [] x e h = absurd h
at_has (f ∷ fs) x e h = at (is_at f x) refl h (λ k. at_has fs x e k)
  where
    at : (b : Bool) → is_at f x ≡ b → Has e (cond b (f ∷ edges_at fs x) (edges_at fs x)) → (Has e (edges_at fs x) → Has e fs × (is_at e x ≡ true)) → Has e (f ∷ fs) × (is_at e x ≡ true)
    at true t (inl k) r = (inl k, ap (λ g. is_at g x) k ∙ t)
    at true t (inr k) r = let s = r k in (inr s.0, s.1)
    at false t k r = let s = r k in (inr s.0, s.1)

own_port : (list : Contents) (x : SystemId) (e : Edge) → HasOwnPorts list x → Made list e → is_at e x ≡ true → (1 ≤ port_at e x) × (port_at e x ≤ 32)
own_port list x e own m h =
    let o = own_end list x e m h in
    let p = all_has (λ n. (1 ≤ n.port) × (n.port ≤ 32)) o.entry o.content.neighbours (own o.content o.said).each o.listed in
    (omega (arith, o.port, p.0), omega (arith, o.port, p.1))

entries_apart : (ns : List Neighbour) (m n : Neighbour) → ArePortsApart ns → Has m ns → Has n ns → m.system ≢ n.system → m.port ≢ n.port
entries_apart [] m n apart h k ne same = h
entries_apart (o ∷ os) m n apart (inl h) (inl k) ne same = ne (ap (λ t. t.system) (h ∙ sym k))
entries_apart (o ∷ os) m n apart (inl h) (inr k) ne same = all_has (λ t. o.port ≢ t.port) n os apart.0 k (ap (λ t. t.port) (sym h) ∙ same)
entries_apart (o ∷ os) m n apart (inr h) (inl k) ne same = all_has (λ t. o.port ≢ t.port) m os apart.0 h (ap (λ t. t.port) (sym k) ∙ sym same)
entries_apart (o ∷ os) m n apart (inr h) (inr k) ne same = entries_apart os m n apart.1 h k ne same

own_differ : (list : Contents) (x : SystemId) (e f : Edge) → HasOwnPorts list x → Made list e → Made list f → is_at e x ≡ true → is_at f x ≡ true → joins e f.a f.b ≡ false → port_at e x ≢ port_at f x
own_differ list x e f own m n h k apart same =
    let o = own_end list x e m h in
    let p = own_end list x f n k in
    let one : p.content ≡ o.content = some_same p.content o.content (sym p.said ∙ o.said) in
    let listed : Has p.entry o.content.neighbours = subst (λ c. Has p.entry c.neighbours) one p.listed in
    entries_apart o.content.neighbours o.entry p.entry (own o.content o.said).apart o.listed listed
    (λ q. far_apart e f x h k apart (sym o.system ∙ (q ∙ p.system)))
    (sym o.port ∙ (same ∙ p.port))

own_apart : (list : Contents) (x : SystemId) (es : List Edge) → HasOwnPorts list x → ((e : Edge) → Has e es → Made list e) → OneEdge es → AreEndsApart (edges_at es x) x
unfolding is_at
own_apart list x [] own made one = tt
own_apart list x (e ∷ es) own made one = at (is_at e x) refl (own_apart list x es own (λ f h. made f (inr h)) one.1)
  where
    at : (b : Bool) → is_at e x ≡ b → AreEndsApart (edges_at es x) x → AreEndsApart (cond b (e ∷ edges_at es x) (edges_at es x)) x
    at true t r = (
      has_all (λ f. port_at e x ≢ port_at f x) (edges_at es x) (λ f h. (
          let k = at_has es x f h in
          own_differ list x e f own (made e (inl refl)) (made f (inr k.0)) t k.1 (all_has (λ g. joins e g.a g.b ≡ false) f es one.0 k.0))),
      r,
    )
    at false t r = r

pub valid_for_chosen : (list : Contents) (P : SystemId → Type 0) (ks : Contents) (x : SystemId) → length list ≤ MOST_GRAPH_BRIDGES → AreChosen list P ks → HasOwnPorts list x → IsValidFor (graph_among list ks) x
valid_for_chosen list P ks x few h own =
    let es = are_edges list P ks h in
    record {
      valid = valid_chosen list P ks few h;
      ports = has_all (λ e. (1 ≤ port_at e x) × (port_at e x ≤ 32)) (edges_at (flat_map (edges_from list) ks) x) (λ e k. (let s = at_has (flat_map (edges_from list) ks) x e k in own_port list x e own (es.made e s.0) s.1));
      ports_apart = own_apart list x (flat_map (edges_from list) ks) own es.made es.one;
    }

-- ---- what was built

-- an answer is the graph of the places that a walk marked
pub record Built {E : Type 0} (list : Contents) (me : SystemId) (r : Result Graph E) : Type 0 where
  pub marks : List Bool
  pub walked : Reaches list me marks
  pub is : IfOk r (λ g. g ≡ graph_among list (kept list marks))

pub built : {E : Type 0} (list kept_list : Contents) (me : SystemId) (marks slice : List Bool) (r : Result Graph E) → kept_list ≡ list → slice ≡ marks → Reaches kept_list me marks → IfOk r (λ g. g ≡ graph_among kept_list (kept kept_list slice)) → Built list me r
built list kept_list me marks slice r same all walked is = record {
  marks = marks;
  walked = subst (λ l. Reaches l me marks) same walked;
  is = subst (λ l. IfOk r (λ g. g ≡ graph_among l (kept l marks))) same (subst (λ ms. IfOk r (λ g. g ≡ graph_among kept_list (kept kept_list ms))) all is);
}

ok_is : {E : Type 0} (P : Graph → Type 0) (g : Graph) (r : Result Graph E) → IfOk r (λ h. h ≡ g) → P g → IfOk r P
ok_is P g (Ok h) e p = subst P (sym e) p
ok_is P g (Err e) h p = h

pub graph_is : {E : Type 0} (list : Contents) (me : SystemId) (r : Result Graph E) → IsDistinct (systems_in list) → Built list me r → IfOk r (IsGraphOf me list)
graph_is list me r apart b = ok_is (IsGraphOf me list) _ r b.is (graph_of_reached list me (kept list b.marks) (are_reached list me b.marks apart b.walked))

pub graph_valid : {E : Type 0} (list : Contents) (me : SystemId) (r : Result Graph E) → IsDistinct (systems_in list) → length list ≤ MOST_GRAPH_BRIDGES → Built list me r → IfOk r IsValid
graph_valid list me r apart few b = ok_is IsValid _ r b.is (valid_chosen list _ (kept list b.marks) few (are_reached list me b.marks apart b.walked))

pub graph_valid_for : {E : Type 0} (list : Contents) (me : SystemId) (r : Result Graph E) → IsDistinct (systems_in list) → length list ≤ MOST_GRAPH_BRIDGES → Built list me r → HasOwnPorts list me → IfOk r (λ g. IsValidFor g me)
graph_valid_for list me r apart few b own = ok_is (λ g. IsValidFor g me) _ r b.is (valid_for_chosen list _ (kept list b.marks) me few (are_reached list me b.marks apart b.walked) own)
