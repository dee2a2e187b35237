-- A set that is brought up to date edge by edge.
use Rattle.std.proofs.Common.{◌≡◌, ℕ, zero, suc, ◌+◌, ◌≤◌, Bool, true, false, true≢false, ◌&&◌, ◌||◌, ◌⊎◌, inl, inr, List, [], ◌∷◌, Contains, get_or, take, Result, Ok, Err, refl, eq-eqb, sym, ap, ◌∙◌, subst, length}
use Rattle.std.specs.Prelude.{IfOk, nat_eq, not}
use Rattle.std.specs.List.{list_any}
use Rattle.std.proofs.lemmas.List.{take_all}
use Rattle.spb_types.specs.Address.{same_system}
use Rattle.spb_types.specs.Ect.{mask_of}
use Rattle.spb_types.specs.Graph.{IsAmong, IsValid, joins, systems_of}
use Rattle.spb_types.specs.declared.address.SystemId.{SystemId}
use Rattle.spb_types.specs.declared.service.VidPlan.{VidPlan}
use Rattle.spb_types.specs.declared.graph.Edge.{Edge}
use Rattle.spb_types.specs.declared.graph.Graph.{Graph}
use Rattle.spb_types.specs.declared.graph.GraphBridge.{GraphBridge}
use Rattle.ect_trees.specs.Laws.{turned, HasEdge, AreAlike}
use Rattle.ect_trees.proofs.Members.{Has, has_from_contains, contains_from_has}
use Rattle.ect_trees.proofs.Among.{same_self}
use Rattle.ect_trees.proofs.Steps.{joins_ends as ends_join}
use Rattle.fdb_build.proofs.GroupTests.{any_has, has_any}
use Rattle.fork_trees.specs.Edges.{with_edge}
use Rattle.fork_trees.specs.Set.{Kept, IsChanged, has_tree}
use Rattle.fdb_build.specs.Searches.{Serve}
use Rattle.swift_bridge.specs.Following.{masks_of, AreTreesOf, Stays, AllJoined, HasEach, joins_ends}
use Rattle.swift_bridge.proofs.Edges.{has_more, one_is, stands, set_stands, has_edge_stays}

-- ---- the set stays over changes

pub stays_none : (s : Kept) → s.failed ≡ false → Stays s s
stays_none s can = record { bridges_are = refl; masks_are = refl; can = can }

pub stays_more : (old mid new : Kept) (e : Edge) (present : Bool) → Stays old mid → IsChanged mid e present new → Stays old new
stays_more old mid new e present stays is = record {
  bridges_are = ap (λ (g : Graph). g.bridges) is.graph_is ∙ stays.bridges_are;
  masks_are = is.masks_are ∙ stays.masks_are;
  can = is.can;
}

-- ---- the edges that went

-- of the first i edges that there were, those that stand are joined in g, and no other stands
pub record Cut (g : Graph) (all : List Edge) (i : ℕ) (h : Graph) : Type 0 where
  pub within : (e : Edge) → Has e h.edges → Has e all
  pub joined : (e : Edge) → Has e h.edges → Has e (take i all) → joins_ends g e ≡ true

pub cut_none : (g h : Graph) (all : List Edge) → all ≡ h.edges → Cut g all 0 h
cut_none g h all same = record {
  within = λ e k. subst (Has e) (sym same) k;
  joined = λ e k none. absurd none;
}

pub cut_keep : (g : Graph) (all : List Edge) (i : ℕ) (h : Graph) (e d : Edge) → e ≡ get_or all i d → joins_ends g e ≡ true → Cut g all i h → Cut g all (i + 1) h
cut_keep g all i h e d at is cut = record {
  within = cut.within;
  joined = λ f k more. by f k (has_more all i f d more);
}
  where
    by : (f : Edge) → Has f h.edges → Has f (take i all) ⊎ (f ≡ get_or all i d) → joins_ends g f ≡ true
    by f k (inl m) = cut.joined f k m
    by f k (inr same) = ap (joins_ends g) (same ∙ sym at) ∙ is

pub cut_drop : (g : Graph) (all : List Edge) (i : ℕ) (old new : Kept) (e d : Edge) → e ≡ get_or all i d → IsChanged old e false new → Cut g all i old.graph → Cut g all (i + 1) new.graph
cut_drop g all i old new e d at is cut = record {
  within = λ f k. cut.within f (kept f k).0;
  joined = λ f k more. by f k (has_more all i f d more);
}
  where
    kept : (f : Edge) → Has f new.graph.edges → Has f old.graph.edges × (joins e f.a f.b ≡ false)
    kept f k = at_once (stands old.graph e f false (subst (λ (x : Graph). Has f x.edges) is.graph_is k))
      where
        at_once : ((f ≡ e) × (false ≡ true)) ⊎ (Has f old.graph.edges × (joins e f.a f.b ≡ false)) → Has f old.graph.edges × (joins e f.a f.b ≡ false)
        at_once (inl p) = absurd (true≢false (sym p.1))
        at_once (inr p) = p

    by : (f : Edge) → Has f new.graph.edges → Has f (take i all) ⊎ (f ≡ get_or all i d) → joins_ends g f ≡ true
    by f k (inl m) = cut.joined f (kept f k).0 m
    by f k (inr same) = absurd (true≢false (sym (ap (λ (x : Edge). joins e x.a x.b) (same ∙ sym at) ∙ ends_join e) ∙ (kept f k).1))

pub cut_all : (g : Graph) (all : List Edge) (i : ℕ) (h : Graph) → length all ≤ i → Cut g all i h → AllJoined g h
cut_all g all i h long cut = λ e c.
    let k = has_from_contains h.edges e c in
    cut.joined e k (subst (Has e) (sym (take_all i all long)) (cut.within e k))

-- ---- the edges that came

pub record Grown (g : Graph) (i : ℕ) (h : Graph) : Type 0 where
  pub joined : AllJoined g h
  pub has : (e : Edge) → Has e (take i g.edges) → HasEdge h e

pub grown_none : (g h : Graph) → AllJoined g h → Grown g 0 h
grown_none g h joined = record { joined = joined; has = λ e none. absurd none }

pub grown_keep : (g : Graph) (i : ℕ) (h : Graph) (e d : Edge) → e ≡ get_or g.edges i d → HasEdge h e → Grown g i h → Grown g (i + 1) h
grown_keep g i h e d at is grown = record {
  joined = grown.joined;
  has = λ f more. by f (has_more g.edges i f d more);
}
  where
    by : (f : Edge) → Has f (take i g.edges) ⊎ (f ≡ get_or g.edges i d) → HasEdge h f
    by f (inl m) = grown.has f m
    by f (inr same) = subst (HasEdge h) (at ∙ sym same) is

in_take : {X : Type 0} (xs : List X) (i : ℕ) (x : X) → Has x (take i xs) → Has x xs
in_take [] zero x h = absurd h
in_take [] (suc i) x h = absurd h
in_take (y ∷ ys) zero x h = absurd h
in_take (y ∷ ys) (suc i) x (inl same) = inl same
in_take (y ∷ ys) (suc i) x (inr h) = inr (in_take ys i x h)

pub grown_put : (g : Graph) (i : ℕ) (old new : Kept) (e d : Edge) → IsValid g → Has e g.edges → e ≡ get_or g.edges i d → IsChanged old e true new → Grown g i old.graph → Grown g (i + 1) new.graph
grown_put g i old new e d valid there at is grown = subst (Grown g (i + 1)) (sym is.graph_is) (record {
  joined = λ f c. by f (stands old.graph e f true (has_from_contains (with_edge old.graph e true).edges f c));
  has = λ f more. put f (has_more g.edges i f d more);
})
  where
    by : (f : Edge) → ((f ≡ e) × (true ≡ true)) ⊎ (Has f old.graph.edges × (joins e f.a f.b ≡ false)) → joins_ends g f ≡ true
    by f (inl p) = ap (joins_ends g) p.0 ∙ has_any (λ d. joins d e.a e.b) e g.edges there (ends_join e)
    by f (inr p) = grown.joined f (contains_from_has old.graph.edges f p.0)

    earlier : (f : Edge) → Has f (take i g.edges) → (t : Bool) → joins e f.a f.b ≡ t → HasEdge (with_edge old.graph e true) f
    earlier f m true j =
        let same : e ≡ f = one_is g.edges e f valid.one_edge there (in_take g.edges i f m) j in
        subst (HasEdge (with_edge old.graph e true)) same (inl (set_stands old.graph e))
    earlier f m false j = has_edge_stays old.graph e f j (grown.has f m)

    put : (f : Edge) → Has f (take i g.edges) ⊎ (f ≡ get_or g.edges i d) → HasEdge (with_edge old.graph e true) f
    put f (inl m) = earlier f m (joins e f.a f.b) refl
    put f (inr same) = subst (HasEdge (with_edge old.graph e true)) (at ∙ sym same) (inl (set_stands old.graph e))

pub grown_all : (g : Graph) (i : ℕ) (h : Graph) → length g.edges ≤ i → Grown g i h → HasEach g.edges h
grown_all g i h long grown = λ e c. grown.has e (subst (Has e) (sym (take_all i g.edges long)) (has_from_contains g.edges e c))

-- ---- what is up to date is alike

turn_back : (g : Graph) (e : Edge) → HasEdge g (turned e) → HasEdge g e
turn_back g e (inl c) = inr c
turn_back g e (inr c) = inl c

either_comm : (b c : Bool) → (b || c) ≡ (c || b)
either_comm true true = refl
either_comm true false = refl
either_comm false true = refl
either_comm false false = refl

both_comm : (b c : Bool) → (b && c) ≡ (c && b)
both_comm true true = refl
both_comm true false = refl
both_comm false true = refl
both_comm false false = refl

-- an edge joins the same bridges from either end
joins_turned_ends : (d f : Edge) → joins (turned d) f.a f.b ≡ joins d f.a f.b
joins_turned_ends d f =
    (λ i. both_comm (same_system d.b f.a) (same_system d.a f.b) i || both_comm (same_system d.b f.b) (same_system d.a f.a) i)
    ∙ either_comm (same_system d.a f.b && same_system d.b f.a) (same_system d.a f.a && same_system d.b f.b)

pub are_alike : (g h : Graph) → IsValid h → h.bridges ≡ g.bridges → AllJoined g h → HasEach g.edges h → AreAlike g h
are_alike g h valid same joined has = record {
  bridges = λ b. (subst (λ (bs : List GraphBridge). Contains bs b) (sym same), subst (λ (bs : List GraphBridge). Contains bs b) same);
  edges = λ e. (to e, from e);
}
  where
    to : (e : Edge) → HasEdge g e → HasEdge h e
    to e (inl c) = has e c
    to e (inr c) = turn_back h e (has (turned e) c)

    standing : (f : Edge) → Contains h.edges f → HasEdge g f
    standing f c = by (any_has (λ d. joins d f.a f.b) g.edges (joined f c))
      where
        found : (d : Edge) → Has d g.edges → joins d f.a f.b ≡ true → HasEdge h d → HasEdge g f
        found d k j (inl there) =
            let one : d ≡ f = one_is h.edges d f valid.one_edge (has_from_contains h.edges d there) (has_from_contains h.edges f c) j in
            inl (subst (Contains g.edges) one (contains_from_has g.edges d k))
        found d k j (inr there) =
            let one : turned d ≡ f = one_is h.edges (turned d) f valid.one_edge (has_from_contains h.edges (turned d) there) (has_from_contains h.edges f c) (joins_turned_ends d f ∙ j) in
            inr (subst (λ x. Contains g.edges (turned x)) one (contains_from_has g.edges d k))

        by : (d : Edge) × Has d g.edges × (joins d f.a f.b ≡ true) → HasEdge g f
        by p = found p.0 p.1 p.2 (has p.0 (contains_from_has g.edges p.0 p.1))

    from : (e : Edge) → HasEdge h e → HasEdge g e
    from e (inl c) = standing e c
    from e (inr c) = turn_back g e (standing (turned e) c)

-- ---- trees that are made anew

pub alike_itself : (g : Graph) → AreAlike g g
alike_itself g = record { bridges = λ b. (λ h. h, λ h. h); edges = λ e. (λ h. h, λ h. h) }

pub new_is : {E : Type 0} (g : Graph) (masks : List ℕ) (r : Result Kept E) → IsValid g → IfOk r (λ s. s ≡ record { graph = g; masks = masks; failed = false; relabelled = 0 }) → IfOk r (AreTreesOf g masks)
new_is g masks (Ok s) valid is = subst (AreTreesOf g masks) (sym is) (record { valid = valid; bridges_are = refl; alike = alike_itself g; masks_are = refl; can = refl })
new_is g masks (Err e) valid is = is

-- ---- tables by trees

any_mask : (plans : List VidPlan) (p : VidPlan) → Has p plans → list_any (λ m. nat_eq m (mask_of p.ect)) (masks_of plans) ≡ true
any_mask [] p h = absurd h
any_mask (q ∷ qs) p (inl same) = ap (λ b. b || list_any (λ m. nat_eq m (mask_of p.ect)) (masks_of qs)) (ap (λ (x : VidPlan). nat_eq (mask_of x.ect) (mask_of p.ect)) (sym same) ∙ eq-eqb (mask_of p.ect) (mask_of p.ect) refl)
any_mask (q ∷ qs) p (inr h) = or_true (nat_eq (mask_of q.ect) (mask_of p.ect)) (any_mask qs p h)
  where
    or_true : (b : Bool) {c : Bool} → c ≡ true → (b || c) ≡ true
    or_true true e = refl
    or_true false e = e

any_bridge : (bs : List GraphBridge) (x : SystemId) → IsAmong x (systems_of bs) → list_any (λ b. same_system b.id.system x) bs ≡ true
any_bridge [] x h = absurd h
any_bridge (b ∷ bs) x (inl same) = ap (λ t. t || list_any (λ c. same_system c.id.system x) bs) (ap (λ y. same_system y x) (sym same) ∙ same_self x)
any_bridge (b ∷ bs) x (inr h) = or_true (same_system b.id.system x) (any_bridge bs x h)
  where
    or_true : (t : Bool) {c : Bool} → c ≡ true → (t || c) ≡ true
    or_true true e = refl
    or_true false e = e

pub serve : (g : Graph) (plans : List VidPlan) (s : Kept) → AreTreesOf g (masks_of plans) s → Serve s.graph (has_tree s) g plans
serve g plans s t = record {
  valid = t.valid;
  alike = t.alike;
  there = λ x p b c. (
      let masks : list_any (λ m. nat_eq m (mask_of p.ect)) s.masks ≡ true = ap (list_any (λ m. nat_eq m (mask_of p.ect))) t.masks_are ∙ any_mask plans p (has_from_contains plans p c) in
      let bridges : list_any (λ b. same_system b.id.system x) s.graph.bridges ≡ true = ap (list_any (λ b. same_system b.id.system x)) t.bridges_are ∙ any_bridge g.bridges x b in
      λ i. not (t.can i) && (masks i && bridges i));
}
