-- Graphs that look alike from a bridge have the same paths from it with the same keys, and so the same best paths.
use Rattle.std.proofs.Common.{◌≡◌, ℕ, Bool, true, false, ◌⊎◌, inl, inr, ◌↔◌, List, [], ◌∷◌, map, Contains, Some, None, IsSome, unwrap_or, if◌then◌else◌, refl, sym, ap, ◌∙◌, subst, arith}
use Rattle.spb_types.specs.Address.{same_system, masked}
use Rattle.spb_types.specs.Graph.{IsAmong, IsDistinct, IsBridge, IsValid, systems_of, cost_between}
use Rattle.spb_types.specs.declared.address.SystemId.{SystemId}
use Rattle.spb_types.specs.declared.graph.GraphBridge.{GraphBridge}
use Rattle.spb_types.specs.declared.graph.Graph.{Graph}
use Rattle.ect_trees.specs.Path.{Leads, IsPath, cost_along, cost_of, hops_of}
use Rattle.ect_trees.specs.Key.{bridge_id_among, masked_id, sorted_ids, key_of, IsBelow}
use Rattle.ect_trees.specs.Best.{IsBest, best_of}
use Rattle.ect_trees.specs.Laws.{AreAlike, OrderSaysNothing, IsReached, LookAlike, SameBest, LookAlikeFromEach}
use Rattle.ect_trees.proofs.Among.{same_is, same_self}
use Rattle.ect_trees.proofs.Members.{Has, has_from_contains, contains_from_has}
use Rattle.ect_trees.proofs.Walks.{step}
use Rattle.ect_trees.proofs.Least.{best_unique}
use Rattle.ect_trees.proofs.Exists.{best_of_cases}
use Rattle.ect_trees.proofs.Joining.{same_ports}
use Rattle.ect_trees.proofs.Reached.{leads_start, reached_step, reached_bridge, path_reached, bridge_entry, entry_bridge, bridge_there, seen_bridge, looks_back}

-- where no system id stands twice, a bridge's id is its entry's
entry_id : (bs : List GraphBridge) (b : GraphBridge) → IsDistinct (systems_of bs) → Has b bs → bridge_id_among bs b.id.system ≡ b.id
entry_id [] b d h = absurd h
entry_id (c ∷ bs) b d (inl e) = rw (subst (λ t. same_system c.id.system t ≡ true) (ap (λ t. t.id.system) (sym e)) (same_self c.id.system)) (ap (λ t. t.id) (sym e))
entry_id (c ∷ bs) b d (inr h) = id_at (same_system c.id.system b.id.system) refl (entry_id bs b d.1 h)
  where
    id_at : (t : Bool) → same_system c.id.system b.id.system ≡ t → bridge_id_among bs b.id.system ≡ b.id → (if t then c.id else bridge_id_among bs b.id.system) ≡ b.id
    id_at true e i = absurd (d.0 (subst (λ s. IsAmong s (systems_of bs)) (sym (same_is c.id.system b.id.system e)) (entry_bridge bs b h)))
    id_at false e i = i

-- what two graphs share where the paths from a bridge are the same in both: bridges, costs and bridge ids of what is reached
pub record ArePathsAlike (g h : Graph) (me : SystemId) : Type 0 where
  pub bridges : (x : SystemId) → IsReached g me x → IsBridge h x
  pub ids : (x : SystemId) → IsReached g me x → bridge_id_among g.bridges x ≡ bridge_id_among h.bridges x
  pub costs : (x y : SystemId) → IsReached g me x → cost_between g x y ≡ cost_between h x y

-- the next bridge of a walk is reached
next_reached : (g : Graph) (me a x b : SystemId) (xs : List SystemId) → IsReached g me a → Leads g a (x ∷ xs) b → IsReached g me x
next_reached g me a x b xs r l = reached_step g me a x r l.1 (leads_start g x b xs l.2)

leads_alike : (g h : Graph) (me a b : SystemId) (xs : List SystemId) → ArePathsAlike g h me → IsReached g me a → Leads g a xs b → Leads h a xs b
leads_alike g h me a b [] s r l = (s.bridges a r, l.1)
leads_alike g h me a b (x ∷ xs) s r l =
    (s.bridges a r, subst (λ o. IsSome o) (s.costs a x r) l.1, leads_alike g h me x b xs s (next_reached g me a x b xs r l) l.2)

pub path_alike : (g h : Graph) (a b : SystemId) (p : List SystemId) → ArePathsAlike g h a → IsPath g a b p → IsPath h a b p
path_alike g h a b [] s w = absurd w
path_alike g h a b (x ∷ xs) s w = (w.0, leads_alike g h a x b xs s (path_reached g a b x (x ∷ xs) w (inl refl)) w.1, w.2)

along_alike : (g h : Graph) (me x b : SystemId) (xs : List SystemId) → ArePathsAlike g h me → IsReached g me x → Leads g x xs b → cost_along g x xs ≡ cost_along h x xs
along_alike g h me x b [] s r l = refl
along_alike g h me x b (y ∷ ys) s r l =
    let one : step g x y ≡ step h x y = ap (λ o. unwrap_or o 0) (s.costs x y r) in
    let more : cost_along g y ys ≡ cost_along h y ys = along_alike g h me y b ys s (next_reached g me x y b ys r l) l.2 in
    omega (arith, one, more)

pub cost_alike : (g h : Graph) (a b : SystemId) (p : List SystemId) → ArePathsAlike g h a → IsPath g a b p → cost_of g p ≡ cost_of h p
cost_alike g h a b [] s w = refl
cost_alike g h a b (x ∷ xs) s w = along_alike g h a x b xs s (path_reached g a b x (x ∷ xs) w (inl refl)) w.1

map_alike : (f k : SystemId → List ℕ) (p : List SystemId) → ((x : SystemId) → IsAmong x p → f x ≡ k x) → map f p ≡ map k p
map_alike f k [] s = refl
map_alike f k (x ∷ p) s = let one : f x ≡ k x = s x (inl refl) in let more : map f p ≡ map k p = map_alike f k p (λ y i. s y (inr i)) in cc

pub key_alike : (g h : Graph) (mask : ℕ) (a b : SystemId) (p : List SystemId) → ArePathsAlike g h a → IsPath g a b p → key_of g mask p ≡ key_of h mask p
key_alike g h mask a b p s w =
    let cost : cost_of g p ≡ cost_of h p = cost_alike g h a b p s w in
    let ids : map (masked_id g mask) p ≡ map (masked_id h mask) p = map_alike (masked_id g mask) (masked_id h mask) p (λ x i. ap (masked mask) (s.ids x (path_reached g a b x p w i))) in
    λ i. record { cost = cost i; hops = hops_of p; ids = sorted_ids (ids i) }

-- graphs with the same paths from a to b, with the same keys, have the same best path
best_of_same : (g h : Graph) (mask : ℕ) (a b : SystemId) → IsValid g → IsValid h → ((p : List SystemId) → IsPath g a b p ↔ IsPath h a b p) → ((p : List SystemId) → IsPath g a b p → key_of g mask p ≡ key_of h mask p) → best_of g mask a b ≡ best_of h mask a b
best_of_same g h mask a b v w same keys = both_at (best_of_cases g mask a b v) (best_of_cases h mask a b w)
  where
    best_there : (p : List SystemId) → IsBest g mask a b p → IsBest h mask a b p
    best_there p k = record {
      path = (same p).0 k.path;
      below = λ q y d. subst (λ t. IsBelow t (key_of h mask q)) (keys p k.path) (subst (λ t. IsBelow (key_of g mask p) t) (keys q ((same q).1 y)) (k.below q ((same q).1 y) d));
    }

    both_at : (((p : List SystemId) → IsPath g a b p → ⊥) × (best_of g mask a b ≡ None)) ⊎ ((p : List SystemId) × (best_of g mask a b ≡ Some p) × IsBest g mask a b p) → (((p : List SystemId) → IsPath h a b p → ⊥) × (best_of h mask a b ≡ None)) ⊎ ((p : List SystemId) × (best_of h mask a b ≡ Some p) × IsBest h mask a b p) → best_of g mask a b ≡ best_of h mask a b
    both_at (inl m) (inl n) = m.1 ∙ sym n.1
    both_at (inl m) (inr n) = absurd (m.0 n.0 ((same n.0).1 n.2.path))
    both_at (inr m) (inl n) = absurd (n.0 m.0 ((same m.0).0 m.2.path))
    both_at (inr m) (inr n) = m.1 ∙ (ap Some (best_unique h mask a b m.0 n.0 (best_there m.0 m.2) n.2) ∙ sym n.1)

-- so have graphs whose paths from a are alike, both ways
pub best_of_alike : (g h : Graph) (mask : ℕ) (a b : SystemId) → IsValid g → IsValid h → ArePathsAlike g h a → ArePathsAlike h g a → best_of g mask a b ≡ best_of h mask a b
best_of_alike g h mask a b v w there back =
    best_of_same g h mask a b v w (λ p. (path_alike g h a b p there, path_alike h g a b p back)) (λ p k. key_alike g h mask a b p there k)

-- a bridge whose entries another graph has has its id there
same_id : (g h : Graph) (x : SystemId) → IsValid g → IsValid h → ((b : GraphBridge) → b.id.system ≡ x → Contains g.bridges b → Contains h.bridges b) → IsBridge g x → bridge_id_among g.bridges x ≡ bridge_id_among h.bridges x
same_id g h x v w there i =
    let r = bridge_entry g.bridges x i in
    let has = has_from_contains h.bridges r.0 (there r.0 r.2 (contains_from_has g.bridges r.0 r.1)) in
    subst (λ t. bridge_id_among g.bridges t ≡ bridge_id_among h.bridges t) r.2 (entry_id g.bridges r.0 v.apart r.1 ∙ sym (entry_id h.bridges r.0 w.apart has))

-- ---- graphs that look alike from a bridge

paths_seen : (g h : Graph) (me : SystemId) → IsValid g → IsValid h → LookAlike g h me → ArePathsAlike g h me
paths_seen g h me v w s = record {
  bridges = λ x r. seen_bridge g h me x s r;
  ids = λ x r. same_id g h x v w (λ b e. (s.bridges b (subst (IsReached g me) (sym e) r)).0) (reached_bridge g me x r);
  costs = s.costs;
}

pub same_best : SameBest
same_best g h mask a b v w s = best_of_alike g h mask a b v w (paths_seen g h a v w s) (paths_seen h g a w v (looks_back g h a v s).0)

-- ---- graphs that are alike

pub paths_of_alike : (g h : Graph) (me : SystemId) → IsValid g → IsValid h → AreAlike g h → ArePathsAlike g h me
paths_of_alike g h me v w s = record {
  bridges = λ x r. bridge_there g h x (λ b e. (s.bridges b).0) (reached_bridge g me x r);
  ids = λ x r. same_id g h x v w (λ b e. (s.bridges b).0) (reached_bridge g me x r);
  costs = λ x y r. (same_ports g h x y v w s).0;
}

-- so the other way round
pub alike_back : (g h : Graph) → AreAlike g h → AreAlike h g
alike_back g h s = record { bridges = λ b. ((s.bridges b).1, (s.bridges b).0); edges = λ e. ((s.edges e).1, (s.edges e).0) }

pub order_says_nothing : OrderSaysNothing
order_says_nothing g h mask a b v w s = best_of_alike g h mask a b v w (paths_of_alike g h a v w s) (paths_of_alike h g a w v (alike_back g h s))

pub look_alike_from_each : LookAlikeFromEach
look_alike_from_each g h me v w s members = record {
  start = (bridge_there g h me (λ b e. (s.bridges b).0), bridge_there h g me (λ b e. (s.bridges b).1));
  bridges = λ b r. s.bridges b;
  costs = λ x y r. (same_ports g h x y v w s).0;
  ports = λ x y r. (same_ports g h x y v w s).1;
  members = λ m r. members m;
}
