-- What a bridge reaches over edges, and graphs that look alike from it.
use Rattle.std.proofs.Common.{◌≡◌, inl, inr, List, [], ◌∷◌, ◌++◌, Contains, IsSome, refl, sym, subst}
use Rattle.spb_types.specs.Graph.{IsAmong, IsBridge, IsValid, systems_of, cost_between}
use Rattle.spb_types.specs.declared.address.SystemId.{SystemId}
use Rattle.spb_types.specs.declared.graph.GraphBridge.{GraphBridge}
use Rattle.spb_types.specs.declared.graph.Graph.{Graph}
use Rattle.ect_trees.specs.Path.{Leads, IsPath}
use Rattle.ect_trees.specs.Laws.{IsReached, LookAlike, LooksBack, LooksOn, PartLooksAlike}
use Rattle.ect_trees.proofs.Members.{Has, has_from_contains, contains_from_has}
use Rattle.ect_trees.proofs.Steps.{joined_bridges}

-- ---- walks

pub leads_start : (g : Graph) (a b : SystemId) (xs : List SystemId) → Leads g a xs b → IsBridge g a
leads_start g a b [] l = l.0
leads_start g a b (x ∷ xs) l = l.0

leads_on : (g : Graph) (a b c : SystemId) (xs ys : List SystemId) → Leads g a xs b → Leads g b ys c → Leads g a (xs ++ ys) c
leads_on g a b c [] ys l k = subst (λ z. Leads g z ys c) (sym l.1) k
leads_on g a b c (x ∷ xs) ys l k = (l.0, l.1, leads_on g x b c xs ys l.2 k)

-- a walk ends at a bridge
pub leads_bridge : (g : Graph) (a b : SystemId) (xs : List SystemId) → Leads g a xs b → IsBridge g b
leads_bridge g a b [] l = subst (IsBridge g) l.1 l.0
leads_bridge g a b (x ∷ xs) l = leads_bridge g x b xs l.2

-- a bridge reaches itself, and what a bridge reaches that it reaches
pub reached_itself : (g : Graph) (me : SystemId) → IsBridge g me → IsReached g me me
reached_itself g me i = ([], (i, refl))

pub reached_on : (g : Graph) (me x y : SystemId) → IsReached g me x → IsReached g x y → IsReached g me y
reached_on g me x y r s = (r.0 ++ s.0, leads_on g me x y r.0 s.0 r.1 s.1)

-- what is reached is a bridge, and so is what reaches it
pub reached_bridge : (g : Graph) (me x : SystemId) → IsReached g me x → IsBridge g x
reached_bridge g me x r = leads_bridge g me x r.0 r.1

pub reaching_bridge : (g : Graph) (me x : SystemId) → IsReached g me x → IsBridge g me
reaching_bridge g me x r = leads_start g me x r.0 r.1

-- a joined bridge is reached
pub reached_step : (g : Graph) (me x y : SystemId) → IsReached g me x → IsSome (cost_between g x y) → IsBridge g y → IsReached g me y
reached_step g me x y r joined i = reached_on g me x y r (y ∷ [], (reached_bridge g me x r, joined, (i, refl)))

leads_reached : (g : Graph) (me a b z : SystemId) (xs : List SystemId) → IsReached g me a → Leads g a xs b → IsAmong z (a ∷ xs) → IsReached g me z
leads_reached g me a b z [] r l (inl e) = subst (IsReached g me) (sym e) r
leads_reached g me a b z [] r l (inr i) = absurd i
leads_reached g me a b z (x ∷ xs) r l (inl e) = subst (IsReached g me) (sym e) r
leads_reached g me a b z (x ∷ xs) r l (inr i) = leads_reached g me x b z xs (reached_step g me a x r l.1 (leads_start g x b xs l.2)) l.2 i

-- the bridges of a path are reached from its first
pub path_reached : (g : Graph) (a b z : SystemId) (p : List SystemId) → IsPath g a b p → IsAmong z p → IsReached g a z
path_reached g a b z [] w i = absurd w
path_reached g a b z (x ∷ xs) w i =
    leads_reached g a x b z xs (subst (IsReached g a) (sym w.0) (reached_itself g a (subst (IsBridge g) w.0 (leads_start g x b xs w.1)))) w.1 i

-- ---- bridges and their entries

pub bridge_entry : (bs : List GraphBridge) (x : SystemId) → IsAmong x (systems_of bs) → (b : GraphBridge) × Has b bs × (b.id.system ≡ x)
bridge_entry [] x h = absurd h
bridge_entry (b ∷ bs) x (inl e) = (b, inl refl, sym e)
bridge_entry (b ∷ bs) x (inr h) = let r = bridge_entry bs x h in (r.0, inr r.1, r.2)

pub entry_bridge : (bs : List GraphBridge) (b : GraphBridge) → Has b bs → IsAmong b.id.system (systems_of bs)
entry_bridge [] b h = absurd h
entry_bridge (c ∷ bs) b (inl e) = inl (λ i. (e i).id.system)
entry_bridge (c ∷ bs) b (inr h) = inr (entry_bridge bs b h)

-- a bridge whose entries another graph has is a bridge there
pub bridge_there : (g h : Graph) (x : SystemId) → ((b : GraphBridge) → b.id.system ≡ x → Contains g.bridges b → Contains h.bridges b) → IsBridge g x → IsBridge h x
bridge_there g h x there i =
    let r = bridge_entry g.bridges x i in
    subst (IsBridge h) r.2 (entry_bridge h.bridges r.0 (has_from_contains h.bridges r.0 (there r.0 r.2 (contains_from_has g.bridges r.0 r.1))))

-- ---- graphs that look alike

-- what is reached is a bridge in both
pub seen_bridge : (g h : Graph) (me x : SystemId) → LookAlike g h me → IsReached g me x → IsBridge h x
seen_bridge g h me x s r = bridge_there g h x (λ b e. (s.bridges b (subst (IsReached g me) (sym e) r)).0) (reached_bridge g me x r)

leads_there : (g h : Graph) (me a b : SystemId) (xs : List SystemId) → LookAlike g h me → IsReached g me a → Leads g a xs b → Leads h a xs b
leads_there g h me a b [] s r l = (seen_bridge g h me a s r, l.1)
leads_there g h me a b (x ∷ xs) s r l =
    (seen_bridge g h me a s r, subst (λ o. IsSome o) (s.costs a x r) l.1, leads_there g h me x b xs s (reached_step g me a x r l.1 (leads_start g x b xs l.2)) l.2)

reached_there : (g h : Graph) (me x : SystemId) → LookAlike g h me → IsReached g me x → IsReached h me x
reached_there g h me x s r = (r.0, leads_there g h me me x r.0 s (reached_itself g me (reaching_bridge g me x r)) r.1)

reached_along : (g h : Graph) (me a b : SystemId) (xs : List SystemId) → IsValid g → LookAlike g h me → IsReached g me a → Leads h a xs b → IsReached g me b
reached_along g h me a b [] v s r l = subst (IsReached g me) l.1 r
reached_along g h me a b (x ∷ xs) v s r l =
    let joined : IsSome (cost_between g a x) = subst (λ o. IsSome o) (sym (s.costs a x r)) l.1 in
    reached_along g h me x b xs v s (reached_step g me a x r joined (joined_bridges g a x v joined).1) l.2

reached_back : (g h : Graph) (me x : SystemId) → IsValid g → LookAlike g h me → IsReached h me x → IsReached g me x
reached_back g h me x v s r = reached_along g h me me x r.0 v s (reached_itself g me (s.start.1 (reaching_bridge h me x r))) r.1

pub looks_back : LooksBack
looks_back g h me v s = (
  record {
    start = (s.start.1, s.start.0);
    bridges = λ b r. (let t = s.bridges b (reached_back g h me b.id.system v s r) in (t.1, t.0));
    costs = λ x y r. sym (s.costs x y (reached_back g h me x v s r));
    ports = λ x y r. sym (s.ports x y (reached_back g h me x v s r));
    members = λ m r. (let t = s.members m (reached_back g h me m.system v s r) in (t.1, t.0));
  },
  λ x. (reached_there g h me x s, reached_back g h me x v s),
)

pub looks_on : LooksOn
looks_on g h me x s r = record {
  start = (λ i. seen_bridge g h me x s r, λ i. reached_bridge g me x r);
  bridges = λ b t. s.bridges b (reached_on g me x b.id.system r t);
  costs = λ y z t. s.costs y z (reached_on g me x y r t);
  ports = λ y z t. s.ports y z (reached_on g me x y r t);
  members = λ m t. s.members m (reached_on g me x m.system r t);
}

pub part_looks_alike : PartLooksAlike
part_looks_alike whole g me s = record {
  start = (
    λ i. bridge_there whole g me (λ b e k. (s.bridges b).1 (k, subst (IsReached whole me) (sym e) (reached_itself whole me i))) i,
    λ i. bridge_there g whole me (λ b e k. ((s.bridges b).0 k).0) i,
  );
  bridges = λ b r. (λ k. (s.bridges b).1 (k, r), λ k. ((s.bridges b).0 k).0);
  costs = λ x y r. sym (s.costs x y r);
  ports = λ x y r. sym (s.ports x y r);
  members = λ m r. (λ k. (s.members m).1 (k, r), λ k. ((s.members m).0 k).0);
}
