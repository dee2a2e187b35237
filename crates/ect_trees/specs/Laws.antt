use Rattle.std.specs.Prelude.{◌≡◌, ◌↔◌, ◌⊎◌, Contains, ℕ, List, [], ◌∷◌, ◌++◌, reverse, Some, None, IsSome}
use Rattle.std.specs.declared.cmp.Ordering.{Ordering}
use Rattle.std.specs.Cmp.{IsTotalOrder}
use Rattle.spb_types.specs.declared.address.SystemId.{SystemId}
use Rattle.spb_types.specs.declared.graph.Edge.{Edge}
use Rattle.spb_types.specs.declared.graph.GraphBridge.{GraphBridge}
use Rattle.spb_types.specs.declared.graph.Graph.{Graph}
use Rattle.spb_types.specs.declared.graph.Member.{Member}
use Rattle.spb_types.specs.Graph.{IsBridge, IsValid, cost_between, port_between}
use Rattle.ect_trees.specs.declared.key.PathKey.{PathKey}
use Rattle.ect_trees.specs.Path.{Leads, IsPath}
use Rattle.ect_trees.specs.Key.{key_of, key_cmp, IsBelow}
use Rattle.ect_trees.specs.Best.{IsBest, best_of}
use Rattle.ect_trees.specs.Tree.{Paths, GivesBest, IsGrown}

-- keys are totally ordered, and only equal keys tie
pub record AreKeysOrdered : Type 0 where
  pub total : IsTotalOrder key_cmp
  pub tied : (k l : PathKey) → key_cmp k l ≡ Ordering.Equal → k ≡ l

-- one bridge more, added to two paths at the bridge where both end, keeps the order of their keys
-- (that it is joined there and on neither path is not needed for this)
abbrev pub KeepsOrder : Type 0
KeepsOrder = (g : Graph) (mask : ℕ) (a b x y : SystemId) (p q : List SystemId)
    → IsPath g a x p → IsPath g b x q
    → IsBelow (key_of g mask p) (key_of g mask q)
    ↔ IsBelow (key_of g mask (p ++ y ∷ [])) (key_of g mask (q ++ y ∷ []))

-- a path that no other from a to b is below
pub record IsLeast (g : Graph) (mask : ℕ) (a b : SystemId) (p : List SystemId) : Type 0 where
  pub path : IsPath g a b p
  pub least : (q : List SystemId) → IsPath g a b q → IsBelow (key_of g mask q) (key_of g mask p) → ⊥

-- no tie is least: a path that no other is below is below every other
abbrev pub NoTieIsLeast : Type 0
NoTieIsLeast = (g : Graph) (mask : ℕ) (a b : SystemId) (p : List SystemId)
    → IsValid g → IsLeast g mask a b p → IsBest g mask a b p

-- there is at most one best path
abbrev pub BestIsUnique : Type 0
BestIsUnique = (g : Graph) (mask : ℕ) (a b : SystemId) (p q : List SystemId)
    → IsBest g mask a b p → IsBest g mask a b q → p ≡ q

-- where there is a path, there is a best one
abbrev pub BestExists : Type 0
BestExists = (g : Graph) (mask : ℕ) (a b : SystemId) (p : List SystemId)
    → IsValid g → IsPath g a b p → (q : List SystemId) × IsBest g mask a b q

-- best_of gives None exactly where there is no path
abbrev pub BestOfNone : Type 0
BestOfNone = (g : Graph) (mask : ℕ) (a b : SystemId)
    → IsValid g → (best_of g mask a b ≡ None) ↔ ((p : List SystemId) → IsPath g a b p → ⊥)

-- best_of gives a path exactly where it is the best one
abbrev pub BestOfSome : Type 0
BestOfSome = (g : Graph) (mask : ℕ) (a b : SystemId) (p : List SystemId)
    → IsValid g → (best_of g mask a b ≡ Some p) ↔ IsBest g mask a b p

-- the best path from a bridge to itself is that bridge alone
abbrev pub BestToItself : Type 0
BestToItself = (g : Graph) (mask : ℕ) (a : SystemId) (p : List SystemId)
    → IsBridge g a → IsBest g mask a a p ↔ (p ≡ a ∷ [])

-- the best path from b to a is the best path from a to b in reverse
abbrev pub BestReversed : Type 0
BestReversed = (g : Graph) (mask : ℕ) (a b : SystemId) (p : List SystemId)
    → IsBest g mask a b p → IsBest g mask b a (reverse p)

-- the part of a best path up to a bridge on it is best
abbrev pub FrontIsBest : Type 0
FrontIsBest = (g : Graph) (mask : ℕ) (a b x : SystemId) (p q : List SystemId)
    → IsValid g → IsBest g mask a b (p ++ x ∷ q) → IsBest g mask a x (p ++ x ∷ [])

-- the part of a best path from a bridge on it is best
abbrev pub BackIsBest : Type 0
BackIsBest = (g : Graph) (mask : ℕ) (a b x : SystemId) (p q : List SystemId)
    → IsValid g → IsBest g mask a b (p ++ x ∷ q) → IsBest g mask x b (x ∷ q)

-- the edge with its ends exchanged
abbrev pub turned : Edge → Edge
turned e = record { a = e.b; port_a = e.port_b; b = e.a; port_b = e.port_a; cost = e.cost }

-- the graph has this edge, whichever of its ends is named first
abbrev pub HasEdge : Graph → Edge → Type 0
HasEdge g e = Contains g.edges e ⊎ Contains g.edges (turned e)

-- two graphs have the same bridges and the same edges, in any order and from either end
pub record AreAlike (g h : Graph) : Type 0 where
  pub bridges : (b : GraphBridge) → Contains g.bridges b ↔ Contains h.bridges b
  pub edges : (e : Edge) → HasEdge g e ↔ HasEdge h e

-- best paths don't depend on the order of a graph's lists, nor on the order of an edge's ends
abbrev pub OrderSaysNothing : Type 0
OrderSaysNothing = (g h : Graph) (mask : ℕ) (a b : SystemId)
    → IsValid g → IsValid h → AreAlike g h → best_of g mask a b ≡ best_of h mask a b

-- nor do the trees of these paths with their costs
abbrev pub TreesAlike : Type 0
TreesAlike = (g h : Graph) (mask : ℕ) (a : SystemId) (t : Paths)
    → IsValid g → IsValid h → AreAlike g h → GivesBest h mask a t → GivesBest g mask a t

-- a tree whose labels are the best paths has the best paths
abbrev pub GrownIsBest : Type 0
GrownIsBest = (g : Graph) (mask : ℕ) (t : Paths) → IsValid g → IsGrown g mask t → GivesBest g mask t.source t

-- ---- what a bridge sees of a graph

-- a reaches x over edges
abbrev pub IsReached : Graph → SystemId → SystemId → Type 0
IsReached g a x = (walk : List SystemId) × Leads g a walk x

-- two graphs look alike from a bridge: it reaches the same in both
pub record LookAlike (g h : Graph) (me : SystemId) : Type 0 where
  pub start : IsBridge g me ↔ IsBridge h me
  pub bridges : (b : GraphBridge) → IsReached g me b.id.system → Contains g.bridges b ↔ Contains h.bridges b
  pub costs : (x y : SystemId) → IsReached g me x → cost_between g x y ≡ cost_between h x y
  pub ports : (x y : SystemId) → IsReached g me x → port_between g x y ≡ port_between h x y
  pub members : (m : Member) → IsReached g me m.system → Contains g.members m ↔ Contains h.members m

-- it looks the same back, and the bridge reaches the same bridges in both
abbrev pub LooksBack : Type 0
LooksBack = (g h : Graph) (me : SystemId)
    → IsValid g → LookAlike g h me → LookAlike h g me × ((x : SystemId) → IsReached g me x ↔ IsReached h me x)

-- graphs that look alike from a bridge look alike from each bridge that it reaches
abbrev pub LooksOn : Type 0
LooksOn = (g h : Graph) (me x : SystemId) → LookAlike g h me → IsReached g me x → LookAlike g h x

-- the best paths from a bridge are the same in graphs that look alike from it
abbrev pub SameBest : Type 0
SameBest = (g h : Graph) (mask : ℕ) (a b : SystemId)
    → IsValid g → IsValid h → LookAlike g h a → best_of g mask a b ≡ best_of h mask a b

-- g is the part of a graph that `me` reaches
pub record IsPartOf (whole : Graph) (me : SystemId) (g : Graph) : Type 0 where
  pub bridges : (b : GraphBridge) → Contains g.bridges b ↔ (Contains whole.bridges b × IsReached whole me b.id.system)
  pub costs : (x y : SystemId) → IsReached whole me x → cost_between g x y ≡ cost_between whole x y
  pub ports : (x y : SystemId) → IsReached whole me x → port_between g x y ≡ port_between whole x y
  pub within : (x y : SystemId) → IsSome (cost_between g x y) → IsReached whole me x
  pub members : (m : Member) → Contains g.members m ↔ (Contains whole.members m × IsReached whole me m.system)

-- a graph and the part that a bridge reaches look alike from it
abbrev pub PartLooksAlike : Type 0
PartLooksAlike = (whole g : Graph) (me : SystemId) → IsPartOf whole me g → LookAlike whole g me

-- a bridge joined to another, which reaches that and no third one
pub record IsCut (whole : Graph) (me : SystemId) (g : Graph) : Type 0 where
  pub valid : IsValid whole
  pub part : IsPartOf whole me g
  pub next : SystemId
  pub joined : IsSome (cost_between g me next)
  pub other : GraphBridge
  pub there : Contains whole.bridges other
  pub missing : Contains g.bridges other → ⊥

-- there is such a part of a graph
abbrev pub SomeGraphIsCut : Type 0
SomeGraphIsCut = (whole : Graph) × (me : SystemId) × (g : Graph) × IsCut whole me g

-- graphs that are alike have the same costs and ports
abbrev pub AlikeHaveSamePorts : Type 0
AlikeHaveSamePorts = (g h : Graph) (x y : SystemId) → IsValid g → IsValid h → AreAlike g h
    → (cost_between g x y ≡ cost_between h x y) × (port_between g x y ≡ port_between h x y)

-- and they look alike from every bridge, where they have the same members
abbrev pub LookAlikeFromEach : Type 0
LookAlikeFromEach = (g h : Graph) (me : SystemId) → IsValid g → IsValid h → AreAlike g h
    → ((m : Member) → Contains g.members m ↔ Contains h.members m) → LookAlike g h me
