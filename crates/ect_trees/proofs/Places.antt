-- Places of bridges in a graph, and the arcs between them.
use Rattle.std.proofs.Common.{◌≡◌, ℕ, zero, suc, ◌+◌, ◌<◌, Bool, true, false, true≢false, ◌&&◌, ◌||◌, not, if◌then◌else◌, cond, ◌⊎◌, inl, inr, List, [], ◌∷◌, length, get_or, Some, None, IsSome, option_map, ◌≢◌, refl, sym, ap, ◌∙◌, subst, arith, lt-ltb, ltb}
use Rattle.std.specs.List.{AllByRecursion, slice_get, position}
use Rattle.std.proofs.lemmas.Option.{none-some, same_Some, slice_get-map, slice_get_within, slice_get-get_or}
use Rattle.std.proofs.lemmas.Bool.{ltb-true}
use Rattle.std.proofs.lemmas.List.{length-map}
use Rattle.std.proofs.lemmas.List.Elements.{All-from_recursion}
use Rattle.spb_types.specs.Address.{same_system}
use Rattle.spb_types.specs.Graph.{IsAmong, IsDistinct, IsBridge, IsEdgeOf, OneEdge, IsValid, systems_of, joins, cost_among, cost_between}
use Rattle.spb_types.specs.declared.address.SystemId.{SystemId}
use Rattle.spb_types.specs.declared.graph.GraphBridge.{GraphBridge}
use Rattle.spb_types.specs.declared.graph.Edge.{Edge}
use Rattle.spb_types.specs.declared.graph.Graph.{Graph}
use Rattle.ect_trees.specs.declared.mesh.Arc.{Arc}
use Rattle.ect_trees.specs.Key.{bridge_id_among}
use Rattle.ect_trees.specs.Arcs.{IsBridgeAt, CanGo, place_in, arcs_of}
use Rattle.ect_trees.proofs.Among.{same_is, same_self}
use Rattle.ect_trees.proofs.Walks.{cost_comm}

-- what stands at a place is a member
pub at_among : (xs : List SystemId) (i : ℕ) (x : SystemId) → slice_get xs i ≡ Some x → IsAmong x xs
at_among [] i x h = absurd (none-some x h)
at_among (y ∷ ys) zero x h = inl (sym (same_Some y x h))
at_among (y ∷ ys) (suc i) x h = inr (at_among ys i x h)

-- a member stands at a place
pub among_at : (x : SystemId) (xs : List SystemId) → IsAmong x xs → (i : ℕ) × (slice_get xs i ≡ Some x)
among_at x [] h = absurd h
among_at x (y ∷ ys) (inl e) = (0, ap Some (sym e))
among_at x (y ∷ ys) (inr h) = let r = among_at x ys h in (suc r.0, r.1)

-- and without repeats at one place alone
pub at_once : (xs : List SystemId) (i j : ℕ) (x : SystemId) → IsDistinct xs → slice_get xs i ≡ Some x → slice_get xs j ≡ Some x → i ≡ j
at_once [] i j x d h k = absurd (none-some x h)
at_once (y ∷ ys) zero zero x d h k = refl
at_once (y ∷ ys) zero (suc j) x d h k = absurd (d.0 (subst (λ t. IsAmong t ys) (sym (same_Some y x h)) (at_among ys j x k)))
at_once (y ∷ ys) (suc i) zero x d h k = absurd (d.0 (subst (λ t. IsAmong t ys) (sym (same_Some y x k)) (at_among ys i x h)))
at_once (y ∷ ys) (suc i) (suc j) x d h k = ap suc (at_once ys i j x d.1 h k)

-- the bridge stands at the place that is found
pub place_at : (bs : List GraphBridge) (x : SystemId) → IsAmong x (systems_of bs) → slice_get (systems_of bs) (place_in bs x) ≡ Some x
place_at [] x h = absurd h
place_at (b ∷ bs) x h = found (same_system b.id.system x) refl (place_at bs x)
  where
    found : (t : Bool) → same_system b.id.system x ≡ t → (IsAmong x (systems_of bs) → slice_get (systems_of bs) (place_in bs x) ≡ Some x) → slice_get (systems_of (b ∷ bs)) (cond (not t) (1 + place_in bs x) 0) ≡ Some x
    found true e ih = ap Some (same_is b.id.system x e)
    found false e ih = elim h [
      | inl i ↦ absurd (true≢false (sym (same_self x) ∙ (ap (λ t. same_system t x) i ∙ e)))
      | inr i ↦ let one : 1 + place_in bs x ≡ suc (place_in bs x) = omega arith in subst (λ n. slice_get (systems_of (b ∷ bs)) n ≡ Some x) (sym one) (ih i)
    ]

-- at a place the bridge of that system id is found
found_at : (bs : List GraphBridge) (i : ℕ) (b : GraphBridge) → IsDistinct (systems_of bs) → slice_get bs i ≡ Some b → bridge_id_among bs b.id.system ≡ b.id
found_at [] i b d h = absurd (none-some b h)
found_at (c ∷ bs) zero b d h =
    let e : c ≡ b = same_Some c b h in
    subst (λ t. bridge_id_among (c ∷ bs) t.id.system ≡ t.id) e (ap (λ t. if t then c.id else bridge_id_among bs c.id.system) (same_self c.id.system))
found_at (c ∷ bs) (suc i) b d h = passed (same_system c.id.system b.id.system) refl (found_at bs i b d.1 h)
  where
    passed : (t : Bool) → same_system c.id.system b.id.system ≡ t → bridge_id_among bs b.id.system ≡ b.id → (if t then c.id else bridge_id_among bs b.id.system) ≡ b.id
    passed true e ih = absurd (d.0 (subst (λ t. IsAmong t (systems_of bs)) (sym (same_is c.id.system b.id.system e)) (at_among (systems_of bs) i b.id.system (slice_get-map (λ (t : GraphBridge). t.id.system) bs i ∙ ap (option_map (λ (t : GraphBridge). t.id.system)) h))))
    passed false e ih = ih

-- a place of a bridge is below the number of bridges
pub at_within : (g : Graph) (i : ℕ) (x : SystemId) → IsBridgeAt g i x → i < length g.bridges
at_within g i x h = omega (arith, slice_get_within (systems_of g.bridges) i x h, length-map g.bridges (λ (t : GraphBridge). t.id.system))

all_with : {X : Type 0} (P Q R : X → Type 0) (xs : List X) → ((x : X) → P x → Q x → R x) → AllByRecursion P xs → AllByRecursion Q xs → AllByRecursion R xs
all_with P Q R [] f p q = tt
all_with P Q R (x ∷ xs) f p q = (f x p.0 q.0, all_with P Q R xs f p.1 q.1)

joins_own : (e : Edge) → joins e e.a e.b ≡ true
joins_own e = ap (λ t. (t && same_system e.b e.b) || (same_system e.a e.b && same_system e.b e.a)) (same_self e.a) ∙ ap (λ t. t || (same_system e.a e.b && same_system e.b e.a)) (same_self e.b)

-- the cost between the ends of each edge is its own
costs_own : (es : List Edge) → OneEdge es → AllByRecursion (λ e. cost_among es e.a e.b ≡ Some e.cost) es
costs_own [] o = tt
costs_own (e ∷ es) o = (
  ap (λ t. if t then Some e.cost else cost_among es e.a e.b) (joins_own e),
  all_with (λ f. joins e f.a f.b ≡ false) (λ f. cost_among es f.a f.b ≡ Some f.cost) (λ f. cost_among (e ∷ es) f.a f.b ≡ Some f.cost) es
      (λ f apart own. ap (λ t. if t then Some e.cost else cost_among es f.a f.b) apart ∙ own) o.0 (costs_own es o.1),
)

arcs_go : (g : Graph) (es : List Edge) → AllByRecursion (λ e. IsEdgeOf g e) es → AllByRecursion (λ e. cost_between g e.a e.b ≡ Some e.cost) es → AllByRecursion (CanGo g) (arcs_of g.bridges es)
arcs_go g [] v o = tt
arcs_go g (e ∷ es) v o =
    let from = place_at g.bridges e.a v.0.from in
    let to = place_at g.bridges e.b v.0.to in (
      (e.a, e.b, record { from = from; to = to; cost = o.0 }),
      (
        (e.b, e.a, record { from = to; to = from; cost = cost_comm g e.b e.a ∙ o.0 }),
        arcs_go g es v.1 o.1,
      ),
    )

-- each hop leads along an edge
pub arcs_lead : (g : Graph) → IsValid g → AllByRecursion (CanGo g) (arcs_of g.bridges g.edges)
arcs_lead g v = arcs_go g g.edges v.edges (costs_own g.edges v.one_edge)

-- a hop of the list from x to y at a cost
pub record GoesAt (g : Graph) (arcs : List Arc) (x y : SystemId) (cost : ℕ) : Type 0 where
  pub at : ℕ
  pub arc : Arc
  pub here : slice_get arcs at ≡ Some arc
  pub from : IsBridgeAt g arc.from x
  pub to : IsBridgeAt g arc.to y
  pub cost_is : arc.cost ≡ cost

and_parts : (a b : Bool) → (a && b) ≡ true → (a ≡ true) × (b ≡ true)
and_parts true b h = (refl, h)
and_parts false b h = absurd (true≢false (sym h))

or_parts : (a b : Bool) → (a || b) ≡ true → (a ≡ true) ⊎ (b ≡ true)
or_parts true b h = inl refl
or_parts false b h = inr h

later : (g : Graph) (h k : Arc) (arcs : List Arc) (x y : SystemId) (c : ℕ) → GoesAt g arcs x y c → GoesAt g (h ∷ k ∷ arcs) x y c
later g h k arcs x y c w = record { at = suc (suc w.at); arc = w.arc; here = w.here; from = w.from; to = w.to; cost_is = w.cost_is }

goes_among : (g : Graph) (es : List Edge) (x y : SystemId) (c : ℕ) → AllByRecursion (λ e. IsEdgeOf g e) es → cost_among es x y ≡ Some c → GoesAt g (arcs_of g.bridges es) x y c
goes_among g [] x y c v h = absurd (none-some c h)
goes_among g (e ∷ es) x y c v h = by (joins e x y) refl h (goes_among g es x y c v.1)
  where
    from : IsBridgeAt g (place_in g.bridges e.a) e.a
    from = place_at g.bridges e.a v.0.from

    to : IsBridgeAt g (place_in g.bridges e.b) e.b
    to = place_at g.bridges e.b v.0.to

    joined : e.cost ≡ c → (same_system e.a x && same_system e.b y) ≡ true ⊎ (same_system e.a y && same_system e.b x) ≡ true → GoesAt g (arcs_of g.bridges (e ∷ es)) x y c
    joined k (inl t) =
        let p = and_parts (same_system e.a x) (same_system e.b y) t in
        record { at = 0; arc = record { from = place_in g.bridges e.a; to = place_in g.bridges e.b; cost = e.cost }; here = refl; from = subst (IsBridgeAt g (place_in g.bridges e.a)) (same_is e.a x p.0) from; to = subst (IsBridgeAt g (place_in g.bridges e.b)) (same_is e.b y p.1) to; cost_is = k }
    joined k (inr t) =
        let p = and_parts (same_system e.a y) (same_system e.b x) t in
        record { at = 1; arc = record { from = place_in g.bridges e.b; to = place_in g.bridges e.a; cost = e.cost }; here = refl; from = subst (IsBridgeAt g (place_in g.bridges e.b)) (same_is e.b x p.1) to; to = subst (IsBridgeAt g (place_in g.bridges e.a)) (same_is e.a y p.0) from; cost_is = k }

    by : (t : Bool) → joins e x y ≡ t → (if t then Some e.cost else cost_among es x y) ≡ Some c → (cost_among es x y ≡ Some c → GoesAt g (arcs_of g.bridges es) x y c) → GoesAt g (arcs_of g.bridges (e ∷ es)) x y c
    by true j k ih = joined (same_Some e.cost c k) (or_parts (same_system e.a x && same_system e.b y) (same_system e.a y && same_system e.b x) j)
    by false j k ih = later g _ _ (arcs_of g.bridges es) x y c (ih k)

-- between two bridges that an edge joins there is a hop
pub goes : (g : Graph) (x y : SystemId) (c : ℕ) → IsValid g → cost_between g x y ≡ Some c → GoesAt g (arcs_of g.bridges g.edges) x y c
goes g x y c v h = goes_among g g.edges x y c v.edges h

-- what a list of bridges, and of edges, is read as past its end
abbrev pub no_bridge : GraphBridge
no_bridge = record { id = record { priority = 0; system = record { mac = record { bytes = [] } } }; source = record { value = 0 } }

abbrev pub no_edge : Edge
no_edge = record { a = record { mac = record { bytes = [] } }; port_a = 0; b = record { mac = record { bytes = [] } }; port_b = 0; cost = 0 }

-- the bridge that is read at the place of y is y, with the id that the graph gives y
pub read_bridge : (g : Graph) (bs : List GraphBridge) (i : ℕ) (y : SystemId) → IsValid g → bs ≡ g.bridges → IsBridgeAt g i y → ((get_or bs i no_bridge).id.system ≡ y) × (bridge_id_among g.bridges y ≡ (get_or bs i no_bridge).id)
read_bridge g bs i y v e h =
    let within : i < length g.bridges = at_within g i y h in
    let here : slice_get g.bridges i ≡ Some (get_or g.bridges i no_bridge) = slice_get-get_or g.bridges i no_bridge within in
    let read : Some (get_or g.bridges i no_bridge).id.system ≡ Some y = sym (slice_get-map (λ (t : GraphBridge). t.id.system) g.bridges i ∙ ap (option_map (λ (t : GraphBridge). t.id.system)) here) ∙ h in
    let same : (get_or g.bridges i no_bridge).id.system ≡ y = same_Some (get_or g.bridges i no_bridge).id.system y read in
    subst (λ t. ((get_or t i no_bridge).id.system ≡ y) × (bridge_id_among g.bridges y ≡ (get_or t i no_bridge).id)) (sym e)
    (same, subst (λ t. bridge_id_among g.bridges t ≡ (get_or g.bridges i no_bridge).id) same (found_at g.bridges i (get_or g.bridges i no_bridge) v.apart here))

-- an edge that is read from the graph's list is one of the graph
pub read_edge : (g : Graph) (es : List Edge) (i : ℕ) → IsValid g → es ≡ g.edges → i < length es → IsEdgeOf g (get_or es i no_edge)
read_edge g es i v e h = All-from_recursion (λ t. IsEdgeOf g t) es (subst (AllByRecursion (λ t. IsEdgeOf g t)) (sym e) v.edges) i no_edge h

-- the place of a bridge is found
pub place_found : (g : Graph) (x : SystemId) → IsBridge g x → IsSome (position (λ b. same_system b.id.system x) g.bridges)
place_found g x h =
    let within : place_in g.bridges x < length g.bridges = at_within g (place_in g.bridges x) x (place_at g.bridges x h) in
    subst (λ t. IsSome (cond t (Some (place_in g.bridges x)) None)) (sym (lt-ltb (place_in g.bridges x) (length g.bridges) within)) refl

-- the bridge that stands at the place of x is x
pub place_once : (bs : List GraphBridge) (x y : SystemId) → slice_get (systems_of bs) (place_in bs x) ≡ Some y → x ≡ y
place_once [] x y h = absurd (none-some y h)
place_once (b ∷ bs) x y h = found (same_system b.id.system x) refl h (place_once bs x y)
  where
    found : (t : Bool) → same_system b.id.system x ≡ t → slice_get (systems_of (b ∷ bs)) (cond (not t) (1 + place_in bs x) 0) ≡ Some y → (slice_get (systems_of bs) (place_in bs x) ≡ Some y → x ≡ y) → x ≡ y
    found true e h ih = sym (same_is b.id.system x e) ∙ same_Some b.id.system y h
    found false e h ih = let one : 1 + place_in bs x ≡ suc (place_in bs x) = omega arith in
        ih (subst (λ n. slice_get (systems_of (b ∷ bs)) n ≡ Some y) one h)

-- where x stands is its place
pub place_is : (g : Graph) (i : ℕ) (x : SystemId) → IsValid g → IsBridgeAt g i x → place_in g.bridges x ≡ i
place_is g i x v h = at_once (systems_of g.bridges) (place_in g.bridges x) i x v.apart (place_at g.bridges x (at_among (systems_of g.bridges) i x h)) h

-- and no other bridge has that place
pub place_apart : (g : Graph) (i : ℕ) (x z : SystemId) → IsBridgeAt g i x → z ≢ x → place_in g.bridges z ≢ i
place_apart g i x z h n e = n (place_once g.bridges z x (subst (λ t. slice_get (systems_of g.bridges) t ≡ Some x) (sym e) h))

-- the place where it stands is found
pub place_found_at : (g : Graph) (i : ℕ) (x : SystemId) → IsValid g → IsBridgeAt g i x → position (λ b. same_system b.id.system x) g.bridges ≡ Some i
place_found_at g i x v h =
    let same : place_in g.bridges x ≡ i = place_is g i x v h in
    let within : i < length g.bridges = at_within g i x h in
    ap (λ t. cond t (Some (place_in g.bridges x)) None) (lt-ltb (place_in g.bridges x) (length g.bridges) (omega (arith, within, same))) ∙ ap Some same

-- where a place is found, the bridge stands there
pub found_place : (g : Graph) (x : SystemId) (i : ℕ) → position (λ b. same_system b.id.system x) g.bridges ≡ Some i → IsBridgeAt g i x
found_place g x i h = by (ltb (place_in g.bridges x) (length g.bridges)) refl h
  where
    by : (t : Bool) → ltb (place_in g.bridges x) (length g.bridges) ≡ t → cond t (Some (place_in g.bridges x)) None ≡ Some i → IsBridgeAt g i x
    by true e k =
        let within : place_in g.bridges x < length g.bridges = ltb-true (place_in g.bridges x) (length g.bridges) e in
        let long : length (systems_of g.bridges) ≡ length g.bridges = length-map g.bridges (λ (t : GraphBridge). t.id.system) in
        let read = slice_get-get_or (systems_of g.bridges) (place_in g.bridges x) x (omega (arith, within, long)) in
        let own : x ≡ get_or (systems_of g.bridges) (place_in g.bridges x) x = place_once g.bridges x _ read in
        subst (λ n. IsBridgeAt g n x) (same_Some (place_in g.bridges x) i k) (read ∙ ap Some (sym own))
    by false e k = absurd (none-some i k)

-- where a bridge is read whose system id is that of x, x stands
pub reads_at : (g : Graph) (bs : List GraphBridge) (i : ℕ) (x : SystemId) → bs ≡ g.bridges → i < length bs → same_system (get_or bs i no_bridge).id.system x ≡ true → IsBridgeAt g i x
reads_at g bs i x e within same =
    let here : slice_get bs i ≡ Some (get_or bs i no_bridge) = slice_get-get_or bs i no_bridge within in
    let read : slice_get (systems_of bs) i ≡ Some (get_or bs i no_bridge).id.system = slice_get-map (λ (t : GraphBridge). t.id.system) bs i ∙ ap (option_map (λ (t : GraphBridge). t.id.system)) here in
    subst (λ t. slice_get (systems_of t) i ≡ Some x) e (read ∙ ap Some (same_is (get_or bs i no_bridge).id.system x same))

abbrev pub no_arc : Arc
no_arc = record { from = 0; to = 0; cost = 0 }
