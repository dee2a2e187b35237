-- Ways by their last steps: each is a path, with the cost and the hops of its step.
use Rattle.std.proofs.Common.{◌≡◌, ℕ, zero, suc, ◌+◌, ◌≤◌, inl, inr, List, [], ◌∷◌, ◌++◌, length, Option, Some, None, IsSome, unwrap_or, option_map, refl, sym, ap, ◌∙◌, subst, arith, length-append}
use Rattle.std.proofs.lemmas.Option.{same_Some, none-some, slice_get_within, slice_get-get_or}
use Rattle.spb_types.specs.Graph.{IsAmong, systems_of, cost_between}
use Rattle.spb_types.specs.declared.address.SystemId.{SystemId}
use Rattle.spb_types.specs.declared.graph.Graph.{Graph}
use Rattle.ect_trees.specs.declared.mesh.Mesh.{Mesh}
use Rattle.ect_trees.specs.declared.ways.Step.{Step}
use Rattle.ect_trees.specs.Path.{IsPath, cost_of}
use Rattle.ect_trees.specs.Arcs.{IsBridgeAt, Leads, place_in}
use Rattle.ect_trees.specs.Ways.{step_at, before_of, place_before, bridge_at, way_back, way_to, IsStart, IsOnward, AreWays, HasHops}
use Rattle.ect_trees.proofs.Among.{among_parts}
use Rattle.ect_trees.proofs.Walks.{step, path_single, path_snoc, cost-snoc}
use Rattle.ect_trees.proofs.Places.{at_among, at_once, place_is, place_once}
use Rattle.ect_trees.proofs.Extended.{at_same}

-- the bridge that is read at a place where x stands is x
pub bridge_is : (g : Graph) (a x : SystemId) (place : ℕ) → IsBridgeAt g place x → bridge_at g a place ≡ x
bridge_is g a x place h =
    same_Some (bridge_at g a place) x (sym (slice_get-get_or (systems_of g.bridges) place a (slice_get_within (systems_of g.bridges) place x h)) ∙ h)

-- a bridge stands at a place with a step of so many hops or fewer
pub record IsReached (g : Graph) (steps : List (Option Step)) (n : ℕ) (z : SystemId) : Type 0 where
  pub place : ℕ
  pub last : Step
  pub here : IsBridgeAt g place z
  pub there : step_at steps place ≡ Some last
  pub few : last.hops ≤ n

-- the way of n hops to a place is a path to x with the cost of the step
pub record IsWay (g : Graph) (a : SystemId) (steps : List (Option Step)) (n place : ℕ) (x : SystemId) (s : Step) : Type 0 where
  pub path : IsPath g a x (way_back g a steps n place)
  pub cost_is : s.cost ≡ cost_of g (way_back g a steps n place)
  pub long : length (way_back g a steps n place) ≡ n + 1
  pub reached : (z : SystemId) → IsAmong z (way_back g a steps n place) → IsReached g steps n z

way_of_start : (r : Mesh) (from : ℕ) (a : SystemId) (steps : List (Option Step)) → AreWays r from a steps → (place : ℕ) (s : Step) (x : SystemId) → step_at steps place ≡ Some s → IsStart from place s → IsBridgeAt r.graph place x → IsWay r.graph a steps 0 place x s
way_of_start r from a steps w place s x there start here =
    let g = r.graph in
    let same : x ≡ a = at_same g from x a (subst (λ t. IsBridgeAt g t x) start.place_is here) w.here in
    let own : bridge_at g a place ≡ x = bridge_is g a x place here in
    let whole : a ∷ [] ≡ bridge_at g a place ∷ [] = ap (λ t. t ∷ []) (sym same ∙ sym own) in
    let alone : IsPath g a a (a ∷ []) = path_single g a (at_among (systems_of g.bridges) from a w.here) in
    record {
      path = subst (λ t. IsPath g a t (bridge_at g a place ∷ [])) (sym same) (subst (IsPath g a a) whole alone);
      cost_is = start.cost_is;
      long = omega arith;
      reached = λ z i. elim i [
        | inl e ↦ record { place = place; last = s; here = subst (IsBridgeAt g place) (sym (e ∙ own)) here; there = there; few = omega (arith, start.no_hop) }
        | inr none ↦ absurd none
      ];
    }

way_of_onward : (r : Mesh) (from : ℕ) (a : SystemId) (steps : List (Option Step)) → AreWays r from a steps → (n place : ℕ) (s : Step) (x : SystemId) → step_at steps place ≡ Some s → s.hops ≡ suc n → IsBridgeAt r.graph place x → (o : IsOnward r steps place s) → ((u : SystemId) → IsBridgeAt r.graph s.before u → IsWay r.graph a steps n s.before u o.before) → IsWay r.graph a steps (suc n) place x s
way_of_onward r from a steps w n place s x there hops here o prior = record {
  path = subst (IsPath g a x) whole (path_snoc g a u x p before.path joined (at_among (systems_of g.bridges) place x here) off);
  cost_is =
      let more : cost_of g (p ++ x ∷ []) ≡ cost_of g p + step g u x = cost-snoc g a u x p before.path in
      let own : step g u x ≡ o.arc.cost = ap (λ t. unwrap_or t 0) cost in
      let all : s.cost ≡ cost_of g (p ++ x ∷ []) = omega (arith, more, own, o.cost_is, before.cost_is) in
      all ∙ ap (cost_of g) whole;
  long = let sum = ap length whole in let parts = length-append p (x ∷ []) in omega (arith, sum, parts, before.long);
  reached = λ z i. elim (among_parts z p (x ∷ []) (subst (IsAmong z) (sym whole) i)) [
    | inl j ↦ let k = before.reached z j in record { place = k.place; last = k.last; here = k.here; there = k.there; few = omega (arith, k.few) }
    | inr (inl e) ↦ record { place = place; last = s; here = subst (IsBridgeAt g place) (sym e) here; there = there; few = omega (arith, hops) }
    | inr (inr none) ↦ absurd none
  ];
}
  where
    g : Graph
    g = r.graph

    u : SystemId
    u = (w.ready.lead s.before s.number o.arc o.listed).1.0

    go : Leads r.graph o.arc (w.ready.lead s.before s.number o.arc o.listed).1.0 (w.ready.lead s.before s.number o.arc o.listed).1.1
    go = (w.ready.lead s.before s.number o.arc o.listed).1.2

    before : IsWay r.graph a steps n s.before (w.ready.lead s.before s.number o.arc o.listed).1.0 o.before
    before = prior u (subst (λ t. IsBridgeAt g t u) (w.ready.lead s.before s.number o.arc o.listed).0 go.from)

    p : List SystemId
    p = way_back g a steps n s.before

    whole : way_back r.graph a steps n s.before ++ x ∷ [] ≡ way_back r.graph a steps (suc n) place
    whole =
        let front : p ≡ way_back g a steps n (place_before steps place) = ap (λ t. way_back g a steps n (before_of t)) (sym there) in
        let last : bridge_at g a place ≡ x = bridge_is g a x place here in
        λ i. front i ++ sym last i ∷ []

    cost : cost_between r.graph (w.ready.lead s.before s.number o.arc o.listed).1.0 x ≡ Some o.arc.cost
    cost =
        let same = at_same g o.arc.to (w.ready.lead s.before s.number o.arc o.listed).1.1 x go.to (subst (λ t. IsBridgeAt g t x) (sym o.to) here) in
        subst (λ t. cost_between g u t ≡ Some o.arc.cost) same go.cost

    joined : IsSome (cost_between r.graph (w.ready.lead s.before s.number o.arc o.listed).1.0 x)
    joined = subst (λ t. IsSome t) (sym cost) refl

    off : IsAmong x (way_back r.graph a steps n s.before) → ⊥
    off i =
        let k = before.reached x i in
        let one : k.place ≡ place = at_once (systems_of g.bridges) k.place place x w.ready.valid.apart k.here here in
        let same : k.last ≡ s = same_Some k.last s (sym k.there ∙ (ap (step_at steps) one ∙ there)) in
        let many : k.last.hops ≡ s.hops = ap (λ (t : Step). t.hops) same in
        absurd (omega (arith, k.few, many, hops))

pub is_way : (r : Mesh) (from : ℕ) (a : SystemId) (steps : List (Option Step)) → AreWays r from a steps → (n place : ℕ) (s : Step) (x : SystemId) → step_at steps place ≡ Some s → s.hops ≡ n → IsBridgeAt r.graph place x → IsWay r.graph a steps n place x s
is_way r from a steps w zero place s x there hops here = elim (w.each place s there) [
  | inl start ↦ way_of_start r from a steps w place s x there start here
  | inr o ↦ absurd (omega (arith, o.hops_are, hops))
]
is_way r from a steps w (suc n) place s x there hops here = elim (w.each place s there) [
  | inl start ↦ absurd (omega (arith, start.no_hop, hops))
  | inr o ↦ way_of_onward r from a steps w n place s x there hops here o (λ u at. is_way r from a steps w n s.before o.before u o.there (omega (arith, o.hops_are, hops)) at)
]

-- a bridge stands at a place with a step
pub stands : (r : Mesh) (from : ℕ) (a : SystemId) (steps : List (Option Step)) → AreWays r from a steps → (place : ℕ) (s : Step) → step_at steps place ≡ Some s → (x : SystemId) × IsBridgeAt r.graph place x
stands r from a steps w place s there = elim (w.each place s there) [
  | inl start ↦ (a, subst (λ t. IsBridgeAt r.graph t a) (sym start.place_is) w.here)
  | inr o ↦ let lead = w.ready.lead s.before s.number o.arc o.listed in (lead.1.1, subst (λ t. IsBridgeAt r.graph t lead.1.1) o.to lead.1.2.to)
]

-- the way to a bridge at a place with a step
pub way_is : (r : Mesh) (from : ℕ) (a : SystemId) (steps : List (Option Step)) → AreWays r from a steps → (place : ℕ) (s : Step) (x : SystemId) → step_at steps place ≡ Some s → IsBridgeAt r.graph place x → way_to r.graph a steps x ≡ Some (way_back r.graph a steps s.hops place)
way_is r from a steps w place s x there here =
    let at : place_in r.graph.bridges x ≡ place = place_is r.graph place x w.ready.valid here in
    ap (λ i. way_at i (step_at steps i)) at ∙ ap (way_at place) there
  where
    way_at : ℕ → Option Step → Option (List SystemId)
    way_at i None = None
    way_at i (Some t) = Some (way_back r.graph a steps t.hops i)

-- a bridge with a way stands at a place with a step
pub record HasStep (r : Mesh) (a : SystemId) (steps : List (Option Step)) (x : SystemId) (p : List SystemId) : Type 0 where
  pub last : Step
  pub there : step_at steps (place_in r.graph.bridges x) ≡ Some last
  pub here : IsBridgeAt r.graph (place_in r.graph.bridges x) x
  pub whole : way_back r.graph a steps last.hops (place_in r.graph.bridges x) ≡ p

pub has_step : (r : Mesh) (from : ℕ) (a : SystemId) (steps : List (Option Step)) → AreWays r from a steps → (x : SystemId) (p : List SystemId) → way_to r.graph a steps x ≡ Some p → HasStep r a steps x p
has_step r from a steps w x p e = by (step_at steps (place_in r.graph.bridges x)) refl e
  where
    by : (o : Option Step) → step_at steps (place_in r.graph.bridges x) ≡ o → option_map (λ (s : Step). way_back r.graph a steps s.hops (place_in r.graph.bridges x)) o ≡ Some p → HasStep r a steps x p
    by None there k = absurd (none-some p k)
    by (Some s) there k =
        let at = stands r from a steps w (place_in r.graph.bridges x) s there in
        let same : x ≡ at.0 = place_once r.graph.bridges x at.0 at.1 in
        record { last = s; there = there; here = subst (IsBridgeAt r.graph (place_in r.graph.bridges x)) (sym same) at.1; whole = same_Some (way_back r.graph a steps s.hops (place_in r.graph.bridges x)) p k }

-- the way that a step leads on from has one hop less
pub prior : (r : Mesh) (from : ℕ) (a : SystemId) (steps : List (Option Step)) → AreWays r from a steps → (n place : ℕ) → HasHops steps (suc n) place → HasHops steps n (place_before steps place)
prior r from a steps w n place h = elim (w.each place h.0 h.1) [
  | inl start ↦ absurd (omega (arith, start.no_hop, h.2))
  | inr o ↦ (o.before, ap (λ t. step_at steps (before_of t)) h.1 ∙ o.there, omega (arith, o.hops_are, h.2))
]
