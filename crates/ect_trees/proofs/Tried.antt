-- Ways that are low at every edge, by the cost and the hops of their steps, and by ids where these tie.
use Rattle.std.proofs.Common.{◌≡◌, ℕ, suc, ◌+◌, ◌<◌, ◌≤◌, ◌⊎◌, inl, inr, List, [], ◌∷◌, ◌++◌, length, map, false, true≢false, Option, Some, None, IsSome, unwrap_or, refl, sym, ap, ◌∙◌, subst, arith, length-append, Ordering, Less, Equal, Greater, nat_cmp}
use Rattle.std.specs.Ordering.{MatchOrdering, ordering_then, is_lt}
use Rattle.std.specs.Cmp.Lexicographic.{slice_cmp}
use Rattle.std.proofs.lemmas.Cmp.{ranked}
use Rattle.std.proofs.lemmas.List.{length-map}
use Rattle.std.proofs.lemmas.Option.{same_Some}
use Rattle.spb_types.specs.Graph.{IsAmong, cost_between}
use Rattle.spb_types.specs.declared.address.SystemId.{SystemId}
use Rattle.ect_trees.specs.declared.key.PathKey.{PathKey}
use Rattle.ect_trees.specs.declared.mesh.Arc.{Arc}
use Rattle.ect_trees.specs.declared.mesh.Mesh.{Mesh}
use Rattle.ect_trees.specs.declared.ways.Step.{Step}
use Rattle.ect_trees.specs.declared.trial.Verdict.{Verdict}
use Rattle.ect_trees.specs.Path.{IsPath, cost_of, hops_of}
use Rattle.ect_trees.specs.Key.{id_cmp, masked_id, sorted_ids, key_of, IsBelow}
use Rattle.ect_trees.specs.Low.{LowAt, AreLow}
use Rattle.ect_trees.specs.Arcs.{IsBridgeAt, IsArcAt, Leads, place_in, rows_of}
use Rattle.ect_trees.specs.Ways.{step_at, before_of, bridge_at, way_back, way_to, IsOnward, AreWays, ids_of, Compares}
use Rattle.ect_trees.specs.Trial.{Covers, IsLowOver, ArcIsLow, PlacesAreLow, MakeWays, AreBestWays}
use Rattle.ect_trees.proofs.Walks.{step, cost-snoc, map-snoc}
use Rattle.ect_trees.proofs.KeyOrder.{not_below_itself}
use Rattle.ect_trees.proofs.Behind.{before_end}
use Rattle.ect_trees.proofs.Places.{at_within}
use Rattle.ect_trees.proofs.Extended.{at_same}
use Rattle.ect_trees.proofs.Low.{low_is_best}
use Rattle.ect_trees.proofs.Chained.{IsWay, bridge_is, is_way, stands, way_is, has_step}

-- a key below another costs less; or as much, with fewer hops; or both tie, and its ids are lower
abbrev pub BelowBy : PathKey → PathKey → Type 0
BelowBy k l = (k.cost < l.cost) ⊎ ((k.cost ≡ l.cost) × ((k.hops < l.hops) ⊎ ((k.hops ≡ l.hops) × (slice_cmp id_cmp k.ids l.ids ≡ Less))))

pub below_by : (k l : PathKey) → IsBelow k l → BelowBy k l
below_by k l h = by (nat_cmp k.cost l.cost) (nat_cmp k.hops l.hops) (ranked k.cost l.cost (nat_cmp k.cost l.cost) refl) (ranked k.hops l.hops (nat_cmp k.hops l.hops) refl) h
  where
    by : (o t : Ordering) → MatchOrdering o (k.cost < l.cost) (k.cost ≡ l.cost) (l.cost < k.cost) → MatchOrdering t (k.hops < l.hops) (k.hops ≡ l.hops) (l.hops < k.hops) → ordering_then o (ordering_then t (slice_cmp id_cmp k.ids l.ids)) ≡ Less → BelowBy k l
    by Less t m n e = inl m
    by Equal Less m n e = inr (m, inl n)
    by Equal Equal m n e = inr (m, inr (n, e))
    by Equal Greater m n e = let t : Greater ≡ Less = e in absurd (cc)
    by Greater t m n e = let s : Greater ≡ Less = e in absurd (cc)

-- the way to y by an arc, and the way that y has
pub record IsBoth (r : Mesh) (a : SystemId) (steps : List (Option Step)) (place : ℕ) (s : Step) (arc : Arc) (end : Step) (y : SystemId) : Type 0 where
  pub start : SystemId
  pub way : IsWay r.graph a steps s.hops place start s
  pub other : IsWay r.graph a steps end.hops arc.to y end
  pub cost_is : cost_of r.graph (way_back r.graph a steps s.hops place ++ y ∷ []) ≡ s.cost + arc.cost
  pub hops_are : hops_of (way_back r.graph a steps s.hops place ++ y ∷ []) ≡ s.hops + 1
  pub end_hops : hops_of (way_back r.graph a steps end.hops arc.to) ≡ end.hops

pub both_ways : (r : Mesh) (from : ℕ) (a : SystemId) (steps : List (Option Step)) → AreWays r from a steps → (place number : ℕ) (s : Step) (arc : Arc) (end : Step) (y : SystemId) → step_at steps place ≡ Some s → IsArcAt (rows_of r) place number arc → step_at steps arc.to ≡ Some end → IsBridgeAt r.graph arc.to y → IsBoth r a steps place s arc end y
both_ways r from a steps w place number s arc end y there listed end_there here =
    let g = r.graph in
    let lead = w.ready.lead place number arc listed in
    let x = lead.1.0 in
    let go : Leads g arc lead.1.0 lead.1.1 = lead.1.2 in
    let at : IsBridgeAt g place lead.1.0 = subst (λ t. IsBridgeAt g t x) lead.0 go.from in
    let way = is_way r from a steps w s.hops place s x there refl at in
    let other = is_way r from a steps w end.hops arc.to end y end_there refl here in
    let p = way_back g a steps s.hops place in
    let same = at_same g arc.to lead.1.1 y go.to here in
    let cost : cost_between g x y ≡ Some arc.cost = subst (λ t. cost_between g x t ≡ Some arc.cost) same go.cost in
    let own : step g x y ≡ arc.cost = ap (λ t. unwrap_or t 0) cost in
    let more : cost_of g (p ++ y ∷ []) ≡ cost_of g p + step g x y = cost-snoc g a x y p way.path in
    let long = length-append p (y ∷ []) in
    record {
      start = x;
      way = way;
      other = other;
      cost_is = omega (arith, more, own, way.cost_is);
      hops_are = omega (arith, long, way.long);
      end_hops = omega (arith, other.long);
    }

-- what costs more is low
pub dearer_is_low : (r : Mesh) (a : SystemId) (steps : List (Option Step)) (m place : ℕ) (s : Step) (arc : Arc) (end : Step) (y : SystemId) → IsBoth r a steps place s arc end y → end.cost < s.cost + arc.cost → IsBelow (key_of r.graph m (way_back r.graph a steps s.hops place ++ y ∷ [])) (key_of r.graph m (way_back r.graph a steps end.hops arc.to)) → ⊥
dearer_is_low r a steps m place s arc end y b more below =
    let own = b.other.cost_is in
    elim (below_by (key_of r.graph m (way_back r.graph a steps s.hops place ++ y ∷ [])) (key_of r.graph m (way_back r.graph a steps end.hops arc.to)) below) [
      | inl less ↦ absurd (omega (arith, less, b.cost_is, own, more))
      | inr h ↦ let same = h.0 in absurd (omega (arith, same, b.cost_is, own, more))
    ]

-- so is what costs as much and has more hops
pub longer_is_low : (r : Mesh) (a : SystemId) (steps : List (Option Step)) (m place : ℕ) (s : Step) (arc : Arc) (end : Step) (y : SystemId) → IsBoth r a steps place s arc end y → end.cost ≡ s.cost + arc.cost → end.hops ≤ s.hops → IsBelow (key_of r.graph m (way_back r.graph a steps s.hops place ++ y ∷ [])) (key_of r.graph m (way_back r.graph a steps end.hops arc.to)) → ⊥
longer_is_low r a steps m place s arc end y b tie more below =
    let own = b.other.cost_is in
    let hops = b.hops_are in
    let ends = b.end_hops in
    elim (below_by (key_of r.graph m (way_back r.graph a steps s.hops place ++ y ∷ [])) (key_of r.graph m (way_back r.graph a steps end.hops arc.to)) below) [
      | inl less ↦ absurd (omega (arith, less, b.cost_is, own, tie))
      | inr (same, inl less) ↦ absurd (omega (arith, less, hops, ends, more))
      | inr (same, inr t) ↦ let eq = t.0 in absurd (omega (arith, eq, hops, ends, more))
    ]

-- the way by the arc is the way itself where its place is the one before the end
pub own_is_low : (r : Mesh) (from : ℕ) (a : SystemId) (steps : List (Option Step)) → AreWays r from a steps → (m place : ℕ) (s : Step) (arc : Arc) (end : Step) (y : SystemId) → step_at steps place ≡ Some s → step_at steps arc.to ≡ Some end → IsBridgeAt r.graph arc.to y → end.before ≡ place → s.hops < end.hops → IsBelow (key_of r.graph m (way_back r.graph a steps s.hops place ++ y ∷ [])) (key_of r.graph m (way_back r.graph a steps end.hops arc.to)) → ⊥
own_is_low r from a steps w m place s arc end y there end_there here before more below =
    let g = r.graph in
    elim (w.each arc.to end end_there) [
      | inl start ↦ absurd (omega (arith, start.no_hop, more))
      | inr o ↦
          let prior : o.before ≡ s = same_Some o.before s (sym o.there ∙ (ap (step_at steps) before ∙ there)) in
          let hops : end.hops ≡ suc s.hops = (let e = ap (λ (t : Step). t.hops) prior in let f = o.hops_are in omega (arith, e, f)) in
          let last : bridge_at g a arc.to ≡ y = bridge_is g a y arc.to here in
          let whole : way_back g a steps end.hops arc.to ≡ way_back g a steps s.hops place ++ y ∷ [] =
          ap (λ n. way_back g a steps n arc.to) hops ∙ (λ i. way_back g a steps s.hops ((ap before_of end_there ∙ before) i) ++ last i ∷ []) in
          not_below_itself (key_of g m (way_back g a steps s.hops place ++ y ∷ [])) (subst (λ t. IsBelow (key_of g m (way_back g a steps s.hops place ++ y ∷ [])) (key_of g m t)) whole below)
    ]

-- a tie of cost and hops is told by the ids of the ways to the places before the end
pub tie_is_low : (r : Mesh) (from : ℕ) (a : SystemId) (steps : List (Option Step)) → AreWays r from a steps → (m place : ℕ) (s : Step) (arc : Arc) (end : Step) (y : SystemId) (order : Ordering) → step_at steps place ≡ Some s → step_at steps arc.to ≡ Some end → IsBridgeAt r.graph arc.to y → IsBoth r a steps place s arc end y → end.cost ≡ s.cost + arc.cost → end.hops ≡ s.hops + 1 → Compares r m steps s.hops place end.before order → is_lt order ≡ false → IsBelow (key_of r.graph m (way_back r.graph a steps s.hops place ++ y ∷ [])) (key_of r.graph m (way_back r.graph a steps end.hops arc.to)) → ⊥
tie_is_low r from a steps w m place s arc end y order there end_there here b tie long compares not_lt below = elim (w.each arc.to end end_there) [
  | inl start ↦ absurd (omega (arith, start.no_hop, long))
  | inr o ↦
      let own = b.other.cost_is in
      let hops = b.hops_are in
      let ends = b.end_hops in
      elim (below_by (key_of r.graph m (way_back r.graph a steps s.hops place ++ y ∷ [])) (key_of r.graph m (way_back r.graph a steps end.hops arc.to)) below) [
        | inl less ↦ absurd (omega (arith, less, b.cost_is, own, tie))
        | inr (same, inl less) ↦ absurd (omega (arith, less, hops, ends, long))
        | inr (same, inr t) ↦ absurd (true≢false (sym (ap is_lt (sym (ids o) ∙ t.1)) ∙ not_lt))
      ]
]
  where
    ids : (o : IsOnward r steps arc.to end) → slice_cmp id_cmp (ids_of r.graph m (way_back r.graph a steps s.hops place ++ y ∷ [])) (ids_of r.graph m (way_back r.graph a steps end.hops arc.to)) ≡ order
    ids o =
        let g = r.graph in
        let f : SystemId → List ℕ = masked_id g m in
        let p = way_back g a steps s.hops place in
        let q = way_back g a steps s.hops end.before in
        let few : o.before.hops ≡ s.hops = (let e = o.hops_are in omega (arith, e, long)) in
        let last : bridge_at g a arc.to ≡ y = bridge_is g a y arc.to here in
        let more : end.hops ≡ suc s.hops = omega (arith, long) in
        let whole : way_back g a steps end.hops arc.to ≡ q ++ y ∷ [] =
        ap (λ n. way_back g a steps n arc.to) more ∙ (λ i. way_back g a steps s.hops (ap before_of end_there i) ++ last i ∷ []) in
        let at = stands r from a steps w end.before o.before o.there in
        let prior = is_way r from a steps w s.hops end.before o.before at.0 o.there few at.1 in
        let same : length (map f p) ≡ length (map f q) = length-map p f ∙ (b.way.long ∙ (sym prior.long ∙ sym (length-map q f))) in
        ap (λ v. slice_cmp id_cmp (ids_of g m (p ++ y ∷ [])) (ids_of g m v)) whole ∙
        ((λ i. slice_cmp id_cmp (sorted_ids (map-snoc f p y i)) (sorted_ids (map-snoc f q y i))) ∙
        (before_end (map f p) (map f q) (f y) same ∙ sym (compares from a w (s, there, refl) (o.before, o.there, few))))

-- ---- the verdict on an arc

pub arc_wrong : (r : Mesh) (mask : ℕ) (steps : List (Option Step)) (place : ℕ) (s : Step) (arc : Arc) → ArcIsLow r mask steps place s arc Verdict.Wrong
arc_wrong r mask steps place s arc = λ from a number w there listed m covers. absurd covers

pub arc_dearer : (r : Mesh) (mask : ℕ) (steps : List (Option Step)) (place : ℕ) (s : Step) (arc : Arc) (end : Step) → step_at steps arc.to ≡ Some end → end.cost < s.cost + arc.cost → ArcIsLow r mask steps place s arc Verdict.Untied
arc_dearer r mask steps place s arc end at more = λ from a number w there listed m covers. record {
  end = end;
  there = at;
  low = λ y here. dearer_is_low r a steps m place s arc end y (both_ways r from a steps w place number s arc end y there listed at here) more;
}

pub arc_longer : (r : Mesh) (mask : ℕ) (steps : List (Option Step)) (place : ℕ) (s : Step) (arc : Arc) (end : Step) → step_at steps arc.to ≡ Some end → end.cost ≡ s.cost + arc.cost → end.hops ≤ s.hops → ArcIsLow r mask steps place s arc Verdict.Untied
arc_longer r mask steps place s arc end at tie more = λ from a number w there listed m covers. record {
  end = end;
  there = at;
  low = λ y here. longer_is_low r a steps m place s arc end y (both_ways r from a steps w place number s arc end y there listed at here) tie more;
}

pub arc_own : (r : Mesh) (mask : ℕ) (steps : List (Option Step)) (place : ℕ) (s : Step) (arc : Arc) (end : Step) → step_at steps arc.to ≡ Some end → end.before ≡ place → s.hops < end.hops → ArcIsLow r mask steps place s arc Verdict.Untied
arc_own r mask steps place s arc end at before more = λ from a number w there listed m covers. record {
  end = end;
  there = at;
  low = λ y here. own_is_low r from a steps w m place s arc end y there at here before more;
}

pub arc_tied : (r : Mesh) (mask : ℕ) (steps : List (Option Step)) (place : ℕ) (s : Step) (arc : Arc) (end : Step) (order : Ordering) → step_at steps arc.to ≡ Some end → end.cost ≡ s.cost + arc.cost → end.hops ≡ s.hops + 1 → Compares r mask steps s.hops place end.before order → is_lt order ≡ false → ArcIsLow r mask steps place s arc Verdict.Tied
arc_tied r mask steps place s arc end order at tie long compares not_lt = λ from a number w there listed m covers.
    subst (λ t. IsLowOver r.graph a steps t place s arc) (sym covers) (record {
      end = end;
      there = at;
      low = λ y here. tie_is_low r from a steps w mask place s arc end y order there at here (both_ways r from a steps w place number s arc end y there listed at here) tie long compares not_lt;
    })

-- ---- all ways

-- where no arc leads on to a lower way, the ways are low at every edge
ways_are_low : (r : Mesh) (mask from : ℕ) (a : SystemId) (steps : List (Option Step)) (v : Verdict) (m : ℕ) → AreWays r from a steps → PlacesAreLow r mask steps (length steps) v → Covers mask v m → AreLow r.graph m a (way_to r.graph a steps)
ways_are_low r mask from a steps v m w places covers = record { start = start; paths = paths; low = low }
  where
    start : way_to r.graph a steps a ≡ Some (a ∷ [])
    start =
        way_is r from a steps w from w.start.0 a w.start.1 w.here ∙
        (ap (λ n. Some (way_back r.graph a steps n from)) w.start.2 ∙ ap (λ t. Some (t ∷ [])) (bridge_is r.graph a a from w.here))

    paths : (x : SystemId) (p : List SystemId) → way_to r.graph a steps x ≡ Some p → IsPath r.graph a x p
    paths x p e =
        let h = has_step r from a steps w x p e in
        let way = is_way r from a steps w h.last.hops (place_in r.graph.bridges x) h.last x h.there refl h.here in
        subst (IsPath r.graph a x) h.whole way.path

    some_is : {X : Type 0} (o : Option X) → IsSome o → (t : X) × (o ≡ Some t)
    some_is None h = absurd (true≢false (sym h))
    some_is (Some t) h = (t, refl)

    low : (x y : SystemId) (p : List SystemId) → way_to r.graph a steps x ≡ Some p → IsSome (cost_between r.graph x y) → (IsAmong y p → ⊥) → LowAt r.graph m (way_to r.graph a steps) y (p ++ y ∷ [])
    low x y p e joined off =
        let g = r.graph in
        let place = place_in g.bridges x in
        let h = has_step r from a steps w x p e in
        let cost = some_is (cost_between g x y) joined in
        let go = w.ready.go x y place cost.0 cost.1 h.here in
        let within : place < length steps = (let t = at_within g place x h.here in omega (arith, t, w.places)) in
        let over = places place h.last within from a go.0 go.1 w h.there go.2 m covers in (
          way_back g a steps over.end.hops go.1.to,
          way_is r from a steps w go.1.to over.end y over.there go.3.to,
          subst (λ t. IsBelow (key_of g m (t ++ y ∷ [])) (key_of g m (way_back g a steps over.end.hops go.1.to)) → ⊥) h.whole (over.low y go.3.to),
        )

-- so they are the best paths
pub ways_are_best : (r : Mesh) (mask from : ℕ) (steps : List (Option Step)) (v : Verdict) → MakeWays r steps from → PlacesAreLow r mask steps (length steps) v → AreBestWays r mask from steps v
ways_are_best r mask from steps v make places = λ a ready here m covers.
    let w = make a ready here in
    (w, low_is_best r.graph m a (way_to r.graph a steps) ready.valid (ways_are_low r mask from a steps v m w places covers))
