-- The edges into bridges without a label are looked at, and the changed edge: what is left is a search.
use Rattle.std.proofs.Common.{◌≡◌, ◌≢◌, ℕ, ◌+◌, ◌<◌, ◌≤◌, true≢false, ◌⊎◌, inl, inr, List, [], length, Option, Some, None, IsSome, option_map, get_or, refl, sym, ap, ◌∙◌, subst, arith}
use Rattle.std.specs.List.{slice_get}
use Rattle.std.proofs.lemmas.Option.{same_Some, none-some, slice_get_within}
use Rattle.spb_types.specs.Graph.{systems_of, cost_between}
use Rattle.spb_types.specs.declared.address.SystemId.{SystemId}
use Rattle.spb_types.specs.declared.graph.Graph.{Graph}
use Rattle.ect_trees.specs.declared.mesh.Arc.{Arc}
use Rattle.ect_trees.specs.declared.mesh.Mesh.{Mesh}
use Rattle.ect_trees.specs.declared.search.Label.{Label}
use Rattle.ect_trees.specs.declared.search.Search.{Search}
use Rattle.ect_trees.specs.declared.waiting.Waiting.{Waiting}
use Rattle.ect_trees.specs.Best.{best_of}
use Rattle.ect_trees.specs.Change.{WereBest}
use Rattle.ect_trees.specs.Arcs.{IsBridgeAt, Leads, IsArcAt, AreReady, CanGo, place_in, rows_of}
use Rattle.ect_trees.specs.Search.{graph_of, label_at, IsLabel, way_of, waits_of, IsState, IsRelaxed, IsFront}
use Rattle.ect_trees.specs.Search.IsRelaxed.{none, same, lower}
use Rattle.ect_trees.specs.Waits.{waits}
use Rattle.ect_trees.specs.Repair.{ArePair, AreForgotten, turned, IsArcBetween, IsNoneBetween, IsReaching, IsUnreached, ReachesPlace, ReachesLost, ReachesEdge}
use Rattle.ect_trees.proofs.Walks.{cost_comm}
use Rattle.ect_trees.proofs.Places.{at_within, place_at, place_is}
use Rattle.ect_trees.proofs.Extended.{at_same}
use Rattle.ect_trees.proofs.Grouped.{same_or_not}
use Rattle.ect_trees.proofs.Entries.{set_other}
use Rattle.ect_trees.proofs.Relaxed.{Outcome, relaxed_state, relaxed_outcome}
use Rattle.ect_trees.proofs.Relaxed.Outcome.{stays, gets}
use Rattle.ect_trees.proofs.Steps.{joined_bridges}
use Rattle.ect_trees.proofs.Avoiding.{path_avoiding, cost_avoiding, forgotten}
use Rattle.ect_trees.proofs.Forgetting.{ways_forgotten}
use Rattle.ect_trees.proofs.Reaching.{left_otherwise, reached_same, reached_lower, reached_all}

-- the arc back leads along the same edge
pub turned_leads : (g : Graph) (arc : Arc) (x y : SystemId) → Leads g arc x y → Leads g (turned arc) y x
turned_leads g arc x y l = record { from = l.to; to = l.from; cost = cost_comm g y x ∙ l.cost }

pub turned_goes : (g : Graph) (arc : Arc) → CanGo g arc → CanGo g (turned arc)
turned_goes g arc c = (c.1, c.0, turned_leads g arc c.0 c.1 c.2)

-- labels at other places than the arc's end stay
pub relaxed_others : (s : Search) (arc : Arc) (ls ls' : List (Option Label)) (front front' : List Waiting) (place : ℕ) → place ≢ arc.to → IsRelaxed s arc ls ls' front front' → label_at ls' place ≡ label_at ls place
relaxed_others s arc ls ls' front front' place d (none e f n) = ap (λ t. label_at t place) e
relaxed_others s arc ls ls' front front' place d (same e f l n i) = ap (λ t. label_at t place) e
relaxed_others s arc ls ls' front front' place d (lower l e new better done) = ap (λ t. label_at t place) done.labels ∙ set_other ls arc.to place new d

-- an arc from x to y is relaxed: its edge is looked at
pub relaxed_reaches : (s : Search) (arc : Arc) (x y : SystemId) (ls ls' : List (Option Label)) (front front' : List Waiting) (left less : SystemId → SystemId → Type 0) → AreReady s.mesh.now → Leads (graph_of s) arc x y → IsState s ls front → IsRelaxed s arc ls ls' front front' → ((u v : SystemId) → left u v → ((u ≡ x) × (v ≡ y)) ⊎ less u v) → IsReaching s left ls front → IsReaching s less ls' front'
relaxed_reaches s arc x y ls ls' front front' left less ready lead state relaxed strike r = by (relaxed_outcome s arc x y ls ls' front front' ready lead state relaxed)
  where
    by : Outcome s x y ls ls' front front' → IsReaching s less ls' front'
    by (stays e f low) =
        let after = reached_same (graph_of s) s.mask s.source x y (waits_of s front) left less (way_of s ls) r strike low in
        subst (λ t. IsReaching s less t front') (sym e) (subst (IsReaching s less ls) (sym f) after)
    by (gets p own g) =
        reached_lower (graph_of s) s.mask s.source x y p (waits_of s front) (waits_of s front') left less (way_of s ls) (way_of s ls') ready.valid r own strike (subst (λ o. IsSome o) (sym lead.cost) refl)
        g.free g.below g.with_way g.with_one

-- an edge into the bridge at a place, whose arc has this number there or a later one, or one into a later bridge
abbrev pub IsLeftInto : Search → SystemId → SystemId → ℕ → ℕ → List (Option Label) → SystemId → SystemId → Type 0
IsLeftInto s a b place k ls u v =
    ((number : ℕ) × (arc : Arc) × (k ≤ number) × IsArcAt (rows_of s.mesh.now) place number arc × IsBridgeAt (graph_of s) arc.to u × IsBridgeAt (graph_of s) place v)
    ⊎ IsUnreached s a b (place + 1) ls u v

-- the labels and the frontier once the first k arcs from a place are relaxed backwards
pub record ReachingInto (s : Search) (place k : ℕ) (old now : List (Option Label)) (front since : List Waiting) : Type 0 where
  pub state : IsState s now since
  pub reaching : (a b : SystemId) → IsReaching s (IsUnreached s a b place old) old front → IsReaching s (IsLeftInto s a b place k now) now since

pub into_none : (s : Search) (place : ℕ) (ls : List (Option Label)) (front : List Waiting) → AreReady s.mesh.now → IsState s ls front → ReachingInto s place 0 ls ls front front
into_none s place ls front ready state = record { state = state; reaching = λ a b r. left_otherwise (graph_of s) s.mask s.source (waits_of s front) (IsUnreached s a b place ls) (IsLeftInto s a b place 0 ls) (way_of s ls) r (to a b) }
  where
    some_is : {X : Type 0} (o : Option X) → IsSome o → (v : X) × (o ≡ Some v)
    some_is None h = absurd (true≢false (sym h))
    some_is (Some v) h = (v, refl)

    to : (a b u v : SystemId) → IsSome (cost_between (graph_of s) u v) → IsUnreached s a b place ls u v → IsLeftInto s a b place 0 ls u v
    to a b u v joined (inr pair) = inr (inr pair)
    to a b u v joined (inl (i, high, here, empty)) = elim (same_or_not i place) [
      | inl e ↦
          let at : IsBridgeAt (graph_of s) place v = subst (λ t. IsBridgeAt (graph_of s) t v) e here in
          let cost = some_is (cost_between (graph_of s) v u) (subst (λ o. IsSome o) (cost_comm (graph_of s) u v) joined) in
          let go = ready.go v u place cost.0 cost.1 at in
          inl (go.0, go.1, omega arith, go.2, go.3.to, at)
      | inr d ↦ inr (inl (i, omega (arith, high, d), here, empty))
    ]

-- the next arc
pub into_more : (s : Search) (place k : ℕ) (arc : Arc) (old now next : List (Option Label)) (front since then : List Waiting) → AreReady s.mesh.now → IsArcAt (rows_of s.mesh.now) place k arc → ReachingInto s place k old now front since → IsRelaxed s (turned arc) now next since then → ReachingInto s place (k + 1) old next front then
into_more s place k arc old now next front since then ready here r relaxed = record {
  state = relaxed_state s (turned arc) now next since then (turned_goes (graph_of s) arc go) r.state relaxed;
  reaching = λ a b w. relaxed_reaches s (turned arc) y x now next since then (IsLeftInto s a b place k now) (IsLeftInto s a b place (k + 1) next) ready (turned_leads (graph_of s) arc x y lead) r.state relaxed (strike a b) (r.reaching a b w);
}
  where
    from : arc.from ≡ place
    from = (ready.lead place k arc here).0

    go : CanGo (graph_of s) arc
    go = (ready.lead place k arc here).1

    x : SystemId
    x = (ready.lead place k arc here).1.0

    y : SystemId
    y = (ready.lead place k arc here).1.1

    lead : Leads (graph_of s) arc (ready.lead place k arc here).1.0 (ready.lead place k arc here).1.1
    lead = (ready.lead place k arc here).1.2

    later : (a b u v : SystemId) → IsUnreached s a b (place + 1) now u v → IsUnreached s a b (place + 1) next u v
    later a b u v (inr pair) = inr pair
    later a b u v (inl (i, high, at, empty)) =
        inl (i, high, at, relaxed_others s (turned arc) now next since then i (λ e. absurd (omega (arith, e, from, high))) relaxed ∙ empty)

    strike : (a b u v : SystemId) → IsLeftInto s a b place k now u v → ((u ≡ y) × (v ≡ x)) ⊎ IsLeftInto s a b place (k + 1) next u v
    strike a b u v (inr w) = inr (inr (later a b u v w))
    strike a b u v (inl (number, a', low, listed, to, at)) = elim (same_or_not number k) [
      | inl e ↦
          let arcs : a' ≡ arc = same_Some a' arc (sym (subst (λ t. IsArcAt (rows_of s.mesh.now) place t a') e listed) ∙ here) in
          inl (
            at_same (graph_of s) arc.to u y (subst (λ (t : Arc). IsBridgeAt (graph_of s) t.to u) arcs to) lead.to,
            at_same (graph_of s) place v x at (subst (λ t. IsBridgeAt (graph_of s) t x) from lead.from),
          )
      | inr other ↦ inr (inl (number, a', omega (arith, low, other), listed, to, at))
    ]

-- all arcs of the place are relaxed
pub into_all : (s : Search) (place k : ℕ) (old now : List (Option Label)) (front since : List Waiting) → length (get_or (rows_of s.mesh.now) place []) ≤ k → ReachingInto s place k old now front since → ReachesPlace s place old now front since
into_all s place k old now front since whole r = λ a b w.
    left_otherwise (graph_of s) s.mask s.source (waits_of s since) (IsLeftInto s a b place k now) (IsUnreached s a b (place + 1) now) (way_of s now) (r.reaching a b w) (to a b)
  where
    to : (a b u v : SystemId) → IsSome (cost_between (graph_of s) u v) → IsLeftInto s a b place k now u v → IsUnreached s a b (place + 1) now u v
    to a b u v joined (inr w) = w
    to a b u v joined (inl (number, arc, low, listed, at, here)) =
        let below : number < length (get_or (rows_of s.mesh.now) place []) = slice_get_within (get_or (rows_of s.mesh.now) place []) number arc listed in
        absurd (omega (arith, below, whole, low))

-- the places before k are reached
pub record ReachingLost (s : Search) (k : ℕ) (old now : List (Option Label)) (front since : List Waiting) : Type 0 where
  pub state : IsState s now since
  pub reaching : (a b : SystemId) → IsReaching s (IsUnreached s a b 0 old) old front → IsReaching s (IsUnreached s a b k now) now since

pub lost_none : (s : Search) (ls : List (Option Label)) (front : List Waiting) → IsState s ls front → ReachingLost s 0 ls ls front front
lost_none s ls front state = record { state = state; reaching = λ a b r. r }

-- the next place has a label
pub lost_kept : (s : Search) (k : ℕ) (old now : List (Option Label)) (front since : List Waiting) → (label_at now k ≡ None → ⊥) → ReachingLost s k old now front since → ReachingLost s (k + 1) old now front since
lost_kept s k old now front since some r = record {
  state = r.state;
  reaching = λ a b w. left_otherwise (graph_of s) s.mask s.source (waits_of s since) (IsUnreached s a b k now) (IsUnreached s a b (k + 1) now) (way_of s now) (r.reaching a b w) (to a b);
}
  where
    to : (a b u v : SystemId) → IsSome (cost_between (graph_of s) u v) → IsUnreached s a b k now u v → IsUnreached s a b (k + 1) now u v
    to a b u v joined (inr pair) = inr pair
    to a b u v joined (inl (i, high, here, empty)) = elim (same_or_not i k) [
      | inl e ↦ absurd (some (subst (λ t. label_at now t ≡ None) e empty))
      | inr d ↦ inl (i, omega (arith, high, d), here, empty)
    ]

-- or is reached
pub lost_more : (s : Search) (k : ℕ) (old now next : List (Option Label)) (front since then : List Waiting) → IsState s next then → ReachesPlace s k now next since then → ReachingLost s k old now front since → ReachingLost s (k + 1) old next front then
lost_more s k old now next front since then state reaches r = record { state = state; reaching = λ a b w. reaches a b (r.reaching a b w) }

-- all places are reached
pub lost_all : (s : Search) (k : ℕ) (old now : List (Option Label)) (front since : List Waiting) → length now ≤ k → ReachingLost s k old now front since → ReachesLost s old now front since
lost_all s k old now front since whole r = λ a b w.
    left_otherwise (graph_of s) s.mask s.source (waits_of s since) (IsUnreached s a b k now) (ArePair a b) (way_of s now) (r.reaching a b w) (to a b)
  where
    to : (a b u v : SystemId) → IsSome (cost_between (graph_of s) u v) → IsUnreached s a b k now u v → ArePair a b u v
    to a b u v joined (inr pair) = pair
    to a b u v joined (inl (i, high, here, empty)) =
        let below = at_within (graph_of s) i v here in
        absurd (omega (arith, below, high, whole, r.state.labels.places))

-- between the two bridges there is no edge
pub edge_none : (s : Search) (a b : SystemId) (ls : List (Option Label)) (front : List Waiting) → (IsSome (cost_between (graph_of s) a b) → ⊥) → IsReaching s (ArePair a b) ls front → IsFront s ls front []
edge_none s a b ls front apart r = reached_all (graph_of s) s.mask s.source (waits_of s front) (ArePair a b) (way_of s ls) r none_at
  where
    none_at : (u v : SystemId) → IsSome (cost_between (graph_of s) u v) → ArePair a b u v → ⊥
    none_at u v joined (inl (e, f)) = apart (subst (λ t. IsSome (cost_between (graph_of s) t b)) e (subst (λ t. IsSome (cost_between (graph_of s) u t)) f joined))
    none_at u v joined (inr (e, f)) =
        apart (subst (λ o. IsSome o) (cost_comm (graph_of s) b a) (subst (λ t. IsSome (cost_between (graph_of s) t a)) e (subst (λ t. IsSome (cost_between (graph_of s) u t)) f joined)))

-- both arcs of the edge are relaxed
pub edge_reached : (s : Search) (from to : ℕ) (arc : Arc) (ls now next : List (Option Label)) (front since then : List Waiting) → AreReady s.mesh.now → IsArcBetween s.mesh.now from to arc → IsState s ls front → IsRelaxed s arc ls now front since → IsRelaxed s (turned arc) now next since then → ReachesEdge s from to ls next front then
edge_reached s from to arc ls now next front since then ready between state one two = λ a b at there r.
    let x : SystemId = between.leads.0 in
    let y : SystemId = between.leads.1 in
    let lead = between.leads.2 in
    let first : x ≡ a = at_same (graph_of s) from x a (subst (λ t. IsBridgeAt (graph_of s) t between.leads.0) between.from_is lead.from) at in
    let last : y ≡ b = at_same (graph_of s) to y b (subst (λ t. IsBridgeAt (graph_of s) t between.leads.1) between.to_is lead.to) there in
    let half : IsReaching s (λ u v. (u ≡ y) × (v ≡ x)) now since = relaxed_reaches s arc x y ls now front since (ArePair a b) (λ u v. (u ≡ y) × (v ≡ x)) ready lead state one
    (λ u v pair. elim pair [ inl k ↦ inl (k.0 ∙ sym first, k.1 ∙ sym last) | inr k ↦ inr (k.0 ∙ sym last, k.1 ∙ sym first) ]) r in
    let whole : IsReaching s (λ u v. ⊥) next then = relaxed_reaches s (turned arc) y x now next since then (λ u v. (u ≡ y) × (v ≡ x)) (λ u v. ⊥) ready (turned_leads (graph_of s) arc x y lead) (relaxed_state s arc ls now front since between.leads state one) two (λ u v k. inl k) half in
    reached_all (graph_of s) s.mask s.source (waits_of s then) (λ u v. ⊥) (way_of s next) whole (λ u v joined k. k)

-- no arc among the first k from a place leads to another
abbrev pub NoneLeads : Mesh → ℕ → ℕ → ℕ → Type 0
NoneLeads r from to k = (number : ℕ) (arc : Arc) → number < k → IsArcAt (rows_of r) from number arc → arc.to ≡ to → ⊥

-- the next one doesn't
pub none_more : (r : Mesh) (from to k : ℕ) (next : Arc) → IsArcAt (rows_of r) from k next → (next.to ≡ to → ⊥) → NoneLeads r from to k → NoneLeads r from to (k + 1)
none_more r from to k next here other before number arc below at to_is = elim (same_or_not number k) [
  | inl e ↦
      let arcs : arc ≡ next = same_Some arc next (sym (subst (λ t. IsArcAt (rows_of r) from t arc) e at) ∙ here) in
      other (ap (λ (t : Arc). t.to) (sym arcs) ∙ to_is)
  | inr d ↦ before number arc (omega (arith, below, d)) at to_is
]

-- none does: there is no edge
pub no_arc_between : (r : Mesh) (from to k : ℕ) → AreReady r → length (get_or (rows_of r) from []) ≤ k → NoneLeads r from to k → IsNoneBetween r from to
no_arc_between r from to k ready whole no_lead x y at there joined = by (cost_between r.graph x y) refl joined
  where
    by : (o : Option ℕ) → cost_between r.graph x y ≡ o → IsSome o → ⊥
    by None e h = true≢false (sym h)
    by (Some c) e h =
        let go = ready.go x y from c e at in
        let below : go.0 < length (get_or (rows_of r) from []) = slice_get_within (get_or (rows_of r) from []) go.0 go.1 go.2 in
        let same : go.1.to ≡ to = sym (place_is r.graph go.1.to y ready.valid go.3.to) ∙ place_is r.graph to y ready.valid there in
        no_lead go.0 go.1 (omega (arith, below, whole)) go.2 same

-- labels that aren't forgotten are paths of the graph as it is now, and nothing waits
pub forgotten_state : (s : Search) (a b : SystemId) (ls ls' : List (Option Label)) (front : List Waiting) → WereBest s a b ls → AreForgotten a b ls ls' → front ≡ [] → IsState s ls' front
forgotten_state s a b ls ls' front were gone empty = record { labels = record { places = places; each = each }; entries = λ e w. absurd (true≢false (sym w ∙ ap (λ t. waits t e) empty)) }
  where
    g : Graph
    g = were.before

    places : length ls' ≡ length (graph_of s).bridges
    places = gone.places ∙ (were.best.labels.places ∙ ap length (sym were.differs.bridges))

    each : (place : ℕ) (x : SystemId) (l : Label) → IsBridgeAt (graph_of s) place x → label_at ls' place ≡ Some l → IsLabel s x l
    each place x l at h =
        let was = gone.was place l h in
        let there : IsBridgeAt g place x = subst (λ t. slice_get (systems_of t) place ≡ Some x) were.differs.bridges at in
        let label = were.best.labels.each place x l there was.0 in
        record {
          path = path_avoiding a b g (graph_of s) s.source x l.bridges.items were.differs label.path was.1;
          cost_is = label.cost_is ∙ sym (cost_avoiding a b g (graph_of s) l.bridges.items were.differs was.1);
        }

-- what is left are the edges into bridges without a label, and the changed one
pub forgotten_reaching : (s : Search) (a b : SystemId) (ls ls' : List (Option Label)) (front : List Waiting) → AreReady s.mesh.now → WereBest s a b ls → AreForgotten a b ls ls' → front ≡ [] → IsReaching s (IsUnreached s a b 0 ls') ls' front
forgotten_reaching s a b ls ls' front ready were gone empty =
    forgotten a b g (graph_of s) s.mask s.source (waits_of s front) (IsUnreached s a b 0 ls') (way_of s ls) (way_of s ls') were.valid were.bridge were.differs best (ways_forgotten a b (graph_of s) ls ls' gone) none_waits lost (λ u v pair. inr pair)
  where
    g : Graph
    g = were.before

    best : (x : SystemId) → way_of s ls x ≡ best_of g s.mask s.source x
    best x = ap (λ t. option_map (λ (l : Label). l.bridges.items) (label_at ls (place_in t x))) were.differs.bridges ∙ were.best.best x

    none_waits : (x : SystemId) → waits_of s front x → ⊥
    none_waits x w = true≢false (sym w.1 ∙ ap (λ t. waits t w.0) empty)

    no_label : (o : Option Label) → option_map (λ (l : Label). l.bridges.items) o ≡ None → o ≡ None
    no_label None e = refl
    no_label (Some l) e = absurd (none-some l.bridges.items (sym e))

    lost : (u v : SystemId) → IsSome (cost_between (graph_of s) u v) → way_of s ls' v ≡ None → IsUnreached s a b 0 ls' u v
    lost u v joined e =
        let i : ℕ = place_in (graph_of s).bridges v in
        inl (i, omega arith, place_at (graph_of s).bridges v (joined_bridges (graph_of s) u v ready.valid joined).1, no_label (label_at ls' i) e)
