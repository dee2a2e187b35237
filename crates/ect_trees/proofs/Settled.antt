-- Settling: one that waits and costs least is taken out, and its arcs are relaxed, until nothing waits.
use Rattle.std.proofs.Common.{◌≡◌, ◌≢◌, ℕ, zero, suc, ◌+◌, ◌<◌, ◌≤◌, Bool, true, false, true≢false, cond, ◌⊎◌, inl, inr, List, [], ◌∷◌, length, Option, Some, None, IsSome, option_map, refl, sym, ap, ◌∙◌, subst, arith}
use Rattle.std.specs.Ordering.{is_eq}
use Rattle.std.proofs.Math.ListN.{set, replicate}
use Rattle.std.proofs.lemmas.List.{length-map, length-replicate}
use Rattle.std.proofs.lemmas.Option.{same_Some, none-some, slice_get-get_or}
use Rattle.spb_types.specs.Graph.{IsBridge, systems_of, cost_between}
use Rattle.spb_types.specs.declared.address.SystemId.{SystemId}
use Rattle.ect_trees.specs.declared.search.Label.{Label}
use Rattle.ect_trees.specs.declared.search.Search.{Search}
use Rattle.ect_trees.specs.declared.waiting.Waiting.{Waiting}
use Rattle.ect_trees.specs.Path.{IsPath, cost_of}
use Rattle.ect_trees.specs.Best.{best_of}
use Rattle.ect_trees.specs.Frontier.{During, WithoutOne}
use Rattle.ect_trees.specs.Arcs.{IsBridgeAt, AreReady, place_in}
use Rattle.ect_trees.specs.Search.{graph_of, label_at, AreLabels, AreBest, way_of, waits_of, entry_of, IsState, IsFirst, IsLeft, IsFront, RelaxesAll, IsSet}
use Rattle.ect_trees.specs.Waits.{waits, waiting_cmp}
use Rattle.ect_trees.proofs.Walks.{path_single, path_bridges, path_start}
use Rattle.ect_trees.proofs.Exists.{best_of_cases}
use Rattle.ect_trees.proofs.Low.{low_is_best}
use Rattle.ect_trees.proofs.Places.{at_among, place_is, place_once, place_apart}
use Rattle.ect_trees.proofs.Entries.{set_own, set_other, set_state}
use Rattle.ect_trees.proofs.Ranks.{entry_same, same_entry}
use Rattle.ect_trees.proofs.Relaxed.{way_is}
use Rattle.ect_trees.proofs.Frontier.{at_first, taken, none_waits, done_within}

-- the loop's invariant: so many are done
pub record Settling (s : Search) (settled : ℕ) (ls : List (Option Label)) (front : List Waiting) : Type 0 where
  pub state : IsState s ls front
  pub done : List SystemId
  pub count : length done ≡ settled
  pub front_is : IsFront s ls front done

pub settling_none : (s : Search) (ls : List (Option Label)) (front : List Waiting) → IsState s ls front → IsFront s ls front [] → Settling s 0 ls front
settling_none s ls front state f = record { state = state; done = []; count = refl; front_is = f }

-- the bridge at a place that has a label
stands : (s : Search) (ls : List (Option Label)) (place : ℕ) (l : Label) → AreLabels s ls → label_at ls place ≡ Some l → (place < length ls) × (x : SystemId) × IsBridgeAt (graph_of s) place x
stands s ls place l labels h =
    let within : place < length ls = within_at ls place h in
    let long : length (systems_of (graph_of s).bridges) ≡ length (graph_of s).bridges = length-map (graph_of s).bridges _ in
    (within, _, slice_get-get_or (systems_of (graph_of s).bridges) place s.source (omega (arith, within, labels.places, long)))
  where
    within_at : (ks : List (Option Label)) (i : ℕ) → label_at ks i ≡ Some l → i < length ks
    within_at [] i e = absurd (none-some l e)
    within_at (k ∷ ks) zero e = omega arith
    within_at (k ∷ ks) (suc i) e = let below = within_at ks i e in omega (arith, below)

-- the frontier once the first is taken out
abbrev pub IsTaken : Waiting → List Waiting → List Waiting → Type 0
IsTaken first front now = (e : Waiting) → waits now e ≡ cond (is_eq (waiting_cmp first e)) false (waits front e)

taken_those : (first : Waiting) (front now : List Waiting) → IsTaken first front now → (e : Waiting) → waits now e ≡ true → (first ≢ e) × (waits front e ≡ true)
taken_those first front now t e w = by (is_eq (waiting_cmp first e)) refl (sym (t e) ∙ w)
  where
    by : (b : Bool) → is_eq (waiting_cmp first e) ≡ b → cond b false (waits front e) ≡ true → (first ≢ e) × (waits front e ≡ true)
    by true k h = absurd (true≢false (sym h))
    by false k h = (λ same. true≢false (sym (same_entry first e same) ∙ k), h)

taken_others : (first : Waiting) (front now : List Waiting) → IsTaken first front now → (e : Waiting) → waits front e ≡ true → (first ≡ e) ⊎ (waits now e ≡ true)
taken_others first front now t e w = by (is_eq (waiting_cmp first e)) refl
  where
    by : (b : Bool) → is_eq (waiting_cmp first e) ≡ b → (first ≡ e) ⊎ (waits now e ≡ true)
    by true k = inl (entry_same first e k)
    by false k = inr (t e ∙ (ap (λ b. cond b false (waits front e)) k ∙ w))

-- the bridge that is taken out, before its arcs are relaxed
pub record First (s : Search) (settled : ℕ) (ls : List (Option Label)) (now : List Waiting) (first : Waiting) : Type 0 where
  pub within : first.place < length ls
  pub state : IsState s ls now
  pub done : List SystemId
  pub count : length done ≡ settled
  pub bridge : SystemId
  pub here : IsBridgeAt (graph_of s) first.place bridge
  pub path : List SystemId
  pub during : During (graph_of s) s.mask s.source (bridge ∷ done) bridge path (waits_of s now) (IsLeft s first.place 0) (way_of s ls)

pub taken_first : (s : Search) (settled : ℕ) (ls : List (Option Label)) (front now : List Waiting) (first : Waiting) → AreReady s.mesh.now → Settling s settled ls front → waits front first ≡ true → ((e : Waiting) → waits front e ≡ true → first.cost ≤ e.cost) → IsTaken first front now → First s settled ls now first
taken_first s settled ls front now first ready set here least took = record {
  within = at.0;
  state = record { labels = labels; entries = λ e w. set.state.entries e (taken_those first front now took e w).1 };
  done = set.done;
  count = set.count;
  bridge = x;
  here = at.2;
  path = label.bridges.items;
  during = taken (graph_of s) s.mask s.source set.done x label.bridges.items (waits_of s front) (waits_of s now) (IsLeft s first.place 0) (way_of s ls) set.front_is waits_x way_x least_at without left;
}
  where
    labels : AreLabels s ls
    labels = set.state.labels

    label : Label
    label = (set.state.entries first here).0

    label_is : label_at ls first.place ≡ Some (set.state.entries first here).0
    label_is = (set.state.entries first here).1

    entry : first ≡ entry_of (set.state.entries first here).0 first.place
    entry = (set.state.entries first here).2

    at : (first.place < length ls) × (x : SystemId) × IsBridgeAt (graph_of s) first.place x
    at = stands s ls first.place label labels label_is

    x : SystemId
    x = at.1

    place_x : place_in (graph_of s).bridges x ≡ first.place
    place_x = place_is (graph_of s) first.place x ready.valid at.2

    waits_x : waits_of s front x
    waits_x = (first, here, sym place_x)

    way_x : way_of s ls x ≡ Some label.bridges.items
    way_x = way_is s ls first.place x label ready at.2 label_is

    cost_x : first.cost ≡ cost_of (graph_of s) label.bridges.items
    cost_x = ap (λ (e : Waiting). e.cost) entry ∙ (labels.each first.place x label at.2 label_is).cost_is

    least_at : (z : SystemId) (q : List SystemId) → waits_of s front z → way_of s ls z ≡ Some q → cost_of (graph_of s) label.bridges.items ≤ cost_of (graph_of s) q
    least_at z q w e =
        let k = set.state.entries w.0 w.1 in
        let there = stands s ls w.0.place k.0 labels k.1 in
        let own : k.0.cost ≡ cost_of (graph_of s) k.0.bridges.items = (labels.each w.0.place there.1 k.0 there.2 k.1).cost_is in
        let cost : w.0.cost ≡ k.0.cost = ap (λ (t : Waiting). t.cost) k.2 in
        let label_z : label_at ls (place_in (graph_of s).bridges z) ≡ Some k.0 = ap (label_at ls) (sym w.2) ∙ k.1 in
        let same : k.0.bridges.items ≡ q = same_Some k.0.bridges.items q (sym (ap (option_map (λ (t : Label). t.bridges.items)) label_z) ∙ e) in
        let whole : cost_of (graph_of s) k.0.bridges.items ≡ cost_of (graph_of s) q = ap (cost_of (graph_of s)) same in
        omega (arith, least w.0 w.1, own, cost, whole, cost_x)

    without : WithoutOne x (waits_of s front) (waits_of s now)
    without = record {
      others = λ z w. elim (taken_others first front now took w.0 w.1) [
        | inl same ↦
            let there : place_in (graph_of s).bridges z ≡ first.place = sym w.2 ∙ ap (λ (t : Waiting). t.place) (sym same) in
            inl (place_once (graph_of s).bridges z x (subst (λ n. IsBridgeAt (graph_of s) n x) (sym there) at.2))
        | inr still ↦ inr (w.0, still, w.2)
      ];
      kept = λ z w. (w.0, (taken_those first front now took w.0 w.1).1, w.2);
      gone = λ w.
          let t = taken_those first front now took w.0 w.1 in
          let k = set.state.entries w.0 t.1 in
          let there : w.0.place ≡ first.place = w.2 ∙ place_x in
          let own : k.0 ≡ label = same_Some k.0 label (sym k.1 ∙ (ap (label_at ls) there ∙ label_is)) in
          t.0 (entry ∙ sym (k.2 ∙ (λ i. entry_of (own i) (there i))));
    }

    some_is : {X : Type 0} (o : Option X) → IsSome o → (v : X) × (o ≡ Some v)
    some_is None h = absurd (true≢false (sym h))
    some_is (Some v) h = (v, refl)

    left : (v : SystemId) → IsSome (cost_between (graph_of s) x v) → IsLeft s first.place 0 v
    left v joined =
        let cost = some_is (cost_between (graph_of s) x v) joined in
        let go = ready.go x v first.place cost.0 cost.1 at.2 in
        (go.0, go.1, omega arith, go.2, go.3.to)

-- no more are settled than there are bridges
pub settled_within : (s : Search) (settled : ℕ) (ls ls' : List (Option Label)) (now next : List Waiting) (first : Waiting) → First s settled ls now first → RelaxesAll s first.place ls ls' now next → settled + 1 ≤ length (graph_of s).bridges
settled_within s settled ls ls' now next first f relaxed =
    let front = relaxed (f.bridge ∷ f.done) f.bridge f.path f.here f.during in
    let few : suc (length f.done) ≤ length (graph_of s).bridges = done_within (graph_of s) (f.bridge ∷ f.done) front.apart front.bridges in
    omega (arith, few, f.count)

pub settled_few : (s : Search) (settled : ℕ) (ls : List (Option Label)) (front : List Waiting) → Settling s settled ls front → settled ≤ length (graph_of s).bridges
settled_few s settled ls front set =
    let few : length set.done ≤ length (graph_of s).bridges = done_within (graph_of s) set.done set.front_is.apart set.front_is.bridges in
    omega (arith, few, set.count)

-- once its arcs are relaxed, one more is done
pub settling_more : (s : Search) (settled : ℕ) (ls ls' : List (Option Label)) (now next : List Waiting) (first : Waiting) → First s settled ls now first → IsState s ls' next → RelaxesAll s first.place ls ls' now next → Settling s (settled + 1) ls' next
settling_more s settled ls ls' now next first f state relaxed = record {
  state = state;
  done = f.bridge ∷ f.done;
  count = let n = f.count in omega (arith, n);
  front_is = relaxed (f.bridge ∷ f.done) f.bridge f.path f.here f.during;
}

-- where nothing waits, the labels are the best paths
pub settled_all : (s : Search) (settled : ℕ) (ls : List (Option Label)) (front : List Waiting) → AreReady s.mesh.now → Settling s settled ls front → ((e : Waiting) → waits front e ≡ false) → AreBest s ls
settled_all s settled ls front ready set none = record {
  labels = set.state.labels;
  best = low_is_best (graph_of s) s.mask s.source (way_of s ls) ready.valid (none_waits (graph_of s) s.mask s.source set.done (waits_of s front) (way_of s ls) set.front_is (λ x w. true≢false (sym w.1 ∙ none w.0)));
}

-- no labels
pub unlabelled : (s : Search) (ls : List (Option Label)) → ls ≡ replicate (length (graph_of s).bridges) None → (i : ℕ) → label_at ls i ≡ None
unlabelled s ls e i = ap (λ t. label_at t i) e ∙ by (length (graph_of s).bridges) i
  where
    by : (n i : ℕ) → label_at (replicate n None) i ≡ None
    by zero i = refl
    by (suc n) zero = refl
    by (suc n) (suc i) = by n i

pub start_state : (s : Search) (ls : List (Option Label)) (front : List Waiting) → ls ≡ replicate (length (graph_of s).bridges) None → ((e : Waiting) → waits front e ≡ false) → IsState s ls front
start_state s ls front e none = record {
  labels = record {
    places = ap length e ∙ length-replicate (length (graph_of s).bridges) None;
    each = λ place x l here h. absurd (none-some l (sym (unlabelled s ls e place) ∙ h));
  };
  entries = λ w t. absurd (true≢false (sym t ∙ none w));
}

-- a source that is no bridge of the graph has no path
pub none_best : (s : Search) (ls : List (Option Label)) (front : List Waiting) → AreReady s.mesh.now → IsState s ls front → ls ≡ replicate (length (graph_of s).bridges) None → (IsBridge (graph_of s) s.source → ⊥) → AreBest s ls
none_best s ls front ready state e out = record { labels = state.labels; best = best }
  where
    best : (x : SystemId) → way_of s ls x ≡ best_of (graph_of s) s.mask s.source x
    best x = elim (best_of_cases (graph_of s) s.mask s.source x ready.valid) [
      | inl none ↦ ap (option_map (λ (l : Label). l.bridges.items)) (unlabelled s ls e (place_in (graph_of s).bridges x)) ∙ sym none.1
      | inr some ↦ absurd (out (path_bridges (graph_of s) s.source x s.source some.0 some.2.path (path_start (graph_of s) s.source x some.0 some.2.path)))
    ]

-- the path of the source alone
pub first_state : (s : Search) (place : ℕ) (new : Label) (ls ls' : List (Option Label)) (front front' : List Waiting) → IsBridgeAt (graph_of s) place s.source → place < length ls → IsFirst s.source new → IsState s ls front → IsSet place new ls ls' front front' → IsState s ls' front'
first_state s place new ls ls' front front' at within first state done =
    set_state s place s.source new ls ls' front front' at within (record {
      path = subst (IsPath (graph_of s) s.source s.source) (sym first.one) (path_single (graph_of s) s.source (at_among (systems_of (graph_of s).bridges) place s.source at));
      cost_is = first.cost_is ∙ ap (cost_of (graph_of s)) (sym first.one);
    }) state done

pub first_front : (s : Search) (place : ℕ) (new : Label) (ls ls' : List (Option Label)) (front front' : List Waiting) → AreReady s.mesh.now → IsBridgeAt (graph_of s) place s.source → place < length ls → IsFirst s.source new → ls ≡ replicate (length (graph_of s).bridges) None → ((e : Waiting) → waits front e ≡ false) → IsSet place new ls ls' front front' → IsFront s ls' front' []
first_front s place new ls ls' front front' ready at within first e none done =
    at_first (graph_of s) s.mask s.source (waits_of s front') (way_of s ls') (at_among (systems_of (graph_of s).bridges) place s.source at) own others (entry_of new place, done.here, sym here) alone
  where
    here : place_in (graph_of s).bridges s.source ≡ place
    here = place_is (graph_of s) place s.source ready.valid at

    own : way_of s ls' s.source ≡ Some (s.source ∷ [])
    own = way_is s ls' place s.source new ready at (ap (λ t. label_at t place) done.labels ∙ set_own ls place new within) ∙ ap Some first.one

    others : (x : SystemId) → x ≢ s.source → way_of s ls' x ≡ None
    others x other =
        let i : ℕ = place_in (graph_of s).bridges x in
        ap (option_map (λ (l : Label). l.bridges.items)) (ap (λ t. label_at t i) done.labels ∙ (set_other ls place i new (place_apart (graph_of s) place s.source x at other) ∙ unlabelled s ls e i))

    alone : (x : SystemId) → waits_of s front' x → x ≡ s.source
    alone x w = elim (done.those w.0 w.1) [
      | inl same ↦
          let there : place_in (graph_of s).bridges x ≡ place = sym w.2 ∙ ap (λ (t : Waiting). t.place) same in
          place_once (graph_of s).bridges x s.source (subst (λ n. IsBridgeAt (graph_of s) n s.source) (sym there) at)
      | inr old ↦ absurd (true≢false (sym old.1 ∙ none w.0))
    ]
