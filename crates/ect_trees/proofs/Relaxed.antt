-- What relaxing the arcs from a place does.
use Rattle.std.proofs.Common.{◌≡◌, ◌≢◌, true, ℕ, ◌+◌, ◌<◌, ◌≤◌, ◌⊎◌, inl, inr, List, [], ◌∷◌, ◌++◌, length, Option, Some, None, IsSome, option_map, get_or, refl, sym, ap, ◌∙◌, subst, arith}
use Rattle.std.proofs.lemmas.List.{get_or_read}
use Rattle.std.proofs.lemmas.Option.{same_Some, none-some, slice_get_within}
use Rattle.spb_types.specs.Graph.{IsAmong}
use Rattle.spb_types.specs.declared.address.SystemId.{SystemId}
use Rattle.ect_trees.specs.declared.mesh.Arc.{Arc}
use Rattle.ect_trees.specs.declared.search.Label.{Label}
use Rattle.ect_trees.specs.declared.search.Search.{Search}
use Rattle.ect_trees.specs.declared.waiting.Waiting.{Waiting}
use Rattle.ect_trees.specs.Key.{key_of, IsBelow}
use Rattle.ect_trees.specs.Low.{LowAt}
use Rattle.ect_trees.specs.Frontier.{During, WithOne, WithWay}
use Rattle.ect_trees.specs.Arcs.{IsBridgeAt, Leads, CanGo, IsArcAt, AreReady, place_in, rows_of}
use Rattle.ect_trees.specs.Search.{graph_of, label_at, AreLabels, way_of, waits_of, entry_of, IsState, IsLow, IsLower, Improves, IsRelaxed, IsLeft, RelaxesAll}
use Rattle.ect_trees.specs.Search.IsRelaxed.{none, same, lower}
use Rattle.ect_trees.specs.Waits.{waits}
use Rattle.ect_trees.proofs.Places.{at_within, place_is, place_once, place_apart}
use Rattle.ect_trees.proofs.Extended.{at_same}
use Rattle.ect_trees.proofs.Grouped.{same_or_not}
use Rattle.ect_trees.proofs.Entries.{set_own, set_other, set_state}
use Rattle.ect_trees.proofs.Frontier.{relaxed_same, relaxed_lower, x_done}

-- the way to the bridge at a place is the path of the label there
pub way_at : (s : Search) (ls : List (Option Label)) (place : ℕ) (x : SystemId) → AreReady s.mesh.now → IsBridgeAt (graph_of s) place x → way_of s ls x ≡ option_map (λ (l : Label). l.bridges.items) (label_at ls place)
way_at s ls place x ready here = ap (λ n. option_map (λ (l : Label). l.bridges.items) (label_at ls n)) (place_is (graph_of s) place x ready.valid here)

pub way_is : (s : Search) (ls : List (Option Label)) (place : ℕ) (x : SystemId) (l : Label) → AreReady s.mesh.now → IsBridgeAt (graph_of s) place x → label_at ls place ≡ Some l → way_of s ls x ≡ Some l.bridges.items
way_is s ls place x l ready here e = way_at s ls place x ready here ∙ ap (option_map (λ (t : Label). t.bridges.items)) e

-- labels and what waits stay a state when an arc is relaxed
pub relaxed_state : (s : Search) (arc : Arc) (ls ls' : List (Option Label)) (front front' : List Waiting) → CanGo (graph_of s) arc → IsState s ls front → IsRelaxed s arc ls ls' front front' → IsState s ls' front'
relaxed_state s arc ls ls' front front' go state (none e f n) = subst (λ t. IsState s t front') (sym e) (subst (IsState s ls) (sym f) state)
relaxed_state s arc ls ls' front front' go state (same e f l n i) = subst (λ t. IsState s t front') (sym e) (subst (IsState s ls) (sym f) state)
relaxed_state s arc ls ls' front front' go state (lower l e new better done) =
    let below = at_within (graph_of s) arc.to go.1 go.2.to in
    set_state s arc.to go.1 new ls ls' front front' go.2.to (omega (arith, below, state.labels.places)) (better go.1 go.2.to).label state done

-- y gets the way p and y itself, below the one that it had, and waits
pub record Gets (s : Search) (y : SystemId) (p : List SystemId) (ls ls' : List (Option Label)) (front front' : List Waiting) : Type 0 where
  pub free : IsAmong y p → ⊥
  pub below : (q : List SystemId) → way_of s ls y ≡ Some q → IsBelow (key_of (graph_of s) s.mask (p ++ y ∷ [])) (key_of (graph_of s) s.mask q)
  pub with_way : WithWay y (p ++ y ∷ []) (way_of s ls) (way_of s ls')
  pub with_one : WithOne y (waits_of s front) (waits_of s front')

-- what relaxing an arc from x to y does to ways: nothing, where the one over x isn't lower; or y gets that
pub data Outcome (s : Search) (x y : SystemId) (ls ls' : List (Option Label)) (front front' : List Waiting) : Type 0 where
  stays : ls' ≡ ls → front' ≡ front → ((p : List SystemId) → way_of s ls x ≡ Some p → (IsAmong y p → ⊥) → LowAt (graph_of s) s.mask (way_of s ls) y (p ++ y ∷ [])) → Outcome s x y ls ls' front front'
  gets : (p : List SystemId) → way_of s ls x ≡ Some p → Gets s y p ls ls' front front' → Outcome s x y ls ls' front front'

pub relaxed_outcome : (s : Search) (arc : Arc) (x y : SystemId) (ls ls' : List (Option Label)) (front front' : List Waiting) → AreReady s.mesh.now → Leads (graph_of s) arc x y → IsState s ls front → IsRelaxed s arc ls ls' front front' → Outcome s x y ls ls' front front'
relaxed_outcome s arc x y ls ls' front front' ready lead state relaxed = by relaxed
  where
    within : arc.to < length ls
    within = let below = at_within (graph_of s) arc.to y lead.to in omega (arith, below, state.labels.places)

    low_at : (l : Label) → label_at ls arc.from ≡ Some l → Improves s arc l (label_at ls arc.to) None → (p : List SystemId) → way_of s ls x ≡ Some p → (IsAmong y p → ⊥) → LowAt (graph_of s) s.mask (way_of s ls) y (p ++ y ∷ [])
    low_at l e i p w free =
        let path : l.bridges.items ≡ p = same_Some l.bridges.items p (sym (way_is s ls arc.from x l ready lead.from e) ∙ w) in
        let low : IsLow s l y (label_at ls arc.to) = i y lead.to (λ on. free (subst (IsAmong y) path on)) in
        (low.0.bridges.items, way_is s ls arc.to y low.0 ready lead.to low.1, subst (λ t. IsBelow (key_of (graph_of s) s.mask (t ++ y ∷ [])) (key_of (graph_of s) s.mask low.0.bridges.items) → ⊥) path low.2)

    by : IsRelaxed s arc ls ls' front front' → Outcome s x y ls ls' front front'
    by (none e f n) = stays e f (λ p w free. absurd (none-some p (sym (way_at s ls arc.from x ready lead.from ∙ ap (option_map (λ (t : Label). t.bridges.items)) n) ∙ w)))
    by (same e f l n i) = stays e f (low_at l n i)
    by (lower l e new better set) = gets l.bridges.items (way_is s ls arc.from x l ready lead.from e) (record { free = improved.free; below = below; with_way = with_way; with_one = with_one })
      where
        improved : IsLower s l y (label_at ls arc.to) new
        improved = better y lead.to

        below_at : (o : Option Label) (q : List SystemId) → label_at ls arc.to ≡ o → option_map (λ (t : Label). t.bridges.items) o ≡ Some q → IsBelow (key_of (graph_of s) s.mask (l.bridges.items ++ y ∷ [])) (key_of (graph_of s) s.mask q)
        below_at None q h w = absurd (none-some q w)
        below_at (Some o) q h w =
            subst (λ t. IsBelow (key_of (graph_of s) s.mask (l.bridges.items ++ y ∷ [])) (key_of (graph_of s) s.mask t)) (same_Some o.bridges.items q w) (improved.below o h)

        below : (q : List SystemId) → way_of s ls y ≡ Some q → IsBelow (key_of (graph_of s) s.mask (l.bridges.items ++ y ∷ [])) (key_of (graph_of s) s.mask q)
        below q w = below_at (label_at ls arc.to) q refl (sym (way_at s ls arc.to y ready lead.to) ∙ w)

        with_way : WithWay y (l.bridges.items ++ y ∷ []) (way_of s ls) (way_of s ls')
        with_way = record {
          here = way_is s ls' arc.to y new ready lead.to (ap (λ t. label_at t arc.to) set.labels ∙ set_own ls arc.to new within) ∙ ap Some improved.longer;
          others = λ z other.
              ap (option_map (λ (t : Label). t.bridges.items)) (ap (λ t. label_at t (place_in (graph_of s).bridges z)) set.labels ∙ set_other ls arc.to (place_in (graph_of s).bridges z) new (place_apart (graph_of s) arc.to y z lead.to other));
        }

        others_at : (z : SystemId) (w : Waiting) → waits front' w ≡ true → w.place ≡ place_in (graph_of s).bridges z → (z ≡ y) ⊎ waits_of s front z
        others_at z w t at = elim (set.those w t) [
          | inl entry ↦
              let there : place_in (graph_of s).bridges z ≡ arc.to = sym at ∙ ap (λ (u : Waiting). u.place) entry in
              inl (place_once (graph_of s).bridges z y (subst (λ n. IsBridgeAt (graph_of s) n y) (sym there) lead.to))
          | inr old ↦ inr (w, old.1, at)
        ]

        kept_at : (z : SystemId) (w : Waiting) → waits front w ≡ true → w.place ≡ place_in (graph_of s).bridges z → (w.place ≡ arc.to) ⊎ (w.place ≢ arc.to) → waits_of s front' z
        kept_at z w t at (inl e) = (entry_of new arc.to, set.here, sym e ∙ at)
        kept_at z w t at (inr other) = (w, set.kept w other t, at)

        with_one : WithOne y (waits_of s front) (waits_of s front')
        with_one = record {
          here = (entry_of new arc.to, set.here, sym (place_is (graph_of s) arc.to y ready.valid lead.to));
          others = λ z w. others_at z w.0 w.1 w.2;
          kept = λ z w. kept_at z w.0 w.1 w.2 (same_or_not w.0.place arc.to);
        }

-- the labels and the frontier once the first k arcs from a place are relaxed
pub record Relaxing (s : Search) (place k : ℕ) (old now : List (Option Label)) (front since : List Waiting) : Type 0 where
  pub state : IsState s now since
  pub during : (done : List SystemId) (x : SystemId) (p : List SystemId) → IsBridgeAt (graph_of s) place x → During (graph_of s) s.mask s.source done x p (waits_of s front) (IsLeft s place 0) (way_of s old) → During (graph_of s) s.mask s.source done x p (waits_of s since) (IsLeft s place k) (way_of s now)

pub relaxing_none : (s : Search) (place : ℕ) (ls : List (Option Label)) (front : List Waiting) → IsState s ls front → Relaxing s place 0 ls ls front front
relaxing_none s place ls front state = record { state = state; during = λ done x p here d. d }

-- the next arc
pub relaxing_more : (s : Search) (place k : ℕ) (arc : Arc) (old now next : List (Option Label)) (front since then : List Waiting) → AreReady s.mesh.now → IsArcAt (rows_of s.mesh.now) place k arc → Relaxing s place k old now front since → IsRelaxed s arc now next since then → Relaxing s place (k + 1) old next front then
relaxing_more s place k arc old now next front since then ready here r relaxed = record {
  state = relaxed_state s arc now next since then (ready.lead place k arc here).1 r.state relaxed;
  during = λ done x p at d. during done x p at (r.during done x p at d);
}
  where
    y : SystemId
    y = (ready.lead place k arc here).1.1

    lead : Leads (graph_of s) arc (ready.lead place k arc here).1.0 (ready.lead place k arc here).1.1
    lead = (ready.lead place k arc here).1.2

    strike : (v : SystemId) → IsLeft s place k v → (v ≡ y) ⊎ IsLeft s place (k + 1) v
    strike v (number, a, low, listed, to) = elim (same_or_not number k) [
      | inl e ↦
          let arcs : a ≡ arc = same_Some a arc (sym (subst (λ t. IsArcAt (rows_of s.mesh.now) place t a) e listed) ∙ here) in
          inl (at_same (graph_of s) arc.to v y (subst (λ (t : Arc). IsBridgeAt (graph_of s) t.to v) arcs to) lead.to)
      | inr other ↦ inr (number, a, omega (arith, low, other), listed, to)
    ]

    during : (done : List SystemId) (x : SystemId) (p : List SystemId) → IsBridgeAt (graph_of s) place x → During (graph_of s) s.mask s.source done x p (waits_of s since) (IsLeft s place k) (way_of s now) → During (graph_of s) s.mask s.source done x p (waits_of s then) (IsLeft s place (k + 1)) (way_of s next)
    during done x p at d = by (relaxed_outcome s arc x y now next since then ready own r.state relaxed)
      where
        start : IsBridgeAt (graph_of s) arc.from x
        start = subst (λ t. IsBridgeAt (graph_of s) t x) (sym (ready.lead place k arc here).0) at

        own : Leads (graph_of s) arc x y
        own = subst (λ t. Leads (graph_of s) arc t y) (at_same (graph_of s) arc.from (ready.lead place k arc here).1.0 x lead.from start) lead

        by : Outcome s x y now next since then → During (graph_of s) s.mask s.source done x p (waits_of s then) (IsLeft s place (k + 1)) (way_of s next)
        by (stays e f low) =
            let after = relaxed_same (graph_of s) s.mask s.source done x p (waits_of s since) (IsLeft s place k) (IsLeft s place (k + 1)) (way_of s now) y d strike (low p d.own) in
            subst (λ t. During (graph_of s) s.mask s.source done x p (waits_of s then) (IsLeft s place (k + 1)) (way_of s t)) (sym e)
            (subst (λ t. During (graph_of s) s.mask s.source done x p (waits_of s t) (IsLeft s place (k + 1)) (way_of s now)) (sym f) after)
        by (gets q way_x given) =
            let g : Gets s y p now next since then = subst (λ t. Gets s y t now next since then) (same_Some q p (sym way_x ∙ d.own)) given in
            relaxed_lower (graph_of s) s.mask s.source done x p (waits_of s since) (waits_of s then) (IsLeft s place k) (IsLeft s place (k + 1)) (way_of s now) (way_of s next) y ready.valid d strike (subst (λ o. IsSome o) (sym own.cost) refl)
            g.free g.below g.with_way g.with_one

-- all arcs of the place are relaxed
pub relaxed_all : (s : Search) (place k : ℕ) (old now : List (Option Label)) (front since : List Waiting) → length (get_or (rows_of s.mesh.now) place []) ≤ k → Relaxing s place k old now front since → RelaxesAll s place old now front since
relaxed_all s place k old now front since whole r = λ done x p here d.
    x_done (graph_of s) s.mask s.source done x p (waits_of s since) (IsLeft s place k) (way_of s now) (r.during done x p here d) (λ v w.
    let below : w.0 < length (get_or (rows_of s.mesh.now) place []) = slice_get_within (get_or (rows_of s.mesh.now) place []) w.0 w.1 w.3 in
    omega (arith, below, whole, w.2))

-- the label that is read at the place of a bridge
pub read_label : (s : Search) (ls : List (Option Label)) (i : ℕ) (x : SystemId) (o : Option Label) → AreLabels s ls → IsBridgeAt (graph_of s) i x → o ≡ get_or ls i o → label_at ls i ≡ o
read_label s ls i x o labels here r = sym (get_or_read ls i o (omega (arith, at_within (graph_of s) i x here, labels.places)) r None)
