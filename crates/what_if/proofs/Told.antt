-- What the search says of an arc and of the arcs of a bridge, and whether that bridge fails.
use Rattle.std.proofs.Common.{◌≡◌, ℕ, ◌+◌, ◌<◌, ◌≤◌, inl, inr, List, [], ◌∷◌, ◌++◌, length, Bool, true, false, true≢false, not, ◌&&◌, ◌||◌, Option, Some, None, is_some, option_map, refl, sym, ap, subst, ◌∙◌, arith}
use Rattle.std.proofs.lemmas.Option.{same_Some, slice_get_within}
use Rattle.std.specs.List.{list_any, slice_get, slice_index_or}
use Rattle.std.specs.Ordering.{is_lt}
use Rattle.std.specs.declared.cmp.Ordering.{Ordering}
use Rattle.std.specs.declared.cmp.Ordering.TheVariants.{Less, Equal, Greater}
use Rattle.spb_types.specs.Address.{same_system}
use Rattle.spb_types.specs.Graph.{IsAmong, cost_between, systems_of}
use Rattle.spb_types.specs.declared.address.SystemId.{SystemId}
use Rattle.spb_types.specs.declared.graph.Graph.{Graph}
use Rattle.ect_trees.specs.declared.mesh.Arc.{Arc}
use Rattle.ect_trees.specs.declared.search.Label.{Label}
use Rattle.ect_trees.specs.declared.search.Search.{Search}
use Rattle.ect_trees.specs.Key.{key_of, key_cmp}
use Rattle.ect_trees.specs.Best.{is_among}
use Rattle.ect_trees.specs.Arcs.{IsBridgeAt, Leads, IsArcAt, rows_of}
use Rattle.ect_trees.specs.Search.{graph_of, label_at, IsLabel, IsUnder, Improves}
use Rattle.ect_trees.proofs.Among.{same_self}
use Rattle.ect_trees.proofs.Exists.{Decides-among}
use Rattle.ect_trees.proofs.Extended.{at_same}
use Rattle.ect_trees.proofs.Grouped.{same_or_not}
use Rattle.ect_trees.proofs.Places.{at_among, at_within}
use Rattle.ect_trees.proofs.Walks.{cost_comm}
use Rattle.what_if.specs.declared.checking.Claim.{Claim}
use Rattle.what_if.specs.declared.entry.Entry.{Entry}
use Rattle.what_if.specs.declared.entry.Entry.TheVariants.{Start, Before, Unreached}
use Rattle.what_if.specs.Following.{entry_for}
use Rattle.what_if.specs.Failing.{is_start, is_better, gives_better, has_better, fails}
use Rattle.what_if.specs.Labels.{IsWay}
use Rattle.what_if.specs.Claim.{IsClaim, way_in, TellsBetter, TellsHasBetter}
use Rattle.what_if.proofs.Ways.{way_cases, way_more, way_is_path}
use Rattle.what_if.proofs.Passing.{not_among}

-- ---- one arc

is_less : (o : Ordering) → (o ≡ Less → ⊥) → is_lt o ≡ false
is_less Less n = absurd (n refl)
is_less Equal n = refl
is_less Greater n = refl

abbrev pub bridges_of : Option Label → Option (List SystemId)
bridges_of o = option_map (λ l. l.bridges.items) o

told : (s : Search) (l : Label) (arc : Arc) (x : SystemId) (old r : Option Label) → IsBridgeAt (graph_of s) arc.to x → Improves s arc l old r → is_some r ≡ gives_better (graph_of s) s.mask x (bridges_of old) (Some l.bridges.items)
told s l arc x old None at h = by (is_among x l.bridges.items) refl
  where
    by : (b : Bool) → is_among x l.bridges.items ≡ b → false ≡ (not b && is_better (graph_of s) s.mask (bridges_of old) (l.bridges.items ++ x ∷ []))
    by true e = refl
    by false e =
        let low = h x at (λ i. true≢false (sym ((Decides-among x l.bridges.items).1 i) ∙ e)) in
        sym (ap (λ o. is_better (graph_of s) s.mask (bridges_of o) (l.bridges.items ++ x ∷ [])) low.1 ∙ is_less (key_cmp (key_of (graph_of s) s.mask (l.bridges.items ++ x ∷ [])) (key_of (graph_of s) s.mask low.0.bridges.items)) low.2)
told s l arc x old (Some new) at h =
    let w = h x at in
    under old w.below ∙ ap (λ t. not t && is_better (graph_of s) s.mask (bridges_of old) (l.bridges.items ++ x ∷ [])) (sym (not_among x l.bridges.items w.free))
  where
    under : (o : Option Label) → IsUnder s l x o → true ≡ is_better (graph_of s) s.mask (bridges_of o) (l.bridges.items ++ x ∷ [])
    under None u = refl
    under (Some o) u = sym (ap is_lt (u o refl))

-- none of the first n arcs from a place gives the bridge there a better way
abbrev pub NoneBetter : Claim → ℕ → ℕ → Type 0
NoneBetter c place n = (number : ℕ) (arc : Arc) → number < n → IsArcAt (rows_of c.mesh.now) place number arc → TellsBetter c arc false

abbrev pub search_of : Claim → Search
search_of c = record { mesh = c.mesh; source = c.source; mask = c.mask }

-- an edge leads back
pub turned_back : (g : Graph) (arc : Arc) (x u : SystemId) → Leads g arc x u → Leads g (record { from = arc.to; to = arc.from; cost = arc.cost }) u x
turned_back g arc x u lead = record { from = lead.to; to = lead.from; cost = cost_comm g u x ∙ lead.cost }

module _ (c : Claim) (claim : IsClaim c) where
  abbrev g : Graph
  g = c.mesh.now.graph

  pub way_at : (place : ℕ) (x : SystemId) → IsBridgeAt g place x → IsWay g (way_in c x) (label_at c.ways.items place)
  way_at place x at = claim.ways.each place (at_within g place x at) x at

  pub way_label : (place : ℕ) (x : SystemId) (l : Label) → IsBridgeAt g place x → label_at c.ways.items place ≡ Some l → IsLabel (search_of c) x l
  way_label place x l at read =
      let w = way_at place x at in
      record {
        path = way_is_path g c.entries.now c.source (length g.bridges) x l.bridges.items claim.ready.valid claim.from (sym w.way_is ∙ ap bridges_of read);
        cost_is = w.cost_is l read;
      }

  pub better_told : (arc back : Arc) (l : Label) (r : Option Label) → label_at c.ways.items arc.to ≡ Some l → back.to ≡ arc.from → Improves (search_of c) back l (label_at c.ways.items arc.from) r → TellsBetter c arc (is_some r)
  better_told arc back l r read turned better x u lead =
      let own = way_at arc.from x lead.from in
      let near = way_at arc.to u lead.to in
      told (search_of c) l back x (label_at c.ways.items arc.from) r (subst (λ k. IsBridgeAt g k x) (sym turned) lead.from) better
      ∙ (ap (λ o. gives_better g c.mask x o (Some l.bridges.items)) own.way_is
      ∙ ap (gives_better g c.mask x (way_in c x)) (sym (ap bridges_of read) ∙ near.way_is))

  pub none_told : (arc : Arc) → label_at c.ways.items arc.to ≡ None → TellsBetter c arc false
  none_told arc read x u lead = ap (gives_better g c.mask x (way_in c x)) (sym (ap bridges_of read) ∙ (way_at arc.to u lead.to).way_is)

  -- ---- the arcs of a bridge

  pub none_yet : (place : ℕ) → NoneBetter c place 0
  none_yet place number arc below at = absurd (omega (arith, below))

  pub none_more : (place n : ℕ) (arc : Arc) → NoneBetter c place n → IsArcAt (rows_of c.mesh.now) place n arc → TellsBetter c arc false → NoneBetter c place (n + 1)
  none_more place n arc none here not number other below at = elim (same_or_not number n) [
    | inl same ↦ subst (λ t. TellsBetter c t false) (same_Some arc other (sym here ∙ (ap (slice_get (slice_index_or (rows_of c.mesh.now) place [])) (sym same) ∙ at))) not
    | inr apart ↦ none number other (omega (arith, below, apart)) at
  ]

  none_any : (f : SystemId → Bool) (xs : List SystemId) → ((x : SystemId) → f x ≡ false) → list_any f xs ≡ false
  none_any f [] each = refl
  none_any f (x ∷ xs) each = rw (each x, none_any f xs each) refl

  pub none_left : (place n : ℕ) → NoneBetter c place n → length (slice_index_or (rows_of c.mesh.now) place []) ≤ n → TellsHasBetter c place false
  none_left place n none all x at = sym (none_any (λ u. is_some (cost_between g x u) && gives_better g c.mask x (way_in c x) (way_in c u)) (systems_of g.bridges) each)
    where
      each : (u : SystemId) → (is_some (cost_between g x u) && gives_better g c.mask x (way_in c x) (way_in c u)) ≡ false
      each u = by (cost_between g x u) refl
        where
          by : (o : Option ℕ) → cost_between g x u ≡ o → (is_some o && gives_better g c.mask x (way_in c x) (way_in c u)) ≡ false
          by None e = refl
          by (Some cost) e =
              let go = claim.ready.go x u place cost e at in
              let within = slice_get_within (slice_index_or (rows_of c.mesh.now) place []) go.0 go.1 go.2 in
              sym (none go.0 go.1 (omega (arith, within, all)) go.2 x u go.3)

  any_one : (f : SystemId → Bool) (xs : List SystemId) (u : SystemId) → IsAmong u xs → f u ≡ true → list_any f xs ≡ true
  any_one f [] u i h = absurd i
  any_one f (x ∷ xs) u (inl e) h = rw (sym (ap f e) ∙ h) refl
  any_one f (x ∷ xs) u (inr i) h = last (f x) (any_one f xs u i h)
    where
      last : (b : Bool) → list_any f xs ≡ true → (b || list_any f xs) ≡ true
      last true e = refl
      last false e = e

  pub one_is : (place n : ℕ) (arc : Arc) → IsArcAt (rows_of c.mesh.now) place n arc → TellsBetter c arc true → TellsHasBetter c place true
  one_is place n arc here better x at =
      let lead = claim.ready.lead place n arc here in
      let u : SystemId = lead.1.1 in
      let same : lead.1.0 ≡ x = at_same g arc.from lead.1.0 x lead.1.2.from (subst (λ k. IsBridgeAt g k x) (sym lead.0) at) in
      let goes : Leads g arc x u = subst (λ z. Leads g arc z u) same lead.1.2 in
      sym (any_one (λ u. is_some (cost_between g x u) && gives_better g c.mask x (way_in c x) (way_in c u)) (systems_of g.bridges) u (at_among (systems_of g.bridges) arc.to u goes.to)
      (ap (λ o. is_some o && gives_better g c.mask x (way_in c x) (way_in c u)) goes.cost ∙ sym (better x u goes)))

  -- ---- whether a bridge fails

  pub source_fails : (x : SystemId) (e : Entry) → same_system x c.source ≡ true → entry_for g c.entries.now x ≡ e → not (is_start e) ≡ fails g c.mask c.entries.now c.source x
  source_fails x e same at = sym (rw (same, at) refl)

  pub start_fails : (x : SystemId) → same_system x c.source ≡ false → entry_for g c.entries.now x ≡ Start → true ≡ fails g c.mask c.entries.now c.source x
  start_fails x off at = sym (rw (off, at) refl)

  pub no_label : (place : ℕ) (x : SystemId) → IsBridgeAt g place x → is_some (label_at c.ways.items place) ≡ false → way_in c x ≡ None
  no_label place x at none = sym (way_at place x at).way_is ∙ by (label_at c.ways.items place) none
    where
      by : (o : Option Label) → is_some o ≡ false → bridges_of o ≡ None
      by None e = refl
      by (Some l) e = absurd (true≢false e)

  pub some_label : (place : ℕ) (x : SystemId) → IsBridgeAt g place x → is_some (label_at c.ways.items place) ≡ true → (p : List SystemId) × (way_in c x ≡ Some p)
  some_label place x at some = by (label_at c.ways.items place) refl some
    where
      by : (o : Option Label) → label_at c.ways.items place ≡ o → is_some o ≡ true → (p : List SystemId) × (way_in c x ≡ Some p)
      by None e f = absurd (true≢false (sym f))
      by (Some l) e f = (l.bridges.items, sym (way_at place x at).way_is ∙ ap bridges_of e)

  -- an entry from which no way comes
  pub lost_fails : (x y : SystemId) → same_system x c.source ≡ false → entry_for g c.entries.now x ≡ Before y → way_in c x ≡ None → true ≡ fails g c.mask c.entries.now c.source x
  lost_fails x y off at none = by (is_some (cost_between g x y)) refl
    where
      by : (b : Bool) → is_some (cost_between g x y) ≡ b → true ≡ fails g c.mask c.entries.now c.source x
      by true e = sym (rw (off, at, e, none) refl)
      by false e = sym (rw (off, at, e) refl)

  pub unreached_fails : (b : Bool) (x : SystemId) → same_system x c.source ≡ false → entry_for g c.entries.now x ≡ Unreached → b ≡ has_better g c.mask c.entries.now c.source x → b ≡ fails g c.mask c.entries.now c.source x
  unreached_fails b x off at better = better ∙ sym (rw (off, at) refl)

  joined : (x y : SystemId) (p : List SystemId) → same_system x c.source ≡ false → entry_for g c.entries.now x ≡ Before y → way_in c x ≡ Some p → is_some (cost_between g x y) ≡ true
  joined x y p off at way = elim (way_cases g c.entries.now c.source (length g.bridges) x p (way_more g c.entries.now c.source (length g.bridges) x p way)) [
    | inl here ↦ absurd (true≢false (sym (ap (λ t. same_system t c.source) here.0 ∙ same_self c.source) ∙ off))
    | inr f ↦ ap (λ t. is_some (cost_between g x t)) (before_is y f.1.y (sym at ∙ f.1.entry)) ∙ f.1.joined
  ]
    where
      before_is : (y z : SystemId) → Before y ≡ Before z → y ≡ z
      before_is y z h = cc

  pub named_fails : (b : Bool) (x y : SystemId) (p : List SystemId) → same_system x c.source ≡ false → entry_for g c.entries.now x ≡ Before y → way_in c x ≡ Some p → b ≡ has_better g c.mask c.entries.now c.source x → b ≡ fails g c.mask c.entries.now c.source x
  named_fails b x y p off at way better = better ∙ sym (rw (off, at, joined x y p off at way, way) refl)
