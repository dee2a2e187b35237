-- A bridge keeps its way: a neighbour gives it no better one where its own costs less, or is that of the neighbour.
use Rattle.std.proofs.Common.{◌≡◌, ℕ, ◌+◌, ◌^◌, ◌<◌, inl, inr, [], ◌∷◌, ◌++◌, length, true, false, true≢false, Some, None, refl, sym, ap, subst, ◌∙◌, arith}
use Rattle.spb_types.specs.Graph.{IsAmong}
use Rattle.spb_types.specs.declared.address.SystemId.{SystemId}
use Rattle.spb_types.specs.declared.graph.Graph.{Graph}
use Rattle.ect_trees.specs.declared.mesh.Arc.{Arc}
use Rattle.ect_trees.specs.declared.search.Label.{Label}
use Rattle.ect_trees.specs.Arcs.{CanGo, IsBridgeAt, Leads}
use Rattle.ect_trees.specs.Key.{key_of, IsBelow}
use Rattle.ect_trees.specs.Search.{label_at, longer_key, longer_cost, Extends, IsLow}
use Rattle.ect_trees.proofs.Among.{same_is}
use Rattle.ect_trees.proofs.Extended.{at_same, cost_fits, dearer_is_not, longer_cost_is}
use Rattle.ect_trees.proofs.KeyOrder.{not_below_itself}
use Rattle.ect_trees.proofs.Places.{at_within}
use Rattle.ect_trees.proofs.Walks.{path_start}
use Rattle.what_if.specs.declared.checking.Claim.{Claim}
use Rattle.what_if.specs.declared.entry.Entry.{Entry}
use Rattle.what_if.specs.declared.entry.Entry.TheVariants.{Start, Before, Unreached}
use Rattle.what_if.specs.Following.{entry_for, way_within}
use Rattle.what_if.specs.Failing.{names}
use Rattle.what_if.specs.Claim.{IsClaim, way_in, NamesEnd, TellsBetter}
use Rattle.what_if.proofs.Passing.{before_is}
use Rattle.what_if.proofs.Told.{bridges_of, search_of, turned_back, way_at, way_label, better_told}
use Rattle.what_if.proofs.Ways.{some_is, way_cases, way_more, way_is_path}

names_is : (e : Entry) (y : SystemId) → names e y ≡ true → e ≡ Before y
names_is Start y h = absurd (true≢false (sym h))
names_is (Before z) y h = ap Before (same_is z y h)
names_is Unreached y h = absurd (true≢false (sym h))

abbrev pub back_of : Arc → Arc
back_of arc = record { from = arc.to; to = arc.from; cost = arc.cost }

module _ (c : Claim) (claim : IsClaim c) where
  abbrev g : Graph
  g = c.mesh.now.graph

  pub end_named : (arc : Arc) (y : SystemId) (e : Entry) → IsBridgeAt g arc.to y → ((x : SystemId) → IsBridgeAt g arc.from x → entry_for g c.entries.now x ≡ e) → names e y ≡ true → NamesEnd c arc
  end_named arc y e to read h x u lead = read x lead.from ∙ (names_is e y h ∙ ap Before (at_same g arc.to y u to lead.to))

  -- the way of the neighbour leads on
  abbrev pub leads_on : (arc : Arc) (l : Label) → CanGo g arc → label_at c.ways.items arc.to ≡ Some l → Extends (search_of c) (back_of arc) l
  leads_on arc l go read = (go.1, go.0, turned_back g arc go.0 go.1 go.2, way_label c claim arc.to go.1 l go.2.to read)

  pub cost_on_fits : (arc : Arc) (l : Label) → CanGo g arc → label_at c.ways.items arc.to ≡ Some l → l.cost + arc.cost < 2 ^ 64
  cost_on_fits arc l go read = cost_fits (search_of c) (back_of arc) l claim.ready.valid (leads_on arc l go read)

  -- there is a label for each bridge
  pub start_within : (arc : Arc) → CanGo g arc → arc.from < length c.ways.items
  start_within arc go = omega (arith, at_within g arc.from go.0 go.2.from, claim.ways.places)

  abbrev n : ℕ
  n = length g.bridges

  low_told : (arc : Arc) (l o : Label) → label_at c.ways.items arc.to ≡ Some l → label_at c.ways.items arc.from ≡ Some o → ((x : SystemId) → IsBridgeAt g arc.from x → (IsAmong x l.bridges.items → ⊥) → IsLow (search_of c) l x (Some o)) → TellsBetter c arc false
  low_told arc l o read own low = better_told c claim arc (back_of arc) l None read refl (λ x at free. subst (IsLow (search_of c) l x) (sym own) (low x at free))

  -- an own way that costs less
  pub cheaper_told : (arc : Arc) (l o : Label) → CanGo g arc → label_at c.ways.items arc.to ≡ Some l → label_at c.ways.items arc.from ≡ Some o → o.cost < l.cost + arc.cost → TellsBetter c arc false
  cheaper_told arc l o go read own less =
      let on : Extends (search_of c) (back_of arc) l = leads_on arc l go read in
      low_told arc l o read own (λ x at free.
      let same : go.0 ≡ x = at_same g arc.from go.0 x go.2.from at in
      let cost_is : l.cost + arc.cost ≡ longer_cost (search_of c) l x = longer_cost_is (search_of c) (back_of arc) go.1 go.0 l on.2 on.3 ∙ ap (longer_cost (search_of c) l) same in
      dearer_is_not (search_of c) l o x (l.cost + arc.cost) (way_label c claim arc.from x o at own) cost_is less)

  -- the way of the neighbour that the entry names
  pub named_told : (arc : Arc) (l o : Label) → CanGo g arc → label_at c.ways.items arc.to ≡ Some l → label_at c.ways.items arc.from ≡ Some o → NamesEnd c arc → TellsBetter c arc false
  named_told arc l o go read own named = low_told arc l o read own low
    where
      low : (x : SystemId) → IsBridgeAt g arc.from x → (IsAmong x l.bridges.items → ⊥) → IsLow (search_of c) l x (Some o)
      low x at free =
          let u : SystemId = go.1 in
          let lead : Leads g arc x u = subst (λ z. Leads g arc z u) (at_same g arc.from go.0 x go.2.from at) go.2 in
          let way : way_in c x ≡ Some o.bridges.items = sym (way_at c claim arc.from x at).way_is ∙ ap bridges_of own in
          let near : way_in c u ≡ Some l.bridges.items = sym (way_at c claim arc.to u lead.to).way_is ∙ ap bridges_of read in
          elim (way_cases g c.entries.now c.source n x o.bridges.items (way_more g c.entries.now c.source n x o.bridges.items way)) [
            | inl here ↦ absurd (free (subst (λ z. IsAmong z l.bridges.items) (sym here.0) (path_start g c.source u l.bridges.items (way_is_path g c.entries.now c.source n u l.bridges.items claim.ready.valid claim.from near))))
            | inr f ↦
                let y_is : u ≡ f.1.y = before_is u f.1.y (sym (named x u lead) ∙ f.1.entry) in
                let q_is : l.bridges.items ≡ f.1.q = some_is l.bridges.items f.1.q (sym near ∙ (ap (way_within g c.entries.now c.source n) y_is ∙ f.1.before)) in
                let whole : o.bridges.items ≡ l.bridges.items ++ x ∷ [] = f.1.whole ∙ ap (λ t. t ++ x ∷ []) (sym q_is) in
                (o, refl, λ below. not_below_itself (longer_key (search_of c) l x) (subst (λ t. IsBelow (longer_key (search_of c) l x) (key_of g c.mask t)) whole below))
          ]
