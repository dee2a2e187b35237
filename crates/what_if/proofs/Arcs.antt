-- Looking for the arc from a bridge to a neighbour.
use Rattle.std.proofs.Common.{◌≡◌, ℕ, ◌+◌, ◌<◌, ◌≤◌, inl, inr, [], length, true, false, true≢false, Option, Some, None, refl, sym, ap, subst, ◌∙◌, arith}
use Rattle.std.proofs.lemmas.Option.{same_Some, slice_get_within}
use Rattle.std.specs.List.{slice_get, slice_index_or}
use Rattle.spb_types.specs.Address.{same_system}
use Rattle.spb_types.specs.Graph.{cost_between}
use Rattle.spb_types.specs.declared.address.SystemId.{SystemId}
use Rattle.ect_trees.specs.declared.mesh.Arc.{Arc}
use Rattle.ect_trees.specs.declared.mesh.Mesh.{Mesh}
use Rattle.ect_trees.specs.Arcs.{AreReady, IsBridgeAt, IsArcAt, rows_of}
use Rattle.ect_trees.proofs.Among.{same_is, same_self}
use Rattle.ect_trees.proofs.Extended.{at_same}
use Rattle.ect_trees.proofs.Grouped.{same_or_not}
use Rattle.ect_trees.proofs.Walks.{cost_comm}
use Rattle.what_if.specs.Labels.{IsArcFrom}

-- none of the first n arcs from a place leads to y
abbrev pub NoneFrom : Mesh → ℕ → SystemId → ℕ → Type 0
NoneFrom r place y n = (number : ℕ) (arc : Arc) → number < n → IsArcAt (rows_of r) place number arc → IsBridgeAt r.graph arc.to y → ⊥

pub none_from_start : (r : Mesh) (place : ℕ) (y : SystemId) → NoneFrom r place y 0
none_from_start r place y number arc below at to = omega (arith, below)

pub none_from_more : (r : Mesh) (place n : ℕ) (y z : SystemId) (arc : Arc) → NoneFrom r place y n → IsArcAt (rows_of r) place n arc → IsBridgeAt r.graph arc.to z → same_system z y ≡ false → NoneFrom r place y (n + 1)
none_from_more r place n y z arc none here there off number other below at to = elim (same_or_not number n) [
  | inl same ↦
      let arcs : arc ≡ other = same_Some arc other (sym here ∙ (ap (slice_get (slice_index_or (rows_of r) place [])) (sym same) ∙ at)) in
      let ends : z ≡ y = at_same r.graph arc.to z y there (subst (λ t. IsBridgeAt r.graph t.to y) (sym arcs) to) in
      true≢false (sym (ap (λ t. same_system t y) ends ∙ same_self y) ∙ off)
  | inr apart ↦ none number other (omega (arith, below, apart)) at to
]

pub none_from_all : (r : Mesh) (place n : ℕ) (y : SystemId) → AreReady r → NoneFrom r place y n → length (slice_index_or (rows_of r) place []) ≤ n → IsArcFrom r.graph place y None
none_from_all r place n y ready none all x at = by (cost_between r.graph x y) refl
  where
    by : (o : Option ℕ) → cost_between r.graph x y ≡ o → cost_between r.graph x y ≡ None
    by None e = e
    by (Some cost) e =
        let go = ready.go x y place cost e at in
        absurd (none go.0 go.1 (omega (arith, slice_get_within (slice_index_or (rows_of r) place []) go.0 go.1 go.2, all)) go.2 go.3.to)

pub arc_is_from : (r : Mesh) (place n : ℕ) (y z : SystemId) (arc : Arc) → AreReady r → IsArcAt (rows_of r) place n arc → IsBridgeAt r.graph arc.to z → same_system z y ≡ true → IsArcFrom r.graph place y (Some (record { from = arc.to; to = place; cost = arc.cost }))
arc_is_from r place n y z arc ready here there same x at =
    let lead = ready.lead place n arc here in
    let start : lead.1.0 ≡ x = at_same r.graph arc.from lead.1.0 x lead.1.2.from (subst (λ k. IsBridgeAt r.graph k x) (sym lead.0) at) in
    let end : lead.1.1 ≡ y = at_same r.graph arc.to lead.1.1 z lead.1.2.to there ∙ same_is z y same in
    record {
      from = subst (IsBridgeAt r.graph arc.to) (same_is z y same) there;
      to = at;
      cost = cost_comm r.graph y x ∙ (ap (λ t. cost_between r.graph t y) (sym start) ∙ (ap (cost_between r.graph lead.1.0) (sym end) ∙ lead.1.2.cost));
    }
