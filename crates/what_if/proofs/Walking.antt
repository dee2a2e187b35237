-- A walk back along the entries, and the label that comes of it.
use Rattle.std.proofs.Common.{◌≡◌, ℕ, zero, suc, ◌+◌, ◌*◌, ◌<◌, ◌≤◌, List, [], ◌∷◌, ◌++◌, length, reverse, true, false, Option, Some, None, IsSome, option_map, unwrap_or, refl, sym, ap, subst, ◌∙◌, append_assoc, arith}
use Rattle.std.proofs.lemmas.List.{reverse-append}
use Rattle.spb_types.specs.Address.{same_system}
use Rattle.spb_types.specs.Graph.{IsValid, cost_between}
use Rattle.spb_types.specs.declared.address.SystemId.{SystemId}
use Rattle.spb_types.specs.declared.graph.Graph.{Graph}
use Rattle.spb_types.specs.declared.limits.TheConstants.{GREATEST_METRIC}
use Rattle.ect_trees.specs.declared.mesh.Arc.{Arc}
use Rattle.ect_trees.specs.declared.search.Label.{Label}
use Rattle.ect_trees.specs.Arcs.{IsBridgeAt, Leads}
use Rattle.ect_trees.specs.Path.{cost_of, cost_along}
use Rattle.ect_trees.proofs.Among.{same_is}
use Rattle.ect_trees.proofs.Extended.{at_same}
use Rattle.ect_trees.proofs.Places.{at_within}
use Rattle.ect_trees.proofs.Steps.{step_high}
use Rattle.ect_trees.proofs.Walks.{step, cost_comm}
use Rattle.what_if.specs.declared.entry.Entry.{Entry}
use Rattle.what_if.specs.declared.entry.Entry.TheVariants.{Start, Before, Unreached}
use Rattle.what_if.specs.Following.{entry_for, way_within, way_of}
use Rattle.what_if.specs.Labels.{IsStepBy, IsStepTo, IsWayTo}
use Rattle.what_if.proofs.Ways.{way_start}

-- the walk from the bridge at a place has come to the bridge s; what follows from there, and the bridges that it passed,
-- make the way that is looked for
pub record IsWalk (g : Graph) (es : List Entry) (a : SystemId) (place here : ℕ) (s : SystemId) (left : ℕ) (trail : List SystemId) (cost : ℕ) : Type 0 where
  pub at : IsBridgeAt g here s
  pub few : left ≤ length g.bridges
  pub small : cost + left * GREATEST_METRIC ≤ length g.bridges * GREATEST_METRIC
  pub rest : (x : SystemId) → IsBridgeAt g place x → way_of g es a x ≡ option_map (λ q. q ++ reverse trail) (way_within g es a left s)
  pub cost_is : cost ≡ cost_along g s (reverse trail)

with_nothing : (o : Option (List SystemId)) → option_map (λ q. q ++ []) o ≡ o
with_nothing None = refl
with_nothing (Some q) = ap Some (append-nil q)
  where
    append-nil : (l : List SystemId) → l ++ [] ≡ l
    append-nil [] = refl
    append-nil (x ∷ l) = ap (λ t. x ∷ t) (append-nil l)

pub walk_starts : (g : Graph) (es : List Entry) (a : SystemId) (place : ℕ) (s : SystemId) (left : ℕ) → left ≡ length g.bridges → IsBridgeAt g place s → IsWalk g es a place place s left [] 0
walk_starts g es a place s left all here = subst (λ n. IsWalk g es a place place s n [] 0) (sym all) (record {
  at = here;
  few = omega arith;
  small = omega arith;
  rest = λ x there. ap (way_of g es a) (at_same g place x s there here) ∙ sym (with_nothing (way_of g es a s));
  cost_is = refl;
})

with_one : (s : SystemId) (r : List SystemId) (o : Option (List SystemId)) → option_map (λ q. q ++ r) (option_map (λ p. p ++ s ∷ []) o) ≡ option_map (λ q. q ++ s ∷ r) o
with_one s r None = refl
with_one s r (Some p) = ap Some (append_assoc p (s ∷ []) r)

-- one step of a way
next : (g : Graph) (es : List Entry) (a s y : SystemId) (k : ℕ) → same_system s a ≡ false → entry_for g es s ≡ Before y → IsSome (cost_between g s y) → way_within g es a (suc k) s ≡ option_map (λ p. p ++ s ∷ []) (way_within g es a k y)
next g es a s y k off entry joined = rw (off, entry, joined) refl

turned : (trail : List SystemId) (s : SystemId) → reverse (trail ++ s ∷ []) ≡ s ∷ reverse trail
turned trail s = reverse-append trail (s ∷ [])

module _ (g : Graph) (es : List Entry) (a : SystemId) (place here : ℕ) (s : SystemId) (trail : List SystemId) (cost : ℕ) (valid : IsValid g) where
  goes_on : (k : ℕ) (arc : Arc) (y : SystemId) → IsWalk g es a place here s (suc k) trail cost → same_system s a ≡ false → entry_for g es s ≡ Before y → Leads g arc y s → IsWalk g es a place arc.from y k (trail ++ s ∷ []) (cost + arc.cost)
  goes_on k arc y w off entry lead =
      let own : step g y s ≡ arc.cost = ap (λ o. unwrap_or o 0) lead.cost in
      let high = step_high g y s valid in
      let joined : IsSome (cost_between g s y) = subst (λ (o : Option ℕ). IsSome o) (sym (cost_comm g s y ∙ lead.cost)) refl in
      record {
        at = lead.from;
        few = omega (arith, w.few);
        small = omega (arith, w.small, own, high);
        rest = λ x there. w.rest x there ∙ (ap (option_map (λ q. q ++ reverse trail)) (next g es a s y k off entry joined) ∙ (with_one s (reverse trail) (way_within g es a k y) ∙ ap (λ r. option_map (λ q. q ++ r) (way_within g es a k y)) (sym (turned trail s))));
        cost_is = sum own ∙ sym (ap (cost_along g y) (turned trail s));
      }
    where
      sum : step g y s ≡ arc.cost → cost + arc.cost ≡ step g y s + cost_along g s (reverse trail)
      sum own = omega (arith, own, w.cost_is)

  -- a step back to the neighbour that the entry names
  pub walk_goes_on : (left k : ℕ) (arc : Arc) (t : SystemId) → IsWalk g es a place here s left trail cost → left ≡ suc k → same_system s a ≡ false → IsStepTo g es here (Some arc) → IsBridgeAt g arc.from t → IsWalk g es a place arc.from t k (trail ++ s ∷ []) (cost + arc.cost)
  walk_goes_on left k arc t w more off one there = by (entry_for g es s) refl (one s w.at)
    where
      none_is : {A : Type 0} (x : A) → Some x ≡ None → ⊥
      none_is x h = absurd cc

      by : (e : Entry) → entry_for g es s ≡ e → IsStepBy g here e (Some arc) → IsWalk g es a place arc.from t k (trail ++ s ∷ []) (cost + arc.cost)
      by Start entry h = absurd (none_is arc h)
      by Unreached entry h = absurd (none_is arc h)
      by (Before y) entry h =
          let lead = h s w.at in
          subst (λ z. IsWalk g es a place arc.from z k (trail ++ s ∷ []) (cost + arc.cost)) (at_same g arc.from y t lead.from there)
          (goes_on k arc y (subst (λ n. IsWalk g es a place here s n trail cost) more w) off entry lead)

  -- at the source the walk is the way
  pub walk_arrives : (left : ℕ) (l : Label) → IsWalk g es a place here s left trail cost → same_system s a ≡ true → l.bridges.items ≡ reverse (trail ++ s ∷ []) → l.cost ≡ cost → IsWayTo g es a place (Some l)
  walk_arrives left l w same items cost_is x there = record {
    way_is = ap Some (items ∙ turned trail s) ∙ sym (w.rest x there ∙ ap (option_map (λ q. q ++ reverse trail)) whole);
    cost_is = λ k h. subst (λ (m : Label). m.cost ≡ cost_of g m.bridges.items) (same_label l k h) (cost_is ∙ (w.cost_is ∙ sym (ap (cost_of g) (items ∙ turned trail s))));
  }
    where
      same_label : (m k : Label) → Some m ≡ Some k → m ≡ k
      same_label m k h = cc

      whole : way_within g es a left s ≡ Some (s ∷ [])
      whole = subst (λ z. way_within g es a left z ≡ Some (z ∷ [])) (sym (same_is s a same)) (way_start g es a left)

  no_way : (left : ℕ) → IsWalk g es a place here s left trail cost → way_within g es a left s ≡ None → IsWayTo g es a place None
  no_way left w none x there = record {
    way_is = sym (w.rest x there ∙ ap (option_map (λ q. q ++ reverse trail)) none);
    cost_is = λ l h. absurd (some_is l h);
  }
    where
      some_is : (l : Label) → None ≡ Some l → ⊥
      some_is l h = absurd cc

  -- where an entry stops, or the steps are spent, there is no way
  pub walk_stops : (left k : ℕ) → IsWalk g es a place here s left trail cost → left ≡ suc k → same_system s a ≡ false → IsStepTo g es here None → IsWayTo g es a place None
  walk_stops left k w more off one = no_way left w (ap (λ n. way_within g es a n s) more ∙ by (entry_for g es s) refl (one s w.at))
    where
      by : (e : Entry) → entry_for g es s ≡ e → IsStepBy g here e None → way_within g es a (suc k) s ≡ None
      by Start entry h = rw (off, entry) refl
      by Unreached entry h = rw (off, entry) refl
      by (Before y) entry h = rw (off, entry, h s w.at) refl

  pub walk_is_spent : (left : ℕ) → IsWalk g es a place here s left trail cost → left ≡ 0 → same_system s a ≡ false → IsWayTo g es a place None
  walk_is_spent left w none off = no_way left w (ap (λ n. way_within g es a n s) none ∙ spent)
    where
      spent : way_within g es a zero s ≡ None
      spent = rw off refl

  -- a step back comes to a bridge of the graph
  pub step_within : (left : ℕ) (arc : Arc) → IsWalk g es a place here s left trail cost → IsStepTo g es here (Some arc) → arc.from < length g.bridges
  step_within left arc w one = by (entry_for g es s) (one s w.at)
    where
      none_is : {A : Type 0} (x : A) → Some x ≡ None → ⊥
      none_is x h = absurd cc

      by : (e : Entry) → IsStepBy g here e (Some arc) → arc.from < length g.bridges
      by Start h = absurd (none_is arc h)
      by Unreached h = absurd (none_is arc h)
      by (Before y) h = at_within g arc.from y (h s w.at).from
