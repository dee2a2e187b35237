-- What was found last at each place.
use Rattle.std.specs.Prelude.{ℕ, zero, suc, ◌≡◌, ◌<◌, ◌≤◌, ◌==◌, ◌⊎◌, Bool, true, false, ◌&&◌, List, length, map, replicate, Option, Some, None, Result, Ok, Err, OnOk, if◌then◌else◌}
use Rattle.std.proofs.Common.{refl, sym, ap, ◌∙◌, subst, get_or, inl, inr, eqb-true}
use Rattle.std.proofs.Math.ListN.{set}
use Rattle.std.proofs.lemmas.Bool.{and_parts, cases_eq, cases_lt}
use Rattle.std.proofs.lemmas.List.{get_or-set_same, get_or-set_other, set_past}
use Rattle.std.proofs.lemmas.Option.{same_Some, none-some}
use Rattle.spb_types.specs.Ect.{mask_of}
use Rattle.spb_types.specs.declared.address.SystemId.{SystemId}
use Rattle.spb_types.specs.declared.graph.Graph.{Graph}
use Rattle.spb_types.specs.declared.ports.PortSet.{PortSet}
use Rattle.spb_types.specs.declared.service.VidPlan.{VidPlan}
use Rattle.fdb_build.specs.Groups.{port_after}
use Rattle.fdb_build.specs.Making.{port_set, set_at, sets_from, source_at, IsFound, AreFound, found_for}
use Rattle.fdb_build.specs.declared.sets.Found.{Found}

-- the set at a place on the ways from the bridge at another
abbrev set_from : Graph → SystemId → VidPlan → ℕ → ℕ → PortSet
set_from g me plan source place = set_at (sets_from g me plan (source_at g source).id.system) place

-- at first nothing is found
none_at : (n place : ℕ) → get_or {A = Option Found} (replicate n None) place None ≡ None
none_at zero place = refl
none_at (suc n) zero = refl
none_at (suc n) (suc place) = none_at n place

pub found_none : (g : Graph) (me : SystemId) (n : ℕ) (found : List (Option Found)) → found ≡ replicate n None → AreFound g me found
found_none g me n found e place = subst (IsFound g me place) (sym (ap (λ l. get_or l place None) e ∙ none_at n place)) tt

-- what is read for a source under a plan is its set
pub found_is : (g : Graph) (me : SystemId) (plan : VidPlan) (source place : ℕ) (last : Option Found) (ports : PortSet) → IsFound g me place last → found_for plan source last ≡ Some ports → ports ≡ set_from g me plan source place
found_is g me plan source place None ports h e = absurd (none-some ports e)
found_is g me plan source place (Some f) ports h e = by (f.source == source && f.ect == plan.ect) refl
  where
    by : (b : Bool) → (f.source == source && f.ect == plan.ect) ≡ b → ports ≡ set_from g me plan source place
    by false k = absurd (none-some ports (sym (ap (λ b. if b then Some f.ports else None) k) ∙ e))
    by true k =
        let tests = and_parts (f.source == source) (f.ect == plan.ect) k in
        let same : f.ports ≡ ports = same_Some f.ports ports (sym (ap (λ b. if b then Some f.ports else None) k) ∙ e) in
        sym same ∙ (h plan (eqb-true f.ect plan.ect tests.1) ∙ ap (λ s. set_from g me plan s place) (eqb-true f.source source tests.0))

-- one set more
pub found_put : (g : Graph) (me : SystemId) (plan : VidPlan) (old new : List (Option Found)) (place : ℕ) (f : Found) → new ≡ set old place (Some f) → f.ect ≡ plan.ect → f.ports ≡ set_from g me plan f.source place → AreFound g me old → AreFound g me new
found_put g me plan old new place f e ect ports before other = subst (λ l. IsFound g me other (get_or l other None)) (sym e) (by (cases_eq other place))
  where
    is : IsFound g me place (Some f)
    is also same = ports ∙ ap (λ n. set_at (map (λ b. port_set (port_after g (mask_of n) (source_at g f.source).id.system b.id.system me)) g.bridges) place) (sym ect ∙ same)

    by : (other ≡ place) ⊎ (other ≡ place → ⊥) → IsFound g me other (get_or (set old place (Some f)) other None)
    by (inr apart) = subst (IsFound g me other) (sym (get_or-set_other old place other (Some f) None apart)) (before other)
    by (inl same) = subst (λ p. IsFound g me p (get_or (set old place (Some f)) p None)) (sym same) (here (cases_lt place (length old)))
      where
        here : (place < length old) ⊎ (length old ≤ place) → IsFound g me place (get_or (set old place (Some f)) place None)
        here (inl low) = subst (IsFound g me place) (sym (get_or-set_same old place (Some f) None low)) is
        here (inr high) = subst (λ l. IsFound g me place (get_or l place None)) (sym (set_past old place (Some f) high)) (before place)

-- what is found stays, whatever comes after
pub found_still : {T E : Type 0} (g : Graph) (me : SystemId) (found : List (Option Found)) (r : Result T E) → AreFound g me found → OnOk r (AreFound g me found)
found_still g me found (Ok x) h = h
found_still g me found (Err e) h = tt
