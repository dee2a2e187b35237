-- Trees serve for each plan.
use Rattle.std.proofs.Common.{◌≡◌, ℕ, zero, suc, Bool, List, [], ◌∷◌, map, inl, inr, refl, sym, subst, slice_get, Some}
use Rattle.std.specs.List.{AllByRecursion}
use Rattle.spb_types.specs.Ect.{mask_of}
use Rattle.spb_types.specs.Graph.{IsAmong, IsBridge, systems_of}
use Rattle.spb_types.specs.declared.address.SystemId.{SystemId}
use Rattle.spb_types.specs.declared.graph.Graph.{Graph}
use Rattle.spb_types.specs.declared.service.VidPlan.{VidPlan}
use Rattle.ect_trees.specs.Arcs.{IsBridgeAt}
use Rattle.ect_trees.proofs.Members.{Has, contains_from_has}
use Rattle.fdb_build.specs.Layout.{IsLayoutOf}
use Rattle.fdb_build.specs.Searches.{Serve, CanRead}
use Rattle.fdb_build.specs.Tables.{vid_cmp}
use Rattle.fdb_build.specs.declared.layout.Layout.{Layout}
use Rattle.fdb_build.specs.declared.layout.Planned.{Planned}
use Rattle.fdb_build.proofs.RowLemmas.{All-ascending_by}

among_at : (ys : List SystemId) (i : ℕ) (x : SystemId) → slice_get ys i ≡ Some x → IsAmong x ys
among_at [] zero x h = absurd (cc)
among_at [] (suc i) x h = absurd (cc)
among_at (y ∷ ys) zero x h = inl (let same : x ≡ y = cc in same)
among_at (y ∷ ys) (suc i) x h = inr (among_at ys i x h)

-- what stands at a place is a bridge
pub bridge_at : (g : Graph) (x : SystemId) (place : ℕ) → IsBridgeAt g place x → IsBridge g x
bridge_at g x place h = among_at (systems_of g.bridges) place x h

all_of : {X : Type 0} (P : X → Type 0) (xs : List X) → ((x : X) → Has x xs → P x) → AllByRecursion P xs
all_of P [] h = tt
all_of P (x ∷ xs) h = (h x (inl refl), all_of P xs (λ y k. h y (inr k)))

all_plans : (P : VidPlan → Type 0) (ps : List Planned) → AllByRecursion P (map (λ (p : Planned). p.plan) ps) → AllByRecursion (λ (p : Planned). P p.plan) ps
all_plans P [] h = tt
all_plans P (p ∷ ps) h = (h.0, all_plans P ps h.1)

-- what holds of each plan holds of each in a layout
pub in_layout : (P : VidPlan → Type 0) (g : Graph) (vids : List VidPlan) (l : Layout) → IsLayoutOf g vids l → AllByRecursion P vids → AllByRecursion (λ (p : Planned). P p.plan) l.plans.items
in_layout P g vids l is h =
    all_plans P l.plans.items (subst (AllByRecursion P) (sym is.order) (All-ascending_by P vid_cmp vids h))

-- trees that serve can be read under the mask of each plan of a layout
pub can_follow : (h : Graph) (has : SystemId → ℕ → Bool) (g : Graph) (vids : List VidPlan) (l : Layout) → Serve h has g vids → IsLayoutOf g vids l
    → AllByRecursion (λ (p : Planned). CanRead h has g (mask_of p.plan.ect)) l.plans.items
can_follow h has g vids l s is =
    in_layout (λ q. CanRead h has g (mask_of q.ect)) g vids l is
    (all_of (λ q. CanRead h has g (mask_of q.ect)) vids (λ q k. record {
      valid = s.valid;
      alike = s.alike;
      there = λ x b. s.there x q b (contains_from_has vids q k);
    }))
