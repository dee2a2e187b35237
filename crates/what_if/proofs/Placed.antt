-- Entries and labels at the places of bridges.
use Rattle.std.proofs.Common.{◌≡◌, ℕ, zero, suc, ◌+◌, ◌<◌, inl, inr, List, [], ◌∷◌, ◌++◌, length, get_or, Bool, true, false, Option, Some, None, if◌then◌else◌, refl, sym, ap, subst, ◌∙◌, arith}
use Rattle.std.proofs.Math.Seq.{get_or-append_seam}
use Rattle.std.proofs.lemmas.List.{get_or_append_left, length-append, length-map}
use Rattle.std.proofs.lemmas.Option.{none-some, same_Some}
use Rattle.std.specs.List.{slice_get}
use Rattle.spb_types.specs.Address.{same_system}
use Rattle.spb_types.specs.Graph.{IsAmong, IsDistinct, IsValid, systems_of}
use Rattle.spb_types.specs.declared.address.SystemId.{SystemId}
use Rattle.spb_types.specs.declared.graph.GraphBridge.{GraphBridge}
use Rattle.spb_types.specs.declared.graph.Graph.{Graph}
use Rattle.ect_trees.specs.declared.search.Label.{Label}
use Rattle.ect_trees.specs.Arcs.{IsBridgeAt}
use Rattle.ect_trees.specs.Search.{label_at}
use Rattle.ect_trees.proofs.Among.{same_is, same_self}
use Rattle.ect_trees.proofs.Grouped.{same_or_not}
use Rattle.ect_trees.proofs.Places.{at_among}
use Rattle.what_if.specs.declared.entry.Entry.{Entry}
use Rattle.what_if.specs.Following.{entry_among, entry_for}
use Rattle.what_if.specs.Labels.{IsWayTo, AreFirstWays}

entry_among_at : (bs : List GraphBridge) (es : List Entry) (i : ℕ) (x : SystemId) (d : Entry) → IsDistinct (systems_of bs) → length es ≡ length bs → slice_get (systems_of bs) i ≡ Some x → entry_among bs es x ≡ get_or es i d
entry_among_at [] es i x d apart long at = absurd (none-some x at)
entry_among_at (b ∷ bs) [] i x d apart long at = absurd (omega (arith, long))
entry_among_at (b ∷ bs) (e ∷ es) zero x d apart long at = ap (λ t. if t then e else entry_among bs es x) (ap (same_system b.id.system) (sym (same_Some b.id.system x at)) ∙ same_self b.id.system)
entry_among_at (b ∷ bs) (e ∷ es) (suc i) x d apart long at = by (same_system b.id.system x) refl (entry_among_at bs es i x d apart.1 (omega (arith, long)) at)
  where
    by : (t : Bool) → same_system b.id.system x ≡ t → entry_among bs es x ≡ get_or es i d → (if t then e else entry_among bs es x) ≡ get_or es i d
    by true s ih = absurd (apart.0 (subst (λ z. IsAmong z (systems_of bs)) (sym (same_is b.id.system x s)) (at_among (systems_of bs) i x at)))
    by false s ih = ih

-- the entry that is read at the place of x is that of x
pub entry_at : (g : Graph) (es : List Entry) (place : ℕ) (x : SystemId) (d : Entry) → IsValid g → length es ≡ length g.bridges → IsBridgeAt g place x → entry_for g es x ≡ get_or es place d
entry_at g es place x d valid long at = entry_among_at g.bridges es place x d valid.apart long at

-- ---- labels

pub first_ways : (g : Graph) (es : List Entry) (a : SystemId) → AreFirstWays g es a 0 []
first_ways g es a = record { places = refl; each = λ place below. absurd (omega (arith, below)) }

pub more_ways : (g : Graph) (es : List Entry) (a : SystemId) (n : ℕ) (ls ls' : List (Option Label)) (o : Option Label) → AreFirstWays g es a n ls → IsWayTo g es a n o → ls' ≡ ls ++ o ∷ [] → AreFirstWays g es a (n + 1) ls'
more_ways g es a n ls ls' o ways way e = subst (AreFirstWays g es a (n + 1)) (sym e) (record {
  places = length-append ls (o ∷ []) ∙ ap (λ k. k + 1) ways.places;
  each = λ place below. elim (same_or_not place n) [
    | inl here ↦ subst (λ k. IsWayTo g es a k (label_at (ls ++ o ∷ []) k)) (sym here) (subst (IsWayTo g es a n) (sym (seam n (sym ways.places))) way)
    | inr apart ↦
        let less : place < n = omega (arith, below, apart) in
        subst (IsWayTo g es a place) (sym (get_or_append_left ls (o ∷ []) None place (omega (arith, less, ways.places)))) (ways.each place less)
  ];
})
  where
    seam : (k : ℕ) → k ≡ length ls → label_at (ls ++ o ∷ []) k ≡ o
    seam k h = ap (label_at (ls ++ o ∷ [])) h ∙ get_or-append_seam ls o [] None

-- a bridge stands at each place
pub bridge_there : (g : Graph) (place : ℕ) → place < length g.bridges → (x : SystemId) × IsBridgeAt g place x
bridge_there g place below = at_each (systems_of g.bridges) place (omega (arith, below, length-map g.bridges (λ (b : GraphBridge). b.id.system)))
  where
    at_each : (xs : List SystemId) (i : ℕ) → i < length xs → (x : SystemId) × (slice_get xs i ≡ Some x)
    at_each [] i h = absurd (omega (arith, h))
    at_each (x ∷ xs) zero h = (x, refl)
    at_each (x ∷ xs) (suc i) h = at_each xs i (omega (arith, h))
