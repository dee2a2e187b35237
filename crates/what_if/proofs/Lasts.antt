-- Reading entries off a list of bridges.
use Rattle.std.proofs.Common.{◌≡◌, ℕ, zero, suc, ◌+◌, ◌-◌, ◌<◌, ◌≤◌, List, [], ◌∷◌, ◌++◌, length, map, take, get_or, Some, None, option_map, refl, sym, ap, ◌∙◌, arith}
use Rattle.std.proofs.lemmas.Option.{none-some, same_Some, slice_get-map, slice_get-get_or}
use Rattle.std.specs.List.{slice_get}
use Rattle.spb_types.specs.Graph.{systems_of}
use Rattle.spb_types.specs.declared.address.SystemId.{SystemId}
use Rattle.spb_types.specs.declared.graph.GraphBridge.{GraphBridge}
use Rattle.ect_trees.proofs.Places.{no_bridge}
use Rattle.what_if.specs.declared.entry.Entry.{Entry}
use Rattle.what_if.specs.Entries.{before_last}

pub short_has_none : (xs : List SystemId) → length xs < 2 → before_last xs ≡ None
short_has_none [] h = refl
short_has_none (x ∷ []) h = refl
short_has_none (x ∷ y ∷ xs) h = absurd (omega (arith, h))

pub long_has_one : (xs : List SystemId) (d : SystemId) → 2 ≤ length xs → before_last xs ≡ Some (get_or xs (length xs - 2) d)
long_has_one [] d h = absurd (omega (arith, h))
long_has_one (x ∷ []) d h = absurd (omega (arith, h))
long_has_one (x ∷ y ∷ []) d h = refl
long_has_one (x ∷ y ∷ z ∷ zs) d h =
    let one : suc (length (y ∷ z ∷ zs) - 2) ≡ length (x ∷ y ∷ z ∷ zs) - 2 = omega arith in
    long_has_one (y ∷ z ∷ zs) d (omega arith) ∙ ap (λ n. Some (get_or (x ∷ y ∷ z ∷ zs) n d)) one

-- the system that is read at a place
pub read_system : (bs : List GraphBridge) (k : ℕ) → k < length bs → slice_get (systems_of bs) k ≡ Some (get_or bs k no_bridge).id.system
read_system bs k within = slice_get-map (λ (b : GraphBridge). b.id.system) bs k ∙ ap (option_map (λ (b : GraphBridge). b.id.system)) (slice_get-get_or bs k no_bridge within)

take_more : (f : SystemId → Entry) (xs : List SystemId) (k : ℕ) (x : SystemId) → slice_get xs k ≡ Some x → map f (take (suc k) xs) ≡ map f (take k xs) ++ f x ∷ []
take_more f [] k x h = absurd (none-some x h)
take_more f (y ∷ ys) zero x h = ap (λ t. f t ∷ []) (same_Some y x h)
take_more f (y ∷ ys) (suc k) x h = ap (λ t. f y ∷ t) (take_more f ys k x h)

-- one entry more
pub more_entries : (f : SystemId → Entry) (xs : List SystemId) (k : ℕ) (x : SystemId) (es es' : List Entry) (e : Entry) → es ≡ map f (take k xs) → slice_get xs k ≡ Some x → e ≡ f x → es' ≡ es ++ e ∷ [] → es' ≡ map f (take (k + 1) xs)
more_entries f xs k x es es' e so at own new =
    let one : suc k ≡ k + 1 = omega arith in
    new ∙ (ap (λ t. t ++ e ∷ []) so ∙ (ap (λ t. map f (take k xs) ++ t ∷ []) own ∙ (sym (take_more f xs k x at) ∙ ap (λ n. map f (take n xs)) one)))
