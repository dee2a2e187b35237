-- Items by their places in a list, and ports by their numbers.
use Rattle.std.proofs.Common.{◌≡◌, ◌≢◌, ◌≤◌, ◌<◌, ◌-◌, ℕ, zero, suc, List, [], ◌∷◌, length, map, refl, ap, Some, arith}
use Rattle.std.specs.Prelude.{slice_get, slice_set}
use Rattle.std.proofs.lemmas.Bool.{le-leb}
use Rattle.bridge_api.specs.View.{BridgeView, port_at}

-- a port of the bridge is found by its number
pub port_found : (v : BridgeView) (p : ℕ) → 1 ≤ p → port_at v p ≡ slice_get v.ports (p - 1)
port_found v p low = rw (le-leb 1 p low) refl

-- a list with an item written at a place, read there and elsewhere
pub got_at : {X : Type 0} (xs : List X) (i : ℕ) (x : X) → i < length xs → slice_get (slice_set xs i x) i ≡ Some x
got_at [] i x within = absurd (omega arith)
got_at (y ∷ ys) zero x within = refl
got_at (y ∷ ys) (suc i) x within = got_at ys i x (omega arith)

pub got_beside : {X : Type 0} (xs : List X) (i j : ℕ) (x : X) → i ≢ j → slice_get (slice_set xs i x) j ≡ slice_get xs j
got_beside [] i j x apart = refl
got_beside (y ∷ ys) zero zero x apart = absurd (apart refl)
got_beside (y ∷ ys) zero (suc j) x apart = refl
got_beside (y ∷ ys) (suc i) zero x apart = refl
got_beside (y ∷ ys) (suc i) (suc j) x apart = got_beside ys i j x (λ e. apart (ap suc e))

-- the item that stands at a place, written there again
pub set_again : {X : Type 0} (xs : List X) (i : ℕ) (x : X) → slice_get xs i ≡ Some x → slice_set xs i x ≡ xs
set_again [] i x found = refl
set_again (y ∷ ys) zero x found = let same : y ≡ x = cc in rw same refl
set_again (y ∷ ys) (suc i) x found = ap (λ zs. y ∷ zs) (set_again ys i x found)

-- a list with one item changed, seen
pub seen_set : {X Y : Type 0} (f : X → Y) (xs : List X) (i : ℕ) (y : X) → map f (slice_set xs i y) ≡ slice_set (map f xs) i (f y)
seen_set f [] i y = refl
seen_set f (x ∷ xs) zero y = refl
seen_set f (x ∷ xs) (suc i) y = ap (λ (ys : List _). f x ∷ ys) (seen_set f xs i y)
