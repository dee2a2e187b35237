-- A list seen item by item, of which one item changes.
use Rattle.std.proofs.Common.{◌≡◌, ◌<◌, ℕ, zero, suc, List, [], ◌∷◌, length, map, sym, ap, ◌∙◌, Some, arith}
use Rattle.std.specs.Prelude.{slice_get, slice_set, slice_index_or}
use Rattle.bridge_api.specs.View.{BridgeView}
use Rattle.bridge_api.specs.Step.{Input, step, sent}
use Rattle.bridge_api.specs.Among.{with_step, stepped_at, sent_of, sent_from_place}
use Rattle.bridge_api.proofs.Places.{seen_set}

-- the item that stands at a place, seen
pub seen_at : {X Y : Type 0} (f : X → Y) (xs : List X) (i : ℕ) (x : X) → i < length xs → x ≡ slice_index_or xs i x → slice_get (map f xs) i ≡ Some (f x)
seen_at f [] i x within is = absurd (omega arith)
seen_at f (y ∷ xs) zero x within is = ap (λ (z : _). Some (f z)) (sym is)
seen_at f (y ∷ xs) (suc i) x within is = seen_at f xs i x (omega arith) is

-- one bridge of several made a step
pub stepped_one : {X : Type 0} (f : X → BridgeView) (xs : List X) (i : ℕ) (x y : X) (input : Input) → i < length xs → x ≡ slice_index_or xs i x → f y ≡ step input (f x) → map f (slice_set xs i y) ≡ stepped_at input i (map f xs)
stepped_one f xs i x y input within is made =
    seen_set f xs i y ∙ (ap (λ (v : BridgeView). slice_set (map f xs) i v) made ∙ sym (ap (λ (o : _). with_step input i o (map f xs)) (seen_at f xs i x within is)))

pub sent_one : {X : Type 0} (f : X → BridgeView) (xs : List X) (i : ℕ) (x : X) (input : Input) → i < length xs → x ≡ slice_index_or xs i x → sent_from_place input i (map f xs) ≡ sent input (f x)
sent_one f xs i x input within is = ap (sent_of input) (seen_at f xs i x within is)
