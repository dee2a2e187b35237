-- The item at a place of a list: read, lent and written.
use Rattle.std.proofs.Common.{MutBor, ◌≡◌, ℕ, zero, suc, ◌<◌, ◌≤◌, List, [], ◌∷◌, length, Option, Some, None, slice_get, refl, sym, subst, ap, ◌∙◌, arith}
use Rattle.std.specs.List.{slice_index_or, slice_set, IsItemAtMut}
use Rattle.spb_types.specs.Places.{changed_at}

some-is : {X : Type 0} (x y : X) → Some x ≡ Some y → x ≡ y
some-is x y h = cc

-- a write of the item at a place
pub set-is : {X : Type 0} (f : X → X) (xs : List X) (i : ℕ) (x y : X) → slice_get xs i ≡ Some x → y ≡ f x → slice_set xs i y ≡ changed_at f xs i
set-is f [] i x y h g = cc
set-is f (z ∷ zs) zero x y h g = ap (λ w. w ∷ zs) (g ∙ ap f (sym (some-is z x h)))
set-is f (z ∷ zs) (suc i) x y h g = ap (λ ws. z ∷ ws) (set-is f zs i x y h g)

-- nothing changes past the last item
pub none-is : {X : Type 0} (f : X → X) (xs : List X) (i : ℕ) → slice_get xs i ≡ None → xs ≡ changed_at f xs i
none-is f [] i h = refl
none-is f (z ∷ zs) zero h = cc
none-is f (z ∷ zs) (suc i) h = ap (λ ws. z ∷ ws) (none-is f zs i h)

pub get-some : {X : Type 0} (xs : List X) (i : ℕ) (x : X) → i < length xs → x ≡ slice_index_or xs i x → slice_get xs i ≡ Some x
get-some [] i x h e = absurd (omega arith)
get-some (z ∷ zs) zero x h e = ap Some (sym e)
get-some (z ∷ zs) (suc i) x h e = get-some zs i x (omega arith) e

pub get-none : {X : Type 0} (xs : List X) (i : ℕ) → length xs ≤ i → slice_get xs i ≡ None
get-none [] i h = refl
get-none (z ∷ zs) zero h = absurd (omega arith)
get-none (z ∷ zs) (suc i) h = get-none zs i (omega arith)

-- the item that a list lends at a place
pub lent : {X : Type 0} (xs : List X) (i : ℕ) (r : Option (MutBor X)) (x : MutBor X) → IsItemAtMut xs i r → r ≡ Some x → slice_get xs i ≡ Some x.now
lent xs i (Some y) x h e = subst (λ z. slice_get xs i ≡ Some z.now) (some-is y x e) (get-some xs i y.now h.3.0 h.1)
lent xs i None x h e = cc

pub lent-none : {X : Type 0} (xs : List X) (i : ℕ) (r : Option (MutBor X)) → IsItemAtMut xs i r → r ≡ None → slice_get xs i ≡ None
lent-none xs i (Some y) h e = cc
lent-none xs i None h e = get-none xs i h.3
