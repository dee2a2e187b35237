-- One item of a list is changed.
use Rattle.std.proofs.Common.{Bor, Result, Ok, Err, OnOk, OnErr, ◌++◌, ◌≡◌, ℕ, zero, suc, ◌<◌, List, [], ◌∷◌, map, length, Option, Some, None, slice_get, refl, sym, subst, ap, ◌∙◌}
use Rattle.std.specs.List.{AllByRecursion, slice_index_or, slice_set, ItemBy}
use Rattle.std.specs.Option.{option_map_or}
use Rattle.bridge_api.specs.declared.outbox.Outbox.{Outbox}
use Rattle.bridge_api.specs.Step.{with_wire}
use Rattle.spb_types.specs.Places.{changed_at}
use Rattle.spb_types.proofs.Places.{get-some, get-none}

some-is : {X : Type 0} (x y : X) → Some x ≡ Some y → x ≡ y
some-is x y h = cc

-- a write of the item at a place, seen through `v`
pub map-set : {B V : Type 0} (v : B → V) (f : V → V) (bs : List B) (i : ℕ) (x y : B) → slice_get bs i ≡ Some x → v y ≡ f (v x) → map v (slice_set bs i y) ≡ changed_at f (map v bs) i
map-set v f [] i x y h g = cc
map-set v f (b ∷ bs) zero x y h g = ap (λ w. w ∷ map v bs) (g ∙ ap (λ c. f (v c)) (sym (some-is b x h)))
map-set v f (b ∷ bs) (suc i) x y h g = ap (λ ws. v b ∷ ws) (map-set v f bs i x y h g)

-- a write that isn't seen
pub map-still : {B V : Type 0} (v : B → V) (bs : List B) (i : ℕ) (x y : B) → slice_get bs i ≡ Some x → v y ≡ v x → map v (slice_set bs i y) ≡ map v bs
map-still v [] i x y h g = cc
map-still v (b ∷ bs) zero x y h g = ap (λ w. w ∷ map v bs) (g ∙ ap v (sym (some-is b x h)))
map-still v (b ∷ bs) (suc i) x y h g = ap (λ ws. v b ∷ ws) (map-still v bs i x y h g)

-- nothing changes past the last item
pub changed-none : {B V : Type 0} (v : B → V) (f : V → V) (bs : List B) (i : ℕ) → slice_get bs i ≡ None → map v bs ≡ changed_at f (map v bs) i
changed-none v f [] i h = refl
changed-none v f (b ∷ bs) zero h = cc
changed-none v f (b ∷ bs) (suc i) h = ap (λ ws. v b ∷ ws) (changed-none v f bs i h)

pub get-map : {B V : Type 0} (v : B → V) (bs : List B) (i : ℕ) (x : B) → slice_get bs i ≡ Some x → slice_get (map v bs) i ≡ Some (v x)
get-map v [] i x h = cc
get-map v (b ∷ bs) zero x h = ap (λ c. Some (v c)) (some-is b x h)
get-map v (b ∷ bs) (suc i) x h = get-map v bs i x h

pub get-map-none : {B V : Type 0} (v : B → V) (bs : List B) (i : ℕ) → slice_get bs i ≡ None → slice_get (map v bs) i ≡ None
get-map-none v [] i h = refl
get-map-none v (b ∷ bs) zero h = cc
get-map-none v (b ∷ bs) (suc i) h = get-map-none v bs i h

pub All-get : {B : Type 0} (P : B → Type 0) (bs : List B) (i : ℕ) (x : B) → AllByRecursion P bs → slice_get bs i ≡ Some x → P x
All-get P [] i x a h = cc
All-get P (b ∷ bs) zero x a h = subst P (some-is b x h) a.0
All-get P (b ∷ bs) (suc i) x a h = All-get P bs i x a.1 h

pub All-set : {B : Type 0} (P : B → Type 0) (bs : List B) (i : ℕ) (y : B) → AllByRecursion P bs → P y → AllByRecursion P (slice_set bs i y)
All-set P [] i y a p = a
All-set P (b ∷ bs) zero y a p = (p, a.1)
All-set P (b ∷ bs) (suc i) y a p = (a.0, All-set P bs i y a.1 p)

-- what holds where a call answered Ok
pub on_ok : {T E : Type 0} {P Q : Type 0} (r : Result T E) → (P → Q) → OnOk r P → OnOk r Q
on_ok (Ok x) f p = f p
on_ok (Err e) f p = p

-- and what holds where it answered Err
pub on_err : {T E : Type 0} {P Q : Type 0} (r : Result T E) → (P → Q) → OnErr r P → OnErr r Q
on_err (Ok x) f p = p
on_err (Err e) f p = f p

-- and what holds whatever it answered
pub err_any : {T E : Type 0} {P : Type 0} (r : Result T E) → P → OnErr r P
err_any (Ok x) p = tt
err_any (Err e) p = p

-- and what holds where two things hold of it
pub both : {T E : Type 0} {P Q R : Type 0} (r : Result T E) → (P → Q → R) → OnOk r P → OnOk r Q → OnOk r R
both (Ok x) f p q = f p q
both (Err e) f p q = p

pub append-none : {X : Type 0} (xs : List X) → xs ++ [] ≡ xs
append-none [] = refl
append-none (x ∷ xs) = ap (λ l. x ∷ l) (append-none xs)

-- nothing more in an outbox
pub with_wire-none : (outbox : Outbox) → outbox ≡ with_wire [] outbox
with_wire-none outbox = ap (λ w. record outbox { wire = w }) (sym (append-none outbox.wire))

-- the item of a list that is read at a place
pub seen : {X : Type 0} (xs : List X) (i : ℕ) (r : Option (Bor X)) (x : Bor X) → ItemBy (λ (y : Bor X). y.now) xs i i r → r ≡ Some x → slice_get xs i ≡ Some x.now
seen xs i (Some y) x h e = subst (λ z. slice_get xs i ≡ Some z.now) (some-is y x e) (get-some xs i y.now h.3.0 h.1)
seen xs i None x h e = cc

pub seen-none : {X : Type 0} (xs : List X) (i : ℕ) (r : Option (Bor X)) → ItemBy (λ (y : Bor X). y.now) xs i i r → r ≡ None → slice_get xs i ≡ None
seen-none xs i (Some y) h e = cc
seen-none xs i None h e = get-none xs i h.3

-- an item that stands within
pub got : {X : Type 0} (xs : List X) (i : ℕ) (x : X) → i < length xs → x ≡ slice_index_or xs i x → slice_get xs i ≡ Some x
got xs i x h e = get-some xs i x h e

-- what one box gives more, by its place in the list, and past the last one nothing
pub none_more : {V X : Type 0} (f : V → List X) (xs : List X) (vs : List V) (i : ℕ) → slice_get vs i ≡ None → xs ≡ xs ++ option_map_or f (slice_get vs i) []
none_more f xs vs i h = sym (append-none xs) ∙ ap (λ o. xs ++ option_map_or f o []) (sym h)

pub some_more : {V X : Type 0} (f : V → List X) (xs ys : List X) (vs : List V) (i : ℕ) (v : V) → slice_get vs i ≡ Some v → ys ≡ xs ++ f v → ys ≡ xs ++ option_map_or f (slice_get vs i) []
some_more f xs ys vs i v h e = e ∙ ap (λ o. xs ++ option_map_or f o []) (sym h)
