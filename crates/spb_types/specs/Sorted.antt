-- Lists put in order by a comparison. Items that compare equal stay.
use Rattle.std.specs.Prelude.{◌≡◌, List, [], ◌∷◌, if◌then◌else◌, ⊤}
use Rattle.std.specs.List.{AllByRecursion}
use Rattle.std.specs.Ordering.{is_gt}
use Rattle.std.specs.declared.cmp.Ordering.{Ordering}

-- an item put at its place in an ascending list
abbrev pub inserted : {A : Type 0} → (A → A → Ordering) → A → List A → List A
inserted cmp x [] = x ∷ []
inserted cmp x (y ∷ ys) = if is_gt (cmp x y) then y ∷ inserted cmp x ys else x ∷ y ∷ ys

-- the list in ascending order
abbrev pub ascending_by : {A : Type 0} → (A → A → Ordering) → List A → List A
ascending_by cmp [] = []
ascending_by cmp (x ∷ xs) = inserted cmp x (ascending_by cmp xs)

-- each item is below every later one
abbrev pub AscendsBy : {A : Type 0} → (A → A → Ordering) → List A → Type 0
AscendsBy cmp [] = ⊤
AscendsBy cmp (x ∷ xs) = AllByRecursion (λ y. cmp x y ≡ Ordering.Less) xs × AscendsBy cmp xs
