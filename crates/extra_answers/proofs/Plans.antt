-- What is found in a list.
use Rattle.std.proofs.Common.{List, [], ◌∷◌, Bool, true, false, Some, IfSome, if◌then◌else◌}
use Rattle.std.specs.List.{AllByRecursion, find}

-- what holds of each element holds of the one that is found
pub found_is : {X : Type 0} (P : X → Type 0) (f : X → Bool) (xs : List X) → AllByRecursion P xs → IfSome (find f xs) P
found_is P f [] all = tt
found_is {X} P f (x ∷ xs) all = by (f x) (found_is P f xs all.1)
  where
    by : (t : Bool) → IfSome (find f xs) P → IfSome (if t then Some x else find f xs) P
    by true later = all.0
    by false later = later
