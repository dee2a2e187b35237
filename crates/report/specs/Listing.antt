-- How the list of ports is written one after another.
use Rattle.std.specs.Prelude.{ℕ, List, [], ◌∷◌, ◌++◌, decimal}
use Rattle.std.specs.List.{flat_map}

-- the bytes that stand before a number
abbrev pub space : ℕ
space = 32

abbrev pub comma : ℕ
comma = 44

-- numbers with a space before the first and a comma before each other
abbrev pub separated : List ℕ → List ℕ
separated [] = []
separated (n ∷ ns) = space ∷ decimal n ++ flat_map (λ m. comma ∷ decimal m) ns

-- what stands before a number that follows these: a space where it is the first, and else a comma
abbrev pub separator_after : List ℕ → ℕ
separator_after [] = space
separator_after (n ∷ ns) = comma
