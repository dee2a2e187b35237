-- How long a neighbour is kept from which nothing more is heard: as long as its holding count says.
use Rattle.std.specs.Prelude.{◌≡◌, ℕ, zero, suc, ◌+◌, ◌≤◌, Some, None}
use Rattle.adjacency.specs.declared.port.Adjacency.{Adjacency}
use Rattle.adjacency.specs.Hearing.{End}
use Rattle.adjacency.specs.Adjacency.{down, neighbour_of, after_second}

-- the adjacency so many seconds later, where no hello comes and carrier stays as it is
unfoldable pub after_seconds : ℕ → Adjacency → Adjacency
after_seconds zero a = a
after_seconds (suc n) a = after_second (after_seconds n a)

-- the neighbour is kept, in the state that it is in, while some of the count is left
abbrev pub KeptWhileCounting : Type 0
KeptWhileCounting = (a : Adjacency) (n : End) (k left : ℕ)
    → neighbour_of a ≡ Some n → a.hold ≡ left + k → 1 ≤ left → after_seconds k a ≡ record a { hold = left }

-- and none is kept from then on: the state is Down
abbrev pub LostAfterCount : Type 0
LostAfterCount = (a : Adjacency) (n : End) (more : ℕ)
    → neighbour_of a ≡ Some n → 1 ≤ a.hold → after_seconds (more + a.hold) a ≡ down a.carrier

-- where none is kept, none comes
abbrev pub NobodyComes : Type 0
NobodyComes = (a : Adjacency) (n : ℕ) → neighbour_of a ≡ None → after_seconds n a ≡ a
