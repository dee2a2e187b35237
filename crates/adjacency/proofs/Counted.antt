-- A second that only lowers the holding count.
use Rattle.std.proofs.Common.{◌≡◌, ℕ, Bool, true, false, refl}
use Rattle.std.specs.Prelude.{◌&&◌, not, if◌then◌else◌}
use Rattle.adjacency.specs.declared.state.AdjacencyChange.TheVariants as did
use Rattle.adjacency.specs.declared.port.Adjacency.{Adjacency}
use Rattle.adjacency.specs.Hearing.{same_end}
use Rattle.adjacency.specs.Adjacency.{is_up, change_of}
use Rattle.adjacency.proofs.Refreshing.{same_end_refl}

by_state : (up same : Bool) → same ≡ true → (if up && not (up && same) then did.CameUp else (if up && not up then did.LeftUp else did.Kept)) ≡ did.Kept
by_state true true e = refl
by_state true false e = absurd cc
by_state false same e = refl

pub counted : (a : Adjacency) (hold : ℕ) → change_of a (record a { hold = hold }) ≡ did.Kept
counted a hold = by_state (is_up a.state) (same_end (a.neighbour, a.circuit) (a.neighbour, a.circuit)) (same_end_refl (a.neighbour, a.circuit))
