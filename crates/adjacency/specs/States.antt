-- The states of a three-way adjacency (RFC 5303, 3).
use Rattle.std.specs.Prelude.{ℕ, ◌==◌, if◌then◌else◌}
use Rattle.adjacency.specs.declared.state.AdjState.{AdjState}
use Rattle.adjacency.specs.declared.state.AdjState.TheVariants.{Down, Initializing, Up}

-- the number of a state in a three-way adjacency TLV, and the state of a number of 0 to 2 (RFC 5303, 3)
abbrev pub state_number : AdjState → ℕ
state_number Up = 0
state_number Initializing = 1
state_number Down = 2

abbrev pub state_numbered : ℕ → AdjState
state_numbered n = if n == 0 then Up else (if n == 1 then Initializing else Down)

-- the state after a hello: the own state, and the state that the hello says (RFC 5303, 3.2, table)
abbrev pub next_state : AdjState → AdjState → AdjState
next_state Down Down = Initializing
next_state Down Initializing = Up
next_state Down Up = Down
next_state Initializing Down = Initializing
next_state Initializing Initializing = Up
next_state Initializing Up = Up
next_state Up Down = Initializing
next_state Up Initializing = Up
next_state Up Up = Up
