-- How far apart bridges are, in links that are up.
use Rattle.std.specs.Prelude.{ℕ, ◌-◌, ◌≤◌, List, length}
use Rattle.network_model.specs.State.{State, links_of}
use Rattle.network_model.specs.Sound.{IsSoundState}
use Rattle.network_model.specs.Truth.{IsWalk}

-- two bridges that links which are up join are joined by at most d of these
abbrev pub AreNear : ℕ → State → Type 0
AreNear d s = (i j : ℕ) (ks : List ℕ) → IsWalk (links_of s) i ks j
    → (js : List ℕ) × IsWalk (links_of s) i js j × (length js ≤ d)

-- no walk has to be longer than the other bridges are many
abbrev pub BridgesAreNear : Type 0
BridgesAreNear = (s : State) → IsSoundState s → AreNear (length s.views - 1) s
