-- Agreement: in a network that was ready for so many rounds, bridges that links which are up join come to hold the same
-- versions of all LSPs (ISO/IEC 10589, 7.3.15). First what is held of an LSP, wherever it came from, reaches the bridge
-- that originates it; then what that one holds reaches all others.
use Rattle.std.specs.Prelude.{◌≡◌, ℕ, ◌+◌, ◌*◌, ◌≤◌}
use Rattle.spb_types.specs.declared.address.LspId.{LspId}
use Rattle.lsdb.specs.Version.{IsAtMost}
use Rattle.lsdb.specs.Database.{version_at}
use Rattle.bridge_api.specs.View.{BridgeView}
use Rattle.network_model.specs.State.{State}
use Rattle.network_model.specs.Truth.{AreJoined}
use Rattle.network_rounds.specs.Rounds.{AreRounds}
use Rattle.network_rounds.specs.Near.{AreNear}
use Rattle.network_rounds.specs.Steady.{IsReadyFor}

-- a state after k rounds of a network that was ready for m, in which joined bridges are joined by at most d links
pub record IsReached (d m k : ℕ) (s t : State) : Type 0 where
  pub ready : IsReadyFor m k s
  pub near : AreNear d s
  pub rounds : AreRounds k s t
  pub within : k ≤ m

-- from the end of round 4 + d on no bridge that is joined to v is ahead of v in an LSP of v's system
abbrev pub OriginsAreAhead : Type 0
OriginsAreAhead = (d m k : ℕ) (s t : State) (v w : BridgeView) (id : LspId) → IsReached d m k s t → 4 + d ≤ k
    → AreJoined t v w → id.system ≡ v.id.system → IsAtMost (version_at w.database id) (version_at v.database id)

-- from the end of round 4 + 2d on bridges that are joined hold the same versions
abbrev pub BridgesAgree : Type 0
BridgesAgree = (d m k : ℕ) (s t : State) (v w : BridgeView) (id : LspId) → IsReached d m k s t → 4 + 2 * d ≤ k
    → AreJoined t v w → version_at v.database id ≡ version_at w.database id
