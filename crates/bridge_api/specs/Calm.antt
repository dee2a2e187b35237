-- Seconds in which a bridge and its neighbours only tell each other that they are there.
use Rattle.std.specs.Prelude.{◌≡◌, ℕ, ◌+◌, ◌<◌, true, false, Some}
use Rattle.std.specs.FinMap.{get}
use Rattle.spb_types.specs.declared.address.LspId.{LspId}
use Rattle.lsdb.specs.Calm.{lowered_by}
use Rattle.lsdb.specs.Database.{version_in, version_at, each}
use Rattle.lsdb.specs.Time.{lifetime_in, is_live}
use Rattle.flooding.specs.Own.{own_numbers}
use Rattle.adjacency.specs.declared.port.Adjacency.{Adjacency}
use Rattle.adjacency.specs.declared.state.AdjState.TheVariants.{Up}
use Rattle.bridge_api.specs.View.{BridgeView, adjacency_at, has_flags}
use Rattle.bridge_api.specs.Own.{own_entry}

-- of each live LSP more than so many seconds are left, and 300 more of an own one
pub record HasLifeLeft (m : ℕ) (v : BridgeView) : Type 0 where
  pub held : (id : LspId) → is_live (version_at v.database id) ≡ true → m < lifetime_in (get v.database id)
  pub own : (number : ℕ) → number < own_numbers → is_live (version_in (own_entry v number)) ≡ true
      → m + 300 < lifetime_in (own_entry v number)

-- each port with carrier is Up and keeps its neighbour for three seconds (ISO/IEC 10589, 8.2.5)
abbrev pub KeepsAll : BridgeView → Type 0
KeepsAll v = (p : ℕ) (a : Adjacency) → adjacency_at v p ≡ Some a → a.carrier ≡ true → (a.state ≡ Up) × (a.hold ≡ 3)

-- so many seconds would pass at a bridge in calm, if each neighbour said hello in each of them: it works, its sequence
-- numbers aren't spent, nothing is to be sent, acknowledged or asked for, no neighbour is about to be lost, no LSP runs
-- out, and none is to be originated anew for its age
pub record IsCalmFor (seconds : ℕ) (v : BridgeView) : Type 0 where
  pub works : v.failed ≡ false
  pub fresh : v.spent ≡ false
  pub flags : has_flags v ≡ false
  pub kept : KeepsAll v
  pub life : HasLifeLeft seconds v

-- the bridge after them: lifetimes have fallen, and nothing else has changed
unfoldable pub aged_by : ℕ → BridgeView → BridgeView
aged_by seconds v = record v { database = each (λ id e. lowered_by seconds e) v.database }
