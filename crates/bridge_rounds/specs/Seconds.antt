-- What one second of a bridge does: to its adjacencies, to what it holds, and how much and what it sends.
use Rattle.std.specs.Prelude.{◌≡◌, ℕ, ◌+◌, ◌/◌, ◌≤◌, ◌<◌, List, length, true, false, Some}
use Rattle.std.specs.Option.{option_map}
use Rattle.std.specs.FinMap.{get, len}
use Rattle.spb_types.specs.declared.address.LspId.{LspId}
use Rattle.isis_pdu.specs.Pdu.{CsnpValue}
use Rattle.lsdb.specs.Calm.{lowered}
use Rattle.lsdb.specs.Database.{version_in, version_at}
use Rattle.lsdb.specs.Time.{lifetime_in, is_live}
use Rattle.flooding.specs.Own.{own_numbers}
use Rattle.adjacency.specs.declared.port.Adjacency.{Adjacency}
use Rattle.adjacency.specs.Adjacency.{is_up, after_second}
use Rattle.bridge_api.specs.View.{BridgeView, adjacency_at, neighbour_at, is_up_at, is_csnp_due_at}
use Rattle.bridge_api.specs.Own.{body_at, own_entry}
use Rattle.bridge_api.specs.Parsing.{parsed, is_carrying}
use Rattle.bridge_api.specs.Parsing as parsing
use Rattle.bridge_api.specs.Ticking.{readied}
use Rattle.bridge_api.specs.Step.{second, step, sent, frames_at}
use Rattle.bridge_api.specs.Laws.{IsSoundView, IsSent}

-- ---- adjacencies

-- at each port the holding count falls, and the neighbour is lost where it was 1 (ISO/IEC 10589, 8.2.5)
abbrev pub SecondsLower : Type 0
SecondsLower = (v : BridgeView) (p : ℕ) → adjacency_at (step second v) p ≡ option_map after_second (adjacency_at v p)

-- ---- what is sent

-- no frame that is sent in a second carries a customer's
abbrev pub SecondsCarryNone : Type 0
SecondsCarryNone = (v : BridgeView) (p : ℕ) (bytes : List ℕ) → IsSent (sent second v) p bytes
    → is_carrying (parsed bytes) ≡ false

-- how many sequence numbers PDUs it takes to tell of so many LSPs, with 90 entries in each
abbrev pub snps_for : ℕ → ℕ
snps_for n = (n + 89) / 90

-- of a bridge that holds so many LSPs, at least 1, a second sends at a port at most a hello, the CSNPs and the PSNPs of
-- so many, and each LSP once
abbrev pub SecondsSendAtPort : Type 0
SecondsSendAtPort = (v : BridgeView) (p most : ℕ) → IsSoundView v → 1 ≤ most → len (step second v).database ≤ most
    → length (frames_at p (sent second v)) ≤ 1 + snps_for most + most + snps_for most

-- a CSNP is sent only where CSNPs were due, and still are when the holding counts fell (ISO/IEC 10589, 7.3.15.3)
abbrev pub SummariesAreDue : Type 0
SummariesAreDue = (v : BridgeView) (p : ℕ) (bytes : List ℕ) (c : CsnpValue) → IsSoundView v
    → IsSent (sent second v) p bytes → parsed bytes ≡ parsing.csnp c
    → (is_csnp_due_at (readied v) p ≡ true) × (is_csnp_due_at v p ≡ true)

-- ---- a second that changes lifetimes alone

-- a second leads to no change: no neighbour at a port that is Up is lost, no LSP runs out, and no own one is to be
-- originated anew for its age
pub record HasTimeLeft (v : BridgeView) : Type 0 where
  pub counts : (p : ℕ) (a : Adjacency) → adjacency_at v p ≡ Some a → is_up a.state ≡ true → 2 ≤ a.hold
  pub lifetimes : (id : LspId) → is_live (version_at v.database id) ≡ true → 2 ≤ lifetime_in (get v.database id)
  pub own : (number : ℕ) → number < own_numbers → is_live (version_in (own_entry v number)) ≡ true
      → 302 ≤ lifetime_in (own_entry v number)

-- so it holds when it sends what it held, with lifetimes one lower; the same ports are Up, with the same neighbours;
-- and it has the same to say in each of its LSPs, whose numbers aren't spent
pub record IsCalmSecond (v : BridgeView) : Type 0 where
  pub held : (id : LspId) → get (readied v).database id ≡ option_map lowered (get v.database id)
  pub up : (p : ℕ) → is_up_at (step second v) p ≡ is_up_at v p
  pub neighbours : (p : ℕ) → is_up_at v p ≡ true → neighbour_at (step second v) p ≡ neighbour_at v p
  pub bodies : (number : ℕ) → body_at (step second v) number ≡ body_at v number
  pub fresh : (step second v).spent ≡ false

abbrev pub SecondsAreCalm : Type 0
SecondsAreCalm = (v : BridgeView) → IsSoundView v → v.spent ≡ false → HasTimeLeft v → IsCalmSecond v
