-- When a port stays Up through all frames of a round, and when a bridge has the same to say (RFC 5303, 3.2; ISO/IEC
-- 10589, 7.3.7).
use Rattle.std.specs.Prelude.{◌≡◌, ℕ, List, true, Some, Contains}
use Rattle.isis_pdu.specs.Pdu.{HelloValue}
use Rattle.spb_tlvs.specs.declared.three_way.ThreeWay.{ThreeWay}
use Rattle.adjacency.specs.Hearing.{End, sender, keeps_up}
use Rattle.bridge_api.specs.View.{BridgeView, IsPort, neighbour_at, is_up_at, has_carrier_at}
use Rattle.bridge_api.specs.Parsing.{parsed}
use Rattle.bridge_api.specs.Parsing as parsing
use Rattle.bridge_api.specs.Step.{frames_at}
use Rattle.bridge_api.specs.Laws.{IsSoundView}
use Rattle.bridge_rounds.specs.Inbox.{Inbox, StaysUp, SaysTheSameOn}

-- each hello that comes at a port is one of this end, and keeps it Up
abbrev pub HellosKeep : BridgeView → ℕ → End → Inbox → Type 0
HellosKeep v p n fs = (bytes : List ℕ) (h : HelloValue) (way : ThreeWay) → Contains (frames_at p fs) bytes
    → parsed bytes ≡ parsing.hello h way → (sender h way ≡ n) × (keeps_up v.id.system p h way ≡ true)

-- then a port that is Up with this neighbour stays so
abbrev pub PortStaysUp : Type 0
PortStaysUp = (v : BridgeView) (fs : Inbox) (p : ℕ) (n : End) → IsSoundView v → is_up_at v p ≡ true
    → neighbour_at v p ≡ Some n → HellosKeep v p n fs → StaysUp p n fs v

-- and if each port with carrier stays Up with one neighbour, the bridge has the same to say
abbrev pub BridgeSaysTheSame : Type 0
BridgeSaysTheSame = (v : BridgeView) (fs : Inbox) → IsSoundView v
    → ((p : ℕ) → IsPort v p → has_carrier_at v p ≡ true → (n : End) × StaysUp p n fs v) → SaysTheSameOn fs v
