-- What holds of a bridge at each moment of a round: it is sound, the same bridge, and has room for every id.
use Rattle.std.specs.Prelude.{◌≡◌, ℕ, ◌≤◌, List, [], ◌∷◌, length, true}
use Rattle.spb_types.specs.declared.address.LspId.{LspId}
use Rattle.flooding.specs.Room.{has_room}
use Rattle.bridge_api.specs.View.{BridgeView, IsPort, has_carrier_at, metrics_of}
use Rattle.bridge_api.specs.Step.{frame, step}
use Rattle.bridge_api.specs.Laws.{IsSoundView}
use Rattle.bridge_rounds.specs.Inbox.{Inbox, heard_all, IsMail, HoldsWithin}

-- something holds of a bridge before the frames, and after each of them
abbrev pub HoldsOn : (BridgeView → Type 0) → Inbox → BridgeView → Type 0
HoldsOn P [] v = P v
HoldsOn P (f ∷ fs) v = P v × HoldsOn P fs (step (frame f.0 f.1) v)

-- a sound bridge is sound throughout
abbrev pub MailIsSound : Type 0
MailIsSound = (v : BridgeView) (fs : Inbox) → IsSoundView v → HoldsOn IsSoundView fs v × IsSoundView (heard_all fs v)

-- two states of one bridge, with the same ids, VIDs, ports, metrics, carrier and attached customer ports
pub record IsSameBridgeAs (v w : BridgeView) : Type 0 where
  pub id : w.id ≡ v.id
  pub source : w.source ≡ v.source
  pub vids : w.vids ≡ v.vids
  pub attached : w.attached ≡ v.attached
  pub ports : length w.ports ≡ length v.ports
  pub metrics : metrics_of w.ports ≡ metrics_of v.ports
  pub carrier : (p : ℕ) → IsPort v p → has_carrier_at w p ≡ has_carrier_at v p
  pub failed : w.failed ≡ v.failed

abbrev pub MailKeepsBridge : Type 0
MailKeepsBridge = (v : BridgeView) (fs : Inbox) → IsSameBridgeAs v (heard_all fs v)

-- a bridge that holds LSPs of some ids alone, and hears of these alone, holds them alone throughout
abbrev pub MailHoldsWithin : Type 0
MailHoldsWithin = (ids : List LspId) (v : BridgeView) (fs : Inbox) → IsSoundView v → IsMail ids v fs → HoldsWithin ids v
    → HoldsOn (HoldsWithin ids) fs v × HoldsWithin ids (heard_all fs v)

-- every id has room
abbrev pub HasRoom : BridgeView → Type 0
HasRoom v = (id : LspId) → has_room v.id.system v.database id ≡ true

-- and where these are at most 900 ids, every id has room throughout, so that nothing that comes finds the database full
abbrev pub MailFits : Type 0
MailFits = (ids : List LspId) (v : BridgeView) (fs : Inbox) → IsSoundView v → IsMail ids v fs → HoldsWithin ids v
    → length ids ≤ 900 → HoldsOn HasRoom fs v × HasRoom (heard_all fs v)
