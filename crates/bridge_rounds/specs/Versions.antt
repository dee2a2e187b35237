-- What versions a bridge holds after all frames of a round, and how far the neighbour at a port may be behind
-- (ISO/IEC 10589, 7.3.15 and 7.3.16).
use Rattle.std.specs.Prelude.{◌≡◌, ◌≢◌, ◌⊎◌, ℕ, ◌≤◌, List, length, true, false, Option, Contains}
use Rattle.std.specs.FinMap.{get}
use Rattle.spb_types.specs.declared.address.LspId.{LspId}
use Rattle.spb_types.specs.Ports.{has}
use Rattle.isis_pdu.specs.Pdu.{LspValue}
use Rattle.lsdb.specs.declared.version.Version.{Version}
use Rattle.lsdb.specs.declared.version.Version.TheVariants.{Absent}
use Rattle.lsdb.specs.Version.{IsAtMost}
use Rattle.lsdb.specs.Entry.{Entry}
use Rattle.lsdb.specs.Database.{version_in, srm_in, version_at}
use Rattle.lsdb.specs.Certificate.{Claim, IsClaimed}
use Rattle.lsdb.specs.Laws.{AreTwoLives}
use Rattle.flooding.specs.Hearing.{claim_of}
use Rattle.adjacency.specs.Hearing.{End}
use Rattle.bridge_api.specs.View.{BridgeView, is_up_at}
use Rattle.bridge_api.specs.Parsing.{parsed}
use Rattle.bridge_api.specs.Parsing as parsing
use Rattle.bridge_api.specs.Step.{frames_at}
use Rattle.bridge_api.specs.Laws.{IsSoundView}
use Rattle.bridge_rounds.specs.Inbox.{Inbox, heard_all, after_round, claims_at, StaysUp, SaysTheSameOn}
use Rattle.bridge_rounds.specs.Inbox.{IsMail, HoldsWithin}

-- no version falls
abbrev pub MailRises : Type 0
MailRises = (v : BridgeView) (fs : Inbox) (id : LspId) → IsSoundView v
    → IsAtMost (version_at v.database id) (version_at (heard_all fs v).database id)

-- a version is claimed of an id in the frames, at some port
abbrev pub IsClaimedIn : Inbox → LspId → Version → Type 0
IsClaimedIn fs id a = (p : ℕ) × IsClaimed (claims_at p fs) id a

-- where all that is claimed of an id is at most what is held, its version stands, also under an own id, if what the
-- bridge has to say stays the same
abbrev pub AtMostStands : Type 0
AtMostStands = (v : BridgeView) (fs : Inbox) (id : LspId) → IsSoundView v → SaysTheSameOn fs v
    → ((a : Version) → IsClaimedIn fs id a → IsAtMost a (version_at v.database id))
    → version_at (heard_all fs v).database id ≡ version_at v.database id

-- an LSP that comes at a port that stays Up is at most what is held after all
abbrev pub LspIsHeld : Type 0
LspIsHeld = (ids : List LspId) (v : BridgeView) (fs : Inbox) (p : ℕ) (n : End) (bytes : List ℕ) (l : LspValue)
    → IsSoundView v → IsMail ids v fs → HoldsWithin ids v → length ids ≤ 900 → StaysUp p n fs v
    → Contains (frames_at p fs) bytes → parsed bytes ≡ parsing.lsp l
    → IsAtMost (claim_of l).version (version_at (heard_all fs v).database l.id)

-- a version that was held under an id, or is claimed of it in the frames
abbrev pub IsHeldOrClaimed : BridgeView → Inbox → LspId → Version → Type 0
IsHeldOrClaimed v fs id a = (a ≡ version_at v.database id) ⊎ IsClaimedIn fs id a

-- of another system such a version is held after all, if no two of these are live with one number and two checksums
abbrev pub VersionsComeFrom : Type 0
VersionsComeFrom = (v : BridgeView) (fs : Inbox) (id : LspId) → IsSoundView v → id.system ≢ v.id.system
    → ((a b : Version) → IsHeldOrClaimed v fs id a → IsHeldOrClaimed v fs id b → AreTwoLives a b → ⊥)
    → IsHeldOrClaimed v fs id (version_at (heard_all fs v).database id)

-- why the neighbour at an Up port is no further behind in one id after these claims came there: what is held is to be
-- sent there, or absent, or has the version that it had and wasn't to be sent there, or is at most a claim
pub data KeptAt (p : ℕ) (claims : List Claim) (id : LspId) (old new : Option Entry) : Type 0 where
  is_flagged : has (srm_in new) p ≡ true → KeptAt p claims id old new
  is_absent : version_in new ≡ Absent → KeptAt p claims id old new
  is_as_before : has (srm_in old) p ≡ false → version_in new ≡ version_in old → KeptAt p claims id old new
  is_claimed : (a : Version) → IsClaimed claims id a → IsAtMost (version_in new) a → KeptAt p claims id old new

-- so it is at a port that is Up in the end, after all frames, and after a whole round
abbrev pub PortIsKept : Type 0
PortIsKept = (v : BridgeView) (fs : Inbox) (p : ℕ) (id : LspId) → IsSoundView v → is_up_at (heard_all fs v) p ≡ true
    → KeptAt p (claims_at p fs) id (get v.database id) (get (heard_all fs v).database id)

abbrev pub RoundIsKept : Type 0
RoundIsKept = (v : BridgeView) (fs : Inbox) (p : ℕ) (id : LspId) → IsSoundView v → is_up_at (after_round fs v) p ≡ true
    → KeptAt p (claims_at p fs) id (get v.database id) (get (after_round fs v).database id)
