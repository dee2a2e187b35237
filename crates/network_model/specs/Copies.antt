-- The copies of an LSP in a network, held or on their way, and what they have from the bridge that originates it
-- (ISO/IEC 10589, 7.3.7 and 7.3.16).
use Rattle.std.specs.Prelude.{◌≡◌, ℕ, ◌≤◌, List, Option, Some, slice_get}
use Rattle.std.specs.FinMap.{get}
use Rattle.spb_types.specs.declared.address.LspId.{LspId}
use Rattle.spb_types.specs.declared.link.Dir.{Dir}
use Rattle.isis_pdu.specs.Pdu.{LspValue}
use Rattle.link_model.specs.declared.lanes.LinkLanes.{LinkLanes}
use Rattle.link_model.specs.Lane.{Frame, IsIn}
use Rattle.link_model.specs.Lanes.{lane_of}
use Rattle.lsdb.specs.declared.version.Version.{Version}
use Rattle.lsdb.specs.declared.version.Version.TheVariants.{Live}
use Rattle.lsdb.specs.Version.{number_of}
use Rattle.lsdb.specs.Entry.{Entry}
use Rattle.lsdb.specs.Database.{version_at, version_in}
use Rattle.lsdb.specs.Certificate.{IsClaimed}
use Rattle.flooding.specs.Own.{IsOwnNumber}
use Rattle.flooding.specs.Hearing.{claim_of, body_of}
use Rattle.bridge_api.specs.View.{BridgeView}
use Rattle.bridge_api.specs.Parsing as parsing
use Rattle.bridge_api.specs.Parsing.{parsed}
use Rattle.bridge_api.specs.Laws.{claims_said}
use Rattle.network_model.specs.State.{State}

-- ---- versions

-- a version of an id is held by some bridge, or claimed in a frame on its way. A bridge that doesn't hold the id holds
-- the absent version of it, whose number is 0
pub data IsCopy (views : List BridgeView) (lanes : List LinkLanes) (id : LspId) (a : Version) : Type 0 where
  is_held : (i : ℕ) (v : BridgeView) → slice_get views i ≡ Some v → version_at v.database id ≡ a
      → IsCopy views lanes id a
  is_said : (k : ℕ) (dir : Dir) (bytes : Frame) → IsIn bytes (lane_of lanes k dir)
      → IsClaimed (claims_said (parsed bytes)) id a → IsCopy views lanes id a

-- ---- bodies

-- under this sequence number and checksum, a live LSP of the id has this body: some bridge holds it so, or it is on its
-- way
pub data IsText (views : List BridgeView) (lanes : List LinkLanes) (id : LspId) (seq sum : ℕ) (body : List ℕ)
    : Type 0 where
  text_held : (i : ℕ) (v : BridgeView) (e : Entry) → slice_get views i ≡ Some v → get v.database id ≡ Some e
      → e.version ≡ Live seq sum → e.body ≡ body → IsText views lanes id seq sum body
  text_sent : (k : ℕ) (dir : Dir) (bytes : Frame) (l : LspValue) → IsIn bytes (lane_of lanes k dir)
      → parsed bytes ≡ parsing.lsp l → l.id ≡ id → (claim_of l).version ≡ Live seq sum → body_of l ≡ body
      → IsText views lanes id seq sum body

-- ---- their origin

-- no copy of an id has a greater number than what its origin holds, and no two live ones of one number differ in
-- checksum or body
pub record IsOrigin (views : List BridgeView) (lanes : List LinkLanes) (id : LspId) (own : Option Entry)
    : Type 0 where
  pub greatest : (a : Version) → IsCopy views lanes id a → number_of a ≤ number_of (version_in own)
  pub sums : (seq x y : ℕ) → IsCopy views lanes id (Live seq x) → IsCopy views lanes id (Live seq y) → x ≡ y
  pub bodies : (seq x y : ℕ) (b c : List ℕ) → IsText views lanes id seq x b → IsText views lanes id seq y c → b ≡ c

-- so it is of each LSP that a bridge originates
abbrev pub HaveOrigins : State → Type 0
HaveOrigins s = (i : ℕ) (v : BridgeView) (id : LspId) → slice_get s.views i ≡ Some v → IsOwnNumber v.id.system id
    → IsOrigin s.views s.lanes id (get v.database id)

-- what two bridges hold under one id with one live version has one body
abbrev pub HaveOneBody : State → Type 0
HaveOneBody s = (i j : ℕ) (v w : BridgeView) (id : LspId) (d e : Entry) (seq sum : ℕ)
    → slice_get s.views i ≡ Some v → slice_get s.views j ≡ Some w
    → get v.database id ≡ Some d → get w.database id ≡ Some e
    → d.version ≡ Live seq sum → e.version ≡ Live seq sum → d.body ≡ e.body
