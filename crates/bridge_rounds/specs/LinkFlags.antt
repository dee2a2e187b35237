-- What becomes of the flags of an LSP at the two ends of a link in a round that changes no version but by what is
-- heard: where both ends come to hold the same, each that has still to send it gets an answer; then nothing has SRM,
-- and then nothing has SSN (ISO/IEC 10589, 7.3.15).
use Rattle.std.specs.Prelude.{◌≡◌, ◌≢◌, ◌⊎◌, ℕ, ◌≤◌, List, length, Contains}
use Rattle.std.specs.FinMap.{get}
use Rattle.spb_types.specs.declared.address.LspId.{LspId}
use Rattle.spb_types.specs.Ports.{has}
use Rattle.isis_pdu.specs.Pdu.{LspValue}
use Rattle.lsdb.specs.declared.version.Version.{Version}
use Rattle.lsdb.specs.declared.version.Version.TheVariants.{Absent}
use Rattle.lsdb.specs.Version.{IsAtMost}
use Rattle.lsdb.specs.Database.{srm_in, version_at}
use Rattle.lsdb.specs.Certificate.{IsClaimed}
use Rattle.adjacency.specs.Hearing.{End}
use Rattle.bridge_api.specs.View.{BridgeView}
use Rattle.bridge_api.specs.Parsing.{parsed}
use Rattle.bridge_api.specs.Parsing as parsing
use Rattle.bridge_api.specs.Step.{second, step, frames_at}
use Rattle.bridge_api.specs.Laws.{IsSoundView}
use Rattle.bridge_rounds.specs.Inbox.{Inbox, after_round, claims_at, IsMail, HoldsWithin}
use Rattle.bridge_rounds.specs.FlagLaws.{HasSrm, HasNoSrm, HasSsn, HasNoSsn, ClaimsOnly, HasNoCsnp, HasNoLspOf, HearsAt}

-- a second leaves the version under an id, and where the LSP is to be sent
pub record StandsStill (id : LspId) (v : BridgeView) : Type 0 where
  pub version : version_at (step second v).database id ≡ version_at v.database id
  pub srm : (p : ℕ) → has (srm_in (get (step second v).database id)) p ≡ has (srm_in (get v.database id)) p

-- an LSP of this id comes at a port
pub record HasLspOf (id : LspId) (p : ℕ) (fs : Inbox) : Type 0 where
  pub bytes : List ℕ
  pub lsp : LspValue
  pub comes : Contains (frames_at p fs) bytes
  pub is : parsed bytes ≡ parsing.lsp lsp
  pub named : lsp.id ≡ id

-- a bridge u sends at its port q what comes in a round to a bridge v at its port p, which stays Up: what is claimed of
-- an id is what u holds; its LSP comes if u has SRM there, and only then; an entry of a PSNP comes if u has SSN there;
-- and no CSNP comes
pub record IsSentOver (id : LspId) (u : BridgeView) (q : ℕ) (v : BridgeView) (p : ℕ) (fs : Inbox) : Type 0 where
  pub sound : IsSoundView v
  pub still : StandsStill id v
  pub neighbour : End
  pub hears : HearsAt p neighbour fs (step second v)
  pub claims : ClaimsOnly p id (version_at u.database id) fs
  pub no_csnp : HasNoCsnp p fs
  pub sent : HasSrm u id q → HasLspOf id p fs
  pub unsent : HasNoSrm u id q → HasNoLspOf id p fs
  pub told : HasSsn u id q → IsClaimed (claims_at p fs) id (version_at u.database id)

-- so over a link in both directions
pub record IsLinkRound (id : LspId) (u : BridgeView) (q : ℕ) (us : Inbox) (v : BridgeView) (p : ℕ)
    (vs : Inbox) : Type 0 where
  pub there : IsSentOver id u q v p vs
  pub back : IsSentOver id v p u q us

-- what v holds is to be sent at its port p, or u holds it or a newer one
abbrev pub IsSentOrHeld : LspId → BridgeView → ℕ → BridgeView → Type 0
IsSentOrHeld id v p u = HasSrm v id p ⊎ IsAtMost (version_at v.database id) (version_at u.database id)

-- the round of a link before which each end is ready for the other, and after which both hold this version
pub record ComesToAgree (id : LspId) (u : BridgeView) (q : ℕ) (us : Inbox) (v : BridgeView) (p : ℕ) (vs : Inbox)
    (a : Version) : Type 0 where
  pub round : IsLinkRound id u q us v p vs
  pub ready_there : IsSentOrHeld id u q v
  pub ready_back : IsSentOrHeld id v p u
  pub held_there : version_at (after_round us u).database id ≡ a
  pub held_back : version_at (after_round vs v).database id ≡ a

-- where u has still to send it afterwards, v has still to send it too, or to acknowledge it. Of its own system v has to
-- hold no older one than u before the round
abbrev pub NeighbourAnswers : Type 0
NeighbourAnswers = (ids : List LspId) (id : LspId) (u v : BridgeView) (q p : ℕ) (us vs : Inbox) (a : Version)
    → ComesToAgree id u q us v p vs a → IsMail ids (step second v) vs → HoldsWithin ids (step second v)
    → length ids ≤ 900 → a ≢ Absent
    → (id.system ≡ v.id.system → IsAtMost (version_at u.database id) (version_at v.database id))
    → HasSrm (after_round us u) id q → HasSrm (after_round vs v) id p ⊎ HasSsn (after_round vs v) id p

-- the round of a link in which both ends hold the same version throughout
pub record Agrees (id : LspId) (u : BridgeView) (us : Inbox) (v : BridgeView) : Type 0 where
  pub same : version_at v.database id ≡ version_at u.database id
  pub stays : version_at (after_round us u).database id ≡ version_at u.database id

-- where v answers u in this way, u has it no longer to send
abbrev pub AnsweredIsCleared : Type 0
AnsweredIsCleared = (id : LspId) (u v : BridgeView) (q p : ℕ) (us : Inbox) → IsSentOver id v p u q us
    → Agrees id u us v
    → (version_at u.database id ≢ Absent → HasSrm u id q → HasSrm v id p ⊎ HasSsn v id p)
    → HasNoSrm (after_round us u) id q

-- and where neither end has it to send, u has neither to send nor to acknowledge it afterwards
abbrev pub SilenceFollows : Type 0
SilenceFollows = (id : LspId) (u v : BridgeView) (q p : ℕ) (us : Inbox) → IsSentOver id v p u q us → Agrees id u us v
    → HasNoSrm u id q → HasNoSrm v id p
    → HasNoSrm (after_round us u) id q × HasNoSsn (after_round us u) id q

-- v hears of few ids, and of its own system it holds no older LSP than u
pub record CanAnswer (id : LspId) (u v : BridgeView) (vs : Inbox) : Type 0 where
  pub ids : List LspId
  pub few : length ids ≤ 900
  pub within : HoldsWithin ids (step second v)
  pub mail : IsMail ids (step second v) vs
  pub ahead : id.system ≡ v.id.system → IsAtMost (version_at u.database id) (version_at v.database id)

-- so three rounds of a link, of which the first leaves both ends with one version, and the others leave it, end with
-- nothing to send or to acknowledge
abbrev pub LinksFallSilent : Type 0
LinksFallSilent = (id : LspId) (u v : BridgeView) (q p : ℕ) (us vs next_us next_vs last_us last_vs : Inbox)
    (a : Version) → ComesToAgree id u q us v p vs a → CanAnswer id u v vs → CanAnswer id v u us
    → ComesToAgree id (after_round us u) q next_us (after_round vs v) p next_vs a
    → ComesToAgree id (after_round next_us (after_round us u)) q last_us (after_round next_vs (after_round vs v)) p
    last_vs a
    → HasNoSrm (after_round last_us (after_round next_us (after_round us u))) id q
    × HasNoSsn (after_round last_us (after_round next_us (after_round us u))) id q
