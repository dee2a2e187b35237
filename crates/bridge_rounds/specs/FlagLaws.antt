-- What SRM and SSN flags stand at a port after all frames of a round, where its neighbour claims of an id nothing but
-- what the bridge comes to hold (ISO/IEC 10589, 7.3.15.1 and 7.3.15.2).
use Rattle.std.specs.Prelude.{◌≡◌, ◌≢◌, ℕ, ◌≤◌, List, length, true, false, Contains}
use Rattle.std.specs.List.{AllByRecursion}
use Rattle.std.specs.FinMap.{get}
use Rattle.spb_types.specs.declared.address.LspId.{LspId}
use Rattle.spb_types.specs.Ports.{has}
use Rattle.isis_pdu.specs.Pdu.{LspValue, CsnpValue}
use Rattle.lsdb.specs.declared.version.Version.{Version}
use Rattle.lsdb.specs.declared.version.Version.TheVariants.{Absent}
use Rattle.lsdb.specs.Database.{srm_in, ssn_in, version_at}
use Rattle.lsdb.specs.Certificate.{IsClaimed}
use Rattle.adjacency.specs.Hearing.{End}
use Rattle.bridge_api.specs.View.{BridgeView}
use Rattle.bridge_api.specs.Parsing.{parsed}
use Rattle.bridge_api.specs.Parsing as parsing
use Rattle.bridge_api.specs.Step.{frames_at}
use Rattle.bridge_api.specs.Laws.{IsSoundView}
use Rattle.bridge_rounds.specs.Inbox.{Inbox, heard_all, claims_at, StaysUp, SaysTheSameOn, IsMail, HoldsWithin}

-- whether an LSP is to be sent at a port, and whether it is to be acknowledged or asked for there
abbrev pub HasSrm : BridgeView → LspId → ℕ → Type 0
HasSrm v id p = has (srm_in (get v.database id)) p ≡ true

abbrev pub HasNoSrm : BridgeView → LspId → ℕ → Type 0
HasNoSrm v id p = has (srm_in (get v.database id)) p ≡ false

abbrev pub HasSsn : BridgeView → LspId → ℕ → Type 0
HasSsn v id p = has (ssn_in (get v.database id)) p ≡ true

abbrev pub HasNoSsn : BridgeView → LspId → ℕ → Type 0
HasNoSsn v id p = has (ssn_in (get v.database id)) p ≡ false

-- all that is claimed of an id at a port is this version
abbrev pub ClaimsOnly : ℕ → LspId → Version → Inbox → Type 0
ClaimsOnly p id a fs = (b : Version) → IsClaimed (claims_at p fs) id b → b ≡ a

-- no CSNP comes at a port, and no LSP of an id
abbrev pub HasNoCsnp : ℕ → Inbox → Type 0
HasNoCsnp p fs = AllByRecursion (λ bytes. (c : CsnpValue) → parsed bytes ≢ parsing.csnp c) (frames_at p fs)

abbrev pub HasNoLspOf : LspId → ℕ → Inbox → Type 0
HasNoLspOf id p fs = AllByRecursion (λ bytes. (l : LspValue) → parsed bytes ≡ parsing.lsp l → l.id ≢ id)
    (frames_at p fs)

-- a sound bridge to which these frames come, while a port stays Up with one neighbour and what the bridge has to say
-- stays the same
pub record HearsAt (p : ℕ) (n : End) (fs : Inbox) (v : BridgeView) : Type 0 where
  pub sound : IsSoundView v
  pub up : StaysUp p n fs v
  pub says : SaysTheSameOn fs v

-- an LSP is acknowledged to the neighbour from which it came, if what came is what is held in the end. (One of the
-- bridge's own system has to be held so from the start: another one may have been answered)
abbrev pub LspIsAcked : Type 0
LspIsAcked = (ids : List LspId) (p : ℕ) (n : End) (v : BridgeView) (fs : Inbox) (bytes : List ℕ) (l : LspValue)
    (a : Version) → HearsAt p n fs v → IsMail ids v fs → HoldsWithin ids v → length ids ≤ 900
    → Contains (frames_at p fs) bytes → parsed bytes ≡ parsing.lsp l → ClaimsOnly p l.id a fs
    → version_at (heard_all fs v).database l.id ≡ a → a ≢ Absent
    → (l.id.system ≡ v.id.system → version_at v.database l.id ≡ a)
    → HasSsn (heard_all fs v) l.id p

-- the version under an id stays through all of these frames, and is all that is claimed of it at a port
pub record ClaimsAgree (p : ℕ) (id : LspId) (fs : Inbox) (v : BridgeView) : Type 0 where
  pub stays : version_at (heard_all fs v).database id ≡ version_at v.database id
  pub claims : ClaimsOnly p id (version_at v.database id) fs

-- then it doesn't come to be sent at the port, if no CSNP comes there
abbrev pub NothingIsOffered : Type 0
NothingIsOffered = (p : ℕ) (n : End) (v : BridgeView) (fs : Inbox) (id : LspId) → HearsAt p n fs v
    → ClaimsAgree p id fs v → HasNoCsnp p fs → HasNoSrm v id p → HasNoSrm (heard_all fs v) id p

-- and where something is claimed, it is no longer to be sent there
abbrev pub EqualIsCleared : Type 0
EqualIsCleared = (p : ℕ) (n : End) (v : BridgeView) (fs : Inbox) (id : LspId) (a : Version) → HearsAt p n fs v
    → ClaimsAgree p id fs v → HasNoCsnp p fs → IsClaimed (claims_at p fs) id a → a ≢ Absent
    → HasNoSrm (heard_all fs v) id p

-- nor does it come to be acknowledged or asked for there, if no LSP of it comes there
abbrev pub NothingIsAsked : Type 0
NothingIsAsked = (p : ℕ) (n : End) (v : BridgeView) (fs : Inbox) (id : LspId) → HearsAt p n fs v
    → ClaimsAgree p id fs v → HasNoLspOf id p fs → HasNoSsn v id p → HasNoSsn (heard_all fs v) id p
