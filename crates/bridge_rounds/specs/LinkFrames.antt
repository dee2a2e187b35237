-- What a bridge sends in a second at a port says of each LSP what the neighbour has to hear: which LSPs have SRM there,
-- and which have SSN (ISO/IEC 10589, 7.3.15.4 and 7.3.15.5).
use Rattle.std.specs.Prelude.{◌≡◌, ℕ, List, true, Some}
use Rattle.std.specs.FinMap.{get}
use Rattle.spb_types.specs.declared.address.LspId.{LspId}
use Rattle.spb_types.specs.Ports.{has}
use Rattle.isis_pdu.specs.Pdu.{LspValue}
use Rattle.spb_tlvs.specs.RoundTrip.{IsNamed}
use Rattle.lsdb.specs.Entry.{Entry}
use Rattle.lsdb.specs.Certificate.{IsClaimed}
use Rattle.adjacency.specs.Hearing.{End}
use Rattle.bridge_api.specs.View.{BridgeView, is_up_at, neighbour_at}
use Rattle.bridge_api.specs.Parsing.{parsed}
use Rattle.bridge_api.specs.Parsing as parsing
use Rattle.bridge_api.specs.Ticking.{readied}
use Rattle.bridge_api.specs.Step.{second, step, sent, frames_at}
use Rattle.bridge_api.specs.Laws.{IsSoundView, IsSent, claims_said}
use Rattle.bridge_rounds.specs.Inbox.{Inbox}
use Rattle.bridge_rounds.specs.Seconds.{IsCalmSecond}
use Rattle.bridge_rounds.specs.FlagLaws.{HasSrm, HasNoCsnp, HearsAt}
use Rattle.bridge_rounds.specs.LinkFlags.{IsSentOver}

-- a frame that is heard as an LSP is sent only where that LSP has SRM
abbrev pub LspsAreFlagged : Type 0
LspsAreFlagged = (v : BridgeView) (p : ℕ) (bytes : List ℕ) (l : LspValue) → IsSoundView v
    → IsSent (sent second v) p bytes → parsed bytes ≡ parsing.lsp l → HasSrm (readied v) l.id p

-- a frame that is sent at a port, and claims this of an id
pub record IsToldAt (v : BridgeView) (p : ℕ) (id : LspId) (e : Entry) : Type 0 where
  pub bytes : List ℕ
  pub sent : IsSent (sent second v) p bytes
  pub claimed : IsClaimed (claims_said (parsed bytes)) id e.version

-- what has SSN at a port that is Up is told there
abbrev pub SsnIsTold : Type 0
SsnIsTold = (v : BridgeView) (p : ℕ) (id : LspId) (e : Entry) → IsSoundView v → is_up_at (readied v) p ≡ true
    → get (readied v).database id ≡ Some e → has e.ssn p ≡ true → IsToldAt v p id e

-- in a round all that comes to v at its port p is what u sends in its second at its port q, and both seconds change
-- lifetimes alone
pub record ComesOver (u : BridgeView) (q : ℕ) (v : BridgeView) (p : ℕ) (fs : Inbox) : Type 0 where
  pub sender : IsSoundView u
  pub named : IsNamed (neighbour_at (step second u) q)
  pub up : is_up_at u q ≡ true
  pub calm : IsCalmSecond u
  pub receiver : IsSoundView v
  pub calm_there : IsCalmSecond v
  pub neighbour : End
  pub hears : HearsAt p neighbour fs (step second v)
  pub frames : frames_at p fs ≡ frames_at q (sent second u)
  pub no_csnp : HasNoCsnp p fs

-- then it says of each LSP what u holds and has to send or to acknowledge
abbrev pub FramesTell : Type 0
FramesTell = (u v : BridgeView) (q p : ℕ) (fs : Inbox) (id : LspId) → ComesOver u q v p fs → IsSentOver id u q v p fs
