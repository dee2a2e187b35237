-- What a bridge does for its neighbours in a second: all is sent that is to be sent, and is heard as it is meant; and
-- afterwards nothing is due or has SSN.
use Rattle.std.specs.Prelude.{◌≡◌, ℕ, List, true, false, Option, Some, None}
use Rattle.std.specs.List.{AllByRecursion}
use Rattle.std.specs.FinMap.{get}
use Rattle.spb_types.specs.declared.address.LspId.{LspId}
use Rattle.spb_types.specs.Ports.{has, no_ports}
use Rattle.lsdb.specs.Entry.{Entry}
use Rattle.lsdb.specs.Database.{ssn_in}
use Rattle.flooding.specs.Sending.{lsp_in}
use Rattle.snp_sync.specs.Sending.{csnps_of, psnps_of}
use Rattle.bridge_api.specs.View.{BridgeView, is_up_at, is_csnp_due_at}
use Rattle.bridge_api.specs.Parsing.{parsed}
use Rattle.bridge_api.specs.Parsing as parsing
use Rattle.bridge_api.specs.Ticking.{readied, lsp_frame, csnp_frame, psnp_frame}
use Rattle.bridge_api.specs.Step.{second, step, sent}
use Rattle.bridge_api.specs.Laws.{IsSoundView, IsSent}

-- at a port of the bridge that sends, all is among these frames that is to be sent there: each LSP with SRM there, the
-- CSNPs of the whole database if they are due, and the PSNPs of all with SSN there
pub record IsServedAt (v : BridgeView) (p : ℕ) (frames : List (ℕ × List ℕ)) : Type 0 where
  pub lsps : (id : LspId) (e : Entry) → get v.database id ≡ Some e → has e.srm p ≡ true
      → IsSent frames p (lsp_frame v.id.system (lsp_in id e))
  pub summaries : is_csnp_due_at v p ≡ true
      → AllByRecursion (λ c. IsSent frames p (csnp_frame v.id.system c)) (csnps_of v.id.system v.database)
  pub requests : AllByRecursion (λ s. IsSent frames p (psnp_frame v.id.system s)) (psnps_of v.id.system p v.database)

-- so it is in each second at each Up port, after the counts and lifetimes fell and the own LSPs were brought up to date
abbrev pub SecondsServe : Type 0
SecondsServe = (v : BridgeView) (p : ℕ) → IsSoundView v → is_up_at (readied v) p ≡ true
    → IsServedAt (readied v) p (sent second v)

-- each LSP that the bridge holds which sends is heard as itself
abbrev pub LspsAreHeard : Type 0
LspsAreHeard = (v : BridgeView) (id : LspId) (e : Entry) → IsSoundView v → get (readied v).database id ≡ Some e
    → parsed (lsp_frame (readied v).id.system (lsp_in id e)) ≡ parsing.lsp (lsp_in id e)

-- and so is each of its PSNPs at a port
abbrev pub RequestsAreHeard : Type 0
RequestsAreHeard = (v : BridgeView) (p : ℕ) → IsSoundView v
    → AllByRecursion (λ s. parsed (psnp_frame (readied v).id.system s) ≡ parsing.psnp s)
    (psnps_of (readied v).id.system p (readied v).database)

-- what is held under an id, but for its SSN flags
abbrev pub but_for_ssn : Option Entry → Option Entry
but_for_ssn None = None
but_for_ssn (Some e) = Some (record e { ssn = no_ports })

-- afterwards CSNPs are due nowhere, nothing is to be acknowledged or asked for anywhere, and else all is held as it
-- was: an LSP stays to be sent until the neighbour says that it has it
pub record HasNothingDue (v w : BridgeView) : Type 0 where
  pub csnp_due : (p : ℕ) → is_csnp_due_at w p ≡ false
  pub ssn : (p : ℕ) (id : LspId) → has (ssn_in (get w.database id)) p ≡ false
  pub held : (id : LspId) → but_for_ssn (get w.database id) ≡ but_for_ssn (get v.database id)

abbrev pub SecondsLeaveNothingDue : Type 0
SecondsLeaveNothingDue = (v : BridgeView) → IsSoundView v → HasNothingDue (readied v) (step second v)
