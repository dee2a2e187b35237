-- What stands under an id of a bridge's own system goes on in every step.
use Rattle.std.proofs.Common.{◌≡◌, inl, inr, ℕ, List, [], ◌∷◌, refl, sym, ap, subst, Option, arith}
use Rattle.std.specs.Prelude.{◌++◌}
use Rattle.std.specs.FinMap.{get}
use Rattle.spb_types.specs.declared.address.LspId.{LspId}
use Rattle.lsdb.specs.Version.{number_of, is_absent}
use Rattle.lsdb.specs.Entry.{Entry, flagged, srm_set_at, flags_cleared_at}
use Rattle.lsdb.specs.Database.{Lsps, version_in, each}
use Rattle.flooding.specs.Settling.{says, is_new}
use Rattle.flooding.specs.Advancing.{Advanced, stays, ends}
use Rattle.flooding.proofs.Advancing.{advances_compose, unchanged, lsp_advances, settling_advances}
use Rattle.snp_sync.specs.Hearing.{claims_in}
use Rattle.snp_sync.proofs.Advancing.{entries_advance, csnp_advances}
use Rattle.adjacency.specs.declared.state.AdjacencyChange.{AdjacencyChange}
use Rattle.adjacency.specs.declared.state.AdjacencyChange.TheVariants.{Discarded, Kept, LeftUp, CameUp}
use Rattle.adjacency.specs.Adjacency.{after_hello, change_by_hello, after_carrier, change_of}
use Rattle.spb_types.specs.declared.service.Attachment.{Attachment}
use Rattle.bridge_api.specs.declared.port.BridgePort.{BridgePort}
use Rattle.bridge_api.specs.View.{BridgeView, with_port_at, up_ports}
use Rattle.bridge_api.specs.Own.{holding_of, originated_if_changed}
use Rattle.bridge_api.specs.Hearing.{with_adjacency, left_up, changed_at, heard_lsp, heard_csnp, heard_psnp, with_port_metric}
use Rattle.bridge_api.specs.Ticking.{leaving_from, counts_lowered, expired, refreshed, readied}
use Rattle.bridge_api.specs.Customers.{after_entry}
use Rattle.bridge_api.specs.Services.{with_attached, without_customer_port, with_port_forgotten}
use Rattle.bridge_api.specs.Step.{second, frame, carrier, metric, attach, detach, customer, step}
use Rattle.bridge_api.specs.Time.{AgedFrom, stays as lasts, dies}
use Rattle.bridge_laws.specs.Advancing.{StepsAdvance}
use Rattle.bridge_api.proofs.Changes.{FrameStep, idle, by_hello, by_lsp, by_csnp, by_psnp, frame_step, carrier_step, metric_step, attached_to}
use Rattle.bridge_api.proofs.TimeLsps.{aged_same, older_ages, expired_holds, second_holds}
use Rattle.bridge_laws.proofs.Learning.{LeavesLsp, each_same, spared_same}

-- ---- own LSPs are brought up to date

originated_advances : (v : BridgeView) (id : LspId) → Advanced (get v.database id) (get (originated_if_changed v).database id)
unfolding originated_if_changed
originated_advances v id = settling_advances says (up_ports v) (holding_of v) id

refreshed_advances : (v : BridgeView) (id : LspId) → Advanced (get v.database id) (get (refreshed v).database id)
unfolding refreshed
refreshed_advances v id = settling_advances is_new (up_ports v) (holding_of v) id

-- behind anything else
then_originated : (o : Option Entry) (v : BridgeView) (id : LspId) → Advanced o (get v.database id) → Advanced o (get (originated_if_changed v).database id)
then_originated o v id before = advances_compose o (get v.database id) (get (originated_if_changed v).database id) before (originated_advances v id)

-- ---- a change at a port

each_stays : (f : LspId → Entry → Entry) (db : Lsps) (id : LspId) → LeavesLsp (f id) → Advanced (get db id) (get (each f db) id)
each_stays f db id leaves = let same = each_same f db id leaves in stays same.version same.body

left_advances : (p : ℕ) (port : BridgePort) (v : BridgeView) (id : LspId) → Advanced (get v.database id) (get (originated_if_changed (left_up p port v)).database id)
left_advances p port v id = then_originated (get v.database id) (left_up p port v) id (each_stays (λ x e. flags_cleared_at p e) v.database id (λ e. record { version = refl; body = refl }))

changed_advances : (heard : AdjacencyChange) (p : ℕ) (port : BridgePort) (v : BridgeView) (id : LspId) → Advanced (get v.database id) (get (changed_at heard p port v).database id)
changed_advances Discarded p port v id = stays refl refl
changed_advances Kept p port v id = originated_advances (with_port_at p port v) id
changed_advances LeftUp p port v id = left_advances p port v id
changed_advances CameUp p port v id =
    let u : BridgeView = originated_if_changed (left_up p port v) in
    advances_compose (get v.database id) (get u.database id) (get (each (λ x e. srm_set_at p e) u.database) id) (left_advances p port v id)
    (each_stays (λ x e. srm_set_at p e) u.database id (λ e. spared_same (flagged p) e (is_absent e.version) (record { version = refl; body = refl })))

-- ---- a second

aged_advances : (o n : Option Entry) → AgedFrom o n → Advanced o n
aged_advances o n (lasts version body most least) = stays version body
aged_advances o n (dies live last version body) = ends (number_of (version_in o)) version (omega arith)

-- what is sent changes SSN flags alone
sent_stays : (v : BridgeView) (id : LspId) → Advanced (get (readied v).database id) (get (step second v).database id)
sent_stays v id =
    let ready = get (readied v).database id in
    let sent = get (step second v).database id in
    aged_advances ready sent (aged_same sent ready (second_holds v id) ready (lasts refl refl (omega arith) (omega arith)))

second_advances : (v : BridgeView) (id : LspId) → Advanced (get v.database id) (get (step second v).database id)
second_advances v id =
    let w : BridgeView = expired (counts_lowered v) in
    let aged : Advanced (get v.database id) (get w.database id) =
    subst (Advanced (get v.database id)) (sym (expired_holds v id)) (aged_advances (get v.database id) _ (older_ages (up_ports (counts_lowered v)) (leaving_from 1 v.ports) (get v.database id))) in
    advances_compose (get v.database id) (get (readied v).database id) (get (step second v).database id)
    (advances_compose (get v.database id) (get w.database id) (get (readied v).database id) aged (refreshed_advances w id)) (sent_stays v id)

-- ---- the steps

module _ (v : BridgeView) (id : LspId) (mine : id.system ≡ v.id.system) where
  abbrev AdvancesTo : BridgeView → Type 0
  AdvancesTo w = Advanced (get v.database id) (get w.database id)

  frame_advances : (q : ℕ) (bytes : List ℕ) → FrameStep v q bytes (step (frame q bytes) v) → AdvancesTo (step (frame q bytes) v)
  frame_advances q bytes (idle learned how e) = unchanged _ _ (ap (λ (w : BridgeView). get w.database id) e)
  frame_advances q bytes (by_hello g) =
      subst AdvancesTo (sym g.after)
      (changed_advances (change_by_hello v.id.system q g.hello g.way g.port.adjacency) q (with_adjacency (after_hello v.id.system q g.hello g.way g.port.adjacency) g.port) v id)
  frame_advances q bytes (by_lsp g) =
      subst AdvancesTo (sym g.after) (then_originated (get v.database id) (heard_lsp g.lsp q v) id (lsp_advances (up_ports v) q g.lsp (holding_of v) id mine))
  frame_advances q bytes (by_csnp g) =
      subst AdvancesTo (sym g.after)
      (then_originated (get v.database id) (heard_csnp g.csnp g.entries q v) id (csnp_advances (up_ports v) q g.csnp.start g.csnp.end (claims_in g.entries) (holding_of v) id mine))
  frame_advances q bytes (by_psnp g) =
      subst AdvancesTo (sym g.after)
      (then_originated (get v.database id) (heard_psnp g.entries q v) id (entries_advance (up_ports v) q (claims_in g.entries) (holding_of v) id mine))

  attached_advances : (attached : List Attachment) (u : BridgeView) → u.database ≡ v.database → AdvancesTo (with_attached attached u)
  unfolding with_attached
  attached_advances attached u same =
      then_originated (get v.database id) (attached_to attached u) id (unchanged _ _ (ap (λ (db : Lsps). get db id) same))

pub steps_advance : StepsAdvance
unfolding with_port_forgotten after_entry
steps_advance second v id mine = second_advances v id
steps_advance (frame q bytes) v id mine = frame_advances v id mine q bytes (frame_step v q bytes)
steps_advance (carrier q on) v id mine =
    elim (carrier_step v q on) [
      | inl e ↦ unchanged _ _ (ap (λ (w : BridgeView). get w.database id) e)
      | inr g ↦
          subst (AdvancesTo v id mine) (sym g.after)
          (changed_advances (change_of g.port.adjacency (after_carrier on g.port.adjacency)) q (with_adjacency (after_carrier on g.port.adjacency) g.port) v id)
    ]
steps_advance (metric q m) v id mine =
    elim (metric_step v q m) [
      | inl e ↦ unchanged _ _ (ap (λ (w : BridgeView). get w.database id) e)
      | inr g ↦ subst (AdvancesTo v id mine) (sym g.after) (originated_advances (with_port_at q (with_port_metric m g.port) v) id)
    ]
steps_advance (attach a) v id mine = attached_advances v id mine (v.attached ++ a ∷ []) v refl
steps_advance (detach p) v id mine = attached_advances v id mine (without_customer_port p v.attached) (with_port_forgotten p v) refl
steps_advance (customer p bytes) v id mine = stays refl refl
