-- Sequence numbers that are spent stay so, whatever comes to the bridge.
use Rattle.std.proofs.Common.{◌≡◌, inl, inr, ℕ, Bool, true, false, List, [], ◌∷◌, refl, sym, ap, ◌∙◌}
use Rattle.std.specs.Prelude.{◌&&◌, ◌++◌, not, nat_lt, is_some, if◌then◌else◌}
use Rattle.std.specs.FinMap.{get}
use Rattle.std.proofs.lemmas.Bool.{true≢false}
use Rattle.spb_types.specs.declared.address.LspId.{LspId}
use Rattle.spb_types.specs.declared.ports.PortSet.{PortSet}
use Rattle.spb_types.specs.declared.service.Attachment.{Attachment}
use Rattle.lsdb.specs.Version.{number_of, relation}
use Rattle.lsdb.specs.Database.{Lsps, version_in, changed_to}
use Rattle.lsdb.specs.Certificate.{Claim}
use Rattle.flooding.specs.declared.own.Own.{Own}
use Rattle.flooding.specs.Own.{last_number, body_for, answering}
use Rattle.flooding.specs.Settling.{says}
use Rattle.flooding.specs.Hearing.{Holding, claim_of, lsp_rule, snp_rule, is_answered, own_after, after_claim, hear_entry_of}
use Rattle.flooding.proofs.Heard.{Rule}
use Rattle.flooding.proofs.Claimed.{heard_of, lacks}
use Rattle.flooding.proofs.Settled.{settling_stands}
use Rattle.snp_sync.specs.Hearing.{claims_in, hear_entries_of}
use Rattle.adjacency.specs.declared.state.AdjacencyChange.{AdjacencyChange}
use Rattle.adjacency.specs.declared.state.AdjacencyChange.TheVariants.{Discarded, Kept, LeftUp, CameUp}
use Rattle.adjacency.specs.Adjacency.{after_hello, change_by_hello, after_carrier, change_of}
use Rattle.bridge_api.specs.declared.port.BridgePort.{BridgePort}
use Rattle.bridge_api.specs.View.{BridgeView, with_port_at, up_ports}
use Rattle.bridge_api.specs.Own.{holding_of, originated_if_changed}
use Rattle.bridge_api.specs.Hearing.{with_adjacency, with_port_metric, left_up, changed_at, heard_lsp, heard_csnp, heard_psnp}
use Rattle.bridge_api.specs.Customers.{after_entry}
use Rattle.bridge_api.specs.Services.{with_attached, without_customer_port, with_port_forgotten}
use Rattle.bridge_api.specs.Step.{second, frame, carrier, metric, attach, detach, customer, step}
use Rattle.bridge_api.proofs.Changes.{FrameStep, idle, by_hello, by_lsp, by_csnp, by_psnp, frame_step, carrier_step, metric_step, attached_to, with_attached_is}
use Rattle.bridge_laws.proofs.TimeOwn.{spent_stands_still}
use Rattle.bridge_rounds.specs.Hearing.{SpentStays}

-- ---- a claim

answering_by : (own : Own) (b : Bool) → own.spent ≡ true → (if b then record own { spent = true } else own).spent ≡ true
answering_by own true spent = refl
answering_by own false spent = spent

own_by : (own : Own) (id : LspId) (seq : ℕ) (b : Bool) → own.spent ≡ true → (if b then answering own id seq else own).spent ≡ true
own_by own id seq true spent = answering_by own (is_some (body_for own id) && not (nat_lt seq last_number)) spent
own_by own id seq false spent = spent

after_by : (h : Holding) (db : Lsps) (own : Own) (b : Bool) → h.own.spent ≡ true → own.spent ≡ true → (if b then h else record { db = db; own = own }).own.spent ≡ true
after_by h db own true spent next = spent
after_by h db own false spent next = next

claim_spent : (rule : Rule) (up : PortSet) (c : Claim) (h : Holding) → h.own.spent ≡ true → (after_claim rule up c h).own.spent ≡ true
unfolding after_claim
claim_spent rule up c h spent =
    let r = relation c.version (version_in (get h.db c.id)) in
    after_by h (changed_to h.db c.id (heard_of rule up c h)) (own_after h.own c.id c.version r) (lacks rule up c h) spent (own_by h.own c.id (number_of c.version) (is_answered h.own c.id r) spent)

entries_spent : (up : PortSet) (port : ℕ) (claims : List Claim) (h : Holding) → h.own.spent ≡ true → (hear_entries_of up port claims h).own.spent ≡ true
entries_spent up port [] h spent = spent
entries_spent up port (c ∷ claims) h spent = entries_spent up port claims (hear_entry_of up port c h) (claim_spent (snp_rule up port c.version) up c h spent)

-- ---- own LSPs brought up to date

originated_spent : (w : BridgeView) → w.spent ≡ true → (originated_if_changed w).spent ≡ true
unfolding originated_if_changed
originated_spent w spent =
    ap (λ (h : Holding). h.own.spent) (settling_stands says (up_ports w) (holding_of w) (λ fresh number below. absurd (true≢false (sym spent ∙ fresh)))) ∙ spent

changed_spent : (heard : AdjacencyChange) (p : ℕ) (port : BridgePort) (v : BridgeView) → v.spent ≡ true → (changed_at heard p port v).spent ≡ true
changed_spent Discarded p port v spent = spent
changed_spent Kept p port v spent = originated_spent (with_port_at p port v) spent
changed_spent LeftUp p port v spent = originated_spent (left_up p port v) spent
changed_spent CameUp p port v spent = originated_spent (left_up p port v) spent

-- ---- the steps

frame_spent : (q : ℕ) (bytes : List ℕ) (v : BridgeView) → v.spent ≡ true → FrameStep v q bytes (step (frame q bytes) v) → (step (frame q bytes) v).spent ≡ true
frame_spent q bytes v spent (idle learned how e) = ap (λ (w : BridgeView). w.spent) e ∙ spent
frame_spent q bytes v spent (by_hello g) =
    ap (λ (w : BridgeView). w.spent) g.after
    ∙ changed_spent (change_by_hello v.id.system q g.hello g.way g.port.adjacency) q (with_adjacency (after_hello v.id.system q g.hello g.way g.port.adjacency) g.port) v spent
frame_spent q bytes v spent (by_lsp g) =
    ap (λ (w : BridgeView). w.spent) g.after ∙ originated_spent (heard_lsp g.lsp q v) (claim_spent (lsp_rule (up_ports v) q g.lsp) (up_ports v) (claim_of g.lsp) (holding_of v) spent)
frame_spent q bytes v spent (by_csnp g) =
    ap (λ (w : BridgeView). w.spent) g.after ∙ originated_spent (heard_csnp g.csnp g.entries q v) (entries_spent (up_ports v) q (claims_in g.entries) (holding_of v) spent)
frame_spent q bytes v spent (by_psnp g) =
    ap (λ (w : BridgeView). w.spent) g.after ∙ originated_spent (heard_psnp g.entries q v) (entries_spent (up_ports v) q (claims_in g.entries) (holding_of v) spent)

attached_spent : (attached : List Attachment) (v : BridgeView) → v.spent ≡ true → (with_attached attached v).spent ≡ true
attached_spent attached v spent = ap (λ (w : BridgeView). w.spent) (with_attached_is attached v) ∙ originated_spent (attached_to attached v) spent

pub spent_stays : SpentStays
unfolding with_port_forgotten after_entry
spent_stays second v spent = (spent_stands_still v 0 spent).1
spent_stays (frame q bytes) v spent = frame_spent q bytes v spent (frame_step v q bytes)
spent_stays (carrier q on) v spent =
    elim (carrier_step v q on) [
      | inl e ↦ ap (λ (w : BridgeView). w.spent) e ∙ spent
      | inr g ↦
          ap (λ (w : BridgeView). w.spent) g.after
          ∙ changed_spent (change_of g.port.adjacency (after_carrier on g.port.adjacency)) q (with_adjacency (after_carrier on g.port.adjacency) g.port) v spent
    ]
spent_stays (metric q m) v spent =
    elim (metric_step v q m) [
      | inl e ↦ ap (λ (w : BridgeView). w.spent) e ∙ spent
      | inr g ↦ ap (λ (w : BridgeView). w.spent) g.after ∙ originated_spent (with_port_at q (with_port_metric m g.port) v) spent
    ]
spent_stays (attach a) v spent = attached_spent (v.attached ++ a ∷ []) v spent
spent_stays (detach p) v spent = attached_spent (without_customer_port p v.attached) (with_port_forgotten p v) spent
spent_stays (customer p bytes) v spent = spent
