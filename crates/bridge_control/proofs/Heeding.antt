-- The machine after an LSP or a sequence numbers PDU was heard.
use Rattle.std.proofs.Common.{◌≡◌, ℕ, Bool, true, false, List, refl, sym, ap, ◌∙◌, Option, Some}
use Rattle.std.specs.Prelude.{not, if◌then◌else◌}
use Rattle.spb_types.specs.declared.address.LspId.{LspId}
use Rattle.spb_types.specs.declared.ports.PortSet.{PortSet}
use Rattle.isis_pdu.specs.Pdu.{LspValue, CsnpValue}
use Rattle.spb_tlvs.specs.declared.entries.SnpEntry.{SnpEntry}
use Rattle.lsdb.specs.Database.{Lsps}
use Rattle.lsdb.specs.Certificate.{Claim}
use Rattle.flooding.specs.declared.own.Own.{Own}
use Rattle.flooding.specs.Hearing.{Holding, lsp_rule, claim_of, hear_lsp_of, is_full_for_lsp}
use Rattle.flooding.specs.Placing.{holding}
use Rattle.flooding.proofs.Owns.{own_stands}
use Rattle.spb_types.specs.declared.drop_reason.DropReason.TheVariants as drop
use Rattle.snp_sync.specs.Hearing.{claims_in, full_count, hear_entries_of, hear_csnp_of}
use Rattle.snp_sync.proofs.Stays.{entries_leave_own}
use Rattle.bridge_api.specs.declared.port.BridgePort.{BridgePort}
use Rattle.bridge_api.specs.declared.drops.Drops.{Drops}
use Rattle.bridge_api.specs.Drops.{raised_at}
use Rattle.bridge_api.specs.View.{BridgeView, IsPort, port_at, with_drops, is_port_up, up_from, up_ports}
use Rattle.bridge_api.specs.Own.{holding_of, with_holding, originated_if_changed}
use Rattle.bridge_api.specs.Parsing.{Parsed, parsed}
use Rattle.bridge_api.specs.Parsing as parsing
use Rattle.bridge_api.specs.Hearing.{after_drop, heard_as, heard_lsp, heard_csnp, heard_psnp, after_receive}
use Rattle.bridge_api.proofs.OwnLspSteps.{lsp_settles_nothing, csnp_settles_nothing, psnp_settles_nothing}
use Rattle.bridge_api.proofs.Changes.{when_true, heard_is, deaf_is}
use Rattle.bridge_control.specs.declared.machine.Machine.{Machine}
use Rattle.bridge_control.specs.Machine.{view_of, IsCurrent, IsReady, IsAfter, heard_by as heard_in, hears}
use Rattle.bridge_control.proofs.Following.{alike_refl}
use Rattle.bridge_control.proofs.Counting.{counted_current}
use Rattle.bridge_control.proofs.Owning.{current_with, after_same}
use Rattle.bridge_control.proofs.Putting.{got}

-- ---- the machine that heard it

-- it holds this now, in which the system and its body are as before
pub record HasHeard (m : Machine) (h : Holding) : Type 0 where
  pub system : h.own.system ≡ m.own.system
  pub bodies : h.own.bodies ≡ m.own.bodies

pub heard_current : (m : Machine) (h : Holding) (db : Lsps) (own : Own) (drops : Drops) → IsReady m → HasHeard m h → holding db own ≡ h → IsCurrent (record m { db = db; own = own; drops = drops })
heard_current m h db own drops ready heard is =
    counted_current (record m { db = db; own = own }) drops
    (current_with m m.ports db own ready.current (ap (λ (x : Holding). x.own.system) is ∙ heard.system) (ap (λ (x : Holding). x.own.bodies) is ∙ heard.bodies) refl (alike_refl m.id.system 1 m.ports.items))

pub lsp_heard : (m : Machine) (up : PortSet) (p : ℕ) (l : LspValue) → IsReady m → HasHeard m (hear_lsp_of up p l (holding m.db m.own))
lsp_heard m up p l ready =
    let h : Holding = holding m.db m.own in
    let own = own_stands (lsp_rule up p l) up (claim_of l) h in
    record { system = own.0; bodies = own.1 }

pub entries_heard : (m : Machine) (up : PortSet) (p : ℕ) (claims : List Claim) → IsReady m → HasHeard m (hear_entries_of up p claims (holding m.db m.own))
entries_heard m up p claims ready =
    let h : Holding = holding m.db m.own in
    let own = entries_leave_own up p claims h in
    record { system = own.0; bodies = own.1 }

pub csnp_heard : (m : Machine) (up : PortSet) (p : ℕ) (start end : LspId) (claims : List Claim) → IsReady m → HasHeard m (hear_csnp_of up p start end claims (holding m.db m.own))
csnp_heard m up p start end claims ready = let entries = entries_heard m up p claims ready in record { system = entries.system; bodies = entries.bodies }

-- ---- by what a frame is taken for

pub hears_is : (j : Parsed) (p : ℕ) (v : BridgeView) (port : BridgePort) → port_at v p ≡ Some port → hears j p v ≡ heard_as j p port v
hears_is j p v port there = ap (λ (o : Option BridgePort). heard_in j p o v) there

pub hears_lsp : (l : LspValue) (p : ℕ) (v : BridgeView) (port : BridgePort) → port_at v p ≡ Some port → is_port_up port ≡ true → hears (parsing.lsp l) p v ≡ originated_if_changed (heard_lsp l p v)
hears_lsp l p v port there up = hears_is (parsing.lsp l) p v port there ∙ when_true (is_port_up port) (originated_if_changed (heard_lsp l p v)) (after_drop drop.NotAdjacent v) up

-- the machine that heard an LSP at an Up port
pub heard_lsp_path : (m : Machine) (up : PortSet) (p : ℕ) (l : LspValue) (db : Lsps) (own : Own) (drops : Drops) (port : BridgePort) → IsReady m → up ≡ up_from 1 m.ports.items → holding db own ≡ hear_lsp_of up p l (holding m.db m.own)
    → drops ≡ raised_at drop.Full (if is_full_for_lsp up p l (holding m.db m.own) then 1 else 0) m.drops → port_at (view_of m) p ≡ Some port → is_port_up port ≡ true → view_of (record m { db = db; own = own; drops = drops }) ≡ hears (parsing.lsp l) p (view_of m)
heard_lsp_path m up p l db own drops port ready is_up is counts there has_carrier =
    let v : BridgeView = view_of m in
    let whole : holding db own ≡ hear_lsp_of (up_ports v) p l (holding_of v) = is ∙ (λ i. hear_lsp_of (is_up i) p l (holding m.db (ready.current.own i))) in
    let full : drops ≡ (heard_lsp l p v).drops = counts ∙ (λ i. raised_at drop.Full (if is_full_for_lsp (is_up i) p l (holding m.db (ready.current.own i)) then 1 else 0) m.drops) in
    (λ i. with_drops (full i) (with_holding (whole i) v)) ∙ (sym (lsp_settles_nothing v l p ready.sound) ∙ sym (hears_lsp l p v port there has_carrier))

-- or the entries of a sequence numbers PDU
full_path : (m : Machine) (up : PortSet) (p : ℕ) (claims : List Claim) (drops : Drops) → IsReady m → up ≡ up_from 1 m.ports.items → drops ≡ raised_at drop.Full (full_count up p claims (holding m.db m.own)) m.drops
    → drops ≡ raised_at drop.Full (full_count (up_ports (view_of m)) p claims (holding_of (view_of m))) m.drops
full_path m up p claims drops ready is_up counts = counts ∙ (λ i. raised_at drop.Full (full_count (is_up i) p claims (holding m.db (ready.current.own i))) m.drops)

pub heard_psnp_path : (m : Machine) (up : PortSet) (p : ℕ) (entries : List SnpEntry) (db : Lsps) (own : Own) (drops : Drops) → IsReady m → up ≡ up_from 1 m.ports.items → holding db own ≡ hear_entries_of up p (claims_in entries) (holding m.db m.own)
    → drops ≡ raised_at drop.Full (full_count up p (claims_in entries) (holding m.db m.own)) m.drops → view_of (record m { db = db; own = own; drops = drops }) ≡ originated_if_changed (heard_psnp entries p (view_of m))
heard_psnp_path m up p entries db own drops ready is_up is counts =
    let v : BridgeView = view_of m in
    let whole : holding db own ≡ hear_entries_of (up_ports v) p (claims_in entries) (holding_of v) = is ∙ (λ i. hear_entries_of (is_up i) p (claims_in entries) (holding m.db (ready.current.own i))) in
    let full : drops ≡ (heard_psnp entries p v).drops = full_path m up p (claims_in entries) drops ready is_up counts in
    (λ i. with_drops (full i) (with_holding (whole i) v)) ∙ sym (psnp_settles_nothing v entries p ready.sound)

pub heard_csnp_path : (m : Machine) (up : PortSet) (p : ℕ) (c : CsnpValue) (entries : List SnpEntry) (db : Lsps) (own : Own) (drops : Drops) → IsReady m → up ≡ up_from 1 m.ports.items → holding db own ≡ hear_csnp_of up p c.start c.end (claims_in entries) (holding m.db m.own)
    → drops ≡ raised_at drop.Full (full_count up p (claims_in entries) (holding m.db m.own)) m.drops → view_of (record m { db = db; own = own; drops = drops }) ≡ originated_if_changed (heard_csnp c entries p (view_of m))
heard_csnp_path m up p c entries db own drops ready is_up is counts =
    let v : BridgeView = view_of m in
    let whole : holding db own ≡ hear_csnp_of (up_ports v) p c.start c.end (claims_in entries) (holding_of v) = is ∙ (λ i. hear_csnp_of (is_up i) p c.start c.end (claims_in entries) (holding m.db (ready.current.own i))) in
    let full : drops ≡ (heard_csnp c entries p v).drops = full_path m up p (claims_in entries) drops ready is_up counts in
    (λ i. with_drops (full i) (with_holding (whole i) v)) ∙ sym (csnp_settles_nothing v c entries p ready.sound)

-- a frame is heard at a port with carrier as what it is taken for
pub received_path : (v : BridgeView) (p : ℕ) (bytes : List ℕ) (j : Parsed) (port : BridgePort) → IsPort v p → port_at v p ≡ Some port → port.adjacency.carrier ≡ true → parsed bytes ≡ j → hears j p v ≡ after_receive p bytes v
received_path v p bytes j port is there has_carrier said =
    hears_is j p v port there ∙ (ap (λ (k : Parsed). heard_as k p port v) (sym said) ∙ sym (heard_is v p bytes port is.low (got v p port is there) has_carrier))

-- and dropped at one without
pub deaf_after : (m n : Machine) (p : ℕ) (bytes : List ℕ) (port : BridgePort) → IsPort (view_of m) p → port_at (view_of m) p ≡ Some port → port.adjacency.carrier ≡ false → IsAfter (after_drop drop.NotAdjacent (view_of m)) n → IsAfter (after_receive p bytes (view_of m)) n
deaf_after m n p bytes port is there none dropped = after_same _ _ n (sym (deaf_is (view_of m) p bytes port is.low (got (view_of m) p port is there) none)) dropped

pub not_true : (b : Bool) → not b ≡ true → b ≡ false
not_true true e = absurd cc
not_true false e = refl

pub not_false : (b : Bool) → not b ≡ false → b ≡ true
not_false true e = refl
not_false false e = absurd cc
