-- Every step leaves the own LSPs of a bridge alive, saying what the bridge has to say.
use Rattle.std.proofs.Common.{◌≡◌, inl, inr, ◌≤◌, ◌+◌, ◌-◌, ℕ, zero, suc, Bool, true, false, List, [], ◌∷◌, map, refl, sym, ap, ◌∙◌, subst, Option, Some, None, arith}
use Rattle.std.specs.Prelude.{nat_le, slice_set, if◌then◌else◌, ◌++◌}
use Rattle.std.specs.Option.{option_map}
use Rattle.std.specs.FinMap.{get}
use Rattle.std.proofs.lemmas.Bool.{lt-leb, true≢false}
use Rattle.std.proofs.lemmas.List.{set-set}
use Rattle.spb_types.specs.declared.address.LspId.{LspId}
use Rattle.spb_types.specs.declared.ports.PortSet.{PortSet}
use Rattle.spb_types.specs.Ports.{without_port}
use Rattle.spb_tlvs.specs.declared.neighbours.Neighbour.{Neighbour}
use Rattle.isis_pdu.specs.Pdu.{LspValue, CsnpValue}
use Rattle.spb_tlvs.specs.declared.entries.SnpEntry.{SnpEntry}
use Rattle.customer_learning.specs.Known.{Addresses}
use Rattle.lsdb.specs.declared.version.Version.{Version}
use Rattle.lsdb.specs.declared.version.Version.TheVariants.{Absent, Live, Dead}
use Rattle.lsdb.specs.Version.{is_absent}
use Rattle.lsdb.specs.Entry.{Entry, srm_set_at, flagged, flags_cleared_at, aged}
use Rattle.lsdb.specs.Database.{Lsps, version_in, each}
use Rattle.lsdb.specs.Time.{is_live, lifetime_in}
use Rattle.lsdb.proofs.LookupLemmas.{get-each}
use Rattle.flooding.specs.Own.{own_number, body_of_number}
use Rattle.flooding.specs.Hearing.{Holding, claim_of, lsp_rule, hear_lsp_of}
use Rattle.flooding.specs.Settling.{says, is_new, settled, kept_fresh, IsLspCurrent, AreCurrent, LastIfLive}
use Rattle.flooding.proofs.Owns.{own_stands}
use Rattle.flooding.proofs.HeardCurrent.{lsp_keeps_current}
use Rattle.flooding.proofs.Current.{settled_is_current, fresh_is_current, current_is_settled}
use Rattle.flooding.proofs.Settled.{settling_leaves_own}
use Rattle.snp_sync.specs.SnpEntries.{has_ssn_at}
use Rattle.snp_sync.specs.Sending.{ssn_cleared as ssn_cleared_entry, all_ssn_cleared}
use Rattle.snp_sync.specs.Hearing.{claims_in, hear_entries_of, hear_csnp_of}
use Rattle.snp_sync.proofs.Stays.{entries_leave_own, entries_keep_current, csnp_keeps_current}
use Rattle.adjacency.specs.declared.state.AdjacencyChange.{AdjacencyChange}
use Rattle.adjacency.specs.declared.state.AdjacencyChange.TheVariants.{Kept, CameUp, LeftUp, Discarded}
use Rattle.adjacency.specs.Adjacency.{after_hello, change_by_hello, after_carrier, change_of}
use Rattle.spb_types.specs.declared.service.Attachment.{Attachment}
use Rattle.bridge_api.specs.declared.port.BridgePort.{BridgePort}
use Rattle.bridge_api.specs.declared.drops.Drops.{Drops}
use Rattle.spb_types.specs.declared.drop_reason.DropReason.TheVariants as drop
use Rattle.bridge_api.specs.Drops.{raised_at}
use Rattle.bridge_api.specs.View.{BridgeView, with_port_at, is_port_up, up_ports, with_drops}
use Rattle.bridge_api.specs.Own.{neighbour_in, neighbours_from, bodies_of, body_at, holding_of, with_holding, own_entry, Lasts, IsAlive, originated_if_changed}
use Rattle.bridge_api.specs.Hearing.{with_csnp_due, with_adjacency, left_up, all_srm_set_at, changed_at, heard_lsp, heard_csnp, heard_psnp, after_receive, with_port_metric}
use Rattle.bridge_api.specs.Ticking.{leaving_from, flags_cleared_at_all, counts_lowered, expired, refreshed, readied, after_sending_at, after_sending_from, after_sending, after_tick}
use Rattle.bridge_api.specs.Customers.{with_learned, after_entry}
use Rattle.bridge_api.specs.Services.{with_attached, without_customer_port, with_port_forgotten}
use Rattle.bridge_api.specs.Step.{Input, second, frame, carrier, metric, attach, detach, customer, step}
use Rattle.bridge_api.specs.Laws.{IsSoundView, LspSettlesNothing, CsnpSettlesNothing, PsnpSettlesNothing}
use Rattle.bridge_api.proofs.Changes.{frame_step, idle, by_hello, by_lsp, by_csnp, by_psnp, carrier_step, metric_step, originated_if_changed_ports, tick_is, attached_to, with_attached_is}
use Rattle.bridge_api.proofs.Bodies.{held_bodies, moved_bodies, same_at}

-- unless its sequence numbers are spent, each own LSP of a bridge is alive and says what the bridge has to say
abbrev pub IsSaying : BridgeView → Type 0
IsSaying v = AreCurrent (holding_of v)

-- those that are live last so long
abbrev Last : ℕ → BridgeView → Type 0
Last least v = v.spent ≡ false → LastIfLive least (holding_of v)

abbrev pub Ages : ℕ → Option Entry → Type 0
Ages least o = is_live (version_in o) ≡ true → (least ≤ lifetime_in o) × (lifetime_in o ≤ 1200)

lasts_by : (a : Version) (lifetime : ℕ) → Lasts a lifetime → (301 ≤ lifetime) × (lifetime ≤ 1200)
lasts_by Absent lifetime lasts = absurd lasts
lasts_by (Live seq sum) lifetime lasts = lasts
lasts_by (Dead seq) lifetime lasts = absurd lasts

alive_lasts : (o : Option Entry) → IsAlive o → (301 ≤ lifetime_in o) × (lifetime_in o ≤ 1200)
alive_lasts None alive = absurd alive
alive_lasts (Some e) alive = lasts_by e.version e.lifetime alive

pub current_ages : (text : Option (List ℕ)) (o : Option Entry) → IsLspCurrent text o → Ages 301 o
current_ages None o is live = absurd (true≢false (sym live ∙ is))
current_ages (Some body) o is live = alive_lasts o is.1

still_last : (v : BridgeView) → IsSaying v → Last 301 v
still_last v was fresh number below = current_ages (body_at v number) (own_entry v number) (was fresh number below)

-- ---- what the bridge has to say

-- whether CSNPs are due isn't said
pub neighbours_without_csnp_due : (p : ℕ) (ports : List BridgePort) → neighbours_from p (map (with_csnp_due false) ports) ≡ neighbours_from p ports
neighbours_without_csnp_due p [] = refl
neighbours_without_csnp_due p (port ∷ ports) = ap (λ (list : List Neighbour). if is_port_up port then neighbour_in p port ∷ list else list) (neighbours_without_csnp_due (p + 1) ports)

pub neighbours_with_csnp_due : (p i : ℕ) (port : BridgePort) (ports : List BridgePort) → neighbours_from p (slice_set ports i (with_csnp_due true port)) ≡ neighbours_from p (slice_set ports i (with_csnp_due false port))
neighbours_with_csnp_due p i port [] = refl
neighbours_with_csnp_due p zero port (x ∷ ports) = refl
neighbours_with_csnp_due p (suc i) port (x ∷ ports) = ap (λ (list : List Neighbour). if is_port_up x then neighbour_in p x ∷ list else list) (neighbours_with_csnp_due (p + 1) i port ports)

-- the bridge that holds what is current
held_saying : (h : Holding) (v : BridgeView) → h.own.system ≡ v.id.system → h.own.bodies ≡ bodies_of v → AreCurrent h → IsSaying (with_holding h v)
held_saying h v system bodies is fresh number below =
    subst (λ (b : Option (List ℕ)). IsLspCurrent b (get h.db (own_number v.id.system number))) (same_at number h.own.bodies (bodies_of (with_holding h v)) (bodies ∙ sym (held_bodies h v)))
    (subst (λ x. IsLspCurrent (body_of_number h.own number) (get h.db (own_number x number))) system (is fresh number below))

-- the counts aren't said
counted_saying : (drops : Drops) (v : BridgeView) → IsSaying v → IsSaying (with_drops drops v)
unfolding bodies_of
counted_saying drops v was = was

-- ---- own LSPs are brought up to date

originated_if_changed_saying : (v : BridgeView) → Last 301 v → IsSaying (originated_if_changed v)
unfolding originated_if_changed
originated_if_changed_saying v last =
    let up : PortSet = up_ports v in
    let h : Holding = holding_of v in
    let own = settling_leaves_own says up h in
    held_saying (settled up h) v own.0 own.1 (settled_is_current up h last)

-- a bridge whose own LSPs say what it has to say, or whose sequence numbers are spent, originates nothing
pub saying_settles : (v : BridgeView) → IsSaying v → originated_if_changed v ≡ v
unfolding originated_if_changed
saying_settles v was = ap (λ (h : Holding). with_holding h v) (current_is_settled (up_ports v) (holding_of v) was)

-- ---- what is heard

heard_lsp_saying : (l : LspValue) (p : ℕ) (v : BridgeView) → IsSaying v → IsSaying (heard_lsp l p v)
heard_lsp_saying l p v was =
    let up : PortSet = up_ports v in
    let h : Holding = holding_of v in
    let own = own_stands (lsp_rule up p l) up (claim_of l) h in
    counted_saying (heard_lsp l p v).drops (with_holding (hear_lsp_of up p l h) v) (held_saying (hear_lsp_of up p l h) v own.0 own.1 (lsp_keeps_current up p l h was))

heard_csnp_saying : (c : CsnpValue) (entries : List SnpEntry) (p : ℕ) (v : BridgeView) → IsSaying v → IsSaying (heard_csnp c entries p v)
heard_csnp_saying c entries p v was =
    let up : PortSet = up_ports v in
    let h : Holding = holding_of v in
    let g : Holding = hear_csnp_of up p c.start c.end (claims_in entries) h in
    let own = entries_leave_own up p (claims_in entries) h in
    counted_saying (heard_csnp c entries p v).drops (with_holding g v) (held_saying g v own.0 own.1 (csnp_keeps_current up p c.start c.end (claims_in entries) h was))

heard_psnp_saying : (entries : List SnpEntry) (p : ℕ) (v : BridgeView) → IsSaying v → IsSaying (heard_psnp entries p v)
heard_psnp_saying entries p v was =
    let up : PortSet = up_ports v in
    let h : Holding = holding_of v in
    let g : Holding = hear_entries_of up p (claims_in entries) h in
    let own = entries_leave_own up p (claims_in entries) h in
    counted_saying (heard_psnp entries p v).drops (with_holding g v) (held_saying g v own.0 own.1 (entries_keep_current up p (claims_in entries) h was))

pub was_saying : (v : BridgeView) → IsSoundView v → IsSaying v
was_saying v was = was.own.current

pub lsp_settles_nothing : LspSettlesNothing
lsp_settles_nothing v l p was = saying_settles (heard_lsp l p v) (heard_lsp_saying l p v (was_saying v was))

pub csnp_settles_nothing : CsnpSettlesNothing
csnp_settles_nothing v c entries p was = saying_settles (heard_csnp c entries p v) (heard_csnp_saying c entries p v (was_saying v was))

pub psnp_settles_nothing : PsnpSettlesNothing
psnp_settles_nothing v entries p was = saying_settles (heard_psnp entries p v) (heard_psnp_saying entries p v (was_saying v was))

-- ---- something came to pass at a port

-- an entry changed that lasts as long
mapped_ages : (least more : ℕ) (f : Entry → Entry) (o : Option Entry) → ((e : Entry) → Ages more (Some e) → Ages least (Some (f e))) → Ages more o → Ages least (option_map f o)
mapped_ages least more f None keeps ages = λ live. absurd cc
mapped_ages least more f (Some e) keeps ages = keeps e ages

left_last : (p : ℕ) (port : BridgePort) (v : BridgeView) → Last 301 v → Last 301 (left_up p port v)
left_last p port v last fresh number below =
    subst (Ages 301) (sym (get-each (λ id e. flags_cleared_at p e) v.database (own_number v.id.system number)))
    (mapped_ages 301 301 (flags_cleared_at p) (own_entry v number) (λ e is. is) (last fresh number below))

-- an entry changed in its flags alone
pub mapped_says : (body : Option (List ℕ)) (f : Entry → Entry) (o : Option Entry) → ((e : Entry) → IsLspCurrent body (Some e) → IsLspCurrent body (Some (f e))) → IsLspCurrent body o → IsLspCurrent body (option_map f o)
mapped_says body f None keeps says = says
mapped_says body f (Some e) keeps says = keeps e says

srm_set_says : (body : Option (List ℕ)) (p : ℕ) (e : Entry) (b : Bool) → IsLspCurrent body (Some e) → IsLspCurrent body (Some (if b then e else flagged p e))
srm_set_says None p e true says = says
srm_set_says None p e false says = says
srm_set_says (Some body) p e true says = says
srm_set_says (Some body) p e false says = says

-- the bridge with ports that have the same neighbours, and with every entry changed in its flags alone
pub moved_saying : (ports : List BridgePort) (db : Lsps) (v : BridgeView) → neighbours_from 1 ports ≡ neighbours_from 1 v.ports
    → ((number : ℕ) → IsLspCurrent (body_at v number) (own_entry v number) → IsLspCurrent (body_at v number) (get db (own_number v.id.system number)))
    → IsSaying v → IsSaying (record v { ports = ports; database = db })
moved_saying ports db v same keeps was fresh number below =
    subst (λ (b : Option (List ℕ)). IsLspCurrent b (get db (own_number v.id.system number))) (same_at number (bodies_of v) (bodies_of (record v { ports = ports; database = db })) (sym (moved_bodies ports db v same)))
    (keeps number (was fresh number below))

srm_set_saying : (p : ℕ) (port : BridgePort) (v : BridgeView) → neighbours_from 1 (slice_set v.ports (p - 1) (with_csnp_due true port)) ≡ neighbours_from 1 v.ports → IsSaying v → IsSaying (all_srm_set_at p port v)
srm_set_saying p port v same was =
    moved_saying (slice_set v.ports (p - 1) (with_csnp_due true port)) (each (λ x e. srm_set_at p e) v.database) v same
    (λ number says. subst (IsLspCurrent (body_at v number)) (sym (get-each (λ x e. srm_set_at p e) v.database (own_number v.id.system number)))
    (mapped_says (body_at v number) (srm_set_at p) (own_entry v number) (λ e. srm_set_says (body_at v number) p e (is_absent e.version)) says)) was

changed_saying : (heard : AdjacencyChange) (p : ℕ) (port : BridgePort) (v : BridgeView) → IsSaying v → IsSaying (changed_at heard p port v)
changed_saying Discarded p port v was = counted_saying (raised_at drop.Hello 1 v.drops) v was
changed_saying Kept p port v was = originated_if_changed_saying (with_port_at p port v) (still_last v was)
changed_saying LeftUp p port v was = originated_if_changed_saying (left_up p port v) (left_last p port v (still_last v was))
changed_saying CameUp p port v was =
    let w : BridgeView = left_up p port v in
    let ports : (originated_if_changed w).ports ≡ slice_set v.ports (p - 1) (with_csnp_due false port) = originated_if_changed_ports w in
    let same : neighbours_from 1 (slice_set (originated_if_changed w).ports (p - 1) (with_csnp_due true port)) ≡ neighbours_from 1 (originated_if_changed w).ports =
    ap (λ (list : List BridgePort). neighbours_from 1 (slice_set list (p - 1) (with_csnp_due true port))) ports
    ∙ (ap (neighbours_from 1) (set-set v.ports (p - 1) (with_csnp_due false port) (with_csnp_due true port))
    ∙ (neighbours_with_csnp_due 1 (p - 1) port v.ports ∙ ap (neighbours_from 1) (sym ports))) in
    srm_set_saying p port (originated_if_changed w) same (originated_if_changed_saying w (left_last p port v (still_last v was)))

-- ---- a second

-- an LSP a second later is live for 300 seconds or more
aged_by : (up : PortSet) (a : Version) (lifetime : ℕ) (body : List ℕ) (srm ssn : PortSet) → Ages 301 (Some (record { version = a; lifetime = lifetime; body = body; srm = srm; ssn = ssn })) → Ages 300 (Some (aged up (record { version = a; lifetime = lifetime; body = body; srm = srm; ssn = ssn })))
aged_by up Absent lifetime body srm ssn ages live = absurd cc
aged_by up (Live seq sum) lifetime body srm ssn ages live =
    let range = ages refl in
    let more : nat_le lifetime 1 ≡ false = lt-leb lifetime 1 (omega (arith, range.0)) in
    rw more (omega (arith, range.0), omega (arith, range.1))
aged_by up (Dead seq) lifetime body srm ssn ages live = absurd cc

flags_cleared_ages : (ps : List ℕ) (e : Entry) → Ages 301 (Some e) → Ages 301 (Some (flags_cleared_at_all ps e))
flags_cleared_ages [] e ages = ages
flags_cleared_ages (p ∷ ps) e ages = flags_cleared_ages ps (flags_cleared_at p e) ages

counts_lowered_last : (v : BridgeView) → Last 301 v → Last 301 (counts_lowered v)
counts_lowered_last v last fresh number below =
    let ps : List ℕ = leaving_from 1 v.ports in
    subst (Ages 301) (sym (get-each (λ id e. flags_cleared_at_all ps e) v.database (own_number v.id.system number)))
    (mapped_ages 301 301 (flags_cleared_at_all ps) (own_entry v number) (flags_cleared_ages ps) (last fresh number below))

expired_last : (v : BridgeView) → Last 301 v → Last 300 (expired v)
expired_last v last fresh number below =
    let up : PortSet = up_ports v in
    subst (Ages 300) (sym (get-each (λ id e. aged up e) v.database (own_number v.id.system number)))
    (mapped_ages 300 301 (aged up) (own_entry v number) (λ e ages. aged_by up e.version e.lifetime e.body e.srm e.ssn ages) (last fresh number below))

refreshed_saying : (v : BridgeView) → Last 300 v → IsSaying (refreshed v)
unfolding refreshed
refreshed_saying v last =
    let up : PortSet = up_ports v in
    let h : Holding = holding_of v in
    let own = settling_leaves_own is_new up h in
    held_saying (kept_fresh up h) v own.0 own.1 (fresh_is_current up h last)

-- what had SSN was sent
ssn_says : (body : Option (List ℕ)) (p : ℕ) (e : Entry) (b : Bool) → IsLspCurrent body (Some e) → IsLspCurrent body (Some (if b then record e { ssn = without_port e.ssn p } else e))
ssn_says None p e true says = says
ssn_says None p e false says = says
ssn_says (Some body) p e true says = says
ssn_says (Some body) p e false says = says

ssn_cleared_says : (body : Option (List ℕ)) (id : LspId) (p : ℕ) (db : Lsps) → IsLspCurrent body (get db id) → IsLspCurrent body (get (all_ssn_cleared p db) id)
ssn_cleared_says body id p db says =
    subst (IsLspCurrent body) (sym (get-each (λ x e. ssn_cleared_entry p e) db id)) (mapped_says body (ssn_cleared_entry p) (get db id) (λ e. ssn_says body p e (has_ssn_at p e)) says)

after_sending_at_says : (body : Option (List ℕ)) (id : LspId) (p : ℕ) (b : Bool) (db : Lsps) → IsLspCurrent body (get db id) → IsLspCurrent body (get (if b then all_ssn_cleared p db else db) id)
after_sending_at_says body id p true db says = ssn_cleared_says body id p db says
after_sending_at_says body id p false db says = says

after_sending_from_says : (body : Option (List ℕ)) (id : LspId) (p : ℕ) (ports : List BridgePort) (db : Lsps) → IsLspCurrent body (get db id) → IsLspCurrent body (get (after_sending_from p ports db) id)
after_sending_from_says body id p [] db says = says
after_sending_from_says body id p (port ∷ ports) db says = after_sending_from_says body id (p + 1) ports (after_sending_at p port db) (after_sending_at_says body id p (is_port_up port) db says)

after_sending_saying : (v : BridgeView) → IsSaying v → IsSaying (after_sending v)
after_sending_saying v was =
    moved_saying (map (with_csnp_due false) v.ports) (after_sending_from 1 v.ports v.database) v (neighbours_without_csnp_due 1 v.ports)
    (λ number says. after_sending_from_says (body_at v number) (own_number v.id.system number) 1 v.ports v.database says) was

tick_saying : (v : BridgeView) → IsSaying v → IsSaying (after_tick v)
tick_saying v was =
    let w : BridgeView = counts_lowered v in
    subst IsSaying (sym (tick_is v)) (after_sending_saying (readied v) (refreshed_saying (expired w) (expired_last w (counts_lowered_last v (still_last v was)))))

-- ---- every step

-- what was learned and counted isn't said
learned_saying : (learned : Addresses) (drops : Drops) (v : BridgeView) → IsSaying v → IsSaying (with_drops drops (with_learned learned v))
unfolding bodies_of
learned_saying learned drops v was = was

frame_saying : (q : ℕ) (bytes : List ℕ) (v : BridgeView) → IsSaying v → IsSaying (after_receive q bytes v)
frame_saying q bytes v was =
    elim (frame_step v q bytes) [
      | idle learned how e ↦ subst IsSaying (sym e) (learned_saying learned (after_receive q bytes v).drops v was)
      | by_hello g ↦
          subst IsSaying (sym g.after)
          (changed_saying (change_by_hello v.id.system q g.hello g.way g.port.adjacency) q (with_adjacency (after_hello v.id.system q g.hello g.way g.port.adjacency) g.port) v was)
      | by_lsp g ↦ subst IsSaying (sym g.after) (originated_if_changed_saying (heard_lsp g.lsp q v) (still_last (heard_lsp g.lsp q v) (heard_lsp_saying g.lsp q v was)))
      | by_csnp g ↦ subst IsSaying (sym g.after) (originated_if_changed_saying (heard_csnp g.csnp g.entries q v) (still_last (heard_csnp g.csnp g.entries q v) (heard_csnp_saying g.csnp g.entries q v was)))
      | by_psnp g ↦ subst IsSaying (sym g.after) (originated_if_changed_saying (heard_psnp g.entries q v) (still_last (heard_psnp g.entries q v) (heard_psnp_saying g.entries q v was)))
    ]

attached_saying : (attached : List Attachment) (v : BridgeView) → IsSaying v → IsSaying (with_attached attached v)
attached_saying attached v was = subst IsSaying (sym (with_attached_is attached v)) (originated_if_changed_saying (attached_to attached v) (still_last v was))

pub steps_stay_saying : (input : Input) (v : BridgeView) → IsSaying v → IsSaying (step input v)
unfolding with_port_forgotten after_entry
steps_stay_saying second v was = tick_saying v was
steps_stay_saying (frame q bytes) v was = frame_saying q bytes v was
steps_stay_saying (carrier q on) v was =
    elim (carrier_step v q on) [
      | inl e ↦ subst IsSaying (sym e) was
      | inr g ↦ subst IsSaying (sym g.after) (changed_saying (change_of g.port.adjacency (after_carrier on g.port.adjacency)) q (with_adjacency (after_carrier on g.port.adjacency) g.port) v was)
    ]
steps_stay_saying (metric q m) v was =
    elim (metric_step v q m) [
      | inl e ↦ subst IsSaying (sym e) was
      | inr g ↦ subst IsSaying (sym g.after) (originated_if_changed_saying (with_port_at q (with_port_metric m g.port) v) (still_last v was))
    ]
steps_stay_saying (attach a) v was = attached_saying (v.attached ++ a ∷ []) v was
steps_stay_saying (detach p) v was = attached_saying (without_customer_port p v.attached) (with_port_forgotten p v) (learned_saying (with_port_forgotten p v).learned v.drops v was)
steps_stay_saying (customer p bytes) v was = learned_saying (after_entry p bytes v).learned (after_entry p bytes v).drops v was
