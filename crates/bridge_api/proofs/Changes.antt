-- What a step makes of the ports, one by one, and what it leaves as it was.
use Rattle.std.proofs.Common.{◌≡◌, ◌≢◌, ◌⊎◌, inl, inr, ◌≤◌, ◌-◌, ℕ, Bool, true, false, List, map, refl, sym, ap, ◌∙◌, subst, Option, Some, None, Result, Ok, Err, arith}
use Rattle.std.specs.Prelude.{slice_get, slice_set, nat_le, if◌then◌else◌}
use Rattle.std.specs.Option.{option_map}
use Rattle.std.proofs.lemmas.List.{set-set}
use Rattle.std.proofs.lemmas.Option.{slice_get-map, slice_get_within}
use Rattle.std.proofs.lemmas.Bool.{le-leb, leb-true, cases_eq}
use Rattle.spb_types.specs.declared.address.Mac.{Mac}
use Rattle.spb_types.specs.declared.service.Attachment.{Attachment}
use Rattle.spb_types.specs.declared.service.Isid.{Isid}
use Rattle.spb_types.specs.declared.service.Vid.{Vid}
use Rattle.isis_pdu.specs.Pdu.{HelloValue, LspValue, CsnpValue, PsnpValue}
use Rattle.spb_tlvs.specs.declared.error.TlvError.{TlvError}
use Rattle.spb_tlvs.specs.declared.entries.SnpEntry.{SnpEntry}
use Rattle.spb_tlvs.specs.declared.three_way.ThreeWay.{ThreeWay}
use Rattle.customer_learning.specs.Known.{Addresses}
use Rattle.forwarding.specs.Tenant.{after_backbone}
use Rattle.spb_types.specs.declared.drop_reason.DropReason.{DropReason}
use Rattle.spb_types.specs.declared.drop_reason.DropReason.TheVariants as drop
use Rattle.lsdb.specs.Database.{Lsps}
use Rattle.snp_sync.specs.Reading.{entries_in}
use Rattle.adjacency.specs.declared.state.AdjacencyChange.{AdjacencyChange}
use Rattle.adjacency.specs.declared.state.AdjacencyChange.TheVariants.{Kept, CameUp, LeftUp, Discarded}
use Rattle.adjacency.specs.declared.port.Adjacency.{Adjacency}
use Rattle.adjacency.specs.Adjacency.{after_hello, change_by_hello, after_carrier, change_of}
use Rattle.bridge_api.specs.declared.port.BridgePort.{BridgePort}
use Rattle.bridge_api.specs.declared.config.BridgeConfig.{BridgeConfig}
use Rattle.bridge_api.specs.declared.drops.Drops.{Drops}
use Rattle.bridge_api.specs.View.{BridgeView, port_in, port_at, with_port_at, with_drops, is_port_up, up_ports}
use Rattle.flooding.specs.Settling.{Test, settled_by}
use Rattle.bridge_api.specs.Own.{holding_of, with_holding, originated_if_changed}
use Rattle.bridge_api.specs.Config.{bare, configured}
use Rattle.bridge_api.specs.Parsing.{Parsed, parsed}
use Rattle.bridge_api.specs.Parsing as parsing
use Rattle.bridge_api.specs.Hearing.{after_drop, with_csnp_due, with_adjacency, left_up, changed_at, all_srm_set_at, heard_lsp, heard_csnp, heard_psnp, with_csnp, with_psnp, heard_as, heard_at, heard_hello, after_receive, with_carrier_at, with_carrier, with_port_metric, with_metric_at, with_metric}
use Rattle.bridge_api.specs.Tables.{own_tables}
use Rattle.bridge_api.specs.Customers.{tenant_of, with_learned, carried_by, after_entry}
use Rattle.bridge_api.specs.Services.{with_attached, with_port_forgotten}
use Rattle.bridge_api.specs.Ports.{noted, heard_hello_port, with_carrier_port}
use Rattle.bridge_api.specs.Ticking.{later, counts_lowered, expired, refreshed, readied, after_sending, after_tick}
use Rattle.bridge_api.proofs.Places.{port_found, set_again, got_at, got_beside}
use Rattle.bridge_api.proofs.Adjacent.{kept_whole, not_discarded}

-- ---- what flooding leaves as it was

-- the bridge with other LSPs, and spent or not
abbrev pub with_lsps : Lsps → Bool → BridgeView → BridgeView
with_lsps db spent v = record v { database = db; spent = spent }

-- and with other ports and counts
abbrev pub with_and_parts : List BridgePort → Lsps → Bool → Drops → BridgeView → BridgeView
with_and_parts ports db spent drops v = record v { ports = ports; database = db; spent = spent; drops = drops }

-- nothing else changed
abbrev pub KeepsRest : BridgeView → BridgeView → Type 0
KeepsRest v w = w ≡ with_and_parts w.ports w.database w.spent w.drops v

-- what is nothing but a bridge that keeps the rest keeps it
pub rest_of : (v w u : BridgeView) → w ≡ u → KeepsRest v u → KeepsRest v w
rest_of v w u e rest = subst (KeepsRest v) (sym e) rest

-- the bridge after its own LSP was brought up to date, by a test of it
abbrev pub settling : Test → BridgeView → BridgeView
settling stands v = with_holding (settled_by stands (up_ports v) (holding_of v)) v

pub originated_if_changed_is : (v : BridgeView) → originated_if_changed v ≡ with_lsps (originated_if_changed v).database (originated_if_changed v).spent v
unfolding originated_if_changed
originated_if_changed_is v = refl

pub originated_if_changed_ports : (v : BridgeView) → (originated_if_changed v).ports ≡ v.ports
originated_if_changed_ports v = ap (λ (u : BridgeView). u.ports) (originated_if_changed_is v)

pub originated_if_changed_rest : (v u : BridgeView) → KeepsRest v u → KeepsRest v (originated_if_changed u)
originated_if_changed_rest v u rest =
    originated_if_changed_is u
    ∙ (ap (λ (x : BridgeView). with_lsps (originated_if_changed u).database (originated_if_changed u).spent x) rest
    ∙ ap (λ (x : BridgeView). with_and_parts x.ports (originated_if_changed u).database (originated_if_changed u).spent x.drops v) (sym (originated_if_changed_is u)))

pub refreshed_is : (v : BridgeView) → refreshed v ≡ with_lsps (refreshed v).database (refreshed v).spent v
unfolding refreshed
refreshed_is v = refl

pub refreshed_ports : (v : BridgeView) → (refreshed v).ports ≡ v.ports
refreshed_ports v = ap (λ (u : BridgeView). u.ports) (refreshed_is v)

pub refreshed_rest : (v u : BridgeView) → KeepsRest v u → KeepsRest v (refreshed u)
refreshed_rest v u rest =
    refreshed_is u
    ∙ (ap (λ (x : BridgeView). with_lsps (refreshed u).database (refreshed u).spent x) rest
    ∙ ap (λ (x : BridgeView). with_and_parts x.ports (refreshed u).database (refreshed u).spent x.drops v) (sym (refreshed_is u)))

pub configured_is : (c : BridgeConfig) → configured c ≡ with_lsps (configured c).database (configured c).spent (bare c)
unfolding configured
configured_is c = refl

pub configured_ports : (c : BridgeConfig) → (configured c).ports ≡ (bare c).ports
configured_ports c = ap (λ (u : BridgeView). u.ports) (configured_is c)

-- ---- one port changed

-- a port that is found has a number from 1 on
found_at : (b : Bool) (ports : List BridgePort) (q : ℕ) (port : BridgePort) → nat_le 1 q ≡ b → (if b then slice_get ports (q - 1) else None) ≡ Some port → (1 ≤ q) × (slice_get ports (q - 1) ≡ Some port)
found_at true ports q port low found = (leb-true 1 q low, found)
found_at false ports q port low found = absurd cc

pub found : (ports : List BridgePort) (q : ℕ) (port : BridgePort) → port_in ports q ≡ Some port → (1 ≤ q) × (slice_get ports (q - 1) ≡ Some port)
found ports q port is = found_at (nat_le 1 q) ports q port refl is

beside_at : (b : Bool) (ports : List BridgePort) (q p : ℕ) (to : BridgePort) → nat_le 1 p ≡ b → 1 ≤ q → p ≢ q → (if b then slice_get (slice_set ports (q - 1) to) (p - 1) else None) ≡ (if b then slice_get ports (p - 1) else None)
beside_at true ports q p to low lowq apart = let low : 1 ≤ p = leb-true 1 p low in got_beside ports (q - 1) (p - 1) to (λ e. apart (omega arith))
beside_at false ports q p to low lowq apart = refl

-- where the port of one number changed, each port is that one or as it was
pub one_port : (ports : List BridgePort) (q : ℕ) (from to : BridgePort) (p : ℕ) → 1 ≤ q → slice_get ports (q - 1) ≡ Some from → ((p ≡ q) × (port_in (slice_set ports (q - 1) to) p ≡ Some to)) ⊎ (port_in (slice_set ports (q - 1) to) p ≡ port_in ports p)
one_port ports q from to p low is =
    elim (cases_eq p q) [
      | inl e ↦ inl (e, rw (e, le-leb 1 q low) (got_at ports (q - 1) to (slice_get_within ports (q - 1) from is)))
      | inr apart ↦ inr (beside_at (nat_le 1 p) ports q p to refl low apart)
    ]

-- ---- something came to pass at a port

pub changed_ports : (heard : AdjacencyChange) (p : ℕ) (old new : BridgePort) (v : BridgeView) → slice_get v.ports (p - 1) ≡ Some old → (heard ≡ Discarded → new ≡ old) → (changed_at heard p new v).ports ≡ slice_set v.ports (p - 1) (noted heard new)
changed_ports Discarded p old new v is whole = rw (whole refl) (sym (set_again v.ports (p - 1) old is))
changed_ports Kept p old new v is whole = originated_if_changed_ports (with_port_at p new v)
changed_ports LeftUp p old new v is whole = originated_if_changed_ports (left_up p new v)
changed_ports CameUp p old new v is whole =
    ap (λ (ports : List BridgePort). slice_set ports (p - 1) (with_csnp_due true new)) (originated_if_changed_ports (left_up p new v)) ∙ set-set v.ports (p - 1) (with_csnp_due false new) (with_csnp_due true new)

pub changed_rest : (heard : AdjacencyChange) (p : ℕ) (new : BridgePort) (v : BridgeView) → KeepsRest v (changed_at heard p new v)
changed_rest Discarded p new v = refl
changed_rest Kept p new v = originated_if_changed_rest v (with_port_at p new v) refl
changed_rest LeftUp p new v = originated_if_changed_rest v (left_up p new v) refl
changed_rest CameUp p new v =
    let u : BridgeView = originated_if_changed (left_up p new v) in
    let w : BridgeView = all_srm_set_at p new u in
    ap (λ (x : BridgeView). record x { ports = w.ports; database = w.database }) (originated_if_changed_rest v (left_up p new v) refl)

-- ---- a frame

-- a frame was the hello of a neighbour, heard at a port with carrier
pub record HelloStep (v : BridgeView) (q : ℕ) (bytes : List ℕ) (w : BridgeView) : Type 0 where
  pub port : BridgePort
  pub hello : HelloValue
  pub way : ThreeWay
  pub there : port_at v q ≡ Some port
  pub carrier : port.adjacency.carrier ≡ true
  pub is : parsed bytes ≡ parsing.hello hello way
  pub after : w ≡ heard_hello hello way q port v

-- or an LSP, a CSNP or a PSNP, heard at a port that is Up, with the entries that were read in an SNP
pub record LspStep (v : BridgeView) (q : ℕ) (bytes : List ℕ) (w : BridgeView) : Type 0 where
  pub port : BridgePort
  pub lsp : LspValue
  pub there : port_at v q ≡ Some port
  pub carrier : port.adjacency.carrier ≡ true
  pub up : is_port_up port ≡ true
  pub is : parsed bytes ≡ parsing.lsp lsp
  pub after : w ≡ originated_if_changed (heard_lsp lsp q v)

pub record CsnpStep (v : BridgeView) (q : ℕ) (bytes : List ℕ) (w : BridgeView) : Type 0 where
  pub port : BridgePort
  pub csnp : CsnpValue
  pub entries : List SnpEntry
  pub there : port_at v q ≡ Some port
  pub carrier : port.adjacency.carrier ≡ true
  pub up : is_port_up port ≡ true
  pub is : parsed bytes ≡ parsing.csnp csnp
  pub read : entries_in csnp.tlvs ≡ Ok entries
  pub after : w ≡ originated_if_changed (heard_csnp csnp entries q v)

pub record PsnpStep (v : BridgeView) (q : ℕ) (bytes : List ℕ) (w : BridgeView) : Type 0 where
  pub port : BridgePort
  pub psnp : PsnpValue
  pub entries : List SnpEntry
  pub there : port_at v q ≡ Some port
  pub carrier : port.adjacency.carrier ≡ true
  pub up : is_port_up port ≡ true
  pub is : parsed bytes ≡ parsing.psnp psnp
  pub read : entries_in psnp.tlvs ≡ Ok entries
  pub after : w ≡ originated_if_changed (heard_psnp entries q v)

-- what is learned of a frame: nothing, or it carries a customer's frame
pub data Learns (v : BridgeView) (q : ℕ) (bytes : List ℕ) (learned : Addresses) : Type 0 where
  nothing_new : learned ≡ v.learned → Learns v q bytes learned
  from_customer : (da sa : Mac) (vid : Vid) (isid : Isid) (f : List ℕ) → parsed bytes ≡ parsing.customer da sa vid isid f → learned ≡ (after_backbone (tenant_of v) (own_tables v) q (carried_by da sa vid isid f)).learned → Learns v q bytes learned

-- what a frame did: nothing but that something is learned or counted, or one of these
pub data FrameStep (v : BridgeView) (q : ℕ) (bytes : List ℕ) (w : BridgeView) : Type 0 where
  idle : (learned : Addresses) → Learns v q bytes learned → w ≡ with_drops w.drops (with_learned learned v) → FrameStep v q bytes w
  by_hello : HelloStep v q bytes w → FrameStep v q bytes w
  by_lsp : LspStep v q bytes w → FrameStep v q bytes w
  by_csnp : CsnpStep v q bytes w → FrameStep v q bytes w
  by_psnp : PsnpStep v q bytes w → FrameStep v q bytes w

idles : (v : BridgeView) (q : ℕ) (bytes : List ℕ) → FrameStep v q bytes v
idles v q bytes = idle v.learned (nothing_new refl) refl

drops_it : (reason : DropReason) (v : BridgeView) (q : ℕ) (bytes : List ℕ) → FrameStep v q bytes (after_drop reason v)
drops_it reason v q bytes = idle v.learned (nothing_new refl) refl

-- at a port that is Up, or not
if_up : (b : Bool) (v w : BridgeView) (q : ℕ) (bytes : List ℕ) → (b ≡ true → FrameStep v q bytes w) → FrameStep v q bytes (if b then w else after_drop drop.NotAdjacent v)
if_up true v w q bytes up = up refl
if_up false v w q bytes up = drops_it drop.NotAdjacent v q bytes

csnp_is_read_as : (es : Result (List SnpEntry) TlvError) (c : CsnpValue) (v : BridgeView) (q : ℕ) (bytes : List ℕ) (port : BridgePort) → entries_in c.tlvs ≡ es → parsed bytes ≡ parsing.csnp c → port_at v q ≡ Some port → port.adjacency.carrier ≡ true → is_port_up port ≡ true → FrameStep v q bytes (with_csnp c es q v)
csnp_is_read_as (Ok es) c v q bytes port read is there has_carrier up = by_csnp (record { port = port; csnp = c; entries = es; there = there; carrier = has_carrier; up = up; is = is; read = read; after = refl })
csnp_is_read_as (Err e) c v q bytes port read is there has_carrier up = drops_it drop.Tlv v q bytes

psnp_is_read_as : (es : Result (List SnpEntry) TlvError) (s : PsnpValue) (v : BridgeView) (q : ℕ) (bytes : List ℕ) (port : BridgePort) → entries_in s.tlvs ≡ es → parsed bytes ≡ parsing.psnp s → port_at v q ≡ Some port → port.adjacency.carrier ≡ true → is_port_up port ≡ true → FrameStep v q bytes (with_psnp es q v)
psnp_is_read_as (Ok es) s v q bytes port read is there has_carrier up = by_psnp (record { port = port; psnp = s; entries = es; there = there; carrier = has_carrier; up = up; is = is; read = read; after = refl })
psnp_is_read_as (Err e) s v q bytes port read is there has_carrier up = drops_it drop.Tlv v q bytes

by_kind : (j : Parsed) (v : BridgeView) (q : ℕ) (bytes : List ℕ) (port : BridgePort) → parsed bytes ≡ j → port_at v q ≡ Some port → port.adjacency.carrier ≡ true → FrameStep v q bytes (heard_as j q port v)
by_kind (parsing.dropped reason) v q bytes port e there has_carrier = drops_it reason v q bytes
by_kind (parsing.hello h way) v q bytes port e there has_carrier = by_hello (record { port = port; hello = h; way = way; there = there; carrier = has_carrier; is = e; after = refl })
by_kind (parsing.lsp l) v q bytes port e there has_carrier =
    if_up (is_port_up port) v (originated_if_changed (heard_lsp l q v)) q bytes (λ up. by_lsp (record { port = port; lsp = l; there = there; carrier = has_carrier; up = up; is = e; after = refl }))
by_kind (parsing.csnp c) v q bytes port e there has_carrier = if_up (is_port_up port) v (with_csnp c (entries_in c.tlvs) q v) q bytes (csnp_is_read_as (entries_in c.tlvs) c v q bytes port refl e there has_carrier)
by_kind (parsing.psnp s) v q bytes port e there has_carrier = if_up (is_port_up port) v (with_psnp (entries_in s.tlvs) q v) q bytes (psnp_is_read_as (entries_in s.tlvs) s v q bytes port refl e there has_carrier)
by_kind (parsing.customer da sa vid isid f) v q bytes port e there has_carrier =
    idle (after_backbone (tenant_of v) (own_tables v) q (carried_by da sa vid isid f)).learned (from_customer da sa vid isid f e refl) refl

by_carrier : (has_carrier : Bool) (v : BridgeView) (q : ℕ) (bytes : List ℕ) (port : BridgePort) → port_at v q ≡ Some port → port.adjacency.carrier ≡ has_carrier → FrameStep v q bytes (if has_carrier then heard_as (parsed bytes) q port v else after_drop drop.NotAdjacent v)
by_carrier true v q bytes port there has_carrier = by_kind (parsed bytes) v q bytes port refl there has_carrier
by_carrier false v q bytes port there has_carrier = drops_it drop.NotAdjacent v q bytes

by_port : (o : Option BridgePort) (v : BridgeView) (q : ℕ) (bytes : List ℕ) → port_at v q ≡ o → FrameStep v q bytes (heard_at q bytes o v)
by_port None v q bytes e = idles v q bytes
by_port (Some port) v q bytes e = by_carrier port.adjacency.carrier v q bytes port e refl

pub frame_step : (v : BridgeView) (q : ℕ) (bytes : List ℕ) → FrameStep v q bytes (after_receive q bytes v)
unfolding after_receive
frame_step v q bytes = by_port (port_at v q) v q bytes refl

pub heard_hello_ports : (h : HelloValue) (way : ThreeWay) (q : ℕ) (port : BridgePort) (v : BridgeView) → port_at v q ≡ Some port → (heard_hello h way q port v).ports ≡ slice_set v.ports (q - 1) (heard_hello_port v.id.system q h way port)
heard_hello_ports h way q port v there =
    changed_ports (change_by_hello v.id.system q h way port.adjacency) q port (with_adjacency (after_hello v.id.system q h way port.adjacency) port) v (found v.ports q port there).1
    (λ e. ap (λ (a : Adjacency). with_adjacency a port) (kept_whole v.id.system q h way port.adjacency e))

pub heard_hello_rest : (h : HelloValue) (way : ThreeWay) (q : ℕ) (port : BridgePort) (v : BridgeView) → KeepsRest v (heard_hello h way q port v)
heard_hello_rest h way q port v = changed_rest (change_by_hello v.id.system q h way port.adjacency) q (with_adjacency (after_hello v.id.system q h way port.adjacency) port) v

-- what a frame did to the ports: nothing, or it was a hello, heard at one
pub frame_ports : (v : BridgeView) (q : ℕ) (bytes : List ℕ) → ((after_receive q bytes v).ports ≡ v.ports) ⊎ HelloStep v q bytes (after_receive q bytes v)
frame_ports v q bytes =
    elim (frame_step v q bytes) [
      | idle learned how e ↦ inl (ap (λ (u : BridgeView). u.ports) e)
      | by_hello g ↦ inr g
      | by_lsp g ↦ inl (ap (λ (u : BridgeView). u.ports) g.after ∙ originated_if_changed_ports (heard_lsp g.lsp q v))
      | by_csnp g ↦ inl (ap (λ (u : BridgeView). u.ports) g.after ∙ originated_if_changed_ports (heard_csnp g.csnp g.entries q v))
      | by_psnp g ↦ inl (ap (λ (u : BridgeView). u.ports) g.after ∙ originated_if_changed_ports (heard_psnp g.entries q v))
    ]

-- where all else is kept, so it is but for what is learned
pub but_learned : (v w : BridgeView) → KeepsRest v w → KeepsRest (with_learned w.learned v) w
but_learned v w rest = subst (λ (learned : Addresses). KeepsRest (with_learned learned v) w) (sym (ap (λ (u : BridgeView). u.learned) rest)) rest

idle_rest : (v w : BridgeView) (learned : Addresses) → w ≡ with_drops w.drops (with_learned learned v) → KeepsRest (with_learned w.learned v) w
idle_rest v w learned e = subst (λ (u : BridgeView). KeepsRest (with_learned u.learned v) u) (sym e) refl

pub frame_rest : (v : BridgeView) (q : ℕ) (bytes : List ℕ) → KeepsRest (with_learned (after_receive q bytes v).learned v) (after_receive q bytes v)
frame_rest v q bytes =
    let w : BridgeView = after_receive q bytes v in
    elim (frame_step v q bytes) [
      | idle learned how e ↦ idle_rest v w learned e
      | by_hello g ↦ but_learned v w (rest_of v w (heard_hello g.hello g.way q g.port v) g.after (heard_hello_rest g.hello g.way q g.port v))
      | by_lsp g ↦ but_learned v w (rest_of v w (originated_if_changed (heard_lsp g.lsp q v)) g.after (originated_if_changed_rest v (heard_lsp g.lsp q v) refl))
      | by_csnp g ↦ but_learned v w (rest_of v w (originated_if_changed (heard_csnp g.csnp g.entries q v)) g.after (originated_if_changed_rest v (heard_csnp g.csnp g.entries q v) refl))
      | by_psnp g ↦ but_learned v w (rest_of v w (originated_if_changed (heard_psnp g.entries q v)) g.after (originated_if_changed_rest v (heard_psnp g.entries q v) refl))
    ]

-- what is learned of a frame, whatever it is
pub frame_learns : (v : BridgeView) (q : ℕ) (bytes : List ℕ) → Learns v q bytes (after_receive q bytes v).learned
frame_learns v q bytes =
    elim (frame_step v q bytes) [
      | idle learned how e ↦ subst (λ (u : BridgeView). Learns v q bytes u.learned) (sym e) how
      | by_hello g ↦ nothing_new (ap (λ (u : BridgeView). u.learned) (rest_of v (after_receive q bytes v) (heard_hello g.hello g.way q g.port v) g.after (heard_hello_rest g.hello g.way q g.port v)))
      | by_lsp g ↦ nothing_new (ap (λ (u : BridgeView). u.learned) g.after ∙ ap (λ (u : BridgeView). u.learned) (originated_if_changed_is (heard_lsp g.lsp q v)))
      | by_csnp g ↦ nothing_new (ap (λ (u : BridgeView). u.learned) g.after ∙ ap (λ (u : BridgeView). u.learned) (originated_if_changed_is (heard_csnp g.csnp g.entries q v)))
      | by_psnp g ↦ nothing_new (ap (λ (u : BridgeView). u.learned) g.after ∙ ap (λ (u : BridgeView). u.learned) (originated_if_changed_is (heard_psnp g.entries q v)))
    ]

-- ---- carrier

pub record CarrierSet (v : BridgeView) (q : ℕ) (on : Bool) (w : BridgeView) : Type 0 where
  pub port : BridgePort
  pub there : port_at v q ≡ Some port
  pub after : w ≡ with_carrier_at q on (Some port) v

carrier_port : (o : Option BridgePort) (v : BridgeView) (q : ℕ) (on : Bool) → port_at v q ≡ o → (with_carrier_at q on o v ≡ v) ⊎ CarrierSet v q on (with_carrier_at q on o v)
carrier_port None v q on e = inl refl
carrier_port (Some port) v q on e = inr (record { port = port; there = e; after = refl })

pub carrier_step : (v : BridgeView) (q : ℕ) (on : Bool) → (with_carrier q on v ≡ v) ⊎ CarrierSet v q on (with_carrier q on v)
unfolding with_carrier
carrier_step v q on = carrier_port (port_at v q) v q on refl

pub with_carrier_ports : (q : ℕ) (on : Bool) (port : BridgePort) (v : BridgeView) → port_at v q ≡ Some port → (with_carrier_at q on (Some port) v).ports ≡ slice_set v.ports (q - 1) (with_carrier_port on port)
with_carrier_ports q on port v there =
    changed_ports (change_of port.adjacency (after_carrier on port.adjacency)) q port (with_adjacency (after_carrier on port.adjacency) port) v (found v.ports q port there).1
    (λ e. absurd (not_discarded port.adjacency (after_carrier on port.adjacency) e))

pub with_carrier_rest : (q : ℕ) (on : Bool) (port : BridgePort) (v : BridgeView) → KeepsRest v (with_carrier_at q on (Some port) v)
with_carrier_rest q on port v = changed_rest (change_of port.adjacency (after_carrier on port.adjacency)) q (with_adjacency (after_carrier on port.adjacency) port) v

-- ---- a metric

pub record MetricSet (v : BridgeView) (q m : ℕ) (w : BridgeView) : Type 0 where
  pub port : BridgePort
  pub there : port_at v q ≡ Some port
  pub after : w ≡ originated_if_changed (with_port_at q (with_port_metric m port) v)

metric_port : (o : Option BridgePort) (v : BridgeView) (q m : ℕ) → port_at v q ≡ o → (with_metric_at q m o v ≡ v) ⊎ MetricSet v q m (with_metric_at q m o v)
metric_port None v q m e = inl refl
metric_port (Some port) v q m e = inr (record { port = port; there = e; after = refl })

pub metric_step : (v : BridgeView) (q m : ℕ) → (with_metric q m v ≡ v) ⊎ MetricSet v q m (with_metric q m v)
unfolding with_metric
metric_step v q m = metric_port (port_at v q) v q m refl

pub with_metric_ports : (q m : ℕ) (port : BridgePort) (v : BridgeView) → (originated_if_changed (with_port_at q (with_port_metric m port) v)).ports ≡ slice_set v.ports (q - 1) (with_port_metric m port)
with_metric_ports q m port v = originated_if_changed_ports (with_port_at q (with_port_metric m port) v)

pub with_metric_rest : (q m : ℕ) (port : BridgePort) (v : BridgeView) → KeepsRest v (originated_if_changed (with_port_at q (with_port_metric m port) v))
with_metric_rest q m port v = originated_if_changed_rest v (with_port_at q (with_port_metric m port) v) refl

-- ---- what is attached

-- a bridge to which this is attached, before it says so
abbrev pub attached_to : List Attachment → BridgeView → BridgeView
attached_to attached v = record v { attached = attached }

pub with_attached_is : (attached : List Attachment) (v : BridgeView) → with_attached attached v ≡ originated_if_changed (attached_to attached v)
unfolding with_attached
with_attached_is attached v = refl

pub with_attached_ports : (attached : List Attachment) (v : BridgeView) → (with_attached attached v).ports ≡ v.ports
unfolding with_attached
with_attached_ports attached v = originated_if_changed_ports (attached_to attached v)

pub with_attached_rest : (attached : List Attachment) (v : BridgeView) → KeepsRest (attached_to attached v) (with_attached attached v)
unfolding with_attached
with_attached_rest attached v = originated_if_changed_rest (attached_to attached v) (attached_to attached v) refl

-- a bridge that forgot what it has learned at a port, and one at which a customer's frame entered
pub forgotten_is : (port : ℕ) (v : BridgeView) → with_port_forgotten port v ≡ with_learned (with_port_forgotten port v).learned v
unfolding with_port_forgotten
forgotten_is port v = refl

pub entry_is : (port : ℕ) (bytes : List ℕ) (v : BridgeView) → after_entry port bytes v ≡ with_drops (after_entry port bytes v).drops (with_learned (after_entry port bytes v).learned v)
unfolding after_entry
entry_is port bytes v = refl

-- ---- a second

-- the bridge that sends has the ports a second later
pub readied_ports : (v : BridgeView) → (readied v).ports ≡ map later v.ports
readied_ports v = refreshed_ports (expired (counts_lowered v))

pub readied_rest : (v : BridgeView) → KeepsRest v (readied v)
readied_rest v = refreshed_rest v (expired (counts_lowered v)) refl

pub tick_is : (v : BridgeView) → after_tick v ≡ after_sending (readied v)
unfolding after_tick
tick_is v = refl

pub tick_ports : (v : BridgeView) → (after_tick v).ports ≡ map (with_csnp_due false) (map later v.ports)
unfolding after_tick
tick_ports v = ap (map (with_csnp_due false)) (readied_ports v)

pub tick_rest : (v : BridgeView) → KeepsRest v (after_tick v)
unfolding after_tick
tick_rest v =
    let w : BridgeView = after_sending (readied v) in
    ap (λ (x : BridgeView). record x { ports = w.ports; database = w.database }) (readied_rest v)

-- a port after a tick
abbrev pub ticked : BridgePort → BridgePort
ticked port = with_csnp_due false (later port)

twice : (o : Option BridgePort) → option_map (with_csnp_due false) (option_map later o) ≡ option_map ticked o
twice None = refl
twice (Some port) = refl

tick_at : (b : Bool) (ports : List BridgePort) (k : ℕ) → (if b then slice_get (map (with_csnp_due false) (map later ports)) k else None) ≡ option_map ticked (if b then slice_get ports k else None)
tick_at true ports k = slice_get-map (with_csnp_due false) (map later ports) k ∙ (ap (λ (o : Option BridgePort). option_map (with_csnp_due false) o) (slice_get-map later ports k) ∙ twice (slice_get ports k))
tick_at false ports k = refl

pub tick_port : (v : BridgeView) (p : ℕ) → port_at (after_tick v) p ≡ option_map ticked (port_at v p)
tick_port v p = ap (λ (ports : List BridgePort). port_in ports p) (tick_ports v) ∙ tick_at (nat_le 1 p) v.ports (p - 1)

-- ---- what a call of a bridge makes of it, at a port that it has

-- the branch that is taken
pub when_true : {X : Type 0} (b : Bool) (x y : X) → b ≡ true → (if b then x else y) ≡ x
when_true true x y e = refl
when_true false x y e = absurd cc

pub when_false : {X : Type 0} (b : Bool) (x y : X) → b ≡ false → (if b then x else y) ≡ y
when_false true x y e = absurd cc
when_false false x y e = refl

-- at a port with carrier a frame is heard by its kind, and at one without it is dropped
pub heard_is : (v : BridgeView) (q : ℕ) (bytes : List ℕ) (port : BridgePort) → 1 ≤ q → slice_get v.ports (q - 1) ≡ Some port → port.adjacency.carrier ≡ true → after_receive q bytes v ≡ heard_as (parsed bytes) q port v
unfolding after_receive
heard_is v q bytes port low at has_carrier =
    ap (λ (o : Option BridgePort). heard_at q bytes o v) (port_found v q low ∙ at) ∙ when_true port.adjacency.carrier (heard_as (parsed bytes) q port v) (after_drop drop.NotAdjacent v) has_carrier

pub deaf_is : (v : BridgeView) (q : ℕ) (bytes : List ℕ) (port : BridgePort) → 1 ≤ q → slice_get v.ports (q - 1) ≡ Some port → port.adjacency.carrier ≡ false → after_receive q bytes v ≡ after_drop drop.NotAdjacent v
unfolding after_receive
deaf_is v q bytes port low at none =
    ap (λ (o : Option BridgePort). heard_at q bytes o v) (port_found v q low ∙ at) ∙ when_false port.adjacency.carrier (heard_as (parsed bytes) q port v) (after_drop drop.NotAdjacent v) none

pub with_carrier_is : (v : BridgeView) (q : ℕ) (on : Bool) (port : BridgePort) → 1 ≤ q → slice_get v.ports (q - 1) ≡ Some port → with_carrier q on v ≡ with_carrier_at q on (Some port) v
unfolding with_carrier
with_carrier_is v q on port low at = ap (λ (o : Option BridgePort). with_carrier_at q on o v) (port_found v q low ∙ at)

pub with_metric_is : (v : BridgeView) (q m : ℕ) (port : BridgePort) → 1 ≤ q → slice_get v.ports (q - 1) ≡ Some port → with_metric q m v ≡ originated_if_changed (with_port_at q (with_port_metric m port) v)
unfolding with_metric
with_metric_is v q m port low at = ap (λ (o : Option BridgePort). with_metric_at q m o v) (port_found v q low ∙ at)
