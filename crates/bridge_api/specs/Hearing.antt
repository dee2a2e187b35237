-- What hearing a frame, a change of carrier, and setting a metric make of a bridge.
use Rattle.std.specs.Prelude.{ℕ, List, Bool, true, false, Option, Some, None, Result, Ok, Err, if◌then◌else◌}
use Rattle.isis_pdu.specs.Pdu.{HelloValue, LspValue, CsnpValue}
use Rattle.spb_tlvs.specs.declared.error.TlvError.{TlvError}
use Rattle.spb_tlvs.specs.declared.entries.SnpEntry.{SnpEntry}
use Rattle.spb_tlvs.specs.declared.three_way.ThreeWay.{ThreeWay}
use Rattle.lsdb.specs.Database.{each}
use Rattle.lsdb.specs.Entry.{srm_set_at, flags_cleared_at}
use Rattle.flooding.specs.Hearing.{hear_lsp_of, is_full_for_lsp}
use Rattle.snp_sync.specs.Reading.{entries_in}
use Rattle.snp_sync.specs.Hearing.{claims_in, hear_entries_of, hear_csnp_of, full_count}
use Rattle.adjacency.specs.declared.state.AdjacencyChange.{AdjacencyChange}
use Rattle.adjacency.specs.declared.state.AdjacencyChange.TheVariants as did
use Rattle.adjacency.specs.declared.port.Adjacency.{Adjacency}
use Rattle.adjacency.specs.Adjacency.{after_hello, change_by_hello, after_carrier, change_of}
use Rattle.bridge_api.specs.declared.port.BridgePort.{BridgePort}
use Rattle.bridge_api.specs.View.{BridgeView, port_at, with_port_at, with_drops, is_port_up, up_ports}
use Rattle.bridge_api.specs.Own.{holding_of, with_holding, originated_if_changed}
use Rattle.bridge_api.specs.Parsing.{Parsed, parsed}
use Rattle.bridge_api.specs.Parsing as parsing
use Rattle.bridge_api.specs.Customers.{forwarded}
use Rattle.bridge_api.specs.Drops.{raised_at}
use Rattle.spb_types.specs.declared.drop_reason.DropReason.{DropReason}
use Rattle.spb_types.specs.declared.drop_reason.DropReason.TheVariants as drop

-- a frame that is dropped is counted, and changes nothing else
abbrev pub after_drop : DropReason → BridgeView → BridgeView
after_drop reason v = with_drops (raised_at reason 1 v.drops) v

-- what finds no place in the database is counted, each entry of a sequence numbers PDU for itself
abbrev pub with_full : ℕ → BridgeView → BridgeView
with_full n v = with_drops (raised_at drop.Full n v.drops) v

-- a port with another adjacency, with CSNPs due or not, and with another metric
abbrev pub with_adjacency : Adjacency → BridgePort → BridgePort
with_adjacency adjacency port = record port { adjacency = adjacency }

abbrev pub with_csnp_due : Bool → BridgePort → BridgePort
with_csnp_due due port = record port { csnp_due = due }

abbrev pub with_port_metric : ℕ → BridgePort → BridgePort
with_port_metric m port = record port { metric = m }

-- on leaving Up, the flags of the port are cleared
abbrev pub left_up : ℕ → BridgePort → BridgeView → BridgeView
left_up p port v = let w : BridgeView = with_port_at p (with_csnp_due false port) v in
    record w { database = each (λ id e. flags_cleared_at p e) w.database }

-- on entering Up, every LSP is to be sent at the port, and CSNPs are due there
abbrev pub all_srm_set_at : ℕ → BridgePort → BridgeView → BridgeView
all_srm_set_at p port v = let w : BridgeView = with_port_at p (with_csnp_due true port) v in
    record w { database = each (λ id e. srm_set_at p e) w.database }

-- entering Up is one operation: the flags of the port, which may have been Up with another neighbour, are cleared
-- first; then the bridge originates; the flags of entering Up are set last
abbrev pub entered_up : ℕ → BridgePort → BridgeView → BridgeView
entered_up p port v = all_srm_set_at p port (originated_if_changed (left_up p port v))

-- a bridge at whose port number p, now in this state, this came to pass
abbrev pub changed_at : AdjacencyChange → ℕ → BridgePort → BridgeView → BridgeView
changed_at did.Discarded p port v = after_drop drop.Hello v
changed_at did.Kept p port v = originated_if_changed (with_port_at p port v)
changed_at did.LeftUp p port v = originated_if_changed (left_up p port v)
changed_at did.CameUp p port v = entered_up p port v

-- a bridge after a hello at its port number p
abbrev pub heard_hello : HelloValue → ThreeWay → ℕ → BridgePort → BridgeView → BridgeView
heard_hello h way p port v =
    changed_at (change_by_hello v.id.system p h way port.adjacency) p
    (with_adjacency (after_hello v.id.system p h way port.adjacency) port) v

-- a bridge that heard an LSP, or a complete or a partial sequence numbers PDU with these entries, at its port number p
-- (ISO/IEC 10589, 7.3.15.1 and 7.3.15.2)
abbrev pub heard_lsp : LspValue → ℕ → BridgeView → BridgeView
heard_lsp l p v =
    with_full (if is_full_for_lsp (up_ports v) p l (holding_of v) then 1 else 0)
    (with_holding (hear_lsp_of (up_ports v) p l (holding_of v)) v)

abbrev pub heard_csnp : CsnpValue → List SnpEntry → ℕ → BridgeView → BridgeView
heard_csnp c entries p v =
    with_full (full_count (up_ports v) p (claims_in entries) (holding_of v))
    (with_holding (hear_csnp_of (up_ports v) p c.start c.end (claims_in entries) (holding_of v)) v)

abbrev pub heard_psnp : List SnpEntry → ℕ → BridgeView → BridgeView
heard_psnp entries p v =
    with_full (full_count (up_ports v) p (claims_in entries) (holding_of v))
    (with_holding (hear_entries_of (up_ports v) p (claims_in entries) (holding_of v)) v)

-- sequence numbers PDUs are dropped where their entries can't be read
abbrev pub with_csnp : CsnpValue → Result (List SnpEntry) TlvError → ℕ → BridgeView → BridgeView
with_csnp c (Err e) p v = after_drop drop.Tlv v
with_csnp c (Ok entries) p v = originated_if_changed (heard_csnp c entries p v)

abbrev pub with_psnp : Result (List SnpEntry) TlvError → ℕ → BridgeView → BridgeView
with_psnp (Err e) p v = after_drop drop.Tlv v
with_psnp (Ok entries) p v = originated_if_changed (heard_psnp entries p v)

-- a bridge after a frame of each kind at a port with carrier. LSPs and sequence numbers PDUs are heard only at a port
-- that is Up
abbrev pub heard_as : Parsed → ℕ → BridgePort → BridgeView → BridgeView
heard_as (parsing.dropped reason) p port v = after_drop reason v
heard_as (parsing.hello h way) p port v = heard_hello h way p port v
heard_as (parsing.lsp l) p port v =
    if is_port_up port then originated_if_changed (heard_lsp l p v) else after_drop drop.NotAdjacent v
heard_as (parsing.csnp c) p port v =
    if is_port_up port then with_csnp c (entries_in c.tlvs) p v else after_drop drop.NotAdjacent v
heard_as (parsing.psnp s) p port v =
    if is_port_up port then with_psnp (entries_in s.tlvs) p v else after_drop drop.NotAdjacent v
heard_as (parsing.customer da sa vid isid customer) p port v = forwarded da sa vid isid customer p v

-- the first thing that is looked at is the carrier of the port
abbrev pub heard_at : ℕ → List ℕ → Option BridgePort → BridgeView → BridgeView
heard_at p frame None v = v
heard_at p frame (Some port) v =
    if port.adjacency.carrier then heard_as (parsed frame) p port v else after_drop drop.NotAdjacent v

-- a bridge after a frame came in at its port number p
unfoldable pub after_receive : ℕ → List ℕ → BridgeView → BridgeView
after_receive p frame v = heard_at p frame (port_at v p) v

-- a bridge after carrier came or went at its port number p
abbrev pub with_carrier_at : ℕ → Bool → Option BridgePort → BridgeView → BridgeView
with_carrier_at p on None v = v
with_carrier_at p on (Some port) v =
    changed_at (change_of port.adjacency (after_carrier on port.adjacency)) p
    (with_adjacency (after_carrier on port.adjacency) port) v

unfoldable pub with_carrier : ℕ → Bool → BridgeView → BridgeView
with_carrier p on v = with_carrier_at p on (port_at v p) v

-- a bridge after the metric of the link at its port number p was set
abbrev pub with_metric_at : ℕ → ℕ → Option BridgePort → BridgeView → BridgeView
with_metric_at p m None v = v
with_metric_at p m (Some port) v = originated_if_changed (with_port_at p (with_port_metric m port) v)

unfoldable pub with_metric : ℕ → ℕ → BridgeView → BridgeView
with_metric p m v = with_metric_at p m (port_at v p) v
