-- A second of a bridge, and what it sends then.
use Rattle.std.specs.Prelude.{ℕ, ◌+◌, List, [], ◌∷◌, ◌++◌, map, Bool, false, ◌&&◌, not, if◌then◌else◌}
use Rattle.spb_types.specs.declared.address.SystemId.{SystemId}
use Rattle.isis_pdu.specs.Pdu.{HelloValue, LspValue, CsnpValue, PsnpValue}
use Rattle.isis_pdu.specs.Spelling.{hello_bytes, lsp_bytes, csnp_bytes, psnp_bytes}
use Rattle.spb_tlvs.specs.declared.three_way.ThreeWay.{ThreeWay}
use Rattle.spb_tlvs.specs.Tlv.{tlv}
use Rattle.spb_tlvs.specs.ThreeWay.{three_way_value}
use Rattle.itag_frames.specs.Frame.{control_bytes}
use Rattle.adjacency.specs.Adjacency.{after_second, said}
use Rattle.lsdb.specs.Database.{Lsps, each}
use Rattle.lsdb.specs.Entry.{Entry, flags_cleared_at, aged}
use Rattle.flooding.specs.Settling.{kept_fresh}
use Rattle.flooding.specs.Sending.{lsps_to_send}
use Rattle.snp_sync.specs.Sending.{csnps_of, psnps_of, all_ssn_cleared}
use Rattle.bridge_api.specs.declared.port.BridgePort.{BridgePort}
use Rattle.bridge_api.specs.View.{BridgeView, is_port_up, up_ports}
use Rattle.bridge_api.specs.Own.{holding_of, with_holding}
use Rattle.bridge_api.specs.Hearing.{with_adjacency, with_csnp_due}
use Rattle.spb_content.specs.Local.{areas, protocols}
use Rattle.spb_tlvs.specs.declared.codes.TheConstants.{THREE_WAY_ADJACENCY}
use Rattle.spb_types.specs.declared.level.TheConstants.{LEVEL_1}

-- a port a second later: the holding count falls, and where the neighbour is lost nothing is due any more
abbrev pub later : BridgePort → BridgePort
later port = let next : BridgePort = with_adjacency (after_second port.adjacency) port in
    with_csnp_due (port.csnp_due && is_port_up next) next

-- whether the neighbour at an Up port is lost in this second
abbrev pub leaves : BridgePort → Bool
leaves port = is_port_up port && not (is_port_up (later port))

-- the numbers of those ports, of the ports from number p on
abbrev pub leaving_from : ℕ → List BridgePort → List ℕ
leaving_from p [] = []
leaving_from p (port ∷ ports) = if leaves port then p ∷ leaving_from (p + 1) ports else leaving_from (p + 1) ports

-- an entry with the flags of these ports cleared
abbrev pub flags_cleared_at_all : List ℕ → Entry → Entry
flags_cleared_at_all [] e = e
flags_cleared_at_all (p ∷ ps) e = flags_cleared_at_all ps (flags_cleared_at p e)

-- 1. the holding counts fall
abbrev pub counts_lowered : BridgeView → BridgeView
counts_lowered v = record v {
  ports = map later v.ports;
  database = each (λ id e. flags_cleared_at_all (leaving_from 1 v.ports) e) v.database;
}

-- 2. the lifetimes of what is held fall
abbrev pub expired : BridgeView → BridgeView
expired v = record v { database = each (λ id e. aged (up_ports v) e) v.database }

-- 3. the bridge originates each own LSP in which it has something else to say or that is old, once for both reasons,
--    and purges each in which it has nothing to say (ISO/IEC 10589, 7.3.7 and 7.3.16)
unfoldable pub refreshed : BridgeView → BridgeView
refreshed v = with_holding (kept_fresh (up_ports v) (holding_of v)) v

-- the bridge that sends
abbrev pub readied : BridgeView → BridgeView
readied v = refreshed (expired (counts_lowered v))

-- the TLVs of a hello: one area address, the protocols supported, and the three-way adjacency
-- (ISO/IEC 10589, 9.7; RFC 1195, 5.3.4; RFC 5303, 3)
abbrev pub hello_tlvs : ThreeWay → List ℕ
hello_tlvs way = areas ++ protocols ++ tlv THREE_WAY_ADJACENCY (three_way_value way)

-- the hello of a system at a port of this number: level 1 alone, to be held for three seconds
abbrev pub hello_at : SystemId → ℕ → BridgePort → HelloValue
hello_at system p port = record {
  circuit_type = LEVEL_1;
  source = system;
  holding = 3;
  circuit = p;
  tlvs = hello_tlvs (said p port.adjacency);
}

unfoldable pub hello_frame : SystemId → ℕ → BridgePort → List ℕ
hello_frame system p port = control_bytes system.mac (hello_bytes (hello_at system p port))

-- the LSPs, CSNPs and PSNPs of a system, as frames
unfoldable pub lsp_frame : SystemId → LspValue → List ℕ
lsp_frame system l = control_bytes system.mac (lsp_bytes l)

unfoldable pub csnp_frame : SystemId → CsnpValue → List ℕ
csnp_frame system c = control_bytes system.mac (csnp_bytes c)

unfoldable pub psnp_frame : SystemId → PsnpValue → List ℕ
psnp_frame system s = control_bytes system.mac (psnp_bytes s)

-- 4. what is sent at a port of this number: with carrier a hello
abbrev pub hellos_at : SystemId → ℕ → BridgePort → List (ℕ × List ℕ)
hellos_at system p port = if port.adjacency.carrier then (p, hello_frame system p port) ∷ [] else []

-- where they are due, the CSNPs of the whole database; every LSP that is to be sent there, and then PSNPs of all that
-- has SSN there, each in order of id (ISO/IEC 10589, 7.3.15.3 to 7.3.15.5)
abbrev pub summaries_at : SystemId → ℕ → BridgePort → Lsps → List (ℕ × List ℕ)
summaries_at system p port db = if port.csnp_due then map (λ c. (p, csnp_frame system c)) (csnps_of system db) else []

abbrev pub lsps_at : SystemId → ℕ → Lsps → List (ℕ × List ℕ)
lsps_at system p db = map (λ l. (p, lsp_frame system l)) (lsps_to_send db p)

abbrev pub requests_at : SystemId → ℕ → Lsps → List (ℕ × List ℕ)
requests_at system p db = map (λ s. (p, psnp_frame system s)) (psnps_of system p db)

-- these at a port that is Up
abbrev pub synced_at : SystemId → ℕ → BridgePort → Lsps → List (ℕ × List ℕ)
synced_at system p port db =
    if is_port_up port then summaries_at system p port db ++ lsps_at system p db ++ requests_at system p db else []

abbrev pub sent_at : SystemId → ℕ → BridgePort → Lsps → List (ℕ × List ℕ)
sent_at system p port db = hellos_at system p port ++ synced_at system p port db

-- after it, nothing has SSN there
abbrev pub after_sending_at : ℕ → BridgePort → Lsps → Lsps
after_sending_at p port db = if is_port_up port then all_ssn_cleared p db else db

-- and at these ports, from number p on, in order
abbrev pub sent_from : SystemId → ℕ → List BridgePort → Lsps → List (ℕ × List ℕ)
sent_from system p [] db = []
sent_from system p (port ∷ ports) db = sent_at system p port db
    ++ sent_from system (p + 1) ports (after_sending_at p port db)

abbrev pub after_sending_from : ℕ → List BridgePort → Lsps → Lsps
after_sending_from p [] db = db
after_sending_from p (port ∷ ports) db = after_sending_from (p + 1) ports (after_sending_at p port db)

abbrev pub sent_by : BridgeView → List (ℕ × List ℕ)
sent_by v = sent_from v.id.system 1 v.ports v.database

-- after all was sent, no CSNPs are due and nothing has SSN
abbrev pub after_sending : BridgeView → BridgeView
after_sending v = record v {
  ports = map (with_csnp_due false) v.ports;
  database = after_sending_from 1 v.ports v.database;
}

-- a bridge a second later, and the frames that it sends in that second, each with the number of its port
unfoldable pub after_tick : BridgeView → BridgeView
after_tick v = after_sending (readied v)

unfoldable pub sent_in_tick : BridgeView → List (ℕ × List ℕ)
sent_in_tick v = sent_by (readied v)
