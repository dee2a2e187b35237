-- What calls make of one port by itself.
use Rattle.std.specs.Prelude.{ℕ, Bool, true, false}
use Rattle.spb_types.specs.declared.address.SystemId.{SystemId}
use Rattle.isis_pdu.specs.Pdu.{HelloValue}
use Rattle.spb_tlvs.specs.declared.three_way.ThreeWay.{ThreeWay}
use Rattle.adjacency.specs.declared.state.AdjacencyChange.{AdjacencyChange}
use Rattle.adjacency.specs.declared.state.AdjacencyChange.TheVariants.{Kept, CameUp, LeftUp, Discarded}
use Rattle.adjacency.specs.Adjacency.{after_hello, change_by_hello, after_carrier, change_of}
use Rattle.bridge_api.specs.declared.port.BridgePort.{BridgePort}
use Rattle.bridge_api.specs.Hearing.{with_adjacency, with_csnp_due}

-- a port where this came to pass: CSNPs are due when it came up, and none when it left Up
abbrev pub noted : AdjacencyChange → BridgePort → BridgePort
noted Kept port = port
noted CameUp port = with_csnp_due true port
noted LeftUp port = with_csnp_due false port
noted Discarded port = port

-- a port after a hello
abbrev pub heard_hello_port : SystemId → ℕ → HelloValue → ThreeWay → BridgePort → BridgePort
heard_hello_port me number h way port =
    noted (change_by_hello me number h way port.adjacency)
    (with_adjacency (after_hello me number h way port.adjacency) port)

-- a port after carrier came or went
abbrev pub with_carrier_port : Bool → BridgePort → BridgePort
with_carrier_port on port = noted (change_of port.adjacency (after_carrier on port.adjacency))
    (with_adjacency (after_carrier on port.adjacency) port)
