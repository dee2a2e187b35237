-- The machine that heard a hello by which the holding count at a port only begins anew.
use Rattle.std.proofs.Common.{◌≡◌, ◌-◌, ℕ, List, Option, Some, sym, ap, ◌∙◌, subst}
use Rattle.std.specs.Prelude.{slice_set}
use Rattle.std.specs.Global.{Vec}
use Rattle.isis_pdu.specs.Pdu.{HelloValue}
use Rattle.spb_tlvs.specs.declared.three_way.ThreeWay.{ThreeWay}
use Rattle.adjacency.specs.declared.state.AdjacencyChange.{AdjacencyChange}
use Rattle.adjacency.specs.declared.state.AdjacencyChange.TheVariants as did
use Rattle.adjacency.specs.declared.port.Adjacency.{Adjacency}
use Rattle.adjacency.specs.Adjacency.{after_hello, change_by_hello}
use Rattle.bridge_api.specs.declared.port.BridgePort.{BridgePort}
use Rattle.bridge_api.specs.View.{BridgeView, IsPort, port_at, with_port_at}
use Rattle.bridge_api.specs.Own.{originated_if_changed}
use Rattle.bridge_api.specs.Parsing as parsing
use Rattle.bridge_api.specs.Hearing.{with_adjacency, changed_at}
use Rattle.bridge_control.specs.declared.heard.JudgedHello.{JudgedHello}
use Rattle.bridge_control.specs.declared.machine.Machine.{Machine}
use Rattle.bridge_control.specs.Heard.{AreJudged}
use Rattle.bridge_control.specs.Machine.{view_of, IsReady, IsAfter, hears}
use Rattle.bridge_control.specs.Ports.{IsSameEnd}
use Rattle.bridge_control.proofs.Following.{put_same}
use Rattle.bridge_control.proofs.Owning.{after_same}
use Rattle.bridge_control.proofs.Putting.{got, can_change, hello_kept, kept_says, kept_after}
use Rattle.bridge_control.proofs.Heeding.{hears_is}

refreshed_path : (v : BridgeView) (p : ℕ) (h : HelloValue) (way : ThreeWay) (port : BridgePort) (new : Adjacency) → port_at v p ≡ Some port → new ≡ after_hello v.id.system p h way port.adjacency → change_by_hello v.id.system p h way port.adjacency ≡ did.Kept
    → originated_if_changed (with_port_at p (with_adjacency new port) v) ≡ hears (parsing.hello h way) p v
refreshed_path v p h way port new there heard kept =
    ap (λ (a : Adjacency). originated_if_changed (with_port_at p (with_adjacency a port) v)) heard
    ∙ (sym (ap (λ (d : AdjacencyChange). changed_at d p (with_adjacency (after_hello v.id.system p h way port.adjacency) port) v) kept)
    ∙ sym (hears_is (parsing.hello h way) p v port there))

pub refreshed_after : (m : Machine) (p : ℕ) (h : HelloValue) (way : ThreeWay) (port : BridgePort) (new : Adjacency) (ports : Vec BridgePort) → IsReady m → IsPort (view_of m) p → port_at (view_of m) p ≡ Some port
    → new ≡ record port.adjacency { hold = h.holding } → new ≡ after_hello m.id.system p h way port.adjacency → change_by_hello m.id.system p h way port.adjacency ≡ did.Kept
    → ports.items ≡ slice_set m.ports.items (p - 1) (with_adjacency new port) → IsAfter (hears (parsing.hello h way) p (view_of m)) (record m { ports = ports })
refreshed_after m p h way port new ports ready is there again heard kept put =
    let n : Machine = record m { ports = ports } in
    let end : IsSameEnd port.adjacency new = record { carrier = ap (λ (a : Adjacency). a.carrier) again; state = ap (λ (a : Adjacency). a.state) again; neighbour = ap (λ (a : Adjacency). a.neighbour) again; circuit = ap (λ (a : Adjacency). a.circuit) again } in
    let was_put = put_same m p port (with_adjacency new port) ports ready.current.ports (got (view_of m) p port is there) put end in
    let says = kept_says m p port new (after_hello m.id.system p h way port.adjacency) is there heard (hello_kept m.id.system p h way port kept) in
    after_same _ _ n (refreshed_path (view_of m) p h way port new there heard kept) (kept_after m n p (with_adjacency new port) (can_change m p port new ready is there) says was_put)

-- the hellos that came last were judged
pub last_judged : (m : Machine) (heard : List (Option JudgedHello)) → IsReady m → heard ≡ m.heard.items → AreJudged m.id.system heard
last_judged m heard ready is = subst (AreJudged m.id.system) (sym is) ready.current.ports.heard
