-- The neighbours that a bridge says are those at its Up ports.
use Rattle.std.proofs.Common.{◌≡◌, inl, inr, ◌+◌, ◌-◌, ℕ, zero, suc, Bool, true, false, List, [], ◌∷◌, refl, sym, ap, ◌∙◌, subst, Option, Some, None, arith}
use Rattle.std.specs.Prelude.{slice_get, if◌then◌else◌}
use Rattle.std.specs.Option.{option_map, option_and_then}
use Rattle.std.proofs.lemmas.Option.{slice_get-map}
use Rattle.spb_tlvs.specs.declared.neighbours.Neighbour.{Neighbour}
use Rattle.spb_content.proofs.Members.{Has, has_from_contains, contains_from_has}
use Rattle.adjacency.specs.Hearing.{End}
use Rattle.adjacency.specs.Adjacency.{neighbour_of}
use Rattle.bridge_api.specs.declared.port.BridgePort.{BridgePort}
use Rattle.bridge_api.specs.View.{BridgeView, port_at, is_port_up, is_up_in, is_up_at, neighbour_at}
use Rattle.bridge_api.specs.Own.{neighbour_in, neighbours_from}
use Rattle.bridge_api.specs.Graph.{IsUpNeighbour, SaysItsNeighbours}
use Rattle.bridge_api.proofs.Adjacent.{up_keeps}
use Rattle.bridge_api.proofs.Changes.{found}
use Rattle.bridge_api.proofs.Places.{port_found}

-- ---- in a list of ports, of which the first has number p

record IsSaid (p : ℕ) (ports : List BridgePort) (n : Neighbour) : Type 0 where
  place : ℕ
  port : BridgePort
  there : slice_get ports place ≡ Some port
  up : is_port_up port ≡ true
  is : n ≡ neighbour_in (p + place) port

behind : (p : ℕ) (x : BridgePort) (ports : List BridgePort) (n : Neighbour) → IsSaid (p + 1) ports n → IsSaid p (x ∷ ports) n
behind p x ports n said = record {
  place = suc said.place;
  port = said.port;
  there = said.there;
  up = said.up;
  is = said.is ∙ ap (λ (k : ℕ). neighbour_in k said.port) (omega arith);
}

said_at : (b : Bool) (p : ℕ) (x : BridgePort) (ports : List BridgePort) (n : Neighbour) → is_port_up x ≡ b → (Has n (neighbours_from (p + 1) ports) → IsSaid (p + 1) ports n)
    → Has n (if b then neighbour_in p x ∷ neighbours_from (p + 1) ports else neighbours_from (p + 1) ports) → IsSaid p (x ∷ ports) n
said_at true p x ports n up rest (inl e) = record { place = 0; port = x; there = refl; up = up; is = e ∙ ap (λ (k : ℕ). neighbour_in k x) (omega arith) }
said_at true p x ports n up rest (inr has) = behind p x ports n (rest has)
said_at false p x ports n up rest has = behind p x ports n (rest has)

said_from : (p : ℕ) (ports : List BridgePort) (n : Neighbour) → Has n (neighbours_from p ports) → IsSaid p ports n
said_from p [] n has = absurd has
said_from p (x ∷ ports) n has = said_at (is_port_up x) p x ports n refl (λ rest. said_from (p + 1) ports n rest) has

has_at : (b : Bool) (first n : Neighbour) (rest : List Neighbour) → Has n rest → Has n (if b then first ∷ rest else rest)
has_at true first n rest has = inr has
has_at false first n rest has = has

from_said : (p place : ℕ) (ports : List BridgePort) (port : BridgePort) → slice_get ports place ≡ Some port → is_port_up port ≡ true → Has (neighbour_in (p + place) port) (neighbours_from p ports)
from_said p place [] port is up = absurd cc
from_said p zero (x ∷ ports) port is up =
    let same : x ≡ port = let at : Some x ≡ Some port = is in cc in
    subst (λ (b : Bool). Has (neighbour_in (p + 0) port) (if b then neighbour_in p x ∷ neighbours_from (p + 1) ports else neighbours_from (p + 1) ports)) (sym (ap is_port_up same ∙ up))
    (inl (ap (λ (k : ℕ). neighbour_in k port) (omega arith) ∙ ap (neighbour_in p) (sym same)))
from_said p (suc place) (x ∷ ports) port is up =
    has_at (is_port_up x) (neighbour_in p x) (neighbour_in (p + suc place) port) (neighbours_from (p + 1) ports)
    (subst (λ (k : ℕ). Has (neighbour_in k port) (neighbours_from (p + 1) ports)) (omega arith) (from_said (p + 1) place ports port is up))

-- ---- of a bridge

up_neighbour : (v : BridgeView) (n : Neighbour) → IsSaid 1 v.ports n → IsUpNeighbour v n
unfolding is_up_at neighbour_at
up_neighbour v n said =
    let number : n.port ≡ 1 + said.place = ap (λ (m : Neighbour). m.port) said.is in
    let place : n.port - 1 ≡ said.place = omega (arith, number) in
    let there : port_at v n.port ≡ Some said.port = port_found v n.port (omega (arith, number)) ∙ (ap (slice_get v.ports) place ∙ said.there) in
    record {
      up = ap is_up_in there ∙ said.up;
      circuit = said.port.adjacency.circuit;
      kept =
          ap (option_and_then (λ port. neighbour_of port.adjacency)) there
          ∙ (up_keeps said.port.adjacency said.up ∙ ap (λ (m : Neighbour). Some (m.system, said.port.adjacency.circuit)) (sym said.is));
      metric =
          slice_get-map (λ (port : BridgePort). port.metric) v.ports (n.port - 1)
          ∙ (ap (λ (k : ℕ). option_map (λ (port : BridgePort). port.metric) (slice_get v.ports k)) place
          ∙ (ap (option_map (λ (port : BridgePort). port.metric)) said.there ∙ ap (λ (m : Neighbour). Some m.metric) (sym said.is)));
    }

said_by_port : (v : BridgeView) (n : Neighbour) (o : Option BridgePort) → port_at v n.port ≡ o → IsUpNeighbour v n → Has n (neighbours_from 1 v.ports)
unfolding is_up_at neighbour_at
said_by_port v n None there is = let wrong : false ≡ true = sym (ap is_up_in there) ∙ is.up in absurd cc
said_by_port v n (Some port) there is =
    let up : is_port_up port ≡ true = sym (ap is_up_in there) ∙ is.up in
    let at = found v.ports n.port port there in
    let end : ◌≡◌ {A = Option End} (Some (port.adjacency.neighbour, port.adjacency.circuit)) (Some (n.system, is.circuit)) =
    sym (up_keeps port.adjacency up) ∙ (sym (ap (option_and_then (λ port. neighbour_of port.adjacency)) there) ∙ is.kept) in
    let pair : ◌≡◌ {A = End} (port.adjacency.neighbour, port.adjacency.circuit) (n.system, is.circuit) = cc in
    let system : port.adjacency.neighbour ≡ n.system = ap (λ (e : End). e.0) pair in
    let metrics : Some port.metric ≡ Some n.metric =
    sym (slice_get-map (λ (port : BridgePort). port.metric) v.ports (n.port - 1) ∙ ap (option_map (λ (port : BridgePort). port.metric)) at.1) ∙ is.metric in
    let metric : port.metric ≡ n.metric = cc in
    let number : 1 + (n.port - 1) ≡ n.port = omega (arith, at.0) in
    subst (λ (m : Neighbour). Has m (neighbours_from 1 v.ports)) (λ i. record { system = system i; metric = metric i; port = number i })
    (from_said 1 (n.port - 1) v.ports port at.1 up)

pub says_its_neighbours : SaysItsNeighbours
says_its_neighbours v n = (
  λ contains. up_neighbour v n (said_from 1 v.ports n (has_from_contains n (neighbours_from 1 v.ports) contains)),
  λ is. contains_from_has n (neighbours_from 1 v.ports) (said_by_port v n (port_at v n.port) refl is),
)
