-- What a hello does to an adjacency, and to a bridge, doesn't depend on its other TLVs.
use Rattle.std.proofs.Common.{◌≡◌, ℕ, true, List, refl, ap, Option, Some, None}
use Rattle.std.specs.Prelude.{◌==◌, if◌then◌else◌}
use Rattle.spb_types.specs.declared.address.SystemId.{SystemId}
use Rattle.spb_tlvs.specs.declared.three_way.ThreeWay.{ThreeWay}
use Rattle.adjacency.specs.declared.state.AdjState.{AdjState}
use Rattle.adjacency.specs.declared.state.AdjState.TheVariants.{Down, Initializing, Up}
use Rattle.adjacency.specs.declared.state.AdjacencyChange.TheVariants as did
use Rattle.adjacency.specs.declared.port.Adjacency.{Adjacency}
use Rattle.adjacency.specs.States.{state_numbered, next_state}
use Rattle.adjacency.specs.Hearing.{sender, is_discarded}
use Rattle.adjacency.specs.Adjacency.{down, led_to, state_towards, after_hello, change_of, change_by_hello}
use Rattle.bridge_api.specs.declared.port.BridgePort.{BridgePort}
use Rattle.bridge_api.specs.View.{BridgeView, port_at}
use Rattle.bridge_api.specs.Parsing as parsing
use Rattle.bridge_api.specs.Hearing.{with_adjacency, changed_at}
use Rattle.bridge_control.specs.declared.heard.Said.{Said}
use Rattle.bridge_control.specs.Heard.{hello_saying}
use Rattle.bridge_control.specs.Machine.{heard_by, hears}

led_alike : (s : AdjState) (said : Said) (some others : List ℕ) (way : ThreeWay) → led_to s (hello_saying said some) way ≡ led_to s (hello_saying said others) way
led_alike Down said some others way = refl
led_alike Initializing said some others way = refl
led_alike Up said some others way = refl

abbrev state_after : Said → List ℕ → ThreeWay → Adjacency → AdjState
state_after said tlvs way a = next_state (state_towards (sender (hello_saying said tlvs) way) a) (state_numbered way.state)

pub after_alike : (me : SystemId) (p : ℕ) (said : Said) (some others : List ℕ) (way : ThreeWay) (a : Adjacency) → after_hello me p (hello_saying said some) way a ≡ after_hello me p (hello_saying said others) way a
after_alike me p said some others way a =
    ap (λ (b : Adjacency). if is_discarded me p (hello_saying said some) way then a else (if said.holding == 0 then down true else b))
    (led_alike (state_after said some way a) said some others way)

pub change_alike : (me : SystemId) (p : ℕ) (said : Said) (some others : List ℕ) (way : ThreeWay) (a : Adjacency) → change_by_hello me p (hello_saying said some) way a ≡ change_by_hello me p (hello_saying said others) way a
change_alike me p said some others way a =
    ap (λ (b : Adjacency). if is_discarded me p (hello_saying said some) way then did.Discarded else change_of a (if said.holding == 0 then down true else b))
    (led_alike (state_after said some way a) said some others way)

heard_alike : (o : Option BridgePort) (v : BridgeView) (p : ℕ) (said : Said) (some others : List ℕ) (way : ThreeWay) → heard_by (parsing.hello (hello_saying said some) way) p o v ≡ heard_by (parsing.hello (hello_saying said others) way) p o v
heard_alike None v p said some others way = refl
heard_alike (Some port) v p said some others way =
    λ i. changed_at (change_alike v.id.system p said some others way port.adjacency i) p (with_adjacency (after_alike v.id.system p said some others way port.adjacency i) port) v

pub hears_alike : (v : BridgeView) (p : ℕ) (said : Said) (some others : List ℕ) (way : ThreeWay) → hears (parsing.hello (hello_saying said some) way) p v ≡ hears (parsing.hello (hello_saying said others) way) p v
hears_alike v p said some others way = heard_alike (port_at v p) v p said some others way
