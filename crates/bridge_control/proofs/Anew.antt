-- A frame that is heard at a port with carrier.
use Rattle.std.proofs.Common.{◌≡◌, ℕ, Bool, true, List, refl, sym, ap, ◌∙◌, subst, Option, Some, None}
use Rattle.std.specs.Prelude.{if◌then◌else◌}
use Rattle.bridge_api.specs.declared.port.BridgePort.{BridgePort}
use Rattle.spb_types.specs.declared.drop_reason.DropReason.{DropReason}
use Rattle.spb_types.specs.declared.drop_reason.DropReason.TheVariants as drop
use Rattle.bridge_api.specs.View.{BridgeView, port_at, has_carrier_in, has_carrier_at}
use Rattle.bridge_api.specs.Parsing.{Parsed, parsed}
use Rattle.bridge_api.specs.Parsing as parsing
use Rattle.bridge_api.specs.Hearing.{after_drop, heard_as, heard_at, after_receive}
use Rattle.bridge_control.specs.declared.machine.Machine.{Machine}
use Rattle.bridge_control.specs.Heard.{AreJudged}
use Rattle.bridge_control.specs.Machine.{view_of, IsReady, heard_by, hears}

heard_in : (o : Option BridgePort) (v : BridgeView) (p : ℕ) (bytes : List ℕ) (j : Parsed) → has_carrier_in o ≡ true → parsed bytes ≡ j → heard_by j p o v ≡ heard_at p bytes o v
heard_in None v p bytes j has_carrier said = refl
heard_in (Some port) v p bytes j has_carrier said =
    ap (λ (k : Parsed). heard_as k p port v) (sym said)
    ∙ sym (ap (λ (b : Bool). if b then heard_as (parsed bytes) p port v else after_drop drop.NotAdjacent v) has_carrier)

-- it is heard as what it is taken for
pub heard_path : (v : BridgeView) (p : ℕ) (bytes : List ℕ) (j : Parsed) → has_carrier_at v p ≡ true → parsed bytes ≡ j → hears j p v ≡ after_receive p bytes v
unfolding has_carrier_at after_receive
heard_path v p bytes j has_carrier said = heard_in (port_at v p) v p bytes j has_carrier said

dropped_in : (o : Option BridgePort) (v : BridgeView) (p : ℕ) (reason : DropReason) → has_carrier_in o ≡ true → heard_by (parsing.dropped reason) p o v ≡ after_drop reason v
dropped_in None v p reason has_carrier = absurd cc
dropped_in (Some port) v p reason has_carrier = refl

-- a frame that every bridge drops
pub dropped_path : (v : BridgeView) (p : ℕ) (bytes : List ℕ) (reason : DropReason) → has_carrier_at v p ≡ true → parsed bytes ≡ parsing.dropped reason → after_drop reason v ≡ after_receive p bytes v
unfolding has_carrier_at
dropped_path v p bytes reason has_carrier said = sym (dropped_in (port_at v p) v p reason has_carrier) ∙ heard_path v p bytes (parsing.dropped reason) has_carrier said

-- which hellos came last doesn't matter, where they were judged
pub heard_ready : (m n : Machine) → IsReady m → n ≡ record m { heard = n.heard } → AreJudged m.id.system n.heard.items → IsReady n
heard_ready m n ready is judged = subst IsReady (sym is) (record {
  sound = ready.sound;
  current = record { own = ready.current.own; ports = record { hellos = ready.current.ports.hellos; up = ready.current.ports.up; me = ready.current.ports.me; heard = judged } };
})

pub heard_view : (m n : Machine) → n ≡ record m { heard = n.heard } → view_of n ≡ view_of m
heard_view m n is = ap view_of is
