-- The set of the Up ports has those ports that are Up.
use Rattle.std.proofs.Common.{◌≡◌, ◌≢◌, inl, inr, ◌≤◌, ◌+◌, ◌-◌, ℕ, suc, Bool, true, false, List, [], ◌∷◌, length, refl, sym, ap, ◌∙◌, Option, None, arith}
use Rattle.std.specs.Prelude.{slice_get, nat_le, if◌then◌else◌}
use Rattle.std.proofs.lemmas.Bool.{le-leb, lt-leb, cases_lt, cases_eq}
use Rattle.spb_types.specs.declared.ports.PortSet.{PortSet}
use Rattle.spb_types.specs.Ports.{has, with_port}
use Rattle.spb_types.proofs.PortLemmas.{has-no_ports, has-with_same, has-with_other}
use Rattle.bridge_api.specs.declared.port.BridgePort.{BridgePort}
use Rattle.bridge_api.specs.View.{is_port_up, is_up_in, is_up_at, up_from}
use Rattle.bridge_api.specs.Laws.{UpPortsAreUp}

-- the port of number p in a list whose first port has number q
abbrev from : ℕ → List BridgePort → ℕ → Option BridgePort
from q ports p = if nat_le q p then slice_get ports (p - q) else None

from_none : (low : Bool) (k : ℕ) → is_up_in (if low then slice_get [] k else None) ≡ false
from_none true k = refl
from_none false k = refl

-- a port in front, which isn't the one that is looked at
from_next : (q : ℕ) (port : BridgePort) (ports : List BridgePort) (p : ℕ) → p ≢ q → from (q + 1) ports p ≡ from q (port ∷ ports) p
from_next q port ports p apart =
    elim (cases_lt p q) [
      | inl below ↦ rw (lt-leb (q + 1) p (omega arith), lt-leb q p below) refl
      | inr above ↦
          let place : p - q ≡ suc (p - (q + 1)) = omega (arith, apart) in
          rw (le-leb (q + 1) p (omega (arith, apart)), le-leb q p above, place) refl
    ]

with_up : (up : Bool) (set : PortSet) (q p : ℕ) → 1 ≤ q → q ≤ 32 → p ≢ q → has (if up then with_port set q else set) p ≡ has set p
with_up true set q p low high apart = has-with_other set q p low high apart
with_up false set q p low high apart = refl

-- the port in front itself
with_here : (up : Bool) (set : PortSet) (q : ℕ) → 1 ≤ q → q ≤ 32 → has set q ≡ false → has (if up then with_port set q else set) q ≡ up
with_here true set q low high without = has-with_same set q low high
with_here false set q low high without = without

pub up_ports_from : (q : ℕ) (ports : List BridgePort) (p : ℕ) → 1 ≤ q → q + length ports ≤ 33 → has (up_from q ports) p ≡ is_up_in (from q ports p)
up_ports_from q [] p low few = has-no_ports p ∙ sym (from_none (nat_le q p) (p - q))
up_ports_from q (port ∷ ports) p low few =
    elim (cases_eq p q) [
      | inl here ↦
          let first : p - q ≡ 0 = omega (arith, here) in
          let absent : has (up_from (q + 1) ports) q ≡ false = up_ports_from (q + 1) ports q (omega arith) (omega (arith, few)) ∙ rw (lt-leb (q + 1) q (omega arith)) refl in
          rw (le-leb q p (omega (arith, here)), first) (rw here (with_here (is_port_up port) (up_from (q + 1) ports) q low (omega (arith, few)) absent))
      | inr apart ↦
          with_up (is_port_up port) (up_from (q + 1) ports) q p low (omega (arith, few)) apart
          ∙ (up_ports_from (q + 1) ports p (omega arith) (omega (arith, few)) ∙ ap is_up_in (from_next q port ports p apart))
    ]

pub up_ports_are_up : UpPortsAreUp
unfolding is_up_at
up_ports_are_up v p was = up_ports_from 1 v.ports p (omega arith) (omega (arith, was.few))
