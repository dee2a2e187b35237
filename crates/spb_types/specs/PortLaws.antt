-- Sets of ports as sets: which ports are in each.
use Rattle.std.specs.Prelude.{◌≡◌, ◌≢◌, ℕ, ◌^◌, ◌≤◌, ◌<◌, true, false}
use Rattle.spb_types.specs.declared.ports.PortSet.{PortSet}
use Rattle.spb_types.specs.declared.limits.TheConstants.{MOST_PORTS}
use Rattle.spb_types.specs.Ports.{has, no_ports, with_port, without_port}

-- no port is in the empty set
abbrev pub NoneIsInTheEmpty : Type 0
NoneIsInTheEmpty = (q : ℕ) → has no_ports q ≡ false

-- a port that was put in is there, and every other number is where it was
abbrev pub PutInIsThere : Type 0
PutInIsThere = (set : PortSet) (port : ℕ) → 1 ≤ port → port ≤ MOST_PORTS → has (with_port set port) port ≡ true

abbrev pub PuttingInLeavesOthers : Type 0
PuttingInLeavesOthers = (set : PortSet) (port q : ℕ) → 1 ≤ port → port ≤ MOST_PORTS → q ≢ port
    → has (with_port set port) q ≡ has set q

-- a port that was taken out isn't there, and every other number is where it was
abbrev pub TakenOutIsGone : Type 0
TakenOutIsGone = (set : PortSet) (port : ℕ) → 1 ≤ port → port ≤ MOST_PORTS → has (without_port set port) port ≡ false

abbrev pub TakingOutLeavesOthers : Type 0
TakingOutLeavesOthers = (set : PortSet) (port q : ℕ) → 1 ≤ port → port ≤ MOST_PORTS → q ≢ port
    → has (without_port set port) q ≡ has set q

-- what is in a set is a port, 1 to 32
abbrev pub MembersArePorts : Type 0
MembersArePorts = (set : PortSet) (q : ℕ) → has set q ≡ true → (1 ≤ q) × (q ≤ MOST_PORTS)

-- two sets of 32 bits with the same ports are one
abbrev pub SamePortsAreOneSet : Type 0
SamePortsAreOneSet = (set other : PortSet) → set.bits < 2 ^ 32 → other.bits < 2 ^ 32
    → ((q : ℕ) → has set q ≡ has other q) → set ≡ other
