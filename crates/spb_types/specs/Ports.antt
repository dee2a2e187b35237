use Rattle.std.specs.Prelude.{ℕ, ◌*◌, ◌-◌, ◌%◌, ◌^◌, Bool, ◌&&◌, ◌==◌, nat_le, bit_and, bit_or}
use Rattle.std.specs.Int.{bit_at, bit_not, w32}
use Rattle.spb_types.specs.declared.ports.PortSet.{PortSet}
use Rattle.spb_types.specs.declared.limits.TheConstants.{MOST_PORTS}

-- the bit of a port, 1 to 32, as a number
abbrev pub bit_of : ℕ → ℕ
bit_of port = 1 * 2 ^ (port - 1) % 2 ^ 32

-- whether the port is in the set; no number outside 1 to 32 is in any
unfoldable pub has : PortSet → ℕ → Bool
has set port = (nat_le 1 port && nat_le port MOST_PORTS) && (bit_at set.bits (port - 1) == 1)

-- the set of no port
unfoldable pub no_ports : PortSet
no_ports = record { bits = 0 }

-- the set and this port, 1 to 32
unfoldable pub with_port : PortSet → ℕ → PortSet
with_port set port = record { bits = bit_or set.bits (bit_of port) }

-- the set but for this port, 1 to 32
unfoldable pub without_port : PortSet → ℕ → PortSet
without_port set port = record { bits = bit_and set.bits (bit_not w32 (bit_of port)) }
