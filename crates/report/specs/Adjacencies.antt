-- The adjacencies of a bridge as a text.
use Rattle.std.specs.Prelude.{ℕ, List, [], ◌∷◌, ◌++◌, length, Bool, if◌then◌else◌, codes, decimal}
use Rattle.std.specs.List.{flat_map, enumerate_from}
use Rattle.hex.specs.Hex.{encode_lower}
use Rattle.adjacency.specs.declared.state.AdjState.{AdjState}
use Rattle.adjacency.specs.declared.state.AdjState.TheVariants.{Down, Initializing, Up}
use Rattle.adjacency.specs.declared.port.Adjacency.{Adjacency}
use Rattle.report.specs.Words.{line}

-- whether CSNPs are due at a port
abbrev pub due_text : Bool → List ℕ
due_text due = if due then codes "due" else codes "-"

-- the neighbour that is kept: its system id, its circuit, and for how many seconds it is still kept
abbrev pub neighbour_words : Adjacency → List (List ℕ)
neighbour_words a = encode_lower a.neighbour.mac.bytes ∷ decimal a.circuit ∷ decimal a.hold ∷ []

-- a port with carrier, by its state: `down`, or `init` or `up` with the neighbour and, of a port that is up, whether
-- CSNPs are due
abbrev pub state_words : AdjState → Adjacency → Bool → List (List ℕ)
state_words Down a due = codes "down" ∷ []
state_words Initializing a due = codes "init" ∷ neighbour_words a ++ codes "-" ∷ []
state_words Up a due = codes "up" ∷ neighbour_words a ++ due_text due ∷ []

-- a port: `off` without carrier, and else its state
abbrev pub adjacency_words : Adjacency → Bool → List (List ℕ)
adjacency_words a due = if a.carrier then state_words a.state a due else codes "off" ∷ []

-- the line of a port: its number, and what is said of it
unfoldable pub port_line : ℕ → Adjacency × Bool → List ℕ
port_line number port = line (codes "p") (decimal number ∷ adjacency_words port.0 port.1)

-- the lines of ports, from port 1 on
unfoldable pub port_lines : List (Adjacency × Bool) → List ℕ
port_lines ports = flat_map (λ p. port_line p.0 p.1) (enumerate_from 1 ports)

-- the text of adjacencies: the bridge's name and the number of ports, and a line for each port, from 1 on
unfoldable pub adj_text : List ℕ → List (Adjacency × Bool) → List ℕ
adj_text name ports = line (codes "adj") (name ∷ decimal (length ports) ∷ []) ++ port_lines ports
