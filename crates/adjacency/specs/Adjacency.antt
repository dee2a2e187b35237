-- The adjacency at a port, and what each call makes of it (RFC 5303, 3).
use Rattle.std.specs.Prelude.{◌≡◌, ℕ, ◌-◌, ◌≤◌, replicate, Bool, true, false, ◌&&◌, not, Option, Some, None, ◌==◌, nat_lt, if◌then◌else◌}
use Rattle.spb_types.specs.declared.address.SystemId.{SystemId}
use Rattle.isis_pdu.specs.Pdu.{HelloValue}
use Rattle.spb_tlvs.specs.declared.three_way.ThreeWay.{ThreeWay}
use Rattle.adjacency.specs.declared.state.AdjState.{AdjState}
use Rattle.adjacency.specs.declared.state.AdjState.TheVariants.{Down, Initializing, Up}
use Rattle.adjacency.specs.declared.state.AdjacencyChange.{AdjacencyChange}
use Rattle.adjacency.specs.declared.state.AdjacencyChange.TheVariants.{Kept, CameUp, LeftUp, Discarded}
use Rattle.adjacency.specs.declared.port.Adjacency.{Adjacency}
use Rattle.adjacency.specs.States.{state_number, state_numbered, next_state}
use Rattle.adjacency.specs.Hearing.{End, same_end, is_discarded, sender}

abbrev pub no_system : SystemId
no_system = record { mac = record { bytes = replicate 6 0 } }

-- no neighbour is kept: the fields for one are 0
abbrev pub down : Bool → Adjacency
down carrier = record { carrier = carrier; state = Down; neighbour = no_system; circuit = 0; hold = 0 }

-- a neighbour is kept, in this state, for so many seconds
abbrev pub keeping : AdjState → End → ℕ → Adjacency
keeping state end hold = record { carrier = true; state = state; neighbour = end.0; circuit = end.1; hold = hold }

-- the neighbour that is kept, by state
abbrev pub kept_in : AdjState → End → Option End
kept_in Down end = None
kept_in Initializing end = Some end
kept_in Up end = Some end

abbrev pub neighbour_of : Adjacency → Option End
neighbour_of a = kept_in a.state (a.neighbour, a.circuit)

abbrev pub is_down : AdjState → Bool
is_down Down = true
is_down Initializing = false
is_down Up = false

abbrev pub is_up : AdjState → Bool
is_up Down = false
is_up Initializing = false
is_up Up = true

-- what stands at every moment: Down keeps nobody, and a neighbour is kept for at least a second, with carrier
abbrev pub SoundIn : AdjState → Adjacency → Type 0
SoundIn Down a = a ≡ down a.carrier
SoundIn Initializing a = (1 ≤ a.hold) × (a.carrier ≡ true)
SoundIn Up a = (1 ≤ a.hold) × (a.carrier ≡ true)

abbrev pub IsSound : Adjacency → Type 0
IsSound a = SoundIn a.state a

-- the state to which a hello of this sender comes: another neighbour or circuit than the kept one makes it Down first
abbrev pub state_towards : End → Adjacency → AdjState
state_towards end a = if same_end (a.neighbour, a.circuit) end then a.state else Down

-- the adjacency of a state that a hello led to: unless it is Down, the sender is kept, for the holding time
abbrev pub led_to : AdjState → HelloValue → ThreeWay → Adjacency
led_to Down hello way = down true
led_to Initializing hello way = keeping Initializing (sender hello way) hello.holding
led_to Up hello way = keeping Up (sender hello way) hello.holding

-- the adjacency after a hello that isn't discarded: holding time 0 makes it Down, and else the table is followed
abbrev pub after_hello_heard : HelloValue → ThreeWay → Adjacency → Adjacency
after_hello_heard hello way a =
    if hello.holding == 0
    then down true
    else led_to (next_state (state_towards (sender hello way) a) (state_numbered way.state)) hello way

-- the adjacency after a hello
abbrev pub after_hello : SystemId → ℕ → HelloValue → ThreeWay → Adjacency → Adjacency
after_hello me port hello way a = if is_discarded me port hello way then a else after_hello_heard hello way a

-- the adjacency a second later: the holding count falls, and at 0 the neighbour is lost
abbrev pub after_second : Adjacency → Adjacency
after_second a = if is_down a.state then a else (if a.hold == 1 then down a.carrier else record a { hold = a.hold - 1 })

-- the adjacency after carrier came or went
abbrev pub after_carrier : Bool → Adjacency → Adjacency
after_carrier true a = record a { carrier = true }
after_carrier false a = down false

-- whether a is Up, and b isn't Up with the same neighbour and circuit
abbrev pub is_new_up : Adjacency → Adjacency → Bool
is_new_up a b = is_up a.state && not (is_up b.state && same_end (a.neighbour, a.circuit) (b.neighbour, b.circuit))

-- what a change did
abbrev pub change_of : Adjacency → Adjacency → AdjacencyChange
change_of old new =
    if is_new_up new old then CameUp
    else (if is_up old.state && not (is_up new.state) then LeftUp
    else Kept)

-- what a hello did
abbrev pub change_by_hello : SystemId → ℕ → HelloValue → ThreeWay → Adjacency → AdjacencyChange
change_by_hello me port hello way a =
    if is_discarded me port hello way then Discarded else change_of a (after_hello_heard hello way a)

-- whether a hello only begins the holding count anew: the state is Up, and the kept neighbour hears this system still
abbrev pub is_refreshed : SystemId → ℕ → HelloValue → ThreeWay → Adjacency → Bool
is_refreshed me port hello way a =
    is_up a.state && nat_lt way.state 2 && nat_lt 0 hello.holding
    && same_end (a.neighbour, a.circuit) (sender hello way)
    && not (is_discarded me port hello way)

-- what the own hello says: the state, the port as the extended local circuit id, and the neighbour that is kept
abbrev pub said : ℕ → Adjacency → ThreeWay
said port a = record { state = state_number a.state; circuit = port; neighbour = neighbour_of a }
