-- The laws of neighbours: who is kept, and who is named.
use Rattle.std.specs.Prelude.{◌≡◌, ◌⊎◌, ℕ, Bool, Some}
use Rattle.spb_types.specs.declared.address.SystemId.{SystemId}
use Rattle.isis_pdu.specs.Pdu.{HelloValue}
use Rattle.spb_tlvs.specs.declared.three_way.ThreeWay.{ThreeWay}
use Rattle.adjacency.specs.declared.port.Adjacency.{Adjacency}
use Rattle.adjacency.specs.Hearing.{End, sender}
use Rattle.adjacency.specs.Adjacency.{neighbour_of, after_hello, after_second, after_carrier, said}

-- the neighbour that is kept after a hello was kept before, or is the hello's sender
abbrev pub HelloKeeps : Type 0
HelloKeeps = (me : SystemId) (port : ℕ) (hello : HelloValue) (way : ThreeWay) (a : Adjacency) (n : End)
    → neighbour_of (after_hello me port hello way a) ≡ Some n → (neighbour_of a ≡ Some n) ⊎ (sender hello way ≡ n)

-- the neighbour that is kept after a second was kept before
abbrev pub SecondKeeps : Type 0
SecondKeeps = (a : Adjacency) (n : End) → neighbour_of (after_second a) ≡ Some n → neighbour_of a ≡ Some n

-- the neighbour that is kept after a change of carrier was kept before
abbrev pub CarrierKeeps : Type 0
CarrierKeeps = (on : Bool) (a : Adjacency) (n : End) → neighbour_of (after_carrier on a) ≡ Some n
    → neighbour_of a ≡ Some n

-- the own hello names its port, and nobody but the neighbour that is kept
pub record SaysKept (port : ℕ) (a : Adjacency) : Type 0 where
  pub circuit : (said port a).circuit ≡ port
  pub neighbour : (n : End) → (said port a).neighbour ≡ Some n → neighbour_of a ≡ Some n

abbrev pub HelloNames : Type 0
HelloNames = (port : ℕ) (a : Adjacency) → SaysKept port a
