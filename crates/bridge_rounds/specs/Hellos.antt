-- What the hello of a round makes of the adjacency at a port (RFC 5303, 3.2).
use Rattle.std.specs.Prelude.{◌≡◌, ◌≢◌, ℕ, List, count_by, false, true, Some, Contains}
use Rattle.spb_types.specs.declared.address.SystemId.{SystemId}
use Rattle.isis_pdu.specs.Pdu.{HelloValue}
use Rattle.spb_tlvs.specs.declared.three_way.ThreeWay.{ThreeWay}
use Rattle.adjacency.specs.declared.port.Adjacency.{Adjacency}
use Rattle.adjacency.specs.Hearing.{End, sender}
use Rattle.adjacency.specs.States.{state_numbered, next_state}
use Rattle.adjacency.specs.Adjacency.{neighbour_of, is_down, after_hello}
use Rattle.bridge_api.specs.View.{BridgeView, adjacency_at}
use Rattle.bridge_api.specs.Parsing.{parsed, is_hello}
use Rattle.bridge_api.specs.Parsing as parsing
use Rattle.bridge_api.specs.Step.{frames_at}
use Rattle.bridge_rounds.specs.Inbox.{Inbox, heard_all}

-- a port with carrier at which one hello comes has afterwards the adjacency that this hello makes of the one before
abbrev pub OneHelloMoves : Type 0
OneHelloMoves = (v : BridgeView) (fs : Inbox) (p : ℕ) (bytes : List ℕ) (h : HelloValue) (way : ThreeWay) (a : Adjacency)
    → adjacency_at v p ≡ Some a → a.carrier ≡ true → count_by is_hello (frames_at p fs) ≡ 1
    → Contains (frames_at p fs) bytes → parsed bytes ≡ parsing.hello h way
    → adjacency_at (heard_all fs v) p ≡ Some (after_hello v.id.system p h way a)

-- and where none comes, the adjacency stays
abbrev pub NoHelloStands : Type 0
NoHelloStands = (v : BridgeView) (fs : Inbox) (p : ℕ) → count_by is_hello (frames_at p fs) ≡ 0
    → adjacency_at (heard_all fs v) p ≡ adjacency_at v p

-- a hello to a port of a system that keeps nobody there but the sender, which is another system: it names nobody but
-- this port, is of level 1, and is to be held for three seconds
pub record IsHelloTowards (me : SystemId) (p : ℕ) (h : HelloValue) (way : ThreeWay) (a : Adjacency) : Type 0 where
  pub kept : (n : End) → neighbour_of a ≡ Some n → n ≡ sender h way
  pub named : (n : End) → way.neighbour ≡ Some n → n ≡ (me, p)
  pub apart : h.source ≢ me
  pub level : h.circuit_type ≡ 1
  pub holding : h.holding ≡ 3

-- an adjacency with carrier that keeps this end for three seconds, unless it is Down
pub record IsKeptFresh (end : End) (a : Adjacency) : Type 0 where
  pub carrier : a.carrier ≡ true
  pub hold : is_down a.state ≡ false → a.hold ≡ 3
  pub neighbour : is_down a.state ≡ false → neighbour_of a ≡ Some end

-- after such a hello the state is that of the table, and unless it is Down the sender is kept for three seconds
abbrev pub TowardsKept : Type 0
TowardsKept = (me : SystemId) (p : ℕ) (h : HelloValue) (way : ThreeWay) (a : Adjacency) → IsHelloTowards me p h way a
    → ((after_hello me p h way a).state ≡ next_state a.state (state_numbered way.state))
    × IsKeptFresh (sender h way) (after_hello me p h way a)
