-- Why a frame is dropped, and what becomes of the counts.
use Rattle.std.specs.Prelude.{◌≡◌, ℕ, List, [], if◌then◌else◌, Option, Some, None, Result, Ok, Err, ⊤}
use Rattle.spb_tlvs.specs.declared.entries.SnpEntry.{SnpEntry}
use Rattle.spb_tlvs.specs.declared.error.TlvError.{TlvError}
use Rattle.lsdb.specs.Certificate.{Claim}
use Rattle.flooding.specs.Hearing.{is_full_for_lsp}
use Rattle.snp_sync.specs.Reading.{entries_in}
use Rattle.snp_sync.specs.Hearing.{full_count}
use Rattle.adjacency.specs.declared.state.AdjacencyChange.{AdjacencyChange}
use Rattle.adjacency.specs.declared.state.AdjacencyChange.TheVariants as did
use Rattle.adjacency.specs.Adjacency.{change_by_hello}
use Rattle.spb_types.specs.declared.drop_reason.DropReason.{DropReason}
use Rattle.spb_types.specs.declared.drop_reason.DropReason.TheVariants as drop
use Rattle.bridge_api.specs.declared.port.BridgePort.{BridgePort}
use Rattle.bridge_api.specs.Drops.{raised_at}
use Rattle.bridge_api.specs.View.{BridgeView, port_at, is_port_up, up_ports}
use Rattle.bridge_api.specs.Own.{holding_of}
use Rattle.bridge_api.specs.Parsing.{Parsed, parsed}
use Rattle.bridge_api.specs.Parsing as parsing
use Rattle.bridge_api.specs.Customers.{with_learned, reason_for_carried, after_entry, moved_by_entry, moved_by_receive}
use Rattle.bridge_api.specs.Hearing.{after_drop, after_receive}
use Rattle.bridge_api.specs.Step.{Input, second, frame, carrier, metric, attach, detach, customer, step}
use Rattle.bridge_api.specs.Laws.{IsSoundView, claims_or_none}

-- ---- why a frame is dropped, if it is

-- a hello that the three-way adjacency discards
abbrev pub reason_if_discarded : AdjacencyChange → Option DropReason
reason_if_discarded did.Discarded = Some drop.Hello
reason_if_discarded did.Kept = None
reason_if_discarded did.LeftUp = None
reason_if_discarded did.CameUp = None

-- a sequence numbers PDU of which an entry can't be read
abbrev pub reason_if_unread : Result (List SnpEntry) TlvError → Option DropReason
reason_if_unread (Err e) = Some drop.Tlv
reason_if_unread (Ok entries) = None

-- what it is taken for comes first, then whether the port is Up, and then what stands in it
abbrev pub reason_as : Parsed → ℕ → BridgePort → BridgeView → Option DropReason
reason_as (parsing.dropped reason) p port v = Some reason
reason_as (parsing.hello h way) p port v = reason_if_discarded (change_by_hello v.id.system p h way port.adjacency)
reason_as (parsing.lsp l) p port v =
    if is_port_up port then (if is_full_for_lsp (up_ports v) p l (holding_of v) then Some drop.Full else None)
    else Some drop.NotAdjacent
reason_as (parsing.csnp c) p port v =
    if is_port_up port then reason_if_unread (entries_in c.tlvs) else Some drop.NotAdjacent
reason_as (parsing.psnp s) p port v =
    if is_port_up port then reason_if_unread (entries_in s.tlvs) else Some drop.NotAdjacent
reason_as (parsing.customer da sa vid isid payload) p port v = reason_for_carried da sa vid isid payload p v

-- the carrier of the port comes before all that
abbrev pub reason_at : ℕ → List ℕ → Option BridgePort → BridgeView → Option DropReason
reason_at p bytes None v = None
reason_at p bytes (Some port) v =
    if port.adjacency.carrier then reason_as (parsed bytes) p port v else Some drop.NotAdjacent

-- the one reason for which a frame that comes in at a port is dropped
abbrev pub reason_for : ℕ → List ℕ → BridgeView → Option DropReason
reason_for p bytes v = reason_at p bytes (port_at v p) v

-- ---- what becomes of the counts

-- a frame that is dropped raises the count of its reason by one, and changes and sends nothing
pub record IsDropped (p : ℕ) (bytes : List ℕ) (reason : DropReason) (v : BridgeView) : Type 0 where
  pub counts : after_receive p bytes v ≡ after_drop reason v
  pub wire : (moved_by_receive p bytes v).wire ≡ []
  pub left : (moved_by_receive p bytes v).left ≡ []

abbrev pub DroppedFramesCountOnce : Type 0
DroppedFramesCountOnce = (p : ℕ) (bytes : List ℕ) (reason : DropReason) (v : BridgeView) → IsSoundView v
    → reason_for p bytes v ≡ Some reason → IsDropped p bytes reason v

-- the entries of a sequence numbers PDU
abbrev pub entries_said : Parsed → List Claim
entries_said (parsing.dropped reason) = []
entries_said (parsing.hello h way) = []
entries_said (parsing.lsp l) = []
entries_said (parsing.csnp c) = claims_or_none (entries_in c.tlvs)
entries_said (parsing.psnp s) = claims_or_none (entries_in s.tlvs)
entries_said (parsing.customer da sa vid isid payload) = []

-- any other frame raises no count but that of what finds no place, once for each such entry
abbrev pub HeardFramesCountEntries : Type 0
HeardFramesCountEntries = (p : ℕ) (bytes : List ℕ) (port : BridgePort) (v : BridgeView) → port_at v p ≡ Some port
    → reason_for p bytes v ≡ None
    → (after_receive p bytes v).drops
    ≡ raised_at drop.Full (full_count (up_ports v) p (entries_said (parsed bytes)) (holding_of v)) v.drops

-- a customer's frame is dropped for no other reason than that no port leads on, which is counted once; what its source
-- taught the bridge stays
abbrev pub EntriesWithoutWayCountOnce : Type 0
EntriesWithoutWayCountOnce = (p : ℕ) (bytes : List ℕ) (reason : DropReason) (v : BridgeView)
    → (moved_by_entry p bytes v).dropped ≡ Some reason
    → (reason ≡ drop.NoWay)
    × (after_entry p bytes v ≡ with_learned (after_entry p bytes v).learned (after_drop reason v))

abbrev pub OtherEntriesCountNothing : Type 0
OtherEntriesCountNothing = (p : ℕ) (bytes : List ℕ) (v : BridgeView)
    → (moved_by_entry p bytes v).dropped ≡ None → (after_entry p bytes v).drops ≡ v.drops

-- nothing else raises a count
abbrev pub BringsFrame : Input → Type 0
BringsFrame second = ⊥
BringsFrame (frame p bytes) = ⊤
BringsFrame (carrier p on) = ⊥
BringsFrame (metric p m) = ⊥
BringsFrame (attach a) = ⊥
BringsFrame (detach p) = ⊥
BringsFrame (customer p bytes) = ⊤

abbrev pub OtherStepsCountNothing : Type 0
OtherStepsCountNothing = (input : Input) (v : BridgeView) → (BringsFrame input → ⊥) → (step input v).drops ≡ v.drops

-- and there is a sound bridge that drops a frame
pub record SomeDrops : Type 0 where
  pub bridge : BridgeView
  pub port : ℕ
  pub sound : IsSoundView bridge
  pub bytes : List ℕ
  pub reason : DropReason
  pub dropped : reason_for port bytes bridge ≡ Some reason
