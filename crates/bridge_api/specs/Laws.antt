-- What every step of a bridge keeps, whatever comes to it: the facts that a network rests on.
use Rattle.std.specs.Prelude.{◌≡◌, ◌≢◌, ◌⊎◌, ℕ, ◌-◌, ◌≤◌, ◌<◌, nat_le, List, [], ◌∷◌, ◌++◌, length, map, count_by, slice_set, Bool, true, false, ◌==◌, ◌&&◌, if◌then◌else◌, Option, Some, None, Result, Ok, Err, ⊤}
use Rattle.std.specs.List.{AllByRecursion}
use Rattle.std.specs.Option.{option_map}
use Rattle.std.specs.FinMap.{get}
use Rattle.spb_types.specs.declared.address.Mac.{Mac}
use Rattle.spb_types.specs.declared.address.LspId.{LspId}
use Rattle.spb_types.specs.declared.service.Vid.{Vid}
use Rattle.spb_types.specs.declared.service.Isid.{Isid}
use Rattle.spb_types.specs.declared.service.Attachment.{Attachment}
use Rattle.spb_types.specs.Ports.{has}
use Rattle.isis_pdu.specs.Pdu.{HelloValue, LspValue, CsnpValue, PsnpValue}
use Rattle.isis_pdu.specs.Spelling.{hello_bytes, lsp_bytes, csnp_bytes, psnp_bytes}
use Rattle.isis_pdu.specs.Grammar.{IsBytes}
use Rattle.spb_tlvs.specs.declared.entries.SnpEntry.{SnpEntry}
use Rattle.spb_tlvs.specs.declared.error.TlvError.{TlvError}
use Rattle.spb_tlvs.specs.declared.three_way.ThreeWay.{ThreeWay}
use Rattle.spb_tlvs.specs.Capability.{IsTree}
use Rattle.spb_tlvs.specs.RoundTrip.{IsNamed}
use Rattle.lsdb.specs.declared.version.Version.{Version}
use Rattle.lsdb.specs.declared.version.Version.TheVariants.{Absent}
use Rattle.lsdb.specs.Version.{is_absent}
use Rattle.lsdb.specs.Entry.{Entry}
use Rattle.lsdb.specs.Database.{version_in, srm_in, ssn_in, version_at}
use Rattle.lsdb.specs.Certificate.{Claim, IsClaimed, Certificate}
use Rattle.flooding.specs.Own.{own_id, own_numbers}
use Rattle.flooding.specs.Room.{most_others, others}
use Rattle.flooding.specs.Hearing.{claim_of}
use Rattle.flooding.specs.Sending.{lsp_in}
use Rattle.flooding.specs.Entries.{AreSendable, HaveFlagsAt, HaveOctets}
use Rattle.flooding.specs.Laws.{HasBodies}
use Rattle.flooding.specs.OctetLaws.{SaysOctets}
use Rattle.flooding.specs.Starting.{StartsAlone}
use Rattle.snp_sync.specs.Sized.{AreSized}
use Rattle.snp_sync.specs.Reading.{entries_in}
use Rattle.snp_sync.specs.Hearing.{claims_in}
use Rattle.itag_frames.specs.Frame.{Customer, control_bytes}
use Rattle.itag_frames.specs.Backbone.{backbone_in}
use Rattle.spb_content.specs.Local.{IsLocal}
use Rattle.spb_content.specs.Laws.{HasFields}
use Rattle.adjacency.specs.Hearing.{End, sender}
use Rattle.adjacency.specs.Adjacency.{IsSound, said}
use Rattle.bridge_api.specs.declared.port.BridgePort.{BridgePort}
use Rattle.bridge_api.specs.declared.config.BridgeConfig.{BridgeConfig}
use Rattle.bridge_api.specs.View.{BridgeView, IsPort, port_at, neighbour_at, is_up_at, has_carrier_at, is_csnp_due_at, is_port_up, metrics_of, up_ports, control_of}
use Rattle.bridge_api.specs.Own.{local_of, own_of, own_entry, holding_of, originated_if_changed, IsOwnLspCurrent}
use Rattle.spb_types.specs.declared.limits.TheConstants.{MOST_ISIDS, MOST_PORTS, MOST_VIDS, SOURCE_IDS}
use Rattle.bridge_api.specs.Config.{IsWhole, IsOwnMac, IsMetric, IsAttachment, AgreesWith, ArePairwise, different, vids_of, bare, configured}
use Rattle.bridge_api.specs.Parsing.{Parsed, hello_in, parsed, is_hello}
use Rattle.bridge_api.specs.Parsing as parsing
use Rattle.bridge_api.specs.Hearing.{with_carrier, heard_lsp, heard_csnp, heard_psnp}
use Rattle.bridge_api.specs.Services.{IsAttachedPort, IsSendingPort, CanAttach, without_customer_port}
use Rattle.bridge_api.specs.Customers.{IsCustomerFrame, AreLearned}
use Rattle.bridge_api.specs.Step.{Input, second, frame, carrier, metric, attach, detach, customer, step, sent}

-- a port whose adjacency is sound, with a neighbour of six octets if it keeps one, where CSNPs are due only if it is
-- Up, and whose link has a metric
pub record IsSoundPort (port : BridgePort) : Type 0 where
  pub adjacency : IsSound port.adjacency
  pub neighbour : length port.adjacency.neighbour.mac.bytes ≡ 6
  pub octets : IsBytes port.adjacency.neighbour.mac.bytes
  pub csnp_due : port.csnp_due ≡ true → is_port_up port ≡ true
  pub metric : IsMetric port.metric

-- what a whole configuration gives a bridge, and every step keeps
pub record HasConfig (v : BridgeView) : Type 0 where
  pub priority : v.id.priority < 65536
  pub system : IsOwnMac v.id.system.mac
  pub source : v.source.value < SOURCE_IDS
  pub few_vids : length v.vids ≤ MOST_VIDS
  pub each_vid : AllByRecursion IsTree v.vids
  pub vids_apart : ArePairwise (λ x y. x ≢ y) (vids_of v.vids)
  pub each_attachment : AllByRecursion (IsAttachment (vids_of v.vids)) v.attached
  pub attachments_apart : ArePairwise AgreesWith v.attached
  pub few_isids : length (different (map (λ a. a.isid.value) v.attached)) ≤ MOST_ISIDS

-- the database: each LSP that is held can be written, and is read again as what is held; what an SNP says of it can be
-- written; its body is octets; flags stand at Up ports alone; number 0 of the bridge's own is held, and no own number
-- as absent; and of the ids that aren't own numbers no more are held than have room
pub record HasDatabase (v : BridgeView) : Type 0 where
  pub sendable : AreSendable v.database
  pub sized : AreSized v.database
  pub octets : HaveOctets v.database
  pub flags : HaveFlagsAt (up_ports v) v.database
  pub own : is_absent (version_at v.database (own_id v.id.system)) ≡ false
  pub present : (number : ℕ) (e : Entry) → number < own_numbers → own_entry v number ≡ Some e
      → is_absent e.version ≡ false
  pub room : others v.id.system v.database ≤ most_others

-- a configured bridge with at most 32 ports, each sound, and a sound database, in which its own LSPs are current;
-- behind which bridges customers' addresses are, it has learned with their six bytes
pub record IsSoundView (v : BridgeView) : Type 0 where
  pub config : HasConfig v
  pub few : length v.ports ≤ MOST_PORTS
  pub ports : AllByRecursion IsSoundPort v.ports
  pub database : HasDatabase v
  pub own : IsOwnLspCurrent v
  pub learned : AreLearned v.learned

-- so what it says of itself can be written, fits its LSPs, and is octets
pub record CanSay (v : BridgeView) : Type 0 where
  pub local : IsLocal (local_of v)
  pub fields : HasFields (local_of v)
  pub body : HasBodies (own_of v)
  pub octets : SaysOctets (own_of v)

abbrev pub SoundCanSay : Type 0
SoundCanSay = (v : BridgeView) → IsSoundView v → CanSay v

-- the configured bridge is sound, and stays so
abbrev pub ConfiguredIsSound : Type 0
ConfiguredIsSound = (c : BridgeConfig) → IsWhole c → IsSoundView (configured c)

-- it has the ports of the configuration with their metrics, and there neither carrier nor neighbour
pub record IsWithoutCarrier (c : BridgeConfig) (v : BridgeView) : Type 0 where
  pub ports : length v.ports ≡ c.ports
  pub metrics : metrics_of v.ports ≡ c.metrics
  pub carrier : (p : ℕ) → has_carrier_at v p ≡ false
  pub neighbour : (p : ℕ) → neighbour_at v p ≡ None

abbrev pub ConfiguredHasNoCarrier : Type 0
ConfiguredHasNoCarrier = (c : BridgeConfig) → IsWhole c → IsWithoutCarrier c (configured c)

-- it holds of its own numbers what they begin with above those of the life before, and nothing else
abbrev pub ConfiguredStarts : Type 0
ConfiguredStarts = (c : BridgeConfig) → IsWhole c → StartsAlone c.last (holding_of (bare c)) (holding_of (configured c))

-- what can come to a bridge: a metric is one of a link; a customer port can be attached so, or is attached; and a
-- customer's frame enters at one that sends
abbrev pub IsInput : BridgeView → Input → Type 0
IsInput v second = ⊤
IsInput v (frame q bytes) = ⊤
IsInput v (carrier q on) = ⊤
IsInput v (metric q m) = IsMetric m
IsInput v (attach a) = CanAttach v a
IsInput v (detach p) = IsAttachedPort v p
IsInput v (customer p bytes) = IsSendingPort v p × IsCustomerFrame bytes

abbrev pub StepsStaySound : Type 0
StepsStaySound = (input : Input) (v : BridgeView) → IsInput v input → IsSoundView v → IsSoundView (step input v)

-- the metric of the link at a port is set by an input that says so, and by nothing else
abbrev pub metrics_after : Input → List ℕ → List ℕ
metrics_after second metrics = metrics
metrics_after (frame q bytes) metrics = metrics
metrics_after (carrier q on) metrics = metrics
metrics_after (metric q m) metrics = if nat_le 1 q then slice_set metrics (q - 1) m else metrics
metrics_after (attach a) metrics = metrics
metrics_after (detach p) metrics = metrics
metrics_after (customer p bytes) metrics = metrics

-- a customer port is attached and detached by an input that says so, and by nothing else
abbrev pub attached_after : Input → List Attachment → List Attachment
attached_after second attached = attached
attached_after (frame q bytes) attached = attached
attached_after (carrier q on) attached = attached
attached_after (metric q m) attached = attached
attached_after (attach a) attached = attached ++ a ∷ []
attached_after (detach p) attached = without_customer_port p attached
attached_after (customer p bytes) attached = attached

-- the same bridge: its ids, its VIDs, the number of its ports, their metrics but for one that is set, and what is
-- attached but for a customer port that is attached or detached
pub record IsSameBridge (input : Input) (v w : BridgeView) : Type 0 where
  pub id : w.id ≡ v.id
  pub source : w.source ≡ v.source
  pub vids : w.vids ≡ v.vids
  pub attached : w.attached ≡ attached_after input v.attached
  pub ports : length w.ports ≡ length v.ports
  pub metrics : metrics_of w.ports ≡ metrics_after input (metrics_of v.ports)
  pub failed : w.failed ≡ v.failed

abbrev pub StepsKeepBridge : Type 0
StepsKeepBridge = (input : Input) (v : BridgeView) → IsSameBridge input v (step input v)

-- carrier comes and goes at a port by a change of carrier there, and by nothing else
abbrev pub carrier_after : Input → ℕ → Bool → Bool
carrier_after second p was = was
carrier_after (frame q bytes) p was = was
carrier_after (carrier q on) p was = if p == q then on else was
carrier_after (metric q m) p was = was
carrier_after (attach a) p was = was
carrier_after (detach q) p was = was
carrier_after (customer q bytes) p was = was

abbrev pub StepsKeepCarrier : Type 0
StepsKeepCarrier = (input : Input) (v : BridgeView) (p : ℕ) → IsPort v p
    → has_carrier_at (step input v) p ≡ carrier_after input p (has_carrier_at v p)

-- the end of which a frame is the hello
abbrev pub hello_sender : Parsed → Option End
hello_sender j = option_map (λ g. sender g.0 g.1) (hello_in j)

-- this end was heard at the port, by the frame that came in
abbrev pub IsHeard : Input → ℕ → End → Type 0
IsHeard second p n = ⊥
IsHeard (frame q bytes) p n = (q ≡ p) × (hello_sender (parsed bytes) ≡ Some n)
IsHeard (carrier q on) p n = ⊥
IsHeard (metric q m) p n = ⊥
IsHeard (attach a) p n = ⊥
IsHeard (detach q) p n = ⊥
IsHeard (customer q bytes) p n = ⊥

-- a neighbour that is kept was kept before, or is the end that was just heard
abbrev pub StepsKeepNeighbours : Type 0
StepsKeepNeighbours = (input : Input) (v : BridgeView) (p : ℕ) (n : End) → neighbour_at (step input v) p ≡ Some n
    → (neighbour_at v p ≡ Some n) ⊎ IsHeard input p n

-- one of the frames sent is this one, at the port
abbrev pub IsSent : List (ℕ × List ℕ) → ℕ → List ℕ → Type 0
IsSent [] p bytes = ⊥
IsSent (s ∷ ss) p bytes = ((s.0 ≡ p) × (s.1 ≡ bytes)) ⊎ IsSent ss p bytes

-- a hello of this bridge at the port: of level 1, to be held for three seconds, naming the port, and as its neighbour
-- the one that is kept there, if one is
pub record IsHelloOf (v : BridgeView) (p : ℕ) (hello : HelloValue) (way : ThreeWay) : Type 0 where
  pub sender : sender hello way ≡ (v.id.system, p)
  pub level : hello.circuit_type ≡ 1
  pub holding : hello.holding ≡ 3
  pub state : way.state ≤ 2
  pub neighbour : way.neighbour ≡ neighbour_at v p
  pub spoken : (port : BridgePort) → port_at v p ≡ Some port → way ≡ said p port.adjacency

-- the claims of a frame: that of an LSP, and those of the entries of a sequence numbers PDU that can be read
abbrev pub claims_or_none : Result (List SnpEntry) TlvError → List Claim
claims_or_none (Ok entries) = claims_in entries
claims_or_none (Err e) = []

abbrev pub claims_said : Parsed → List Claim
claims_said (parsing.dropped reason) = []
claims_said (parsing.hello h way) = []
claims_said (parsing.lsp l) = claim_of l ∷ []
claims_said (parsing.csnp c) = claims_or_none (entries_in c.tlvs)
claims_said (parsing.psnp s) = claims_or_none (entries_in s.tlvs)
claims_said (parsing.customer da sa vid isid payload) = []

-- what is heard leaves a sound bridge nothing to originate: a claim of an own LSP is answered with what it has to say
-- there, or dead
abbrev pub LspSettlesNothing : Type 0
LspSettlesNothing = (v : BridgeView) (l : LspValue) (p : ℕ) → IsSoundView v
    → originated_if_changed (heard_lsp l p v) ≡ heard_lsp l p v

abbrev pub CsnpSettlesNothing : Type 0
CsnpSettlesNothing = (v : BridgeView) (c : CsnpValue) (entries : List SnpEntry) (p : ℕ) → IsSoundView v
    → originated_if_changed (heard_csnp c entries p v) ≡ heard_csnp c entries p v

abbrev pub PsnpSettlesNothing : Type 0
PsnpSettlesNothing = (v : BridgeView) (entries : List SnpEntry) (p : ℕ) → IsSoundView v
    → originated_if_changed (heard_psnp entries p v) ≡ heard_psnp entries p v

-- a frame as the bridge with an address writes it: a PDU in a control frame, or a frame that carries a customer's,
-- which another bridge may have written
pub data IsWritten (sa : Mac) (bytes : List ℕ) : Type 0 where
  writes_hello : (h : HelloValue) → bytes ≡ control_bytes sa (hello_bytes h) → IsWritten sa bytes
  writes_lsp : (l : LspValue) → bytes ≡ control_bytes sa (lsp_bytes l) → IsWritten sa bytes
  writes_csnp : (c : CsnpValue) → bytes ≡ control_bytes sa (csnp_bytes c) → IsWritten sa bytes
  writes_psnp : (s : PsnpValue) → bytes ≡ control_bytes sa (psnp_bytes s) → IsWritten sa bytes
  carries : (da ba : Mac) (vid : Vid) (isid : Isid) (payload : List ℕ)
      → backbone_in bytes ≡ Ok (Customer da ba vid isid payload) → IsWritten sa bytes

-- the LSP of what a bridge holds under its id
abbrev pub IsHeldLsp : BridgeView → LspValue → Type 0
IsHeldLsp v l = (e : Entry) × (get v.database l.id ≡ Some e) × (l ≡ lsp_in l.id e)

-- under this id a bridge holds something, of this version
abbrev pub IsHeldAt : BridgeView → LspId → Version → Type 0
IsHeldAt v id a = (e : Entry) × (get v.database id ≡ Some e) × (a ≡ e.version)

-- a frame of this bridge at the port: if it is heard as a hello, as one of this bridge; if as an LSP, as the one that
-- the bridge holds; what it claims is what the bridge holds; and it is written as this bridge writes
pub record IsFrameOf (v : BridgeView) (p : ℕ) (bytes : List ℕ) : Type 0 where
  pub hello : (h : HelloValue) (way : ThreeWay) → parsed bytes ≡ parsing.hello h way → IsHelloOf v p h way
  pub lsp : (l : LspValue) → parsed bytes ≡ parsing.lsp l → IsHeldLsp v l
  pub claims : (id : LspId) (a : Version) → IsClaimed (claims_said (parsed bytes)) id a → IsHeldAt v id a
  pub written : IsWritten v.id.system.mac bytes

-- whatever came in, each frame that a bridge sends is such a one, where the neighbour can be named: a circuit id of
-- four bytes
abbrev pub SentIsSound : Type 0
SentIsSound = (input : Input) (v : BridgeView) (p : ℕ) (bytes : List ℕ) → IsInput v input → IsSoundView v
    → IsNamed (neighbour_at (step input v) p) → IsSent (sent input v) p bytes → IsFrameOf (step input v) p bytes

-- in a second at most one hello is sent at a port
abbrev pub OneHello : Type 0
OneHello = (v : BridgeView) (p : ℕ) → IsSoundView v → count_by (λ s. (s.0 == p) && is_hello s.1) (sent second v) ≤ 1

-- and at a port with carrier a hello is sent that is heard
pub record IsHelloHeard (v : BridgeView) (p : ℕ) : Type 0 where
  pub bytes : List ℕ
  pub sent : IsSent (sent second v) p bytes
  pub hello : HelloValue
  pub way : ThreeWay
  pub heard : parsed bytes ≡ parsing.hello hello way
  pub own : IsHelloOf (step second v) p hello way

abbrev pub HellosAreHeard : Type 0
HellosAreHeard = (v : BridgeView) (p : ℕ) → IsSoundView v → has_carrier_at v p ≡ true
    → IsNamed (neighbour_at (step second v) p) → IsHelloHeard v p

-- and it is sent at a port with carrier
abbrev pub SentWithCarrier : Type 0
SentWithCarrier = (v : BridgeView) (p : ℕ) (bytes : List ℕ) → IsSoundView v → IsSent (sent second v) p bytes
    → has_carrier_at v p ≡ true

-- a port that has just come up: CSNPs are due there, each LSP that is held is to be sent there, and none is to be
-- acknowledged or asked for
pub record IsFresh (v : BridgeView) (p : ℕ) : Type 0 where
  pub csnp_due : is_csnp_due_at v p ≡ true
  pub flagged : (id : LspId) → (has (srm_in (get v.database id)) p ≡ true) ⊎ (version_in (get v.database id) ≡ Absent)
  pub silent : (id : LspId) → has (ssn_in (get v.database id)) p ≡ false

-- entering Up is one operation: a port that is Up was so before, with the same neighbour, or is fresh
abbrev pub EnteringUpIsWhole : Type 0
EnteringUpIsWhole = (input : Input) (v : BridgeView) (p : ℕ) → IsSoundView v → is_up_at (step input v) p ≡ true
    → ((is_up_at v p ≡ true) × (neighbour_at (step input v) p ≡ neighbour_at v p)) ⊎ IsFresh (step input v) p

-- the set of the Up ports has each port that is Up, and no other number
abbrev pub UpPortsAreUp : Type 0
UpPortsAreUp = (v : BridgeView) (p : ℕ) → IsSoundView v → has (up_ports v) p ≡ is_up_at v p

-- the backbone port at which something came in, and what was claimed in it
abbrev pub port_of : Input → ℕ
port_of second = 0
port_of (frame p bytes) = p
port_of (carrier p on) = p
port_of (metric p m) = p
port_of (attach a) = 0
port_of (detach p) = 0
port_of (customer p bytes) = 0

abbrev pub claims_of : Input → List Claim
claims_of second = []
claims_of (frame p bytes) = claims_said (parsed bytes)
claims_of (carrier p on) = []
claims_of (metric p m) = []
claims_of (attach a) = []
claims_of (detach p) = []
claims_of (customer p bytes) = []

-- no version falls, and the neighbour at each Up port is no further behind
abbrev pub StepsCarryDatabase : Type 0
StepsCarryDatabase = (input : Input) (v : BridgeView) → IsSoundView v
    → Certificate (port_of input) (claims_of input) (control_of v) (control_of (step input v))

-- ---- bridges come up, so that what is said of Up ports is said of something

-- a bridge just configured, with carrier at its port 1
abbrev pub with_first_carrier : BridgeConfig → BridgeView
with_first_carrier c = with_carrier 1 true (configured c)

-- the bytes of the first of these frames
abbrev pub first_of : List (ℕ × List ℕ) → List ℕ
first_of [] = []
first_of (s ∷ ss) = s.1

-- a bridge that heard at its port 1 what another sends first in a second
abbrev pub hearing_from : BridgeView → BridgeView → BridgeView
hearing_from w v = step (frame 1 (first_of (sent second w))) v

-- a bridge that has heard a neighbour which has heard it is Up
abbrev pub NeighboursComeUp : Type 0
NeighboursComeUp = (c d : BridgeConfig) → IsWhole c → IsWhole d → 1 ≤ c.ports → 1 ≤ d.ports → c.id.system ≢ d.id.system
    → is_up_at (hearing_from (hearing_from (with_first_carrier c) (with_first_carrier d)) (with_first_carrier c)) 1
    ≡ true

-- two configurations by which this is so, and the sound bridge whose port 1 is Up
pub record SomeBridge : Type 0 where
  pub config : BridgeConfig
  pub other : BridgeConfig
  pub whole : IsWhole config
  pub other_whole : IsWhole other
  pub sound : IsSoundView (hearing_from (hearing_from (with_first_carrier config) (with_first_carrier other))
      (with_first_carrier config))
  pub up : is_up_at (hearing_from (hearing_from (with_first_carrier config) (with_first_carrier other))
      (with_first_carrier config)) 1 ≡ true
