use Rattle.std.specs.Prelude.{◌≡◌, ◌≢◌, ℕ, zero, suc, ◌+◌, ◌≤◌, ◌<◌, List, [], ◌∷◌, ◌++◌, length, map, Bool, false, ◌&&◌, ◌||◌, ◌==◌, replicate, Option, Some, None, find, position, flat_map, max, if◌then◌else◌, nat_eq, IsTrue, ⊤}
use Rattle.std.specs.List.{AllByRecursion, filter_map, list_any, range_with_len}
use Rattle.std.specs.Map.{lookup}
use Rattle.std.specs.Option.{option_map}
use Rattle.std.specs.Str.{bytes_eq}
use Rattle.spb_types.specs.Graph.{IsDistinct, systems_of}
use Rattle.spb_types.specs.declared.address.SystemId.{SystemId}
use Rattle.spb_types.specs.declared.graph.Edge.{Edge}
use Rattle.spb_types.specs.declared.graph.Graph.{Graph}
use Rattle.spb_types.specs.declared.graph.GraphBridge.{GraphBridge}
use Rattle.spb_types.specs.declared.graph.Member.{Member}
use Rattle.spb_types.specs.declared.service.Attachment.{Attachment}
use Rattle.spb_types.specs.declared.service.Isid.{Isid}
use Rattle.spb_types.specs.declared.service.Vid.{Vid}
use Rattle.spb_types.specs.declared.service.VidPlan.{VidPlan}
use Rattle.spb_tlvs.specs.Capability.{IsTree}
use Rattle.spb_content.specs.Members.{merged}
use Rattle.bridge_api.specs.Config.{ArePairwise, vids_of}
use Rattle.bridge_api.specs.Own.{member_of}
use Rattle.spb_world.specs.declared.declaration.DeclaredBridge.{DeclaredBridge}
use Rattle.spb_world.specs.declared.declaration.DeclaredLink.{DeclaredLink}
use Rattle.spb_world.specs.declared.declaration.LinkEnd.{LinkEnd}
use Rattle.spb_types.specs.declared.tables.Tables.{Tables}
use Rattle.fdb_build.specs.Fabric.{FabricView}
use Rattle.fdb_build.specs.Tables.{ArePlans, unicast_rows}
use Rattle.fdb_build.specs.Groups.{group_rows}
use Rattle.spb_types.specs.declared.limits.TheConstants.{GREATEST_ISID, GREATEST_METRIC, MOST_BRIDGES, MOST_CUSTOMER_PORTS, MOST_PORTS, MOST_VIDS}

-- the declared bridges, each with its name, in order of declaration
abbrev pub Bridges : Type 0
Bridges = List (List ℕ × DeclaredBridge)

-- the declared links, each with its name, in order of declaration
abbrev pub Links : Type 0
Links = List (List ℕ × DeclaredLink)

-- the declared services, each I-SID with its base VID, in order of declaration
abbrev pub Services : Type 0
Services = List (Isid × Vid)

-- what is attached, each by the place of its bridge: in ascending order of these places, and at each bridge in order of
-- attaching
abbrev pub Attachments : Type 0
Attachments = List (ℕ × Attachment)

-- what is attached at the bridges from place n on, of a list for each bridge
abbrev pub by_place_from : ℕ → List (List Attachment) → Attachments
by_place_from n [] = []
by_place_from n (attached ∷ lists) = map (λ a. (n, a)) attached ++ by_place_from (n + 1) lists

abbrev pub by_place : List (List Attachment) → Attachments
by_place lists = by_place_from 0 lists

-- what is declared: the base VIDs, the bridges, the links and the services; and what is attached
pub record World : Type 0 where
  pub vids : List VidPlan
  pub bridges : Bridges
  pub links : Links
  pub services : Services
  pub attached : Attachments

-- the names of what is declared, in order
abbrev pub names_of : {T : Type 0} → List (List ℕ × T) → List (List ℕ)
names_of entries = map (λ e. e.0) entries

-- what is declared, without the names
abbrev pub things_of : {T : Type 0} → List (List ℕ × T) → List T
things_of entries = map (λ e. e.1) entries

-- the place of the thing of this name in order of declaration, counted from 0
abbrev pub place_of : {T : Type 0} → List ℕ → List (List ℕ × T) → Option ℕ
place_of name entries = position (bytes_eq name) (names_of entries)

-- the bridges of a graph, in order of declaration
abbrev pub graph_bridges : Bridges → List GraphBridge
graph_bridges bridges = map (λ b. b.bridge) (things_of bridges)

-- the system id of the bridge at a place, and zeros past the last bridge
abbrev pub system_at : Bridges → ℕ → SystemId
system_at [] i = record { mac = record { bytes = replicate 6 0 } }
system_at (b ∷ bs) zero = b.1.bridge.id.system
system_at (b ∷ bs) (suc i) = system_at bs i

-- the number of ports of the bridge at a place
abbrev pub ports_at : Bridges → ℕ → ℕ
ports_at [] i = 0
ports_at (b ∷ bs) zero = b.1.ports
ports_at (b ∷ bs) (suc i) = ports_at bs i

-- the base VID of the service of an I-SID, if it is declared
abbrev pub vid_of_isid : Services → ℕ → Option Vid
vid_of_isid services isid = lookup (λ i. isid == i.value) services

-- the base VID of a number, if it is declared
abbrev pub declared_vid : List VidPlan → ℕ → Option Vid
declared_vid vids n = option_map (λ plan. plan.vid) (find (λ plan. plan.vid.value == n) vids)

-- what is attached, if that is at the bridge at place i
abbrev pub attachment_at : ℕ → ℕ × Attachment → Option Attachment
attachment_at i x = if x.0 == i then Some x.1 else None

-- what is attached to the customer ports of the bridge at a place, in order of attaching
abbrev pub attached_at : World → ℕ → List Attachment
attached_at w i = filter_map (attachment_at i) w.attached

-- the edge that a link makes: its cost is the greater of the metrics of its ends
abbrev pub edge_of : Bridges → DeclaredLink → Edge
edge_of bridges l = record {
  a = system_at bridges l.a.bridge;
  port_a = l.a.port;
  b = system_at bridges l.b.bridge;
  port_b = l.b.port;
  cost = max l.a.metric l.b.metric;
}

-- the edge of a link that is up
abbrev pub live_edge : Bridges → DeclaredLink → Option Edge
live_edge bridges l = if l.live then Some (edge_of bridges l) else None

-- the members that what is attached at a bridge makes it: one for each base VID and I-SID, in ascending order of these,
-- which transmits where one of the ports sends, and receives where one of them does
abbrev pub bridge_members : SystemId → List Attachment → List Member
bridge_members system attached = merged system (map (member_of system) attached)

-- those of the bridge at a place
abbrev pub members_at : World → ℕ → List Member
members_at w i = bridge_members (system_at w.bridges i) (attached_at w i)

-- the members of services, bridge by bridge in order of declaration
abbrev pub world_members : World → List Member
world_members w = flat_map (members_at w) (range_with_len 0 (length w.bridges))

-- the actual wiring: all bridges, an edge for each link that is up, and a member for each bridge and service that a
-- customer port of the bridge is attached to
abbrev pub world_graph : World → Graph
world_graph w = record {
  bridges = graph_bridges w.bridges;
  edges = filter_map (live_edge w.bridges) (things_of w.links);
  members = world_members w;
}

-- whether the link joins the bridges at two places, whichever of its ends is which
abbrev pub is_between : DeclaredLink → ℕ → ℕ → Bool
is_between l i j = (l.a.bridge == i && l.b.bridge == j) || (l.a.bridge == j && l.b.bridge == i)

-- whether the link ends at this port of the bridge at a place
abbrev pub is_at_port : DeclaredLink → ℕ → ℕ → Bool
is_at_port l i port = (l.a.bridge == i && l.a.port == port) || (l.b.bridge == i && l.b.port == port)

-- an end of a link lies at a port of a declared bridge, and has a metric that a link can have
pub record IsEnd (bridges : Bridges) (e : LinkEnd) : Type 0 where
  pub bridge : e.bridge < length bridges
  pub port_low : 1 ≤ e.port
  pub port_high : e.port ≤ ports_at bridges e.bridge
  pub metric_low : 1 ≤ e.metric
  pub metric_high : e.metric ≤ GREATEST_METRIC

-- a link has two ends, at different bridges
pub record IsLink (bridges : Bridges) (l : DeclaredLink) : Type 0 where
  pub a : IsEnd bridges l.a
  pub b : IsEnd bridges l.b
  pub apart : l.a.bridge ≢ l.b.bridge

-- the two links join different pairs of bridges, and end at different ports
pub record AreApart (l m : DeclaredLink) : Type 0 where
  pub bridges : is_between l m.a.bridge m.b.bridge ≡ false
  pub port_a : is_at_port l m.a.bridge m.a.port ≡ false
  pub port_b : is_at_port l m.b.bridge m.b.port ≡ false

-- each two of the links are apart
abbrev pub AllApart : List DeclaredLink → Type 0
AllApart [] = ⊤
AllApart (l ∷ ls) = AllByRecursion (AreApart l) ls × AllApart ls

-- a service has an I-SID in range and a declared base VID
pub record IsService (vids : List VidPlan) (service : Isid × Vid) : Type 0 where
  pub isid_low : 1 ≤ service.0.value
  pub isid_high : service.0.value ≤ GREATEST_ISID
  pub vid : IsTrue (list_any (nat_eq service.1.value) (vids_of vids))

-- what is attached is at a customer port of a declared bridge, in a declared service
pub record IsAttachedIn (bridges : Bridges) (services : Services) (x : ℕ × Attachment) : Type 0 where
  pub bridge : x.0 < length bridges
  pub port_low : 1 ≤ x.1.port
  pub port_high : x.1.port ≤ MOST_CUSTOMER_PORTS
  pub service : vid_of_isid services x.1.isid.value ≡ Some x.1.vid

-- two things that are attached are at two ports
abbrev pub AreAtTwoPorts : ℕ × Attachment → ℕ × Attachment → Type 0
AreAtTwoPorts x y = x.0 ≡ y.0 → x.1.port ≢ y.1.port

-- what every world keeps that declarations made: the system ids differ, each link has two ends at ports of different
-- bridges, no port has two links, no two bridges are linked twice, the VIDs differ and are in range, and the I-SIDs
-- differ, are in range and have declared VIDs; what is attached is at customer ports of declared bridges, no two at one
-- port, and in declared services
pub record Sound (w : World) : Type 0 where
  pub few : length w.bridges ≤ MOST_BRIDGES
  pub ports : AllByRecursion (λ b. b.ports ≤ MOST_PORTS) (things_of w.bridges)
  pub systems : IsDistinct (systems_of (graph_bridges w.bridges))
  pub links : AllByRecursion (IsLink w.bridges) (things_of w.links)
  pub links_apart : AllApart (things_of w.links)
  pub plans : ArePlans w.vids
  pub few_vids : length w.vids ≤ MOST_VIDS
  pub each_vid : AllByRecursion IsTree w.vids
  pub services : AllByRecursion (IsService w.vids) w.services
  pub services_apart : ArePairwise (λ x y. x.0.value ≢ y.0.value) w.services
  pub attached : AllByRecursion (IsAttachedIn w.bridges w.services) w.attached
  pub attached_apart : ArePairwise AreAtTwoPorts w.attached

-- no two bridges have one name or one source, and no two links one name
pub record AreDistinct (w : World) : Type 0 where
  pub bridges : ArePairwise (λ x y. x ≢ y) (names_of w.bridges)
  pub sources : ArePairwise (λ x y. x ≢ y) (map (λ b. b.bridge.source.value) (things_of w.bridges))
  pub links : ArePairwise (λ x y. x ≢ y) (names_of w.links)

-- the wiring and the base VIDs, of which its tables are made
abbrev pub wired_fabric : World → FabricView
wired_fabric w = record { graph = world_graph w; vids = w.vids }

-- the tables that the wiring gives the bridge at a place
unfoldable pub wired_tables : World → ℕ → Tables
wired_tables w i = record {
  unicast = unicast_rows (world_graph w) (system_at w.bridges i) w.vids;
  group = group_rows (world_graph w) (system_at w.bridges i) w.vids;
}
