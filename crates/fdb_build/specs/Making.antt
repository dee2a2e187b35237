-- How group rows are made: the members of each service of a VID, the ports behind `me` on the tree of each source, and
-- rows to which ports are added.
use Rattle.std.specs.Prelude.{◌≡◌, ⊤, ℕ, List, [], length, map, Bool, true, false, ◌&&◌, ◌||◌, ◌==◌, ◌<◌, ◌^◌, Option, Some, None, unwrap_or, position, bit_or, if◌then◌else◌}
use Rattle.std.specs.List.{list_any, slice_index_or}
use Rattle.std.specs.BTreeMap.{BTreeMap, get}
use Rattle.std.specs.Str.{bytes_eq}
use Rattle.std.specs.Ordering.{nat_cmp}
use Rattle.std.specs.declared.cmp.Ordering.{Ordering}
use Rattle.std.specs.Global.{Vec}
use Rattle.spb_types.specs.Address.{same_system, group_address}
use Rattle.spb_types.specs.Ect.{mask_of}
use Rattle.spb_types.specs.Ports.{has, no_ports, with_port}
use Rattle.spb_types.specs.declared.address.Mac.{Mac}
use Rattle.spb_types.specs.declared.address.SystemId.{SystemId}
use Rattle.spb_types.specs.declared.graph.Graph.{Graph}
use Rattle.spb_types.specs.declared.graph.GraphBridge.{GraphBridge}
use Rattle.spb_types.specs.declared.graph.Member.{Member}
use Rattle.spb_types.specs.declared.ports.PortSet.{PortSet}
use Rattle.spb_types.specs.declared.service.Isid.{Isid}
use Rattle.spb_types.specs.declared.service.Vid.{Vid}
use Rattle.spb_types.specs.declared.service.VidPlan.{VidPlan}
use Rattle.spb_types.specs.declared.tables.GroupRow.{GroupRow}
use Rattle.fdb_build.specs.Tables.{mac_cmp}
use Rattle.fdb_build.specs.Groups.{port_after}
use Rattle.fdb_build.specs.declared.services.Services.{Services}
use Rattle.fdb_build.specs.declared.sets.Found.{Found}

-- ---- sets of ports

-- the ports of either set
abbrev pub union : PortSet → PortSet → PortSet
union s t = record { bits = bit_or s.bits t.bits }

-- the set of a port, if there is one
abbrev pub port_set : Option ℕ → PortSet
port_set None = no_ports
port_set (Some p) = with_port no_ports p

-- the set at a place, empty past the last
abbrev pub set_at : List PortSet → ℕ → PortSet
set_at sets place = slice_index_or sets place no_ports

-- whether the port is in the set of one of these places
abbrev pub is_towards : List PortSet → List ℕ → ℕ → Bool
is_towards sets places p = list_any (λ place. has (set_at sets place) p) places

-- ---- the members of services

-- I-SIDs compare as numbers
abbrev pub isid_cmp : Isid → Isid → Ordering
isid_cmp x y = nat_cmp x.value y.value

abbrev pub items_in : {V : Type 0} → Option (Vec V) → List V
items_in None = []
items_in (Some v) = v.items

-- the list that a map has for a key, empty where it has none
abbrev pub list_at : {K V : Type 0} → (K → K → Ordering) → BTreeMap K (Vec V) → K → List V
list_at cmp m k = items_in (get cmp m k)

abbrev pub same_isid : Isid → Isid → Bool
same_isid x y = y.value == x.value

abbrev pub same_place : ℕ → ℕ → Bool
same_place x y = y == x

-- the place of the first bridge with this system id
abbrev pub place_of : Graph → SystemId → Option ℕ
place_of g x = position (λ b. same_system b.id.system x) g.bridges

abbrev pub is_at : ℕ → Option ℕ → Bool
is_at place None = false
is_at place (Some p) = p == place

-- whether a member is in this service and VID, and its bridge stands at this place
abbrev pub is_member_at : Graph → Isid → Vid → ℕ → Member → Bool
is_member_at g isid vid place m =
    is_at place (place_of g m.system) && ((m.isid.value == isid.value) && (m.vid.value == vid.value))

-- whether one of these members sends to this service from the bridge at this place
abbrev pub is_sender_among : Graph → List Member → Vid → Isid → ℕ → Bool
is_sender_among g ms vid isid place = list_any (λ m. is_member_at g isid vid place m && m.transmit) ms

-- whether one of them receives from it there
abbrev pub is_receiver_among : Graph → List Member → Vid → Isid → ℕ → Bool
is_receiver_among g ms vid isid place = list_any (λ m. is_member_at g isid vid place m && m.receive) ms

-- the lists that stand in a list
abbrev pub lists_in : {V : Type 0} → List (Vec V) → List (List V)
lists_in lists = map (λ v. v.items) lists

-- the services to which the bridge at a place sends
abbrev pub sent_at : Services → ℕ → List Isid
sent_at s place = slice_index_or (lists_in s.sends.items) place []

-- the same, none where there is no such bridge
abbrev pub sent_by : Services → Option ℕ → List Isid
sent_by s None = []
sent_by s (Some place) = sent_at s place

-- a member was added to the services in a VID, if it is in that VID
pub record Added (g : Graph) (vid : Vid) (m : Member) (old new : Services) : Type 0 where
  pub places : length new.sends.items ≡ length old.sends.items
  pub sends : (isid : Isid) (place : ℕ) → list_any (same_isid isid) (sent_at new place)
      ≡ (list_any (same_isid isid) (sent_at old place) || (is_member_at g isid vid place m && m.transmit))
  pub receives : (isid : Isid) (place : ℕ) → list_any (same_place place) (list_at isid_cmp new.receivers isid)
      ≡ (list_any (same_place place) (list_at isid_cmp old.receivers isid)
      || (is_member_at g isid vid place m && m.receive))

-- the services in a VID of these members
pub record AreServicesOf (g : Graph) (ms : List Member) (vid : Vid) (s : Services) : Type 0 where
  pub places : length s.sends.items ≡ length g.bridges
  pub sends : (isid : Isid) (place : ℕ)
      → list_any (same_isid isid) (sent_at s place) ≡ is_sender_among g ms vid isid place
  pub receives : (isid : Isid) (place : ℕ)
      → list_any (same_place place) (list_at isid_cmp s.receivers isid) ≡ is_receiver_among g ms vid isid place

-- ---- the ports behind `me`

-- the sets of the ports behind `me` on the best paths from a source, by place of the bridge where each path ends
abbrev pub sets_from : Graph → SystemId → VidPlan → SystemId → List PortSet
sets_from g me plan source =
    map (λ b. port_set (port_after g (mask_of plan.ect) source b.id.system me)) g.bridges

-- the bridge at a place of the graph
abbrev pub source_at : Graph → ℕ → GraphBridge
source_at g place = slice_index_or g.bridges place
    (record {
      id = record { priority = 0; system = record { mac = record { bytes = [] } } };
      source = record { value = 0 };
    })

-- what was found last at a place is the set there of the source and the ECT algorithm for which it was asked
abbrev pub IsFound : Graph → SystemId → ℕ → Option Found → Type 0
IsFound g me place None = ⊤
IsFound g me place (Some f) = (plan : VidPlan) → f.ect ≡ plan.ect
    → f.ports ≡ set_at (sets_from g me plan (source_at g f.source).id.system) place

-- so it is at each place
abbrev pub AreFound : Graph → SystemId → List (Option Found) → Type 0
AreFound g me found = (place : ℕ) → IsFound g me place (slice_index_or found place None)

-- the set that was found for this source under this plan
abbrev pub found_for : VidPlan → ℕ → Option Found → Option PortSet
found_for plan source None = None
found_for plan source (Some f) = if f.source == source && f.ect == plan.ect then Some f.ports else None

-- ---- rows that grow

-- the ports that rows have for an address
abbrev pub ports_at : BTreeMap Mac PortSet → Mac → PortSet
ports_at rows mac = unwrap_or (get mac_cmp rows mac) no_ports

abbrev pub same_mac : Mac → Mac → Bool
same_mac x y = bytes_eq x.bytes y.bytes

-- each row has a port, and its set 32 bits
abbrev pub AreFilled : BTreeMap Mac PortSet → Type 0
AreFilled rows = (mac : Mac) (s : PortSet) → get mac_cmp rows mac ≡ Some s
    → ((p : ℕ) × (has s p ≡ true)) × (s.bits < 2 ^ 32)

-- rows got just the ports that pass a test
pub record Grew (old new : BTreeMap Mac PortSet) (test : Mac → ℕ → Bool) : Type 0 where
  pub ports : (mac : Mac) (p : ℕ) → has (ports_at new mac) p ≡ (has (ports_at old mac) p || test mac p)
  pub filled : AreFilled old → AreFilled new

-- whether a source sends on by the port to the address, for one of the services with these I-SIDs
abbrev pub is_from : Services → GraphBridge → List PortSet → List Isid → Mac → ℕ → Bool
is_from s source sets isids mac p = list_any (λ isid.
    same_mac mac (group_address source.source.value isid.value)
    && is_towards sets (list_at isid_cmp s.receivers isid) p) isids

-- whether the bridge does, for one of the services to which it sends
abbrev pub is_from_bridge : Graph → SystemId → VidPlan → Services → GraphBridge → Mac → ℕ → Bool
is_from_bridge g me plan s b mac p =
    is_from s b (sets_from g me plan b.id.system) (sent_by s (place_of g b.id.system)) mac p

-- whether one of these bridges does
abbrev pub is_from_some : Graph → SystemId → VidPlan → Services → List GraphBridge → Mac → ℕ → Bool
is_from_some g me plan s sources mac p = list_any (λ b. is_from_bridge g me plan s b mac p) sources

-- a row of a VID
abbrev pub row_of : Vid → Mac × PortSet → GroupRow
row_of vid e = record { vid = vid; mac = e.0; ports = e.1 }
