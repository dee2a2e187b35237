-- The group rows of a bridge (IEEE 802.1aq, 8.8 and 28.10): for each source of a service, the ports by which the bridge
-- sends on towards the service's receivers.
use Rattle.std.specs.Prelude.{◌≡◌, ◌≢◌, ◌↔◌, ℕ, zero, suc, ◌<◌, ◌==◌, ◌^◌, List, [], ◌∷◌, ◌++◌, map, Bool, true, false, not, ◌&&◌, Option, Some, None, Contains, option_and_then, if◌then◌else◌}
use Rattle.std.specs.List.{filter_map, flat_map, list_any}
use Rattle.std.specs.Str.{bytes_eq}
use Rattle.std.specs.declared.cmp.Ordering.{Ordering}
use Rattle.std.specs.Ordering.{nat_cmp, is_lt, is_gt, ordering_then}
use Rattle.spb_types.specs.Address.{same_system, group_address}
use Rattle.spb_types.specs.Ect.{mask_of}
use Rattle.spb_types.specs.Graph.{port_between, IsValid, IsValidFor}
use Rattle.spb_types.specs.Ports.{has, no_ports, with_port}
use Rattle.spb_types.specs.Service.{AreVidsApart}
use Rattle.spb_types.specs.declared.address.Mac.{Mac}
use Rattle.spb_types.specs.declared.address.SystemId.{SystemId}
use Rattle.spb_types.specs.declared.graph.Graph.{Graph}
use Rattle.spb_types.specs.declared.graph.GraphBridge.{GraphBridge}
use Rattle.spb_types.specs.declared.graph.Member.{Member}
use Rattle.spb_types.specs.declared.limits.TheConstants.{MOST_PORTS}
use Rattle.spb_types.specs.declared.ports.PortSet.{PortSet}
use Rattle.spb_types.specs.declared.service.Isid.{Isid}
use Rattle.spb_types.specs.declared.service.Vid.{Vid}
use Rattle.spb_types.specs.declared.service.VidPlan.{VidPlan}
use Rattle.spb_types.specs.declared.tables.GroupRow.{GroupRow}
use Rattle.ect_trees.specs.Best.{IsBest, best_of}
pub use Rattle.ect_trees.specs.Followers.{after_in}
use Rattle.ect_trees.specs.Laws.{AreAlike, LookAlike}
use Rattle.fdb_build.specs.Tables.{mac_cmp, vid_cmp, ascending_by, AscendsBy, ArePlans}

-- ---- which ports are in a group row

-- x sends to the service in this VID: as a member of it, it transmits
pub record Sends (g : Graph) (isid : Isid) (vid : Vid) (x : SystemId) : Type 0 where
  pub member : Member
  pub there : Contains g.members member
  pub of_system : member.system ≡ x
  pub in_service : member.isid ≡ isid
  pub in_vid : member.vid ≡ vid
  pub transmits : member.transmit ≡ true

-- x receives what is sent to the service in this VID
pub record Receives (g : Graph) (isid : Isid) (vid : Vid) (x : SystemId) : Type 0 where
  pub member : Member
  pub there : Contains g.members member
  pub of_system : member.system ≡ x
  pub in_service : member.isid ≡ isid
  pub in_vid : member.vid ≡ vid
  pub receives : member.receive ≡ true

-- c directly follows m on the best path from s to r
pub record Follows (g : Graph) (mask : ℕ) (s r m c : SystemId) : Type 0 where
  pub before : List SystemId
  pub after : List SystemId
  pub best : IsBest g mask s r (before ++ m ∷ c ∷ after)

-- c directly follows m on the best path from s to some other receiver of the service
pub record IsServedBy (g : Graph) (mask : ℕ) (s : SystemId) (isid : Isid) (vid : Vid) (m c : SystemId) : Type 0 where
  pub receiver : SystemId
  pub other : receiver ≢ s
  pub takes : Receives g isid vid receiver
  pub follows : Follows g mask s receiver m c

-- a port by which `me` sends on what comes to a group address in a VID: for some source and service with that address,
-- the port of the edge to a bridge that follows `me` on the way to another receiver of the service
pub record LeadsOn (g : Graph) (me : SystemId) (plan : VidPlan) (mac : Mac) (port : ℕ) : Type 0 where
  pub source : GraphBridge
  pub isid : Isid
  pub next : SystemId
  pub bridge : Contains g.bridges source
  pub address : mac ≡ group_address source.source.value isid.value
  pub sends : Sends g isid plan.vid source.id.system
  pub serves : IsServedBy g (mask_of plan.ect) source.id.system isid plan.vid me next
  pub port_is : port_between g me next ≡ Some port

-- the same for one of the plans
pub record IsGroupPort (g : Graph) (me : SystemId) (vids : List VidPlan) (vid : Vid) (mac : Mac) (port : ℕ)
    : Type 0 where
  pub plan : VidPlan
  pub planned : Contains vids plan
  pub vid_is : vid ≡ plan.vid
  pub leads : LeadsOn g me plan mac port

-- rows compare by VID, then by address
abbrev pub group_cmp : GroupRow → GroupRow → Ordering
group_cmp r s = ordering_then (nat_cmp r.vid.value s.vid.value) (mac_cmp r.mac s.mac)

-- rows that list just these ports: each row has a port, each port has a row, no row stands twice, and they ascend. A
-- set of ports is 32 bits.
pub record ListPorts (IsPort : Vid → Mac → ℕ → Type 0) (rows : List GroupRow) : Type 0 where
  pub ports : (r : GroupRow) → Contains rows r → (p : ℕ) → (has r.ports p ≡ true) ↔ IsPort r.vid r.mac p
  pub some : (r : GroupRow) → Contains rows r → (p : ℕ) × (has r.ports p ≡ true)
  pub all : (vid : Vid) (mac : Mac) (p : ℕ) → IsPort vid mac p
      → (r : GroupRow) × Contains rows r × (r.vid ≡ vid) × (r.mac ≡ mac)
  pub small : (r : GroupRow) → Contains rows r → r.ports.bits < 2 ^ 32
  pub ascends : AscendsBy group_cmp rows

-- the group table of `me`: just its ports, those for one VID and address in one row
abbrev pub IsGroupTable : Graph → SystemId → List VidPlan → List GroupRow → Type 0
IsGroupTable g me vids rows = ListPorts (IsGroupPort g me vids) rows

-- ---- the same as a function

-- whether a member is of this system in this service and VID
abbrev pub is_member : Isid → Vid → SystemId → Member → Bool
is_member isid vid x m = same_system m.system x && ((m.isid.value == isid.value) && (m.vid.value == vid.value))

-- whether x sends to the service in this VID
abbrev pub sends_in : Graph → Isid → Vid → SystemId → Bool
sends_in g isid vid x = list_any (λ m. is_member isid vid x m && m.transmit) g.members

-- whether x receives what is sent to it
abbrev pub receives_in : Graph → Isid → Vid → SystemId → Bool
receives_in g isid vid x = list_any (λ m. is_member isid vid x m && m.receive) g.members

-- the port of `me` to the bridge that follows it on the best path from s to r
abbrev pub port_after : Graph → ℕ → SystemId → SystemId → SystemId → Option ℕ
port_after g mask s r me = option_and_then (λ next. port_between g me next)
    (option_and_then (after_in me) (best_of g mask s r))

abbrev pub is_that : ℕ → Option ℕ → Bool
is_that port None = false
is_that port (Some p) = p == port

-- whether `me` sends on by this port what the source sends to the address, for a receiver m of its service
abbrev pub serves : Graph → SystemId → VidPlan → Mac → ℕ → GraphBridge → Member → Bool
serves g me plan mac port source m =
    bytes_eq mac.bytes (group_address source.source.value m.isid.value).bytes
    && (sends_in g m.isid plan.vid source.id.system && (receives_in g m.isid plan.vid m.system
    && (not (same_system m.system source.id.system)
    && is_that port (port_after g (mask_of plan.ect) source.id.system m.system me))))

-- whether it does so for some source and some receiver
abbrev pub leads_on : Graph → SystemId → VidPlan → Mac → ℕ → Bool
leads_on g me plan mac port = list_any (λ source. list_any (serves g me plan mac port source) g.members) g.bridges

-- the set of those of the ports 1 to n that pass a test
abbrev pub ports_to : ℕ → (ℕ → Bool) → PortSet
ports_to zero test = no_ports
ports_to (suc n) test = if test (suc n) then with_port (ports_to n test) (suc n) else ports_to n test

-- a row with these ports, unless there is none
abbrev pub row_unless_empty : Vid → Mac → PortSet → Option GroupRow
row_unless_empty vid mac ports =
    if ports.bits == 0 then None else Some (record { vid = vid; mac = mac; ports = ports })

-- the row of `me` for a VID and a group address
abbrev pub group_row : Graph → SystemId → VidPlan → Mac → Option GroupRow
group_row g me plan mac = row_unless_empty plan.vid mac (ports_to MOST_PORTS (leads_on g me plan mac))

-- an item put at its place in an ascending list, unless one that compares equal is there
abbrev pub put_once : {A : Type 0} → (A → A → Ordering) → A → List A → List A
put_once cmp x [] = x ∷ []
put_once cmp x (y ∷ ys) =
    if is_lt (cmp x y) then x ∷ y ∷ ys
    else (if is_gt (cmp x y) then y ∷ put_once cmp x ys
    else y ∷ ys)

-- the different items of a list in ascending order
abbrev pub each_once : {A : Type 0} → (A → A → Ordering) → List A → List A
each_once cmp [] = []
each_once cmp (x ∷ xs) = put_once cmp x (each_once cmp xs)

-- the group addresses of every bridge and every service, ascending
abbrev pub group_addresses : Graph → List Mac
group_addresses g = each_once mac_cmp
    (flat_map (λ b. map (λ m. group_address b.source.value m.isid.value) g.members) g.bridges)

-- the group rows of `me` for a VID, by ascending address
abbrev pub group_rows_of_vid : Graph → SystemId → VidPlan → List GroupRow
group_rows_of_vid g me plan = filter_map (group_row g me plan) (group_addresses g)

-- the group rows of `me`, by ascending VID and address
unfoldable pub group_rows : Graph → SystemId → List VidPlan → List GroupRow
group_rows g me vids = flat_map (group_rows_of_vid g me) (ascending_by vid_cmp vids)

-- ---- laws

-- in a valid graph, `group_rows` is the group table
abbrev pub GroupRowsAreTable : Type 0
GroupRowsAreTable = (g : Graph) (me : SystemId) (vids : List VidPlan)
    → IsValidFor g me → ArePlans vids → IsGroupTable g me vids (group_rows g me vids)

-- there is just one such table
abbrev pub GroupTableIsOne : Type 0
GroupTableIsOne = (g : Graph) (me : SystemId) (vids : List VidPlan) (rows others : List GroupRow)
    → IsGroupTable g me vids rows → IsGroupTable g me vids others → rows ≡ others

-- the group rows of a bridge are the same in graphs that look alike from it
abbrev pub SameGroups : Type 0
SameGroups = (g h : Graph) (me : SystemId) (vids : List VidPlan)
    → IsValid g → IsValid h → LookAlike g h me → group_rows g me vids ≡ group_rows h me vids

-- they don't depend on the order of a graph's lists, nor of an edge's ends, nor of the VIDs
abbrev pub OrderSaysNothingOfGroups : Type 0
OrderSaysNothingOfGroups = (g h : Graph) (me : SystemId) (vids others : List VidPlan)
    → IsValid g → IsValid h → AreAlike g h → ((m : Member) → Contains g.members m ↔ Contains h.members m)
    → AreVidsApart vids → AreVidsApart others → ((p : VidPlan) → Contains vids p ↔ Contains others p)
    → group_rows g me vids ≡ group_rows h me others
