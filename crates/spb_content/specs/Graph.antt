-- The graph that the LSPs of a backbone make (RFC 6329, 15 and 16; IEEE 802.1aq, 28).
use Rattle.std.specs.Prelude.{◌≡◌, ◌≢◌, ◌↔◌, ℕ, ◌≤◌, List, [], ◌∷◌, map, flat_map, find, max, ◌&&◌, ◌||◌, nat_le, Option, Some, None, is_some, IsSome, option_and_then, option_map, if◌then◌else◌, Contains, ⊤}
use Rattle.std.specs.List.{AllByRecursion, filter_map}
use Rattle.std.specs.Str.{bytes_eq}
use Rattle.spb_types.specs.Address.{same_system}
use Rattle.spb_types.specs.Graph.{cost_between, port_between}
use Rattle.spb_types.specs.declared.address.Mac.{Mac}
use Rattle.spb_types.specs.declared.address.SystemId.{SystemId}
use Rattle.spb_types.specs.declared.graph.Graph.{Graph}
use Rattle.spb_types.specs.declared.graph.GraphBridge.{GraphBridge}
use Rattle.spb_types.specs.declared.graph.Member.{Member}
use Rattle.spb_types.specs.declared.service.Vid.{Vid}
use Rattle.spb_tlvs.specs.declared.capability.Service.{Service}
use Rattle.spb_tlvs.specs.declared.neighbours.Neighbour.{Neighbour}
use Rattle.spb_content.specs.declared.content.Content.{Content}
use Rattle.spb_content.specs.Members.{merged}
use Rattle.spb_types.specs.declared.limits.TheConstants.{GREATEST_METRIC, MOST_PORTS}

-- what each of some systems says
abbrev pub Contents : Type 0
Contents = List (SystemId × Content)

abbrev pub systems_in : Contents → List SystemId
systems_in list = map (λ c. c.0) list

-- ---- bridges

-- what a system says, if it is a bridge: one that has an SPB-Inst (RFC 6329, 14.1)
abbrev pub said_of : Contents → SystemId → Option Content
said_of [] x = None
said_of (c ∷ cs) x = if is_some c.1.inst && same_system c.0 x then Some c.1 else said_of cs x

-- the bridge that a system is by what it says
abbrev pub bridge_of : SystemId × Content → Option GraphBridge
bridge_of c = option_map (λ i. record { id = record { priority = i.priority; system = c.0 }; source = i.source })
    c.1.inst

-- ---- edges

-- an entry with a metric that a link can have: of 24 bits, and neither 0 nor the greatest (RFC 6329, 15.1)
abbrev pub usable : Neighbour → Option Neighbour
usable n = if nat_le 1 n.metric && nat_le n.metric GREATEST_METRIC then Some n else None

-- the entry for a neighbour: the first counts, and only with such a metric; where the first has another, none does
abbrev pub entry_for : SystemId → Content → Option Neighbour
entry_for y c = option_and_then usable (find (λ n. same_system n.system y) c.neighbours)

-- the entry of the bridge x for y
abbrev pub entry_said : Contents → SystemId → SystemId → Option Neighbour
entry_said list x y = option_and_then (entry_for y) (said_of list x)

-- two entries, where both are there
abbrev pub both : Option Neighbour → Option Neighbour → Option (Neighbour × Neighbour)
both None n = None
both (Some m) None = None
both (Some m) (Some n) = Some (m, n)

-- the entries of two different bridges for each other, where each has one for the other
abbrev pub link_said : Contents → SystemId → SystemId → Option (Neighbour × Neighbour)
link_said list x y = if same_system x y then None else both (entry_said list x y) (entry_said list y x)

-- the cost of such a link is the greater of the two metrics
abbrev pub cost_said : Contents → SystemId → SystemId → Option ℕ
cost_said list x y = option_map (λ l. max l.0.metric l.1.metric) (link_said list x y)

-- its port at x is the one that x lists
abbrev pub port_said : Contents → SystemId → SystemId → Option ℕ
port_said list x y = option_map (λ l. l.0.port) (link_said list x y)

-- ---- members

-- a service makes its system a member where it stands at the system's own B-MAC, with T or R set (RFC 6329, 16.1)
abbrev pub member_of : SystemId → Mac × Vid × Service → Option Member
member_of x s =
    if bytes_eq s.0.bytes x.mac.bytes && (s.2.transmit || s.2.receive)
    then Some (record { system = x; isid = s.2.isid; vid = s.1; transmit = s.2.transmit; receive = s.2.receive })
    else None

-- the members that the services of a system make it: one for each base VID and I-SID
abbrev pub members_of : SystemId × Content → List Member
members_of c = merged c.0 (filter_map (member_of c.0) c.1.services)

-- ---- what is reached

-- a ∷ xs is a walk over links from a to b
abbrev pub Leads : Contents → SystemId → List SystemId → SystemId → Type 0
Leads list a [] b = IsSome (said_of list a) × (a ≡ b)
Leads list a (x ∷ xs) b = IsSome (link_said list a x) × Leads list x xs b

-- x is reached from `me` over links; `me` itself is, where it is a bridge
abbrev pub IsReached : Contents → SystemId → SystemId → Type 0
IsReached list me x = (walk : List SystemId) × Leads list me walk x

-- ---- the graph

-- the graph of `me`: the bridges that `me` reaches, their links and their members; nothing where `me` is no bridge. The
-- order of its lists, which end of an edge is which, and how often a member stands there are left open
pub record IsGraphOf (me : SystemId) (list : Contents) (g : Graph) : Type 0 where
  pub bridges : (b : GraphBridge) → Contains g.bridges b
      ↔ (Contains (filter_map bridge_of list) b × IsReached list me b.id.system)
  pub costs : (x y : SystemId) → IsReached list me x → cost_between g x y ≡ cost_said list x y
  pub ports : (x y : SystemId) → IsReached list me x → port_between g x y ≡ port_said list x y
  pub within : (x y : SystemId) → IsSome (cost_between g x y) → IsReached list me x
  pub members : (m : Member) → Contains g.members m
      ↔ (Contains (flat_map members_of list) m × IsReached list me m.system)

-- ---- the ports of one bridge

-- no two entries have the same port
abbrev pub ArePortsApart : List Neighbour → Type 0
ArePortsApart [] = ⊤
ArePortsApart (n ∷ ns) = AllByRecursion (λ m. n.port ≢ m.port) ns × ArePortsApart ns

-- a bridge lists each neighbour at a port of its own, 1 to 32
pub record HasPorts (c : Content) : Type 0 where
  pub each : AllByRecursion (λ n. (1 ≤ n.port) × (n.port ≤ MOST_PORTS)) c.neighbours
  pub apart : ArePortsApart c.neighbours

-- what `me` says, if it is a bridge, is so
abbrev pub HasOwnPorts : Contents → SystemId → Type 0
HasOwnPorts list me = (c : Content) → said_of list me ≡ Some c → HasPorts c
