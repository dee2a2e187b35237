-- Declarations: why one is refused, and what it makes of what is declared.
use Rattle.std.specs.Prelude.{ℕ, zero, suc, List, [], ◌∷◌, ◌++◌, length, Bool, false, not, ◌&&◌, ◌==◌, nat_lt, nat_le, Option, is_none, slice_index, replicate, ◌%◌}
use Rattle.std.specs.List.{list_any, list_all}
use Rattle.std.specs.Str.{bytes_eq}
use Rattle.spb_types.specs.declared.address.Mac.{Mac}
use Rattle.spb_types.specs.declared.service.SourceId.{SourceId}
use Rattle.spb_types.specs.declared.service.VidPlan.{VidPlan}
use Rattle.spb_types.specs.declared.link.Side.{Side}
use Rattle.spb_types.specs.declared.link.Side.TheVariants as side
use Rattle.spb_world.specs.declared.declaration.DeclaredBridge.{DeclaredBridge}
use Rattle.spb_world.specs.declared.declaration.DeclaredLink.{DeclaredLink}
use Rattle.spb_world.specs.declared.declaration.LinkEnd.{LinkEnd}
use Rattle.spb_world.specs.declared.reason.Reason.{Reason}
use Rattle.spb_world.specs.declared.reason.Reason.TheVariants.{NameTaken, IdTaken, PortUse, Range, TooMany, AlreadyLinked, TooLate}
use Rattle.spb_world.specs.Reason.{reason_unless, ◌or◌}
use Rattle.spb_world.specs.World.{World, Bridges, Links, things_of, place_of, ports_at, is_between, is_at_port}
use Rattle.spb_types.specs.declared.limits.TheConstants.{GREATEST_ECT, GREATEST_METRIC, GREATEST_VID, MOST_BRIDGES, MOST_LINKS, MOST_PORTS, MOST_VIDS, SOURCE_IDS}
use Rattle.bridge_api.specs.declared.config.BridgeConfig.{BridgeConfig}
use Rattle.bridge_api.specs.Config.{first_life}

-- The tests of a declaration. Each reason for a refusal is one of them that fails, and the first that fails counts.

-- the base VID isn't declared
abbrev pub has_vid : List VidPlan → ℕ → Bool
has_vid vids vid = list_any (λ plan. plan.vid.value == vid) vids

abbrev pub is_new_vid : List VidPlan → ℕ → Bool
is_new_vid vids vid = not (has_vid vids vid)

-- a base VID (IEEE 802.1Q, 9.6) and the number of its ECT algorithm (IEEE 802.1aq, 28.8)
unfoldable pub is_vid_range : ℕ → ℕ → Bool
is_vid_range vid ect = nat_le 1 vid && nat_le vid GREATEST_VID && nat_le 1 ect && nat_le ect GREATEST_ECT

-- one base VID more can be declared
abbrev pub has_vid_room : World → Bool
has_vid_room w = nat_lt (length w.vids) MOST_VIDS

-- no bridge is declared yet
abbrev pub is_before_bridges : World → Bool
is_before_bridges w = length w.bridges == 0

-- nothing of this name is declared
unfoldable pub is_new_name : {T : Type 0} → List ℕ → List (List ℕ × T) → Bool
is_new_name name entries = is_none (place_of name entries)

-- no bridge has this system id
unfoldable pub is_new_system : Mac → Bridges → Bool
is_new_system system bridges = not (list_any (λ b. bytes_eq b.bridge.id.system.mac.bytes system.bytes)
    (things_of bridges))

-- no bridge has this source id
unfoldable pub is_new_source : SourceId → Bridges → Bool
is_new_source source bridges = not (list_any (λ b. b.bridge.source.value == source.value) (things_of bridges))

-- six octets
abbrev pub is_address : Mac → Bool
is_address mac = (length mac.bytes == 6) && list_all (λ b. nat_lt b 256) mac.bytes

-- a bridge's own address: six octets, the group bit is clear, and it isn't all zero
abbrev pub is_bridge_address : Mac → Bool
is_bridge_address mac =
    is_address mac && (slice_index mac.bytes 0 % 2 == 0) && not (bytes_eq mac.bytes (replicate 6 0))

-- a priority, an address, a source of 20 bits and a number of ports that a bridge can have
unfoldable pub is_bridge_range : ℕ → Mac → SourceId → ℕ → Bool
is_bridge_range priority system source ports =
    nat_le priority 65535 && is_bridge_address system && nat_lt source.value SOURCE_IDS && nat_le ports MOST_PORTS

-- one bridge more can be declared
abbrev pub has_bridge_room : World → Bool
has_bridge_room w = nat_lt (length w.bridges) MOST_BRIDGES

-- the port of the bridge at a place has no link
unfoldable pub is_free_port : Links → ℕ → ℕ → Bool
is_free_port links i port = not (list_any (λ l. is_at_port l i port) (things_of links))

-- the bridge at a place has this port
abbrev pub is_port : Bridges → ℕ → ℕ → Bool
is_port bridges i port = nat_le 1 port && nat_le port (ports_at bridges i)

-- two different bridges, a port of each, and a cost that a link can have
unfoldable pub is_link_range : Bridges → ℕ → ℕ → ℕ → ℕ → ℕ → Bool
is_link_range bridges i port_a j port_b cost =
    not (i == j) && is_port bridges i port_a && is_port bridges j port_b && nat_le 1 cost && nat_le cost GREATEST_METRIC

-- one link more can be declared
abbrev pub has_link_room : World → Bool
has_link_room w = nat_lt (length w.links) MOST_LINKS

-- no link joins the bridges at two places
unfoldable pub is_unlinked : Links → ℕ → ℕ → Bool
is_unlinked links i j = not (list_any (λ l. is_between l i j) (things_of links))

-- Why a declaration is refused: the first of its reasons, in order of number, whose test fails.

unfoldable pub vid_refusal : World → ℕ → ℕ → Option Reason
vid_refusal w vid ect = reason_unless (is_new_vid w.vids vid) NameTaken
    or reason_unless (is_vid_range vid ect) Range or reason_unless (has_vid_room w) TooMany
    or reason_unless (is_before_bridges w) TooLate

-- but for the lack of a box
unfoldable pub bridge_refusal : World → List ℕ → ℕ → Mac → SourceId → ℕ → Option Reason
bridge_refusal w name priority system source ports =
    reason_unless (is_new_name name w.bridges) NameTaken
    or reason_unless (is_new_system system w.bridges && is_new_source source w.bridges) IdTaken
    or reason_unless (is_bridge_range priority system source ports) Range or reason_unless (has_bridge_room w) TooMany

-- of a link between the bridges at two places
unfoldable pub link_refusal : World → List ℕ → ℕ → ℕ → ℕ → ℕ → ℕ → Option Reason
link_refusal w name i port_a j port_b cost =
    reason_unless (is_new_name name w.links) NameTaken
    or reason_unless (is_free_port w.links i port_a && is_free_port w.links j port_b) PortUse
    or reason_unless (is_link_range w.bridges i port_a j port_b cost) Range or reason_unless (has_link_room w) TooMany
    or reason_unless (is_unlinked w.links i j) AlreadyLinked

-- What an accepted declaration makes.

-- a base VID with the number of its ECT algorithm
abbrev pub plan_of : ℕ → ℕ → VidPlan
plan_of vid ect = record { vid = record { value = vid }; ect = ect }

-- a bridge of these ids and ports
abbrev pub bridge_of : ℕ → Mac → SourceId → ℕ → DeclaredBridge
bridge_of priority system source ports = record {
  bridge = record {
    id = record {
      priority = priority;
      system = record { mac = system };
    };
    source = source;
  };
  ports = ports;
}

-- a link that isn't up yet, whose cost is the metric of both ends
abbrev pub link_of : ℕ → ℕ → ℕ → ℕ → ℕ → DeclaredLink
link_of i port_a j port_b cost = record {
  a = record { bridge = i; port = port_a; metric = cost };
  b = record { bridge = j; port = port_b; metric = cost };
  live = false;
}

-- one base VID more
unfoldable pub with_vid : World → VidPlan → World
with_vid w plan = record w { vids = w.vids ++ plan ∷ [] }

-- one bridge more
unfoldable pub with_bridge : World → List ℕ → DeclaredBridge → World
with_bridge w name bridge = record w { bridges = w.bridges ++ (name, bridge) ∷ [] }

-- one link more
unfoldable pub with_link : World → List ℕ → DeclaredLink → World
with_link w name link = record w { links = w.links ++ (name, link) ∷ [] }

-- the link at a place comes up, or goes down
abbrev pub switched : Bool → Links → ℕ → Links
switched on [] k = []
switched on (l ∷ ls) zero = (l.0, record l.1 { live = on }) ∷ ls
switched on (l ∷ ls) (suc k) = l ∷ switched on ls k

unfoldable pub with_live : Bool → World → ℕ → World
with_live on w k = record w { links = switched on w.links k }

-- the end of a link that its line names first, or second
abbrev pub end_on : Side → DeclaredLink → LinkEnd
end_on side.A l = l.a
end_on side.B l = l.b

-- the link whose end on this side has this metric
abbrev pub link_with_metric : Side → ℕ → DeclaredLink → DeclaredLink
link_with_metric side.A m l = record l { a = record l.a { metric = m } }
link_with_metric side.B m l = record l { b = record l.b { metric = m } }

-- an end of the link at a place has this metric
abbrev pub links_with_metric : Side → ℕ → Links → ℕ → Links
links_with_metric on m [] k = []
links_with_metric on m (l ∷ ls) zero = (l.0, link_with_metric on m l.1) ∷ ls
links_with_metric on m (l ∷ ls) (suc k) = l ∷ links_with_metric on m ls k

-- so has one in what is declared
unfoldable pub with_end_metric : Side → ℕ → World → ℕ → World
with_end_metric on m w k = record w { links = links_with_metric on m w.links k }

-- what a declared bridge is configured with: no port has a link yet, none is attached, and its life is the first
abbrev pub config_of : World → DeclaredBridge → BridgeConfig
config_of w b = record {
  id = b.bridge.id;
  source = b.bridge.source;
  ports = b.ports;
  vids = w.vids;
  metrics = replicate b.ports 1;
  attached = [];
  last = first_life;
}
