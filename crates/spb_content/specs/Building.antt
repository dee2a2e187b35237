-- How the graph of contents is built: where each bridge stands, which are reached, and each edge once.
use Rattle.std.specs.Prelude.{◌≡◌, ℕ, ◌+◌, List, [], ◌∷◌, ◌++◌, length, filter, flat_map, max, Bool, true, false, not, ◌&&◌, Option, Some, None, is_some, option_map, if◌then◌else◌, Contains, count_by, slice_set}
use Rattle.std.specs.List.{AllByRecursion, filter_map, list_any, slice_index_or}
use Rattle.std.specs.Option.{option_to_list}
use Rattle.std.specs.declared.cmp.Ordering.{Ordering}
use Rattle.std.specs.Ordering.{nat_cmp, is_lt}
use Rattle.std.specs.Cmp.Lexicographic.{slice_cmp}
use Rattle.std.specs.BTreeMap.{get}
use Rattle.spb_types.specs.Address.{same_system, system_number, HasSixBytes}
use Rattle.spb_types.specs.declared.address.SystemId.{SystemId}
use Rattle.spb_types.specs.declared.graph.Edge.{Edge}
use Rattle.spb_types.specs.declared.graph.Graph.{Graph}
use Rattle.spb_tlvs.specs.declared.neighbours.Neighbour.{Neighbour}
use Rattle.spb_content.specs.declared.content.Content.{Content}
use Rattle.spb_content.specs.declared.backbone.Backbone.{Backbone}
use Rattle.spb_content.specs.declared.walk.Walk.{Walk}
use Rattle.spb_content.specs.Graph.{Contents, link_said, bridge_of, members_of, IsReached}

-- system ids compare as their bytes
abbrev pub system_cmp : SystemId → SystemId → Ordering
system_cmp x y = slice_cmp nat_cmp x.mac.bytes y.mac.bytes

-- the place of a bridge among contents, of which the first stands at this place
abbrev pub place_from : ℕ → Contents → SystemId → Option ℕ
place_from i [] x = None
place_from i (c ∷ cs) x = if is_some c.1.inst && same_system c.0 x then Some i else place_from (i + 1) cs x

-- the bridge x stands at place p
abbrev pub IsListedAt : Contents → ℕ → SystemId → Type 0
IsListedAt list p x = place_from 0 list x ≡ Some p

-- the map has the place of each bridge, by the number of its system id
abbrev pub IsIndexed : Backbone → Type 0
IsIndexed b = (x : SystemId) → HasSixBytes x → get nat_cmp b.places (system_number x) ≡ place_from 0 b.list.now x

-- ---- the walk

-- the place of y, where there is a link from x
abbrev pub place_beyond : Contents → SystemId → SystemId → Option ℕ
place_beyond list x y = if is_some (link_said list x y) then place_from 0 list y else None

abbrev pub mark_at : List Bool → ℕ → Bool
mark_at marks p = slice_index_or marks p false

abbrev pub IsMarked : Walk → ℕ → Type 0
IsMarked w p = mark_at w.marks.items p ≡ true

-- a bridge that the source reaches stands at this place
abbrev pub IsFound : Contents → Walk → ℕ → Type 0
IsFound list w p = (x : SystemId) × IsListedAt list p x × IsReached list w.source x

-- the marked places are those in the queue, each once, and the bridges there are reached
pub record IsWalk (list : Contents) (w : Walk) : Type 0 where
  pub places : length w.marks.items ≡ length list
  pub queued : (p : ℕ) → IsMarked w p → Contains w.queue.items p
  pub marked : AllByRecursion (IsMarked w) w.queue.items
  pub found : AllByRecursion (IsFound list w) w.queue.items
  pub left : count_by not w.marks.items + length w.queue.items ≡ length list

-- what lies beyond a link from the bridge at this place is marked
abbrev pub IsClosed : Contents → Walk → ℕ → Type 0
IsClosed list w p = (x y : SystemId) (q : ℕ) → IsListedAt list p x → place_beyond list x y ≡ Some q → IsMarked w q

-- marks stay, and what was in the queue stays at its place
pub record Grows (w v : Walk) : Type 0 where
  pub source : v.source ≡ w.source
  pub marks : (p : ℕ) → IsMarked w p → IsMarked v p
  pub queue : (more : List ℕ) × (v.queue.items ≡ w.queue.items ++ more)

-- what marking a place does
pub record Marks (p : ℕ) (w v : Walk) : Type 0 where
  pub source : v.source ≡ w.source
  pub marks : v.marks.items ≡ slice_set w.marks.items p true
  pub queue : v.queue.items ≡ (if mark_at w.marks.items p then w.queue.items else w.queue.items ++ p ∷ [])

-- a walk that has reached its source, if that is a bridge
pub record Starts (list : Contents) (me : SystemId) (w : Walk) : Type 0 where
  pub walk : IsWalk list w
  pub source : w.source ≡ me
  pub start : (p : ℕ) → IsListedAt list p me → IsMarked w p

-- what visiting a bridge does
pub record Visits (list : Contents) (p : ℕ) (w v : Walk) : Type 0 where
  pub walk : IsWalk list v
  pub grows : Grows w v
  pub closed : IsClosed list v p

-- the marked places are those of the bridges that the source reaches
pub record Reaches (list : Contents) (me : SystemId) (marks : List Bool) : Type 0 where
  pub places : length marks ≡ length list
  pub found : (p : ℕ) → mark_at marks p ≡ true → (x : SystemId) × IsListedAt list p x × IsReached list me x
  pub marked : (p : ℕ) (x : SystemId) → IsListedAt list p x → IsReached list me x → mark_at marks p ≡ true

-- ---- the graph

-- the edge of a link
abbrev pub edge_with : SystemId → SystemId → Neighbour × Neighbour → Edge
edge_with x y l = record { a = x; port_a = l.0.port; b = y; port_b = l.1.port; cost = max l.0.metric l.1.metric }

-- the edge between two bridges, made at the one with the lower system id
abbrev pub edge_said : Contents → SystemId → SystemId → Option Edge
edge_said list x y = if is_lt (system_cmp x y) then option_map (edge_with x y) (link_said list x y) else None

-- whether one of these entries is for y
abbrev pub is_listed : List Neighbour → SystemId → Bool
is_listed ns y = list_any (λ n. same_system n.system y) ns

-- the edge to a neighbour, unless an earlier entry is for it
abbrev pub edge_for : Contents → SystemId → List Neighbour → SystemId → Option Edge
edge_for list x earlier y = if is_listed earlier y then None else edge_said list x y

-- the edges that are made at x for the entries after the earlier ones
abbrev pub edges_after : Contents → SystemId → List Neighbour → List Neighbour → List Edge
edges_after list x earlier [] = []
edges_after list x earlier (n ∷ ns) = option_to_list (edge_for list x earlier n.system)
    ++ edges_after list x (earlier ++ n ∷ []) ns

abbrev pub edges_from : Contents → SystemId × Content → List Edge
edges_from list c = edges_after list c.0 [] c.1.neighbours

-- the contents at marked places
abbrev pub kept : Contents → List Bool → Contents
kept [] marks = []
kept (c ∷ cs) [] = []
kept (c ∷ cs) (m ∷ ms) = if m then c ∷ kept cs ms else kept cs ms

-- the graph with a bridge, the edges that are made at it, and its members
abbrev pub with_said : Contents → Graph → SystemId × Content → Graph
with_said list g c = record {
  bridges = g.bridges ++ option_to_list (bridge_of c);
  edges = g.edges ++ edges_from list c;
  members = g.members ++ members_of c;
}

-- the graph of some of the contents
abbrev pub graph_among : Contents → Contents → Graph
graph_among list some = record {
  bridges = filter_map bridge_of some;
  edges = flat_map (edges_from list) some;
  members = flat_map members_of some;
}

-- whether a system is a bridge by what it says
abbrev pub has_inst : SystemId × Content → Bool
has_inst c = is_some c.1.inst

-- the graph of all that is said, reached or not
abbrev pub said_graph : Contents → Graph
said_graph list = graph_among list (filter has_inst list)
