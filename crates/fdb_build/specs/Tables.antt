use Rattle.std.specs.Prelude.{◌≡◌, ◌↔◌, ℕ, ◌≤◌, List, ◌∷◌, Option, Some, Contains, slice_get, option_map, option_and_then}
use Rattle.std.specs.List.{AllByRecursion, filter_map, flat_map}
use Rattle.std.specs.declared.cmp.Ordering.{Ordering}
use Rattle.std.specs.Ordering.{nat_cmp, ordering_then}
use Rattle.std.specs.Cmp.Lexicographic.{slice_cmp}
pub use Rattle.spb_types.specs.Sorted.{inserted, ascending_by, AscendsBy}
use Rattle.spb_types.specs.Ect.{mask_of}
use Rattle.spb_types.specs.Graph.{systems_of, port_between, IsValid}
use Rattle.spb_types.specs.Service.{AreVidsApart}
use Rattle.spb_types.specs.declared.address.Mac.{Mac}
use Rattle.spb_types.specs.declared.address.SystemId.{SystemId}
use Rattle.spb_types.specs.declared.graph.Graph.{Graph}
use Rattle.spb_types.specs.declared.service.VidPlan.{VidPlan}
use Rattle.spb_types.specs.declared.tables.UnicastRow.{UnicastRow}
use Rattle.ect_trees.specs.Best.{IsBest, best_of}
use Rattle.ect_trees.specs.Laws.{AreAlike, LookAlike}
use Rattle.spb_types.specs.declared.limits.TheConstants.{GREATEST_ECT}

-- addresses compare as their bytes
abbrev pub mac_cmp : Mac → Mac → Ordering
mac_cmp x y = slice_cmp nat_cmp x.bytes y.bytes

abbrev pub system_cmp : SystemId → SystemId → Ordering
system_cmp x y = mac_cmp x.mac y.mac

abbrev pub vid_cmp : VidPlan → VidPlan → Ordering
vid_cmp p q = nat_cmp p.vid.value q.vid.value

-- the port at `me` of the edge to the second bridge of the best path from `me` to d, if there is one
abbrev pub port_towards : Graph → ℕ → SystemId → SystemId → Option ℕ
port_towards g mask me d = option_and_then (λ next. port_between g me next)
    (option_and_then (λ path. slice_get path 1) (best_of g mask me d))

-- the row of `me` for a VID and the bridge d
abbrev pub unicast_row : Graph → SystemId → VidPlan → SystemId → Option UnicastRow
unicast_row g me plan d = option_map (λ port. record { vid = plan.vid; mac = d.mac; port = port })
    (port_towards g (mask_of plan.ect) me d)

-- the rows of `me` for a VID, by ascending address
abbrev pub rows_of_vid : Graph → SystemId → VidPlan → List UnicastRow
rows_of_vid g me plan = filter_map (unicast_row g me plan) (ascending_by system_cmp (systems_of g.bridges))

-- the unicast rows of `me`, by ascending VID and address (IEEE 802.1aq, 8.8 and 28.10)
unfoldable pub unicast_rows : Graph → SystemId → List VidPlan → List UnicastRow
unicast_rows g me vids = flat_map (rows_of_vid g me) (ascending_by vid_cmp vids)

-- each plan has the number of an ECT algorithm, and no VID stands twice
pub record ArePlans (vids : List VidPlan) : Type 0 where
  pub ects : AllByRecursion (λ p. (1 ≤ p.ect) × (p.ect ≤ GREATEST_ECT)) vids
  pub apart : AreVidsApart vids

-- a row of `me`: for one of the VIDs, and a bridge with a best path of two bridges or more, it has the bridge's
-- address and the port of the edge from `me` to the second bridge of that path
pub record IsUnicast (g : Graph) (me : SystemId) (vids : List VidPlan) (r : UnicastRow) : Type 0 where
  pub plan : VidPlan
  pub to : SystemId
  pub next : SystemId
  pub rest : List SystemId
  pub planned : Contains vids plan
  pub best : IsBest g (mask_of plan.ect) me to (me ∷ next ∷ rest)
  pub vid : r.vid ≡ plan.vid
  pub mac : r.mac ≡ to.mac
  pub port : port_between g me next ≡ Some r.port

-- rows compare by VID, then by address
abbrev pub row_cmp : UnicastRow → UnicastRow → Ordering
row_cmp r s = ordering_then (nat_cmp r.vid.value s.vid.value) (mac_cmp r.mac s.mac)

-- the unicast table of `me`: just its rows, each once, ascending
pub record IsUnicastTable (g : Graph) (me : SystemId) (vids : List VidPlan) (rows : List UnicastRow) : Type 0 where
  pub members : (r : UnicastRow) → Contains rows r ↔ IsUnicast g me vids r
  pub ascends : AscendsBy row_cmp rows

-- in a valid graph, `unicast_rows` is the unicast table
abbrev pub RowsAreTable : Type 0
RowsAreTable = (g : Graph) (me : SystemId) (vids : List VidPlan)
    → IsValid g → ArePlans vids → IsUnicastTable g me vids (unicast_rows g me vids)

-- there is just one such table
abbrev pub TableIsOne : Type 0
TableIsOne = (g : Graph) (me : SystemId) (vids : List VidPlan) (rows others : List UnicastRow)
    → IsUnicastTable g me vids rows → IsUnicastTable g me vids others → rows ≡ others

-- the rows of a bridge are the same in graphs that look alike from it
abbrev pub SameRows : Type 0
SameRows = (g h : Graph) (me : SystemId) (vids : List VidPlan)
    → IsValid g → IsValid h → LookAlike g h me → unicast_rows g me vids ≡ unicast_rows h me vids

-- they don't depend on the order of a graph's lists, nor of an edge's ends, nor of the VIDs
abbrev pub OrderSaysNothingOfRows : Type 0
OrderSaysNothingOfRows = (g h : Graph) (me : SystemId) (vids others : List VidPlan)
    → IsValid g → IsValid h → AreAlike g h
    → AreVidsApart vids → AreVidsApart others → ((p : VidPlan) → Contains vids p ↔ Contains others p)
    → unicast_rows g me vids ≡ unicast_rows h me others
