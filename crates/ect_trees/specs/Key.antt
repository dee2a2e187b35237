use Rattle.std.specs.Prelude.{◌≡◌, ◌<◌, ℕ, List, [], ◌∷◌, length, map, if◌then◌else◌}
use Rattle.std.specs.List.{AllByRecursion}
use Rattle.std.specs.declared.cmp.Ordering.{Ordering}
use Rattle.std.specs.Ordering.{nat_cmp, ordering_then}
use Rattle.std.specs.Cmp.Lexicographic.{slice_cmp}
use Rattle.spb_types.specs.declared.address.SystemId.{SystemId}
use Rattle.spb_types.specs.declared.address.BridgeId.{BridgeId}
use Rattle.spb_types.specs.declared.graph.GraphBridge.{GraphBridge}
use Rattle.spb_types.specs.declared.graph.Graph.{Graph}
use Rattle.spb_types.specs.Address.{same_system, masked}
use Rattle.spb_types.specs.Sorted as sorted
use Rattle.ect_trees.specs.Path.{cost_of, hops_of}
use Rattle.ect_trees.specs.declared.key.PathKey.{PathKey}

-- the order of masked ids: that of their bytes
abbrev pub id_cmp : List ℕ → List ℕ → Ordering
id_cmp = slice_cmp nat_cmp

-- a masked id is eight bytes
pub record HasEightBytes (id : List ℕ) : Type 0 where
  pub len : length id ≡ 8
  pub bytes : AllByRecursion (λ b. b < 256) id

-- the bridge id of the bridge with system id x
abbrev pub bridge_id_among : List GraphBridge → SystemId → BridgeId
bridge_id_among [] x = record { priority = 0; system = x }
bridge_id_among (b ∷ bs) x = if same_system b.id.system x then b.id else bridge_id_among bs x

-- the masked bridge id of a bridge of the graph
abbrev pub masked_id : Graph → ℕ → SystemId → List ℕ
masked_id g mask x = masked mask (bridge_id_among g.bridges x)

-- an id put at its place in an ascending list of ids
abbrev pub inserted : List ℕ → List (List ℕ) → List (List ℕ)
inserted = sorted.inserted id_cmp

-- ids in ascending order
abbrev pub sorted_ids : List (List ℕ) → List (List ℕ)
sorted_ids = sorted.ascending_by id_cmp

-- the key of a path: the sum of its costs, its number of hops, and its PATHID, which is the list of its masked
-- bridge ids in ascending order (IEEE 802.1aq, 28.5 to 28.8)
abbrev pub key_of : Graph → ℕ → List SystemId → PathKey
key_of g mask p = record { cost = cost_of g p; hops = hops_of p; ids = sorted_ids (map (masked_id g mask) p) }

-- keys compare by cost, then by hops, then by PATHID
abbrev pub key_cmp : PathKey → PathKey → Ordering
key_cmp k l = ordering_then (nat_cmp k.cost l.cost)
    (ordering_then (nat_cmp k.hops l.hops) (slice_cmp id_cmp k.ids l.ids))

-- the first key is below the second
abbrev pub IsBelow : PathKey → PathKey → Type 0
IsBelow k l = key_cmp k l ≡ Ordering.Less
