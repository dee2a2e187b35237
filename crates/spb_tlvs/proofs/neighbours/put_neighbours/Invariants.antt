use Rattle.std.proofs.Common.{◌≡◌, ◌*◌, ◌++◌, ◌∷◌, length, take}
use Rattle.std.specs.List.{flat_map}
use Rattle.spb_tlvs.specs.Neighbour.{neighbour_bytes}
use Rattle.spb_tlvs.proofs.neighbours.put_neighbours.Given as goal

abbrev pub invariant-loop-neighbour : goal.invariant-loop-neighbour
invariant-loop-neighbour l =
    (l.out.items ≡ l.fn.out.items ++ 22 ∷ (19 * length l.items) ∷ flat_map neighbour_bytes (take l.neighbour-index l.items))
    × (length (flat_map neighbour_bytes (take l.neighbour-index l.items)) ≡ 19 * l.neighbour-index)
