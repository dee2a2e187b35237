use Rattle.std.proofs.Common.{◌≡◌, length}
use Rattle.spb_tlvs.specs.Neighbour.{neighbours_of}
use Rattle.spb_tlvs.proofs.NeighbourSteps.{said_after}
use Rattle.spb_tlvs.proofs.neighbours.read_neighbours.Given as goal

abbrev pub invariant-loop-entry : goal.invariant-loop-entry
invariant-loop-entry l = said_after l.neighbours.items l.rest ≡ neighbours_of l.value

abbrev pub decreases-loop-entry : goal.decreases-loop-entry
decreases-loop-entry l = length l.rest
