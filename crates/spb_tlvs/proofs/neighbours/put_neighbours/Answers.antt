use Rattle.spb_tlvs.proofs.Written.{kept_still, on_err}
use Rattle.spb_tlvs.proofs.neighbours.put_neighbours.Goals as goal

pub returns-in_err-put_neighbour-clause-err : goal.returns-in_err-put_neighbour-clause-err
returns-in_err-put_neighbour-clause-err c = on_err _ (kept_still _ _ _ _ c.loop-neighbour.invariant.0 c.in_err-put_neighbour.ensures.err)
