use Rattle.std.proofs.Common.{sym}
use Rattle.std.proofs.lemmas.Result.{err_from_is_err_and}
use Rattle.spb_tlvs.proofs.NeighbourSteps.{goes_on, stops, ends_cut, ends_well, reads_cut}
use Rattle.spb_tlvs.proofs.neighbours.read_neighbours.Goals as goal

pub returns-in_err-neighbour_in : goal.returns-in_err-neighbour_in
returns-in_err-neighbour_in c =
    let p = err_from_is_err_and c.from_residual.result c.from_residual.ensures.1 in
    rw (p.1, p.2) (reads_cut _ _ (stops _ _ _ _ _ c.in-Some.ensures.cases c.in-Some.ensures.piece c.in_err-neighbour_in.ensures c.loop-entry.invariant))

pub loop-entry-preserved : goal.loop-entry-preserved
loop-entry-preserved c = rw c.in_ok-push_some.ensures.ok (goes_on _ _ _ _ _ _ c.in-Some.ensures.cases c.in-Some.ensures.piece c.in-Some.ensures.after c.in_ok-neighbour_in.ensures c.loop-entry.invariant)

pub returns-then-not-is_empty : goal.returns-then-not-is_empty
returns-then-not-is_empty c = ends_cut _ _ _ c.in_default.ensures.cases (sym c.if-not-is_empty.ensures) c.loop-entry.invariant

pub returns : goal.returns
returns c = ends_well _ _ _ c.in_default.ensures.cases (sym c.if-not-is_empty.ensures) c.loop-entry.invariant
