use Rattle.std.proofs.lemmas.Result.{err_from_is_err_and}
use Rattle.spb_tlvs.proofs.CapabilitySteps.{first_whole, others_whole, goes_on, stops, ends}
use Rattle.spb_tlvs.proofs.capability.capabilities_in.Goals as goal

pub capability_in-requires-clause-whole : goal.capability_in-requires-clause-whole
capability_in-requires-clause-whole c = first_whole _ _ c.in-Some.ensures.cases c.in-Some.ensures.piece c.loop-sub.invariant.0

pub returns-in_err-capability_in : goal.returns-in_err-capability_in
returns-in_err-capability_in c =
    let p = err_from_is_err_and c.from_residual.result c.from_residual.ensures.1 in
    rw (p.1, p.2) (stops _ _ _ c.in_err-capability_in.field-0.0 _ c.in-Some.ensures.cases c.in-Some.ensures.piece c.in_err-capability_in.ensures c.loop-sub.invariant.1)

pub loop-sub-preserved : goal.loop-sub-preserved
loop-sub-preserved c = (
  others_whole _ _ c.in-Some.ensures.cases c.in-Some.ensures.after c.loop-sub.invariant.0,
  rw c.in_ok-push_some.ensures.ok (goes_on _ _ _ _ _ _ c.in-Some.ensures.cases c.in-Some.ensures.piece c.in-Some.ensures.after c.in_ok-capability_in.ensures c.loop-sub.invariant.1),
)

pub returns : goal.returns
returns c = ends _ _ _ c.in_default.ensures.cases c.loop-sub.invariant.1
