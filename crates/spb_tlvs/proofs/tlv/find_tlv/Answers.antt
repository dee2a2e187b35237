use Rattle.spb_tlvs.proofs.TlvSteps.{found, earlier, other, nothing}
use Rattle.spb_tlvs.proofs.tlv.find_tlv.Goals as goal

pub returns-then-before-eq0 : goal.returns-then-before-eq0
returns-then-before-eq0 c = found _ _ _ _ _ _ _ (c.in-Some.ensures.values _) c.if-found-code.true c.if-before-eq0.true c.loop-found.invariant

pub loop-found-preserved-else-before-eq0 : goal.loop-found-preserved-else-before-eq0
loop-found-preserved-else-before-eq0 c = earlier _ _ _ _ _ _ _ (c.in-Some.ensures.values _) c.if-found-code.true c.if-before-eq0.false c.loop-found.invariant

pub loop-found-preserved : goal.loop-found-preserved
loop-found-preserved c = other _ _ _ _ _ _ _ (c.in-Some.ensures.values _) c.if-found-code.false c.loop-found.invariant

pub returns : goal.returns
returns c = nothing _ _ _ _ (c.in_default.ensures.values _) c.loop-found.invariant
