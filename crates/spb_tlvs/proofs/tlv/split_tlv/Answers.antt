use Rattle.spb_tlvs.proofs.TlvSteps.{values_none, values_split}
use Rattle.spb_tlvs.proofs.tlv.split_tlv.Goals as goal

pub returns-in_err-tlv-clause-values : goal.returns-in_err-tlv-clause-values
returns-in_err-tlv-clause-values c = rw c.from_residual.ensures (λ code. values_none code _ c.in_err-tlv.ensures.cases)

pub returns-clause-values : goal.returns-clause-values
returns-clause-values c = λ code. values_split code _ _ _ _ c.in_ok-tlv.ensures.cases c.in_ok-tlv.ensures.piece c.in_ok-tlv.ensures.after c.split_at.ensures.back
