use Rattle.spb_tlvs.proofs.Heads.{inst_tlv, joined, kept_after}
use Rattle.spb_tlvs.proofs.capability.put_inst.Goals as goal

pub returns-clause-ok : goal.returns-clause-ok
returns-clause-ok c = joined _ _ _ _ _ _ _ _ c.in_ok-put_inst_head.ensures.ok (inst_tlv _ _ _) c.put_trees.ensures.ok

pub returns-clause-err : goal.returns-clause-err
returns-clause-err c = kept_after _ _ _ _ _ _ c.in_ok-put_inst_head.ensures.ok c.put_trees.ensures.err
