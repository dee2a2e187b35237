use Rattle.spb_tlvs.proofs.Heads.{services_tlv, joined, kept_after}
use Rattle.spb_tlvs.proofs.capability.put_services.Goals as goal

pub returns-clause-ok : goal.returns-clause-ok
returns-clause-ok c = joined _ _ _ _ _ _ _ _ c.in_ok-put_services_head.ensures.ok (services_tlv _ _ _ c.in_ok-put_services_head.ensures.mac) c.put_isids.ensures.ok

pub returns-clause-err : goal.returns-clause-err
returns-clause-err c = kept_after _ _ _ _ _ _ c.in_ok-put_services_head.ensures.ok c.put_isids.ensures.err
