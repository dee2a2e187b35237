use Rattle.spb_tlvs.proofs.TlvLaws.{tlv_here, tlv_elsewhere, tlvs_join, tlv_whole}
use Rattle.spb_tlvs.proofs.laws.tlvs_in_order.Goals as goal

pub returns-clause-here : goal.returns-clause-here
returns-clause-here c = tlv_here

pub returns-clause-elsewhere : goal.returns-clause-elsewhere
returns-clause-elsewhere c = tlv_elsewhere

pub returns-clause-join : goal.returns-clause-join
returns-clause-join c = tlvs_join

pub returns-clause-whole : goal.returns-clause-whole
returns-clause-whole c = tlv_whole
