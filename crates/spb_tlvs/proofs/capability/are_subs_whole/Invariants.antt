use Rattle.std.proofs.Common.{◌≡◌, length}
use Rattle.spb_tlvs.specs.Tlv.{are_whole}
use Rattle.spb_tlvs.specs.Capability.{is_sub_whole}
use Rattle.spb_tlvs.proofs.capability.are_subs_whole.Given as goal

abbrev pub invariant-loop-sub : goal.invariant-loop-sub
invariant-loop-sub l = are_whole is_sub_whole l.rest ≡ are_whole is_sub_whole l.subs

abbrev pub decreases-loop-sub : goal.decreases-loop-sub
decreases-loop-sub l = length l.rest
