use Rattle.std.proofs.Common.{◌≡◌, length}
use Rattle.std.specs.List.{slice_get}
use Rattle.spb_tlvs.specs.Tlv.{values_with}
use Rattle.spb_tlvs.proofs.tlv.find_tlv.Given as goal

abbrev pub invariant-loop-found : goal.invariant-loop-found
invariant-loop-found l = slice_get (values_with l.code l.rest) l.before ≡ slice_get (values_with l.fn.code l.fn.tlvs) l.fn.nth

abbrev pub decreases-loop-found : goal.decreases-loop-found
decreases-loop-found l = length l.rest
