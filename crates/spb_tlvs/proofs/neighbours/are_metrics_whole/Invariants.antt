use Rattle.std.proofs.Common.{◌≡◌, length}
use Rattle.spb_tlvs.specs.Tlv.{are_whole}
use Rattle.spb_tlvs.specs.Neighbour.{is_metric_whole}
use Rattle.spb_tlvs.proofs.neighbours.are_metrics_whole.Given as goal

abbrev pub invariant-loop-sub : goal.invariant-loop-sub
invariant-loop-sub l = are_whole is_metric_whole l.rest ≡ are_whole is_metric_whole l.subs

abbrev pub decreases-loop-sub : goal.decreases-loop-sub
decreases-loop-sub l = length l.rest
