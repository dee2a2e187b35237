use Rattle.std.proofs.Common.{sym}
use Rattle.spb_tlvs.proofs.Metrics.{metric_len}
use Rattle.spb_tlvs.proofs.neighbours.neighbour_in.Goals as goal

pub neighbour_with-requires-clause-metric : goal.neighbour_with-requires-clause-metric
neighbour_with-requires-clause-metric c = metric_len _ _ (sym c.if-not-are_metrics_whole.ensures) c.find_tlv.ensures
