use Rattle.std.proofs.Common.{sym}
use Rattle.spb_tlvs.specs.Neighbour.{is_metric_whole}
use Rattle.spb_tlvs.proofs.Whole.{passes, fails, ends}
use Rattle.spb_tlvs.proofs.neighbours.are_metrics_whole.Goals as goal

pub returns-then-not-is_metric_whole : goal.returns-then-not-is_metric_whole
returns-then-not-is_metric_whole c = fails is_metric_whole _ _ _ c.in-Some.ensures.cases c.in-Some.ensures.piece (sym c.if-not-is_metric_whole.ensures) c.loop-sub.invariant

pub loop-sub-preserved : goal.loop-sub-preserved
loop-sub-preserved c = passes is_metric_whole _ _ _ _ c.in-Some.ensures.cases c.in-Some.ensures.piece c.in-Some.ensures.after (sym c.if-not-is_metric_whole.ensures) c.loop-sub.invariant

pub returns : goal.returns
returns c = ends is_metric_whole _ _ _ c.in_default.ensures.cases c.is_empty.ensures c.loop-sub.invariant
