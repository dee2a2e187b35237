use Rattle.fdb_build.proofs.ServiceLemmas.{empty_more}
use Rattle.fdb_build.proofs.services.empty_lists.Goals as goal

pub loop-place-preserved : goal.loop-place-preserved
loop-place-preserved c = empty_more c.loop-place.lists.items _ _ c.loop-place._place c.in_ok-push.ensures.items c.loop-place.invariant c.new.ensures.items
