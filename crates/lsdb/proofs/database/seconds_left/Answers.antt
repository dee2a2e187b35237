use Rattle.std.proofs.Common.{List, subst}
use Rattle.std.proofs.lemmas.List.{take_all}
use Rattle.lsdb.specs.declared.held.Held.{Held}
use Rattle.lsdb.proofs.Calm.{AllLive, for_fewer, one_more}
use Rattle.lsdb.proofs.database.seconds_left.Goals as goal

pub loop-h-preserved : goal.loop-h-preserved
loop-h-preserved c = one_more _ c.args.held.now c.loop-h.h-index c.h-item.result c.loop-h-test.true c.h-item.is (for_fewer _ _ _ c.least_left-left.ensures.most c.loop-h.invariant) c.least_left-left.ensures.lives

pub returns : goal.returns
returns c = subst (λ (hs : List Held). AllLive c.loop-h.left hs) (take_all c.loop-h.h-index c.args.held.now c.loop-h-test.false) c.loop-h.invariant
