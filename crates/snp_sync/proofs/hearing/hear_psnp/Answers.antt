use Rattle.flooding.specs.Placing.{holding}
use Rattle.snp_sync.proofs.Heard.{heard_none, heard_bytes, heard_few, heard_more, heard_some, heard_all, on_err}
use Rattle.snp_sync.proofs.hearing.hear_psnp.Goals as goal

pub loop-entry-init : goal.loop-entry-init
loop-entry-init c = heard_none _ _ _ _

pub count_entry-requires-clause-bodies : goal.count_entry-requires-clause-bodies
count_entry-requires-clause-bodies c = heard_bytes _ _ _ _ _ (holding c.loop-entry.db c.loop-entry.own) _ c.loop-entry.invariant c.requires.bodies

pub count_entry-requires-clause-few : goal.count_entry-requires-clause-few
count_entry-requires-clause-few c = heard_few _ _ _ _ _ (holding c.loop-entry.db c.loop-entry.own) _ c.loop-entry.invariant c.requires.few

pub returns-in_err-full-clause-err : goal.returns-in_err-full-clause-err
returns-in_err-full-clause-err c = on_err c.from_residual.result (heard_some _ _ _ _ c.loop-entry.entry-index _ _ _ c.loop-entry.invariant c.in_err-full.ensures.err)

pub loop-entry-preserved : goal.loop-entry-preserved
loop-entry-preserved c = heard_more _ _ _ _ c.loop-entry.entry-index _ _ _ _ _ c.loop-entry.invariant c.loop-entry-test.true c.in_ok-full.ensures.heard c.in_ok-full.ensures.full

pub returns-clause-full : goal.returns-clause-full
returns-clause-full c = (heard_all _ _ _ _ c.loop-entry.entry-index (holding c.loop-entry.db c.loop-entry.own) _ c.loop-entry.invariant c.loop-entry-test.false).0

pub returns-clause-heard : goal.returns-clause-heard
returns-clause-heard c = (heard_all _ _ _ _ c.loop-entry.entry-index (holding c.loop-entry.db c.loop-entry.own) _ c.loop-entry.invariant c.loop-entry-test.false).1
