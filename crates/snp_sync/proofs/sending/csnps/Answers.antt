use Rattle.std.proofs.Common.{refl, ◌∙◌}
use Rattle.snp_sync.proofs.CsnpChunks.{ranged_none, ranged_more, ranged_all}
use Rattle.snp_sync.proofs.sending.csnps.Goals as goal

pub loop-rest-init : goal.loop-rest-init
loop-rest-init c = ranged_none _ _ _ _ _ c.new-pdus.ensures.items refl (c.as_slice-rest.ensures.value ∙ c.in_ok-entries.ensures)

pub loop-rest-preserved : goal.loop-rest-preserved
loop-rest-preserved c =
    ranged_more _ _ _ _ _ _ _ _ _ c.in_ok-csnp.field-0 _ _ c.loop-rest.invariant c.loop-rest-test.true c.split_at.ensures.front c.split_at.ensures.back refl c.successor-start.ensures c.in_ok-csnp.ensures c.in_ok-push.ensures.items

pub returns : goal.returns
returns c = ranged_all _ _ _ _ _ _ c.in_ok-csnp-2.field-0 c.loop-rest.invariant c.loop-rest-test.false c.in_ok-csnp-2.ensures c.in_ok-push-2.ensures.items
