use Rattle.spb_tlvs.proofs.Written.{kept_still, on_err}
use Rattle.spb_tlvs.proofs.entries.put_entries.Goals as goal

pub returns-in_err-put_entry-clause-err : goal.returns-in_err-put_entry-clause-err
returns-in_err-put_entry-clause-err c = on_err _ (kept_still _ _ _ _ c.loop-entry.invariant.0 c.in_err-put_entry.ensures.err)
