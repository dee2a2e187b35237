use Rattle.flooding.specs.Placing.{holding}
use Rattle.snp_sync.proofs.Heard.{HeardTo}
use Rattle.snp_sync.proofs.hearing.hear_psnp.Given as goal

abbrev pub invariant-loop-entry : goal.invariant-loop-entry
invariant-loop-entry l = HeardTo l.up l.port l.entries (holding l.fn.db l.fn.own) l.entry-index (holding l.db l.own) l.full
