use Rattle.lsdb.specs.Entry.{srm_set_at}
use Rattle.snp_sync.proofs.Places.{ChangedTo}
use Rattle.bridge_control.proofs.ports.set_srm_for_all.Given as goal

abbrev pub invariant-loop-place : goal.invariant-loop-place
invariant-loop-place l = ChangedTo (λ id e. srm_set_at l.port e) l.fn.db l.place l.db
