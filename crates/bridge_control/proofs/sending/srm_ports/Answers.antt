use Rattle.std.specs.FinMap.{entries}
use Rattle.bridge_control.proofs.Standing.{srm_is_flag, unmarked_next, unmarked_all}
use Rattle.bridge_control.proofs.sending.srm_ports.Goals as goal

pub find-init : goal.find-init
find-init c = λ p none. tt

pub find-preserved : goal.find-preserved
find-preserved c =
    λ p none. unmarked_next (λ e. e.srm) p c.find.k 0 c.args.places.now (entries c.args.db.now) c.find.ports c.srm_at.result _ c.find-test.true (c.find.invariant p) c.srm_at.ensures (c.with_ports-ports.ensures p) none

pub returns : goal.returns
returns c =
    λ p none. unmarked_all (λ e. e.srm) p c.find.k c.args.places.now (entries c.args.db.now) (srm_is_flag p) c.find-test.false c.requires (c.find.invariant p none)
