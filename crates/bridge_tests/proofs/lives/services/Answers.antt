use Rattle.std.proofs.Common.{◌+◌, sym, subst, arith}
use Rattle.bridge_tests.proofs.Services.{AreServices, none, one_more, few}
use Rattle.bridge_tests.proofs.lives.services.Goals as goal

pub loop-place-init : goal.loop-place-init
loop-place-init c = subst (AreServices 0) (sym c.new-services.ensures) none

pub loop-place-preserved : goal.loop-place-preserved
loop-place-preserved c =
    subst (AreServices (c.loop-place.place + 1)) (sym c.in_ok-push.ensures.ok)
    (one_more c.loop-place.place c.loop-place.services c.service.result (omega (arith, c.loop-place-test.true, c.ranges.count)) (omega (arith, c.service.ensures.port, c.from.ensures)) (omega (arith, c.service.ensures.isid, c.from.ensures)) c.service.ensures.vid c.loop-place.invariant)

pub returns-clause-few : goal.returns-clause-few
returns-clause-few c = few c.loop-place.place c.loop-place.services (omega (arith, c.loop-place.auto.place-end, c.ranges.count)) c.loop-place.invariant
