use Rattle.std.proofs.Common.{◌≡◌}
use Rattle.bridge_tests.specs.Services.{services}
use Rattle.bridge_tests.proofs.serving.services.Given as goal

abbrev pub invariant-services : goal.invariant-services
invariant-services l = l.attached ≡ services l.base l.before
