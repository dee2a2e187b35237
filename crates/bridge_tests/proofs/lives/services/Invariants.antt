use Rattle.bridge_tests.proofs.Services.{AreServices}
use Rattle.bridge_tests.proofs.lives.services.Given as goal

abbrev pub invariant-loop-place : goal.invariant-loop-place
invariant-loop-place l = AreServices l.place l.services
