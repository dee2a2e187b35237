use Rattle.bridge_control.proofs.Judged.{AreNone}
use Rattle.bridge_control.proofs.heard.none_heard.Given as goal

abbrev pub invariant-make : goal.invariant-make
invariant-make l = AreNone l.heard.items
