use Rattle.std.proofs.Common.{◌≡◌, ℕ, Bool, true, false, refl, ◌∙◌, if◌then◌else◌}
use Rattle.bridge_api.specs.View.{BridgeView, is_csnp_due_at}
use Rattle.spbsim.proofs.tests.failing_box.FailingBoxBridge.due.Goals as goal

-- a box that is failed is looked at as before
same : (failed : Bool) (v : BridgeView) (p : ℕ) → is_csnp_due_at v p ≡ is_csnp_due_at (if failed then record v { failed = true } else v) p
unfolding is_csnp_due_at
same true v p = refl
same false v p = refl

pub returns : goal.returns
returns c = c.due.ensures ∙ same c.args.self.now.failed c.args.self.now.bridge.view c.args.port
