use Rattle.std.proofs.Common.{◌≡◌, Bool, true, false, refl, ◌∙◌, if◌then◌else◌}
use Rattle.bridge_api.specs.View.{BridgeView, has_flags}
use Rattle.spbsim.proofs.tests.failing_box.FailingBoxBridge.has_flag.Goals as goal

-- a box that is failed is looked at as before
same : (failed : Bool) (v : BridgeView) → has_flags v ≡ has_flags (if failed then record v { failed = true } else v)
unfolding has_flags
same true v = refl
same false v = refl

pub returns : goal.returns
returns c = c.has_flag.ensures ∙ same c.args.self.now.failed c.args.self.now.bridge.view
