use Rattle.std.proofs.Common.{◌≡◌, ℕ, Bool, true, false, refl, ◌∙◌, if◌then◌else◌}
use Rattle.bridge_api.specs.View.{BridgeView, adjacency_at}
use Rattle.spbsim.proofs.tests.failing_box.FailingBoxBridge.adjacent.Goals as goal

-- a box that is failed is looked at as before
same : (failed : Bool) (v : BridgeView) (p : ℕ) → adjacency_at v p ≡ adjacency_at (if failed then record v { failed = true } else v) p
unfolding adjacency_at
same true v p = refl
same false v p = refl

pub returns : goal.returns
returns c = c.adjacent.ensures ∙ same c.args.self.now.failed c.args.self.now.bridge.view c.args.port
