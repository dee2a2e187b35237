use Rattle.std.proofs.Common.{◌≡◌, ◌++◌, map, take, drop}
use Rattle.bridge_api.specs.Calm.{aged_by}
use Rattle.bridge_api.specs.Shown.{views_of}
use Rattle.spb_network.specs.Network.{AreConfigured}
use Rattle.spb_network.proofs.calm.pass_calm.Given as goal

abbrev pub invariant-loop-bridge : goal.invariant-loop-bridge
invariant-loop-bridge g l =
    AreConfigured g.B.Bridge.shown l.bridge-items ×
    (views_of g.B.Bridge.shown l.bridge-items
    ≡ map (aged_by l.seconds) (take l.bridge-index (views_of g.B.Bridge.shown l.fn.boxes.items))
    ++ drop l.bridge-index (views_of g.B.Bridge.shown l.fn.boxes.items))
