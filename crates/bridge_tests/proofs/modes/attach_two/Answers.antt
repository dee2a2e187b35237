use Rattle.std.proofs.Common.{[], ◌∷◌}
use Rattle.spb_types.specs.declared.service.Mode.TheVariants.{Send}
use Rattle.bridge_api.specs.View.{BridgeView}
use Rattle.bridge_tests.specs.TwoPorts.{HasPorts, in_100}
use Rattle.bridge_tests.proofs.TwoPorts.{without_ports, can_attach_second, with_one_more}
use Rattle.bridge_tests.proofs.modes.attach_two.Goals as goal

pub attach-requires-2-clause-can : goal.attach-requires-2-clause-can
attach-requires-2-clause-can g c = λ unfailed.
    let v : BridgeView = (g.B.Bridge.shown c.make.new.bridge).view in
    let w : BridgeView = (g.B.Bridge.shown c.attach.new.self).view in
    can_attach_second w Send c.args.other (with_one_more [] v w (in_100 1 Send) (without_ports v c.in_ok-make.ensures.serving) c.in_ok-attach.ensures.view)

pub returns-clause-ports : goal.returns-clause-ports
returns-clause-ports g c =
    let v : BridgeView = (g.B.Bridge.shown c.make.new.bridge).view in
    let w : BridgeView = (g.B.Bridge.shown c.attach.new.self).view in
    let one : HasPorts (in_100 1 Send ∷ []) w = with_one_more [] v w (in_100 1 Send) (without_ports v c.in_ok-make.ensures.serving) c.in_ok-attach.ensures.view in
    with_one_more (in_100 1 Send ∷ []) w (g.B.Bridge.shown c.attach-2.new.self).view (in_100 2 c.args.other) one c.in_ok-attach-2.ensures.view
