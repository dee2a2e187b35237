use Rattle.std.proofs.Common.{refl, [], ◌∷◌}
use Rattle.spb_types.specs.declared.service.Mode.TheVariants.{Send, Both}
use Rattle.bridge_api.specs.View.{BridgeView}
use Rattle.bridge_tests.specs.TwoPorts.{in_100}
use Rattle.bridge_tests.proofs.TwoPorts.{first_sends, second_sends, still_there}
use Rattle.bridge_tests.proofs.modes.sent.Goals as goal

pub customer-requires-clause-sending : goal.customer-requires-clause-sending
customer-requires-clause-sending g c = λ unfailed.
    first_sends (g.B.Bridge.shown c.attach_two.new.bridge).view Send Both refl c.in_ok-attach_two.ensures.ports

pub customer-requires-2-clause-sending : goal.customer-requires-2-clause-sending
customer-requires-2-clause-sending g c = λ unfailed.
    let v : BridgeView = (g.B.Bridge.shown c.attach_two.new.bridge).view in
    let w : BridgeView = (g.B.Bridge.shown c.customer.new.self).view in
    second_sends w Send Both refl (still_there (in_100 1 Send ∷ in_100 2 Both ∷ []) v w 1 _ c.in_ok-attach_two.ensures.ports c.in_ok-customer.ensures.view)
