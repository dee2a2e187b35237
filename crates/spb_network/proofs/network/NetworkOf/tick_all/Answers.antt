use Rattle.std.proofs.Common.{◌+◌, ◌-◌, sym, ap, ◌∙◌, arith}
use Rattle.network_model.specs.Events.{ticked_from}
use Rattle.spb_network.specs.Network.{state_of}
use Rattle.spb_network.proofs.RoundLemmas.{ticked-step}
use Rattle.spb_network.proofs.network.NetworkOf.tick_all.Goals as goal

pub loop-i-preserved : goal.loop-i-preserved
loop-i-preserved g c =
    (c.in_ok-tick.ensures.order, omega (arith, c.loop-i-test.true), ap (ticked_from (_ - (c.loop-i.i + 1)) (c.loop-i.i + 1)) c.in_ok-tick.ensures.state ∙ sym (ticked-step (state_of g.B.Bridge.shown c.loop-i.self) _ c.loop-i.i (omega (arith, c.loop-i-test.true))) ∙ c.loop-i.invariant.2)
