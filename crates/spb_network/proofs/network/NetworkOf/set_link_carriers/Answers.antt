use Rattle.std.proofs.Common.{◌+◌, ◌-◌, sym, ap, ◌∙◌, arith}
use Rattle.network_model.specs.Restarting.{with_carriers_from}
use Rattle.spb_network.specs.Network.{state_of}
use Rattle.spb_network.proofs.RestartLemmas.{carriers-step}
use Rattle.spb_network.proofs.network.NetworkOf.set_link_carriers.Goals as goal

pub loop-place-preserved : goal.loop-place-preserved
loop-place-preserved g c = (
  c.in_ok-set_link_carrier.ensures.order,
  omega (arith, c.loop-place-test.true),
  ap (with_carriers_from (_ - (c.loop-place.place + 1)) (c.loop-place.place + 1) c.args.i) c.in_ok-set_link_carrier.ensures.state
      ∙ sym (carriers-step (state_of g.B.Bridge.shown c.loop-place.self) c.args.i _ c.loop-place.place (omega (arith, c.loop-place-test.true)))
      ∙ c.loop-place.invariant.2,
)
