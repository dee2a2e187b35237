use Rattle.std.proofs.Common.{◌+◌, ◌-◌, sym, ap, ◌∙◌, arith}
use Rattle.network_model.specs.Restarting.{cut_from}
use Rattle.spb_network.specs.Network.{state_of}
use Rattle.spb_network.proofs.RestartLemmas.{cut-step}
use Rattle.spb_network.proofs.network.NetworkOf.cut_links.Goals as goal

pub loop-place-preserved : goal.loop-place-preserved
loop-place-preserved g c = (
  c.in_ok-cut_link.ensures.order,
  omega (arith, c.loop-place-test.true),
  c.in_ok-cut_link.ensures.world ∙ c.loop-place.invariant.2,
  c.in_ok-cut_link.ensures.rack ∙ c.loop-place.invariant.3,
  ap (cut_from (_ - (c.loop-place.place + 1)) (c.loop-place.place + 1) c.args.i) c.in_ok-cut_link.ensures.state
      ∙ sym (cut-step (state_of g.B.Bridge.shown c.loop-place.self) c.args.i _ c.loop-place.place (omega (arith, c.loop-place-test.true)))
      ∙ c.loop-place.invariant.4,
)
