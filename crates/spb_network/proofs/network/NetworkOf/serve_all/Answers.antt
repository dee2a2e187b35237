use Rattle.std.proofs.Common.{◌+◌, ◌-◌, sym, ap, ◌∙◌, arith}
use Rattle.network_model.specs.Captured.{seen_link, seen_from}
use Rattle.network_model.specs.Events.{served_from}
use Rattle.spb_network.specs.Network.{state_of}
use Rattle.spb_network.specs.Watching.{noted}
use Rattle.spb_network.proofs.SeenLemmas.{noted-on, seen_from-step}
use Rattle.spb_network.proofs.RoundLemmas.{served-step}
use Rattle.spb_network.proofs.network.NetworkOf.serve_all.Goals as goal

pub loop-link-preserved : goal.loop-link-preserved
loop-link-preserved g c = (
  c.in_ok-serve_link.ensures.order,
  omega (arith, c.loop-link-test.true),
  ap (served_from (_ - (c.loop-link.link + 1)) (c.loop-link.link + 1)) c.in_ok-serve_link.ensures.state ∙ sym (served-step (state_of g.B.Bridge.shown c.loop-link.self) _ c.loop-link.link (omega (arith, c.loop-link-test.true))) ∙ c.loop-link.invariant.2,
  ap (λ t. noted c.serve_link.new.seen (seen_from (c.links-link-end.result - (c.loop-link.link + 1)) (c.loop-link.link + 1) t)) c.in_ok-serve_link.ensures.state ∙ noted-on c.loop-link.seen c.serve_link.new.seen (seen_link (state_of g.B.Bridge.shown c.loop-link.self) c.loop-link.link) _ _ c.in_ok-serve_link.ensures.seen (seen_from-step (state_of g.B.Bridge.shown c.loop-link.self) c.links-link-end.result c.loop-link.link (omega (arith, c.loop-link-test.true))) ∙ c.loop-link.invariant.3,
)
