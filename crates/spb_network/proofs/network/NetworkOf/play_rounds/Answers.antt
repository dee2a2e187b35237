use Rattle.std.proofs.Common.{◌∙◌}
use Rattle.network_model.specs.State.{State}
use Rattle.spb_network.specs.Network.{state_of}
use Rattle.spb_network.proofs.CalmLemmas.{rounds-left, seen-left}
use Rattle.spb_network.proofs.network.NetworkOf.play_rounds.Goals as goal

pub loop-left-preserved : goal.loop-left-preserved
loop-left-preserved g c =
    let s : State = state_of g.B.Bridge.shown c.loop-left.self in
    let t : State = state_of g.B.Bridge.shown c.play_some.new.self in
    let played = c.in_ok-left.field-0 in (
      c.in_ok-left.ensures.order,
      c.in_ok-left.ensures.sound,
      rounds-left c.loop-left.left played s t c.in_ok-left.ensures.most c.in_ok-left.ensures.state ∙ c.loop-left.invariant.2,
      seen-left c.loop-left.left played s t c.loop-left.seen c.play_some.new.seen c.in_ok-left.ensures.most c.in_ok-left.ensures.state c.in_ok-left.ensures.seen ∙ c.loop-left.invariant.3,
    )
