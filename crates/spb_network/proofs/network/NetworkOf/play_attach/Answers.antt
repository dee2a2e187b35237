use Rattle.spb_network.specs.Network.{state_of}
use Rattle.network_model.specs.State.{State}
use Rattle.spb_world.proofs.PlaceLemmas.{place_within}
use Rattle.std.proofs.Common.{sym, ◌∙◌}
use Rattle.spb_network.proofs.network.NetworkOf.play_attach.Goals as goal

pub attach-requires-clause-place : goal.attach-requires-clause-place
attach-requires-clause-place g c =
    let s : State = state_of g.B.Bridge.shown c.args.self.now in
    place_within c.args.name s.world.bridges c.in-Some.place (sym c.bridge_place.ensures ∙ c.in-Some.is)
