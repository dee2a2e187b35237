use Rattle.std.proofs.Common.{◌≡◌, Some, slice_get, subst}
use Rattle.bridge_api.specs.Shown.{views_of}
use Rattle.spb_network.specs.Network.{state_of}
use Rattle.network_model.proofs.FitsLemmas.{end_is_port}
use Rattle.spb_network.proofs.network.NetworkOf.is_link_up.Goals as goal

pub is_end_up-requires-clause-port : goal.is_end_up-requires-clause-port
is_end_up-requires-clause-port g c v at =
    end_is_port (state_of g.B.Bridge.shown c.args.self.now) c.in-Some.link.a c.requires.state.fits c.in-Some.ensures.ends.a v
    (subst (λ bs. slice_get (views_of g.B.Bridge.shown bs) c.in-Some.link.a.bridge ≡ Some v) c.deref.ensures.value at)

pub is_end_up-requires-then-is_end_up-clause-port : goal.is_end_up-requires-then-is_end_up-clause-port
is_end_up-requires-then-is_end_up-clause-port g c v at =
    end_is_port (state_of g.B.Bridge.shown c.args.self.now) c.in-Some.link.b c.requires.state.fits c.in-Some.ensures.ends.b v
    (subst (λ bs. slice_get (views_of g.B.Bridge.shown bs) c.in-Some.link.b.bridge ≡ Some v) c.deref-then-is_end_up.ensures.value at)
