use Rattle.std.proofs.Common.{sym, subst}
use Rattle.link_model.specs.Lanes.{no_frames}
use Rattle.spb_world.specs.World.{World, IsLink}
use Rattle.network_model.specs.State.{State, Fits}
use Rattle.spb_world.specs.Declaring.{link_of, with_link}
use Rattle.spb_network.specs.Network.{state_of}
use Rattle.spb_network.proofs.CommandFits.{Fits-with_link}
use Rattle.spb_world.proofs.RefusalLemmas.{link_refusal_none}
use Rattle.spb_network.proofs.network.NetworkOf.add_link.Goals as goal

pub set_end_metrics-requires-clause-order : goal.set_end_metrics-requires-clause-order
set_end_metrics-requires-clause-order g c =
    let s : State = state_of g.B.Bridge.shown c.args.self.now in
    record {
      made = c.requires.order.made;
      fits = subst Fits (λ i. record s { world = sym c.in_ok-link.ensures.ok i; lanes = sym c.in_ok-add_link.ensures.ok i }) (Fits-with_link s c.args.name (link_of c.args.i c.args.port_a c.args.j c.args.port_b c.args.cost) no_frames c.requires.order.fits);
    }

pub set_end_metrics-requires-clause-link : goal.set_end_metrics-requires-clause-link
unfolding with_link
set_end_metrics-requires-clause-link g c =
    let new = link_refusal_none c.args.self.now.world c.args.name c.args.i c.args.port_a c.args.j c.args.port_b c.args.cost c.requires.accepted in
    subst (λ (w : World). IsLink w.bridges c.in_ok-link.link) (sym c.in_ok-link.ensures.ok)
    (subst (IsLink c.args.self.now.world.bridges) (sym c.in_ok-link.ensures.link) new.new.link)
