use Rattle.std.proofs.Common.{ap, ◌∙◌, arith}
use Rattle.bridge_api.specs.Step as comes
use Rattle.bridge_api.specs.Shown.{views_of}
use Rattle.spb_world.specs.Attaching.{without_attachment_at}
use Rattle.network_model.specs.Events.{port_detached}
use Rattle.network_model.specs.State.{State}
use Rattle.spb_network.specs.Network.{state_of}
use Rattle.spb_network.proofs.SendLemmas.{stepped-is, frames-none, no_sent}
use Rattle.network_model.proofs.SoundAttaching.{detach_refusal_none, is_attached_port}
use Rattle.spb_network.proofs.network.NetworkOf.detach.Goals as goal

pub overflow_cast-port : goal.overflow_cast-port
overflow_cast-port g c =
    let s : State = state_of g.B.Bridge.shown c.args.self.now in
    let is = detach_refusal_none s.world c.args.place c.args.port c.requires.accepted in
    omega (arith, is.port_high)

pub overflow_cast-port-2 : goal.overflow_cast-port-2
overflow_cast-port-2 g c =
    let s : State = state_of g.B.Bridge.shown c.args.self.now in
    let is = detach_refusal_none s.world c.args.place c.args.port c.requires.accepted in
    omega (arith, is.port_high)

pub detach-requires-clause-attached : goal.detach-requires-clause-attached
detach-requires-clause-attached g c =
    is_attached_port (state_of g.B.Bridge.shown c.args.self.now) c.args.place c.args.port c.requires.sound.state c.requires.accepted

pub returns-clause-state : goal.returns-clause-state
unfolding port_detached
returns-clause-state g c =
    let s : State = state_of g.B.Bridge.shown c.args.self.now in
    let t : State = record s { world = without_attachment_at s.world c.args.place c.args.port } in
    let told : State = record s { views = views_of g.B.Bridge.shown c.detach.new.boxes.items } in
    ap (λ w. record told { world = w }) c.detach-2.ensures ∙ stepped-is (comes.detach c.args.port) t c.args.place told.views no_sent c.in_ok-detach.ensures.views (frames-none t.views c.args.place) (frames-none t.views c.args.place)
