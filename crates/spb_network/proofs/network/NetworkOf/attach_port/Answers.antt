use Rattle.std.proofs.Common.{ap, ◌∙◌}
use Rattle.bridge_api.specs.Step as comes
use Rattle.bridge_api.specs.Shown.{views_of}
use Rattle.spb_world.specs.Attaching.{with_attachment_at}
use Rattle.network_model.specs.State.{State}
use Rattle.spb_network.specs.Network.{state_of}
use Rattle.spb_world.proofs.BoxLemmas.{on_ok}
use Rattle.spb_network.proofs.SendLemmas.{stepped-is, frames-none, no_sent}
use Rattle.spb_network.proofs.network.NetworkOf.attach_port.Goals as goal

pub returns-clause-state : goal.returns-clause-state
returns-clause-state g c =
    let s : State = state_of g.B.Bridge.shown c.args.self.now in
    let t : State = record s { world = with_attachment_at s.world c.args.place c.args.attachment } in
    let told : State = record s { views = views_of g.B.Bridge.shown c.attach.new.boxes.items } in
    on_ok c.attach-2.result (λ e. ap (λ w. record told { world = w }) e ∙ stepped-is (comes.attach c.args.attachment) t c.args.place told.views no_sent c.in_ok-attach.ensures.views (frames-none t.views c.args.place) (frames-none t.views c.args.place)) c.attach-2.ensures.ok

pub returns-clause-made : goal.returns-clause-made
returns-clause-made g c = on_ok c.attach-2.result (λ e. c.in_ok-attach.ensures.made) c.attach-2.ensures.ok
