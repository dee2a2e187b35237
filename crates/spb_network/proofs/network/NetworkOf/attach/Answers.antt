use Rattle.std.proofs.Common.{◌≡◌, Some, sym, ◌∙◌, arith}
use Rattle.spb_world.specs.World.{vid_of_isid}
use Rattle.network_model.specs.State.{State}
use Rattle.spb_network.specs.Network.{state_of}
use Rattle.network_model.proofs.SoundAttaching.{attach_refusal_none, found_high, new_attachment, can_attach}
use Rattle.spb_network.proofs.network.NetworkOf.attach.Goals as goal

pub overflow_cast-attachment : goal.overflow_cast-attachment
overflow_cast-attachment g c =
    let s : State = state_of g.B.Bridge.shown c.args.self.now in
    let is = attach_refusal_none s.world c.args.place c.args.port c.args.isid c.requires.accepted in
    omega (arith, is.port_high)

pub overflow_cast-attachment-2 : goal.overflow_cast-attachment-2
overflow_cast-attachment-2 g c =
    let s : State = state_of g.B.Bridge.shown c.args.self.now in
    let found : vid_of_isid s.world.services c.args.isid ≡ Some c.in-Some.vid = sym c.vid_of_isid.ensures ∙ c.in-Some.is in
    let high = found_high s.world c.args.isid c.in-Some.vid c.requires.sound.state.world found in
    omega (arith, high)

pub attach_port-requires-clause-new : goal.attach_port-requires-clause-new
attach_port-requires-clause-new g c =
    let s : State = state_of g.B.Bridge.shown c.args.self.now in
    let found : vid_of_isid s.world.services c.args.isid ≡ Some c.in-Some.vid = sym c.vid_of_isid.ensures ∙ c.in-Some.is in
    new_attachment s c.args.place c.args.port c.args.isid c.in-Some.vid c.args.mode c.requires.place c.requires.accepted found

pub attach_port-requires-clause-can : goal.attach_port-requires-clause-can
attach_port-requires-clause-can g c =
    let s : State = state_of g.B.Bridge.shown c.args.self.now in
    let found : vid_of_isid s.world.services c.args.isid ≡ Some c.in-Some.vid = sym c.vid_of_isid.ensures ∙ c.in-Some.is in
    can_attach s c.args.place c.args.port c.args.isid c.in-Some.vid c.args.mode c.requires.sound.state c.requires.accepted found
