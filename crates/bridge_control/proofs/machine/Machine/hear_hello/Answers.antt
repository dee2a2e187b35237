use Rattle.std.proofs.Common.{sym, ◌∙◌}
use Rattle.isis_pdu.specs.Pdu.{hello_of}
use Rattle.adjacency.specs.Adjacency.{after_hello}
use Rattle.bridge_control.specs.Machine.{view_of}
use Rattle.bridge_control.proofs.Putting.{there_at, carrier_there, sound_there, can_change, hello_kept, kept_says}
use Rattle.bridge_control.proofs.machine.Machine.hear_hello.Goals as goal

pub hear-heard-requires-clause-carrier : goal.hear-heard-requires-clause-carrier
hear-heard-requires-clause-carrier c =
    let there = there_at c.args.self.now c.as_slice.result.now c.args.port c.port_at-new.result c.as_slice.ensures.value c.port_at-new.ensures in
    sym (carrier_there (view_of c.args.self.now) c.args.port c.port_at-new.result there) ∙ c.requires.carrier

pub hear-heard-requires-clause-sound : goal.hear-heard-requires-clause-sound
hear-heard-requires-clause-sound c =
    let there = there_at c.args.self.now c.as_slice.result.now c.args.port c.port_at-new.result c.as_slice.ensures.value c.port_at-new.ensures in
    let sound = sound_there c.args.self.now c.args.port c.port_at-new.result c.requires.ready there in
    sound.adjacency

pub change-requires-clause-can : goal.change-requires-clause-can
change-requires-clause-can c =
    let port = c.port_at-new.result in
    let there = there_at c.args.self.now c.as_slice.result.now c.args.port port c.as_slice.ensures.value c.port_at-new.ensures in
    can_change c.args.self.now c.args.port port c.hear-heard.new.self c.requires.ready c.requires.port there

pub change-requires-clause-kept : goal.change-requires-clause-kept
change-requires-clause-kept c = λ kept.
    let m = c.args.self.now in
    let port = c.port_at-new.result in
    let there = there_at m c.as_slice.result.now c.args.port port c.as_slice.ensures.value c.port_at-new.ensures in
    let h = hello_of c.args.hello.now in
    kept_says m c.args.port port c.hear-heard.new.self (after_hello m.id.system c.args.port h c.args.way.now port.adjacency) c.requires.port there c.hear-heard.ensures.new
    (hello_kept m.id.system c.args.port h c.args.way.now port (sym c.hear-heard.ensures.heard ∙ kept))
