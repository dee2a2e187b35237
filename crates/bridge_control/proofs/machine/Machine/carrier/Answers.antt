use Rattle.std.proofs.Common.{sym, ◌∙◌}
use Rattle.std.proofs.lemmas.Result.{on_ok_weaker}
use Rattle.adjacency.specs.declared.port.Adjacency.{Adjacency}
use Rattle.bridge_control.specs.Machine.{view_of}
use Rattle.bridge_control.proofs.Owning.{after_same}
use Rattle.bridge_control.proofs.Putting.{there_at, can_change, kept_alike, kept_says, with_carrier_path}
use Rattle.bridge_control.proofs.machine.Machine.carrier.Goals as goal

pub change-requires-clause-can : goal.change-requires-clause-can
change-requires-clause-can c =
    let port = c.port_at-new.result in
    let there = there_at c.args.self.now c.as_slice.result.now c.args.port port c.as_slice.ensures.value c.port_at-new.ensures in
    can_change c.args.self.now c.args.port port c.set_carrier-heard.new.self c.requires.ready c.requires.port there

pub change-requires-clause-kept : goal.change-requires-clause-kept
change-requires-clause-kept c = λ kept.
    let port = c.port_at-new.result in
    let there = there_at c.args.self.now c.as_slice.result.now c.args.port port c.as_slice.ensures.value c.port_at-new.ensures in
    let new : Adjacency = c.set_carrier-heard.new.self in
    kept_says c.args.self.now c.args.port port new new c.requires.port there (λ i. new) (kept_alike port new (sym c.set_carrier-heard.ensures.heard ∙ kept))

pub returns : goal.returns
returns c =
    let port = c.port_at-new.result in
    let there = there_at c.args.self.now c.as_slice.result.now c.args.port port c.as_slice.ensures.value c.port_at-new.ensures in
    on_ok_weaker c.change.result
    (after_same _ _ c.change.new.self (with_carrier_path (view_of c.args.self.now) c.args.port c.args.on port c.set_carrier-heard.new.self c.set_carrier-heard.result c.requires.port there c.set_carrier-heard.ensures.new c.set_carrier-heard.ensures.heard))
    c.change.ensures
