use Rattle.std.proofs.Common.{sym, ◌∙◌, false, ◌≡◌}
use Rattle.std.proofs.lemmas.Result.{on_ok_weaker}
use Rattle.bridge_api.specs.View.{is_port_up}
use Rattle.bridge_api.specs.Hearing.{with_port_metric}
use Rattle.bridge_api.proofs.Changes.{with_metric_is}
use Rattle.bridge_control.specs.Machine.{view_of}
use Rattle.bridge_control.proofs.Owning.{after_same, renewed_current}
use Rattle.bridge_control.proofs.Putting.{there_at, got, can_put, both_down, says_the_same, put_few, put_system, with_metric_local, with_metric_can, with_metric_path}
use Rattle.bridge_control.proofs.machine.Machine.set_metric.Goals as goal

pub keep-requires-clause-can : goal.keep-requires-clause-can
keep-requires-clause-can c = can_put c.args.self.now c.args.port (with_port_metric c.args.metric c.port_at-new.result) c.requires.ready c.requires.port c.requires.metric

pub keep-requires-clause-same : goal.keep-requires-clause-same
keep-requires-clause-same c =
    let port = c.port_at-new.result in
    let there = there_at c.args.self.now c.as_slice.result.now c.args.port port c.as_slice.ensures.value c.port_at-new.ensures in
    let down : is_port_up port ≡ false = sym c.is_up.ensures ∙ c.if-not-is_up.true in
    says_the_same c.args.self.now c.args.port port (with_port_metric c.args.metric port) c.requires.port there (both_down (with_port_metric c.args.metric port) port down down)

pub returns-then-not-is_up : goal.returns-then-not-is_up
returns-then-not-is_up c =
    let v = view_of c.args.self.now in
    let port = c.port_at-new.result in
    let there = there_at c.args.self.now c.as_slice.result.now c.args.port port c.as_slice.ensures.value c.port_at-new.ensures in
    on_ok_weaker c.keep.result (after_same _ _ c.keep.new.self (sym (with_metric_is v c.args.port c.args.metric port c.requires.port.low (got v c.args.port port c.requires.port there)))) c.keep.ensures

pub put-requires-clause-few : goal.put-requires-clause-few
put-requires-clause-few c = c.requires.ready.sound.few

pub renew_bodies-requires-clause-few : goal.renew_bodies-requires-clause-few
renew_bodies-requires-clause-few c = put_few c.args.self.now c.put.new.self c.args.port (with_port_metric c.args.metric c.port_at-new.result) c.requires.ready.sound.few c.in_ok-put.ensures

pub renew_bodies-requires-clause-system : goal.renew_bodies-requires-clause-system
renew_bodies-requires-clause-system c = put_system c.args.self.now c.put.new.self c.args.port (with_port_metric c.args.metric c.port_at-new.result) c.requires.ready.current c.in_ok-put.ensures

pub renew_bodies-requires-clause-local : goal.renew_bodies-requires-clause-local
renew_bodies-requires-clause-local c = with_metric_local c.args.self.now c.put.new.self c.args.port (with_port_metric c.args.metric c.port_at-new.result) c.requires.ready c.requires.metric c.in_ok-put.ensures

pub originate_if_changed-requires-clause-can : goal.originate_if_changed-requires-clause-can
originate_if_changed-requires-clause-can c = with_metric_can c.args.self.now c.put.new.self c.renew_bodies.new.self c.args.port (with_port_metric c.args.metric c.port_at-new.result) _ c.requires.ready c.in_ok-put.ensures c.in_ok-renew_bodies.ensures

pub originate_if_changed-requires-clause-current : goal.originate_if_changed-requires-clause-current
originate_if_changed-requires-clause-current c = renewed_current c.put.new.self c.renew_bodies.new.self c.in_ok-put.ensures.ports c.in_ok-renew_bodies.ensures

pub returns : goal.returns
returns c =
    let m = c.args.self.now in
    let port = c.port_at-new.result in
    let there = there_at m c.as_slice.result.now c.args.port port c.as_slice.ensures.value c.port_at-new.ensures in
    on_ok_weaker c.originate_if_changed.result
    (after_same _ _ c.originate_if_changed.new.self (with_metric_path m c.put.new.self c.renew_bodies.new.self c.args.port c.args.metric port c.requires.port there c.in_ok-put.ensures c.in_ok-renew_bodies.ensures))
    c.originate_if_changed.ensures
