use Rattle.std.proofs.lemmas.Result.{on_ok_weaker}
use Rattle.std.proofs.Common.{false}
use Rattle.bridge_api.specs.Hearing.{with_csnp_due}
use Rattle.bridge_control.proofs.Owning.{after_same}
use Rattle.bridge_control.proofs.Putting.{put_few, put_system, left_local, left_can, left_current, left_path}
use Rattle.bridge_control.proofs.machine.Machine.leave.Goals as goal

pub renew_bodies-requires-clause-few : goal.renew_bodies-requires-clause-few
renew_bodies-requires-clause-few c = put_few c.args.self.now c.put.new.self c.args.port (with_csnp_due false c.args.new.now) c.requires.can.few c.in_ok-put.ensures

pub renew_bodies-requires-clause-system : goal.renew_bodies-requires-clause-system
renew_bodies-requires-clause-system c = put_system c.args.self.now c.put.new.self c.args.port (with_csnp_due false c.args.new.now) c.requires.current c.in_ok-put.ensures

pub renew_bodies-requires-clause-local : goal.renew_bodies-requires-clause-local
renew_bodies-requires-clause-local c = left_local c.args.self.now c.put.new.self c.args.port c.args.new.now c.clear_port.new.self c.requires c.in_ok-put.ensures c.clear_port.ensures

pub originate_if_changed-requires-clause-can : goal.originate_if_changed-requires-clause-can
originate_if_changed-requires-clause-can c = left_can c.args.self.now c.put.new.self c.renew_bodies.new.self c.args.port c.args.new.now c.clear_port.new.self _ c.requires c.in_ok-put.ensures c.clear_port.ensures c.in_ok-renew_bodies.ensures

pub originate_if_changed-requires-clause-current : goal.originate_if_changed-requires-clause-current
originate_if_changed-requires-clause-current c = left_current c.put.new.self c.renew_bodies.new.self c.clear_port.new.self c.in_ok-put.ensures.ports c.in_ok-renew_bodies.ensures

pub returns : goal.returns
returns c =
    on_ok_weaker c.originate_if_changed.result
    (after_same _ _ c.originate_if_changed.new.self (left_path c.args.self.now c.put.new.self c.renew_bodies.new.self c.args.port c.args.new.now c.clear_port.new.self c.in_ok-put.ensures c.clear_port.ensures c.in_ok-renew_bodies.ensures))
    c.originate_if_changed.ensures
