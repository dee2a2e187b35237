use Rattle.bridge_control.proofs.Putting.{entering_port, entering_few, entering_after}
use Rattle.bridge_control.proofs.machine.Machine.enter.Goals as goal

pub put-requires-clause-port : goal.put-requires-clause-port
put-requires-clause-port c = entering_port c.args.self.now c.leave.new.self c.args.port c.args.new.now c.requires.port c.in_ok-leave.ensures

pub put-requires-clause-few : goal.put-requires-clause-few
put-requires-clause-few c = entering_few c.args.self.now c.leave.new.self c.args.port c.args.new.now c.requires.can.few c.in_ok-leave.ensures

pub returns : goal.returns
returns c = entering_after c.args.self.now c.leave.new.self c.put.new.self c.args.port c.args.new.now c.set_srm_for_all.new.db c.in_ok-leave.ensures c.in_ok-put.ensures c.set_srm_for_all.ensures
