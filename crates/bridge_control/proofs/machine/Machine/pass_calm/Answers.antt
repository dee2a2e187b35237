use Rattle.bridge_control.proofs.InCalm.{passed_after}
use Rattle.bridge_control.proofs.machine.Machine.pass_calm.Goals as goal

pub returns : goal.returns
returns c = passed_after c.args.seconds c.args.self.now c.pass_calm.new.self c.requires.ready.current c.pass_calm.ensures
