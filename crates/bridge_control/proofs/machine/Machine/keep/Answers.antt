use Rattle.std.proofs.lemmas.Result.{on_ok_weaker}
use Rattle.bridge_control.proofs.Putting.{kept_after}
use Rattle.bridge_control.proofs.machine.Machine.keep.Goals as goal

pub returns : goal.returns
returns c = on_ok_weaker c.put.result (kept_after c.args.self.now c.put.new.self c.args.port c.args.new.now c.requires.can c.requires.same) c.put.ensures
