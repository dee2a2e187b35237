use Rattle.std.proofs.lemmas.Result.{on_ok_weaker}
use Rattle.bridge_control.proofs.Owning.{own_bytes, own_few, settled_after}
use Rattle.bridge_control.proofs.machine.Machine.originate_if_changed.Goals as goal

pub settle-requires-clause-bodies : goal.settle-requires-clause-bodies
settle-requires-clause-bodies c = own_bytes c.args.self.now c.requires.current

pub settle-requires-clause-few : goal.settle-requires-clause-few
settle-requires-clause-few c = own_few c.args.self.now c.requires.current c.requires.can.room

pub returns : goal.returns
returns c = on_ok_weaker c.settle.result (settled_after c.args.self.now c.args.self.now.up c.settle.new.db c.settle.new.own c.requires.current c.requires.current.ports.up) c.settle.ensures
