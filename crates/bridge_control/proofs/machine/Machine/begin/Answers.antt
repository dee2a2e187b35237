use Rattle.std.proofs.lemmas.Result.{on_ok_weaker}
use Rattle.bridge_control.proofs.Owning.{own_bytes, own_few, begun_after}
use Rattle.bridge_control.proofs.machine.Machine.begin.Goals as goal

pub begin_all-requires-clause-bodies : goal.begin_all-requires-clause-bodies
begin_all-requires-clause-bodies c = own_bytes c.args.self.now c.requires.current

pub begin_all-requires-clause-few : goal.begin_all-requires-clause-few
begin_all-requires-clause-few c = own_few c.args.self.now c.requires.current c.requires.room

pub returns : goal.returns
returns c = on_ok_weaker c.begin_all.result (begun_after c.args.self.now c.args.last.now c.begin_all.new.db c.begin_all.new.own c.requires.current) c.begin_all.ensures
