use Rattle.std.proofs.lemmas.Result.{on_ok_weaker}
use Rattle.bridge_control.proofs.Owning.{own_bytes, own_few, own_first, kept_fresh_after}
use Rattle.bridge_control.proofs.machine.Machine.refresh.Goals as goal

pub keep_fresh-requires-clause-bodies : goal.keep_fresh-requires-clause-bodies
keep_fresh-requires-clause-bodies c = own_bytes c.args.self.now c.requires.current

pub keep_fresh-requires-clause-few : goal.keep_fresh-requires-clause-few
keep_fresh-requires-clause-few c = own_few c.args.self.now c.requires.current c.requires.can.room

pub keep_fresh-requires-clause-first : goal.keep_fresh-requires-clause-first
keep_fresh-requires-clause-first c = own_first c.args.self.now c.requires.current

pub keep_fresh-requires-clause-said : goal.keep_fresh-requires-clause-said
keep_fresh-requires-clause-said c = c.requires.said

pub returns-clause-after : goal.returns-clause-after
returns-clause-after c = on_ok_weaker c.keep_fresh.result (kept_fresh_after c.args.self.now c.args.self.now.up c.keep_fresh.new.db c.keep_fresh.new.own c.requires.current c.requires.current.ports.up) c.keep_fresh.ensures.after
