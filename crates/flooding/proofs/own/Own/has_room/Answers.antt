use Rattle.std.proofs.Common.{sym, arith}
use Rattle.flooding.proofs.Few.{room_below}
use Rattle.flooding.proofs.own.Own.has_room.Goals as goal

pub returns-then-len-most_others : goal.returns-then-len-most_others
returns-then-len-most_others c = sym (room_below c.args.self.now.system c.args.db.now c.args.id.now (omega (arith, c.len.ensures.len, c.most_others.ensures)))
