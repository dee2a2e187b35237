use Rattle.std.proofs.Common.{sym}
use Rattle.snp_sync.proofs.Heard.{wanted_at}
use Rattle.snp_sync.proofs.hearing.want.Goals as goal

pub returns-then-is_some : goal.returns-then-is_some
returns-then-is_some c = wanted_at c.args.own.now.system c.args.db.now c.acknowledge.new.db c.args.id.now c.args.port _ c.requires.place (sym c.if-is_some.ensures) c.acknowledge.ensures
