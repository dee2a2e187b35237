use Rattle.std.proofs.Common.{sym, ap, arith}
use Rattle.what_if.specs.Entries.{named}
use Rattle.what_if.proofs.Lasts.{short_has_none, long_has_one}
use Rattle.what_if.proofs.proving.entry_of.Goals as goal

pub returns-then-bridges-lt2 : goal.returns-then-bridges-lt2
returns-then-bridges-lt2 c = sym (ap named (short_has_none c.args.bridges.now (omega (arith, c.if-bridges-lt2.true))))

pub returns-else-bridges-lt2 : goal.returns-else-bridges-lt2
returns-else-bridges-lt2 c = sym (ap named (long_has_one c.args.bridges.now _ (omega (arith, c.if-bridges-lt2.false))))
