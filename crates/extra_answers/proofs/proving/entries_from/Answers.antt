use Rattle.std.proofs.Common.{sym, subst}
use Rattle.spb_types.specs.Graph.{IsValid}
use Rattle.spb_world.proofs.ValidLemmas.{valid}
use Rattle.extra_answers.proofs.proving.entries_from.Goals as goal

pub prove-requires : goal.prove-requires
prove-requires c = subst IsValid (sym c.in-Some.ensures) (valid c.args.world.now c.requires)
