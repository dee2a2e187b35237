use Rattle.std.proofs.Common.{sym, subst}
use Rattle.spb_types.specs.Graph.{IsValid}
use Rattle.spb_world.proofs.ValidLemmas.{valid}
use Rattle.extra_answers.proofs.wiring.roads_of.Goals as goal

pub over-requires : goal.over-requires
over-requires c = subst IsValid (sym c.in_ok-graph.ensures) (valid c.args.world.now c.requires)
