use Rattle.std.proofs.Common.{refl, sym, subst}
use Rattle.spb_types.specs.Graph.{IsValid}
use Rattle.control_tests.proofs.Tested.{valid_if}
use Rattle.control_tests.proofs.trees.detour.Goals as goal

pub returns : goal.returns
returns g c = subst IsValid (sym c.graph_of.ensures) (valid_if _ refl)
