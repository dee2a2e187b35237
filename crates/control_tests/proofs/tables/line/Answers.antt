use Rattle.std.proofs.Common.{refl, sym, subst}
use Rattle.spb_types.specs.Graph.{IsValidFor}
use Rattle.control_tests.proofs.Tested.{valid_for_if}
use Rattle.control_tests.proofs.tables.line.Goals as goal

pub returns : goal.returns
returns g c = subst (λ h. IsValidFor h _) (sym c.graph_of.ensures) (valid_for_if _ _ refl)
