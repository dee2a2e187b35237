use Rattle.std.proofs.Common.{refl, sym, subst}
use Rattle.spb_types.specs.Graph.{IsValidFor}
use Rattle.control_tests.proofs.Tested.{valid_for_if}
use Rattle.control_tests.proofs.tables.square.Goals as goal

pub returns-clause-one : goal.returns-clause-one
returns-clause-one g c = subst (λ h. IsValidFor h _) (sym c.graph_of.ensures) (valid_for_if _ _ refl)

pub returns-clause-four : goal.returns-clause-four
returns-clause-four g c = subst (λ h. IsValidFor h _) (sym c.graph_of.ensures) (valid_for_if _ _ refl)

pub returns-clause-nine : goal.returns-clause-nine
returns-clause-nine g c = subst (λ h. IsValidFor h _) (sym c.graph_of.ensures) (valid_for_if _ _ refl)
