use Rattle.std.proofs.Common.{refl, sym, subst}
use Rattle.spb_types.specs.Graph.{IsValidFor}
use Rattle.control_tests.proofs.Tested.{valid_for_if}
use Rattle.control_tests.proofs.tables.one_way_ring.Goals as goal

pub returns-clause-two : goal.returns-clause-two
returns-clause-two g c = subst (λ h. IsValidFor h _) (sym c.graph_of.ensures) (valid_for_if _ _ refl)

pub returns-clause-three : goal.returns-clause-three
returns-clause-three g c = subst (λ h. IsValidFor h _) (sym c.graph_of.ensures) (valid_for_if _ _ refl)
