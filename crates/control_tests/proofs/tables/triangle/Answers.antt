use Rattle.std.proofs.Common.{◌≡◌, ◌≤◌, true, refl, sym, ap, subst, arith}
use Rattle.std.specs.Prelude.{◌&&◌, leb}
use Rattle.std.proofs.lemmas.Bool.{and_from, le-leb}
use Rattle.spb_types.specs.Graph.{IsValidFor}
use Rattle.control_tests.proofs.Tested.{valid_for_if}
use Rattle.control_tests.proofs.tables.triangle.Goals as goal

-- all but the cost is written out, so that the test comes down to its limits
pub returns : goal.returns
returns g c =
    let high : c.args.cost ≤ 16777214 = omega (arith, c.requires.high) in
    let fits : (leb 1 c.args.cost && leb c.args.cost 16777214) ≡ true = and_from (leb 1 c.args.cost) (leb c.args.cost 16777214) (le-leb 1 c.args.cost c.requires.low) (le-leb c.args.cost 16777214 high) in
    subst (λ h. IsValidFor h _) (sym c.graph_of.ensures) (valid_for_if _ _ (ap (λ b. ((b && true) && true) && true) fits))
