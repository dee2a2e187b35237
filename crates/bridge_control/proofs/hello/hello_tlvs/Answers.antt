use Rattle.std.proofs.Common.{◌≡◌, ◌≤◌, ℕ, List, length, sym, subst, rules}
use Rattle.spb_tlvs.specs.RoundTrip.{IsNamed}
use Rattle.bridge_api.specs.Ticking.{hello_tlvs}
use Rattle.bridge_api.proofs.Hellos.{tlvs_short}
use Rattle.bridge_control.proofs.hello.hello_tlvs.Goals as goal

pub returns-clause-short : goal.returns-clause-short
returns-clause-short c =
    let named : IsNamed c.args.way.neighbour = search rules in
    let is : c.write_three_way.new.out.items ≡ hello_tlvs c.args.way = search rules in
    subst (λ (tlvs : List ℕ). length tlvs ≤ 26) (sym is) (tlvs_short c.args.way named)
