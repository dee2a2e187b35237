use Rattle.std.proofs.Common.{◌≤◌, length, ◌∙◌, arith}
use Rattle.customer_learning.proofs.Addresses.{bring_is}
use Rattle.customer_learning.proofs.table.bring.Goals as goal

pub returns-clause-ok : goal.returns-clause-ok
returns-clause-ok c =
    let few : length c.args.addresses.now.entries ≤ 1024 = omega arith in
    c.in_ok-put.ensures.entries ∙ bring_is c.args.mac c.args.place c.args.addresses.now c.requires few
