use Rattle.std.proofs.Common.{◌≡◌, length, rules}
use Rattle.bridge_control.proofs.Wire.{behind_none}
use Rattle.bridge_control.proofs.customers.put_behind.Goals as goal

pub returns-then-is_empty-clause-ok : goal.returns-then-is_empty-clause-ok
returns-then-is_empty-clause-ok g c =
    let empty : length c.args.list.now ≡ 0 = search rules in
    behind_none c.args.list.now c.args.more empty
