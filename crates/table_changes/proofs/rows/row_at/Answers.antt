use Rattle.std.proofs.Common.{◌<◌, ◌≤◌, length, arith, ap}
use Rattle.table_changes.proofs.Lists.{unicast_from, group_from}
use Rattle.table_changes.proofs.rows.row_at.Goals as goal

pub returns-then-place-unicast : goal.returns-then-place-unicast
returns-then-place-unicast c =
    let t = c.args.tables.now in
    let within : c.args.place < length t.unicast = omega (arith, c.if-place-unicast.true, ap length c.as_slice-unicast.ensures) in
    rw c.as_slice-unicast.ensures (unicast_from t c.args.place _ within)

pub returns : goal.returns
returns c =
    let t = c.args.tables.now in
    let behind : length t.unicast ≤ c.args.place = omega (arith, c.if-place-unicast.false, ap length c.as_slice-unicast.ensures) in
    rw (c.as_slice-group.ensures, c.as_slice-unicast.ensures) (group_from t c.args.place _ behind c.requires)
