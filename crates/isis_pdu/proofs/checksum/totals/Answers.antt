use Rattle.std.proofs.Common.{◌*◌, ◌≤◌, drop, arith}
use Rattle.isis_pdu.specs.Checksum.{weight}
use Rattle.isis_pdu.proofs.Sums.{total_high, weight_high, next_total, next_weight}
use Rattle.isis_pdu.proofs.checksum.totals.Goals as goal

pub overflow_add-total : goal.overflow_add-total
overflow_add-total c =
    let bytes = c.args.bytes.now in
    omega (arith, c.loop-byte.invariant.0, next_total bytes c.loop-byte.byte-index (omega arith), total_high bytes (λ i. omega (arith, c.type_inv.bytes i)))

pub overflow_add-weight : goal.overflow_add-weight
overflow_add-weight c =
    let bytes = c.args.bytes.now in
    let i = c.loop-byte.byte-index in
    let next : c.from-byte.result * c.loop-byte.place ≤ weight (drop i bytes) = rw (c.from-byte.ensures, c.loop-byte.invariant.2) (next_weight bytes i (omega arith)) in
    omega (arith, c.loop-byte.invariant.1, next, weight_high bytes (λ j. omega (arith, c.type_inv.bytes j)) c.requires)
