use Rattle.std.proofs.Common.{◌*◌, ◌≤◌, length, arith}
use Rattle.std.proofs.lemmas.Nat.{mul-le}
use Rattle.isis_pdu.proofs.Sums.{total_high, weight_high, reduced_is}
use Rattle.isis_pdu.proofs.checksum.Sums.over_block.Goals as goal

pub overflow_add-result : goal.overflow_add-result
overflow_add-result c = omega (arith, total_high c.args.bytes.now (λ i. omega (arith, c.type_inv.bytes i)), c.requires.short, c.totals-total.ensures.total)

pub overflow_add-result-3 : goal.overflow_add-result-3
overflow_add-result-3 c =
    let bytes = c.args.bytes.now in
    let first : length bytes * c.from-c0.result ≤ 4096 * 255 = mul-le (length bytes) c.from-c0.result 4096 255 c.requires.short (omega (arith, c.from-c0.ensures, c.requires.reduced.c0)) in
    omega (arith, first, weight_high bytes (λ i. omega (arith, c.type_inv.bytes i)) c.requires.short, c.requires.short, c.requires.reduced.c1, c.from.ensures, c.totals-total.ensures.weight)

pub returns-clause-sums : goal.returns-clause-sums
returns-clause-sums c = rw (c.from-c0.ensures, c.from.ensures, c.totals-total.ensures.total, c.totals-total.ensures.weight) (reduced_is c.args.self c.args.bytes.now c.requires.reduced)
