use Rattle.std.proofs.Common.{◌≡◌, ℕ, ◌+◌, ◌-◌, ◌/◌, ◌<◌, ◌≤◌, arith, get_or}
use Rattle.std.specs.declared.cmp.Ordering.TheVariants.{Less, Equal, Greater}
use Rattle.lsdb.specs.Database.{id_cmp}
use Rattle.lsdb.proofs.IdNumbers.{lower_id, higher_id, same_id}
use Rattle.lsdb.proofs.Searched.{left_behind, left_before, compared}
use Rattle.lsdb.proofs.search.place_of.Goals as goal

pub loop-low-preserved-then-number-wanted : goal.loop-low-preserved-then-number-wanted
loop-low-preserved-then-number-wanted c =
    let low : ℕ = c.loop-low.low in
    let high : ℕ = c.loop-low.high in
    let middle : ℕ = low + (high - low) / 2 in
    let below : middle < high = omega (arith, c.loop-low-test.true) in
    let less : id_cmp (get_or c.args.held.now middle c.index-held-middle.result).id c.args.id.now ≡ Less =
    lower_id _ _ c.number_of-number.ensures.bytes c.number_of-wanted.ensures.bytes (omega (arith, c.number_of-number.ensures.number, c.number_of-wanted.ensures.number, c.if-number-wanted.true)) in
    left_behind c.args.held.now c.requires c.args.id.now low high middle c.index-held-middle.result c.loop-low.invariant below less

pub loop-low-preserved : goal.loop-low-preserved
loop-low-preserved c =
    let low : ℕ = c.loop-low.low in
    let high : ℕ = c.loop-low.high in
    let middle : ℕ = low + (high - low) / 2 in
    let above : low ≤ middle = omega arith in
    let below : middle < high = omega (arith, c.loop-low-test.true) in
    let greater : id_cmp (get_or c.args.held.now middle c.index-held-middle.result).id c.args.id.now ≡ Greater =
    higher_id _ _ c.number_of-number.ensures.bytes c.number_of-wanted.ensures.bytes (omega (arith, c.number_of-number.ensures.number, c.number_of-wanted.ensures.number, c.if-number-wanted-2.true)) in
    left_before c.args.held.now c.requires c.args.id.now low high middle c.index-held-middle.result c.loop-low.invariant above below greater

pub returns-else-number-wanted-2-clause-found : goal.returns-else-number-wanted-2-clause-found
returns-else-number-wanted-2-clause-found c =
    let low : ℕ = c.loop-low.low in
    let high : ℕ = c.loop-low.high in
    let middle : ℕ = low + (high - low) / 2 in
    let same : id_cmp (get_or c.args.held.now middle c.index-held-middle.result).id c.args.id.now ≡ Equal =
    same_id _ _ c.number_of-number.ensures.bytes c.number_of-wanted.ensures.bytes (omega (arith, c.number_of-number.ensures.number, c.number_of-wanted.ensures.number, c.if-number-wanted.false, c.if-number-wanted-2.false)) in
    compared c.args.held.now c.index-held-middle.result c.args.id.now middle (omega (arith, c.loop-low-test.true, c.loop-low.invariant.within)) same
