use Rattle.std.proofs.Common.{◌≤◌, length, slice_get, arith, ap, ◌∙◌}
use Rattle.std.proofs.lemmas.List.{take_all}
use Rattle.std.specs.FinMap.{entries, len-entries}
use Rattle.flooding.specs.Room.{others_among}
use Rattle.flooding.proofs.Few.{counted_next, one_at_most}
use Rattle.flooding.proofs.own.Own.others.Goals as goal

pub loop-place-preserved : goal.loop-place-preserved
loop-place-preserved c =
    let es = entries c.args.db.now in
    let one = one_at_most c.args.self.now.system (slice_get es c.loop-place.place) in
    (counted_next c.args.self.now.system es c.loop-place.place c.loop-place.count _ c.loop-place.invariant.0 c.others_at-count.ensures, omega (arith, c.loop-place.invariant.1, c.others_at-count.ensures, one))

pub returns : goal.returns
returns c =
    let es = entries c.args.db.now in
    let all : length es ≤ c.loop-place.place = omega (arith, c.len-place-end.ensures.len, len-entries c.args.db.now, c.loop-place-test.false) in
    c.loop-place.invariant.0 ∙ ap (λ ds. length (others_among c.args.self.now.system ds)) (take_all c.loop-place.place es all)
