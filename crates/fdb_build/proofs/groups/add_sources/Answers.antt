use Rattle.std.proofs.Common.{◌<◌, length, ap, arith}
use Rattle.fdb_build.proofs.GrowLemmas.{source_more}
use Rattle.fdb_build.proofs.groups.add_sources.Goals as goal

pub loop-place-preserved : goal.loop-place-preserved
loop-place-preserved g c =
    let around = c.args.around.now in
    let roads = around.roads.now in
    let low : c.loop-place.place < length roads.bridges = omega (arith, c.loop-place-test.true, c.len-place-end.ensures, ap (λ h. length h.bridges) c.graph.ensures) in (
      c.in_ok-add_source.ensures.found,
      source_more roads around.me c.args.planned.now.plan c.args.planned.now.services roads.bridges c.args.rows.now c.loop-place.rows c.add_source.new.rows c.loop-place.place _ low c.in_ok-add_source.ensures.rows c.loop-place.invariant.1,
    )
