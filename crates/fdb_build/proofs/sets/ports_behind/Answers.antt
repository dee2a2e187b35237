use Rattle.std.proofs.Common.{ap, ◌∙◌}
use Rattle.spb_types.specs.Ports.{has}
use Rattle.spb_types.specs.declared.ports.PortSet.{PortSet}
use Rattle.spb_types.proofs.PortLemmas.{has-no_ports}
use Rattle.fdb_build.specs.Making.{sets_from, source_at}
use Rattle.fdb_build.proofs.SetLemmas.{towards_more}
use Rattle.fdb_build.proofs.sets.ports_behind.Goals as goal

pub loop-place-init : goal.loop-place-init
loop-place-init g c = (c.requires.found, λ p. ap (λ (s : PortSet). has s p) c.none-ports.ensures ∙ has-no_ports p)

pub loop-place-preserved : goal.loop-place-preserved
loop-place-preserved g c =
    let around = c.args.around.now in
    let roads = around.roads.now in (
      c.in_ok-more.ensures.found,
      towards_more (sets_from roads around.me c.args.plan (source_at roads c.args.source).id.system) c.args.places.now c.loop-place.ports c.union-ports.result c.in_ok-more.more c.loop-place.place-index 0
          c.loop-place-test.true c.union-ports.ensures.value c.in_ok-more.ensures.set c.loop-place.invariant.1,
    )
