use Rattle.std.proofs.Common.{◌<◌, ◌∙◌, arith, length}
use Rattle.fdb_build.specs.Making.{source_at}
use Rattle.fdb_build.proofs.FollowerLemmas.{set_of_follower, within_ports}
use Rattle.fdb_build.proofs.SourceLemmas.{source_stands}
use Rattle.fdb_build.proofs.sets.set_behind.Goals as goal

pub returns : goal.returns
returns g c =
    let around = c.args.around.now in
    let roads = around.roads.now in
    let within : c.args.to < length around.ports.items = omega arith in
    let there : c.args.to < length roads.bridges = within_ports roads around.me c.args.to around.ports.items c.requires.known.ports within in
    c.set_towards.ensures ∙
    set_of_follower roads around.me c.args.plan c.ect_mask-mask.result around.place c.args.source c.args.to c.in_ok-next.next (source_at roads c.args.source).id.system (source_at roads c.args.to).id.system
    around.ports.items c.requires.known.valid.valid c.requires.known.ports c.ect_mask-mask.ensures
    c.requires.known.here (source_stands roads c.args.source c.requires.within) (source_stands roads c.args.to there) c.in_ok-next.ensures
