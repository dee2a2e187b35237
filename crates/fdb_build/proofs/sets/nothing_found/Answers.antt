use Rattle.fdb_build.proofs.FoundLemmas.{found_none}
use Rattle.fdb_build.proofs.sets.nothing_found.Goals as goal

pub returns : goal.returns
returns c = found_none c.args.around.now.roads.now c.args.around.now.me c.loop-place._place c.loop-place.found.items c.loop-place.invariant
