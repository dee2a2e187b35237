use Rattle.fdb_build.proofs.FoundLemmas.{found_still}
use Rattle.fdb_build.proofs.MakingLemmas.{pushed}
use Rattle.fdb_build.proofs.groups.push_groups.Goals as goal

pub returns-clause-rows : goal.returns-clause-rows
returns-clause-rows g c =
    let around = c.args.around.now in
    let planned = c.args.planned.now in
    pushed around.roads.now around.me planned.plan planned.services c.new-of_vid.result c.add_sources.new.rows c.args.rows.now.items c.put_rows.new.rows.items c.put_rows.result
    c.requires.known.valid c.requires.planned.services c.new-of_vid.ensures.empty c.in_ok-add_sources.ensures.rows c.put_rows.ensures.rows c.put_rows.ensures.ordered

pub returns-clause-found : goal.returns-clause-found
returns-clause-found g c = found_still c.args.around.now.roads.now c.args.around.now.me c.add_sources.new.found.items c.put_rows.result c.in_ok-add_sources.ensures.found
