use Rattle.fdb_build.proofs.OnePathLemmas.{one_path, same_way_back, group_leads_on}
use Rattle.fdb_build.proofs.laws.frames_go_one_path.Goals as goal

pub returns-clause-path : goal.returns-clause-path
returns-clause-path c = one_path

pub returns-clause-back : goal.returns-clause-back
returns-clause-back c = same_way_back

pub returns-clause-group : goal.returns-clause-group
returns-clause-group c = group_leads_on
