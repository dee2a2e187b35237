use Rattle.fdb_build.proofs.ServiceLemmas.{put_there}
use Rattle.fdb_build.proofs.services.put_at.Goals as goal

pub returns : goal.returns
returns c = put_there c.args.lists.now.items c.args.place c.index_mut.result.now c.push.new.self c.args.item c.requires c.index_mut.ensures.value c.in_ok-push.ensures.items
