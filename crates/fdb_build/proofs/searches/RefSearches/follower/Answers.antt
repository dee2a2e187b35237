use Rattle.fdb_build.proofs.ServeLemmas.{bridge_at}
use Rattle.fdb_build.proofs.searches.RefSearches.follower.Goals as goal

pub follower_by-requires-clause-there : goal.follower_by-requires-clause-there
follower_by-requires-clause-there g c =
    λ x h. c.requires.can.there x (bridge_at c.args.roads.now x c.args.from h)
