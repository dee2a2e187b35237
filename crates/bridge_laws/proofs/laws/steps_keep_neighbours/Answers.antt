use Rattle.bridge_api.proofs.Certified.{steps_keep_neighbours}
use Rattle.bridge_laws.proofs.laws.steps_keep_neighbours.Goals as goal

pub returns : goal.returns
returns c = steps_keep_neighbours
