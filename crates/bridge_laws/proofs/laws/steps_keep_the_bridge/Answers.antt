use Rattle.bridge_api.proofs.Carriers.{steps_keep_carrier}
use Rattle.bridge_api.proofs.Certified.{steps_keep_bridge}
use Rattle.bridge_laws.proofs.laws.steps_keep_the_bridge.Goals as goal

pub returns-clause-bridge : goal.returns-clause-bridge
returns-clause-bridge c = steps_keep_bridge

pub returns-clause-carrier : goal.returns-clause-carrier
returns-clause-carrier c = steps_keep_carrier
