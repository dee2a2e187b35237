use Rattle.network_model.proofs.Wired.{sound_is_wired, networks_are_wired}
use Rattle.network_model.proofs.laws.wiring_gives_tables.Goals as goal

pub returns-clause-sound : goal.returns-clause-sound
returns-clause-sound c = sound_is_wired

pub returns-clause-always : goal.returns-clause-always
returns-clause-always c = networks_are_wired
