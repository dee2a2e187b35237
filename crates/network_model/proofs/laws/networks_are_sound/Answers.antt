use Rattle.network_model.proofs.SoundPlay.{commands_keep_sound, networks_are_sound}
use Rattle.network_model.proofs.laws.networks_are_sound.Goals as goal

pub returns-clause-step : goal.returns-clause-step
returns-clause-step c = commands_keep_sound

pub returns-clause-always : goal.returns-clause-always
returns-clause-always c = networks_are_sound
