use Rattle.bridge_api.proofs.Configured.{configured_starts}
use Rattle.bridge_api.proofs.Saying.{sound_can_say}
use Rattle.bridge_api.proofs.Sound.{configured_is_sound, steps_stay_sound}
use Rattle.bridge_api.proofs.SoundPorts.{configured_has_no_carrier}
use Rattle.bridge_laws.proofs.laws.bridges_are_sound.Goals as goal

pub returns-clause-configured : goal.returns-clause-configured
returns-clause-configured c = configured_is_sound

pub returns-clause-no_carrier : goal.returns-clause-no_carrier
returns-clause-no_carrier c = configured_has_no_carrier

pub returns-clause-starts : goal.returns-clause-starts
returns-clause-starts c = configured_starts

pub returns-clause-says : goal.returns-clause-says
returns-clause-says c = sound_can_say

pub returns-clause-steps : goal.returns-clause-steps
returns-clause-steps c = steps_stay_sound
