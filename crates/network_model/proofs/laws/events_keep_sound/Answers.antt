use Rattle.network_model.proofs.SoundPlay.{events_keep_sound}
use Rattle.network_model.proofs.laws.events_keep_sound.Goals as goal

pub returns : goal.returns
returns c = events_keep_sound
