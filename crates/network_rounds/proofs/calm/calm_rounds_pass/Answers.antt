use Rattle.bridge_rounds.proofs.CalmLives.{calm_goes_on, ages_add}
use Rattle.bridge_rounds.proofs.CalmRounds.{calm_round_ages}
use Rattle.bridge_rounds.proofs.CalmSent.{calm_second_greets}
use Rattle.itag_frames.proofs.ControlLaws.{control_again}
use Rattle.network_rounds.proofs.CalmRounds.{calm_rounds_pass}
use Rattle.network_rounds.proofs.calm.calm_rounds_pass.Goals as goal

pub returns : goal.returns
returns c = calm_rounds_pass calm_round_ages (calm_second_greets control_again) calm_goes_on ages_add
