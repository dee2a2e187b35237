use Rattle.bridge_rounds.proofs.FlaggedLsps.{lsps_are_flagged}
use Rattle.bridge_rounds.proofs.LinkFrames.{ssn_is_told, frames_tell}
use Rattle.bridge_rounds.proofs.links.links_tell_what_is_held.Goals as goal

pub returns-clause-flagged : goal.returns-clause-flagged
returns-clause-flagged c = lsps_are_flagged c.control_again.ensures

pub returns-clause-told : goal.returns-clause-told
returns-clause-told c = ssn_is_told c.control_again.ensures

pub returns-clause-link : goal.returns-clause-link
returns-clause-link c = frames_tell c.control_again.ensures
