use Rattle.bridge_rounds.proofs.MailFits.{mail_holds_within, mail_fits}
use Rattle.bridge_rounds.proofs.MailSound.{mail_is_sound, mail_keeps_bridge}
use Rattle.bridge_rounds.proofs.inbox.bridges_last_through_rounds.Goals as goal

pub returns-clause-sound : goal.returns-clause-sound
returns-clause-sound c = mail_is_sound

pub returns-clause-bridge : goal.returns-clause-bridge
returns-clause-bridge c = mail_keeps_bridge

pub returns-clause-ids : goal.returns-clause-ids
returns-clause-ids c = mail_holds_within

pub returns-clause-fits : goal.returns-clause-fits
returns-clause-fits c = mail_fits
