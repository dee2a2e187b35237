-- The laws of a second and of an inbox, on which what holds of a network after each round rests.
use Rattle.itag_frames.proofs.ControlLaws.{control_again}
use Rattle.bridge_api.proofs.Time as time
use Rattle.bridge_rounds.proofs.BroughtIds as brought
use Rattle.bridge_rounds.proofs.CalmSeconds as calm
use Rattle.bridge_rounds.proofs.DueSummaries as due
use Rattle.bridge_rounds.proofs.MailFits as fits
use Rattle.bridge_rounds.proofs.SecondsSent as sent
use Rattle.bridge_rounds.proofs.SentAtPorts as many
use Rattle.bridge_rounds.specs.Hearing.{RoundsHoldIds}
use Rattle.bridge_rounds.specs.Mail.{MailHoldsWithin}
use Rattle.bridge_rounds.specs.Seconds.{SecondsLower, SecondsCarryNone, SecondsSendAtPort, SummariesAreDue, SecondsAreCalm}

pub seconds_carry_none : SecondsCarryNone
seconds_carry_none = sent.seconds_carry_none

pub seconds_send_at_port : SecondsSendAtPort
seconds_send_at_port = many.seconds_send_at_port

pub rounds_hold_ids : RoundsHoldIds
rounds_hold_ids = brought.rounds_hold_ids

pub mail_holds_within : MailHoldsWithin
mail_holds_within = fits.mail_holds_within

pub seconds_lower : SecondsLower
seconds_lower = time.adjacency_second

pub summaries_are_due : SummariesAreDue
summaries_are_due = due.summaries_are_due control_again

pub seconds_are_calm : SecondsAreCalm
seconds_are_calm = calm.seconds_are_calm
