use Rattle.flooding.proofs.AtMostHeld.{heard_is_at_most_held}
use Rattle.flooding.proofs.laws.what_is_held_is_no_older_than_what_was_heard.Goals as goal

pub returns : goal.returns
returns c = heard_is_at_most_held
