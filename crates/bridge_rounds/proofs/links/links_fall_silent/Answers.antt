use Rattle.bridge_rounds.proofs.LinkFlags.{neighbour_answers, answered_is_cleared, silence_follows, links_fall_silent}
use Rattle.bridge_rounds.proofs.links.links_fall_silent.Goals as goal

pub returns-clause-answers : goal.returns-clause-answers
returns-clause-answers c = neighbour_answers

pub returns-clause-cleared : goal.returns-clause-cleared
returns-clause-cleared c = answered_is_cleared

pub returns-clause-silence : goal.returns-clause-silence
returns-clause-silence c = silence_follows

pub returns-clause-three : goal.returns-clause-three
returns-clause-three c = links_fall_silent
