use Rattle.bridge_laws.proofs.Answering.{steps_answer}
use Rattle.bridge_laws.proofs.HeldIds.{steps_hold_ids}
use Rattle.bridge_laws.proofs.Learning.{steps_learn, steps_learn_versions}
use Rattle.bridge_laws.proofs.Originating.{steps_originate, steps_dont_spend, configured_is_far, some_is_far}
use Rattle.bridge_laws.proofs.laws.numbers_rise_by_what_is_heard.Goals as goal

pub returns-clause-ids : goal.returns-clause-ids
returns-clause-ids c = steps_hold_ids

pub returns-clause-learn : goal.returns-clause-learn
returns-clause-learn c = steps_learn

pub returns-clause-versions : goal.returns-clause-versions
returns-clause-versions c = steps_learn_versions

pub returns-clause-answer : goal.returns-clause-answer
returns-clause-answer c = steps_answer

pub returns-clause-originate : goal.returns-clause-originate
returns-clause-originate c = steps_originate

pub returns-clause-fresh : goal.returns-clause-fresh
returns-clause-fresh c = steps_dont_spend

pub returns-clause-configured : goal.returns-clause-configured
returns-clause-configured c = configured_is_far

pub returns-clause-some : goal.returns-clause-some
returns-clause-some c = some_is_far
