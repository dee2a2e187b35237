use Rattle.network_model.proofs.CountedPlay.{events_keep_counted, commands_keep_counted, networks_are_counted}
use Rattle.network_model.proofs.CountedEnds.{numbers_stay_low, bridges_stay_far, nothing_is_full, origins_give_one_body, some_counted_is_busy}
use Rattle.network_model.proofs.laws.numbers_stay_bounded.Goals as goal

pub returns-clause-events : goal.returns-clause-events
returns-clause-events c = events_keep_counted

pub returns-clause-step : goal.returns-clause-step
returns-clause-step c = commands_keep_counted

pub returns-clause-always : goal.returns-clause-always
returns-clause-always c = networks_are_counted

pub returns-clause-low : goal.returns-clause-low
returns-clause-low c = numbers_stay_low

pub returns-clause-far : goal.returns-clause-far
returns-clause-far c = bridges_stay_far

pub returns-clause-place : goal.returns-clause-place
returns-clause-place c = nothing_is_full

pub returns-clause-bodies : goal.returns-clause-bodies
returns-clause-bodies c = origins_give_one_body

pub returns-clause-some : goal.returns-clause-some
returns-clause-some c = some_counted_is_busy
