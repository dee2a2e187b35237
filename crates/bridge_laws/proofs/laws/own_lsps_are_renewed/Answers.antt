use Rattle.bridge_laws.proofs.TimeOwn.{seconds_stand_still, seconds_renew, seconds_stay_unspent, seconds_spend, spent_stands_still, own_lsp_lasts, own_lsp_is_renewed, alone_stays_alone, every_nine_hundred}
use Rattle.bridge_laws.proofs.laws.own_lsps_are_renewed.Goals as goal

pub returns-clause-still : goal.returns-clause-still
returns-clause-still c = seconds_stand_still

pub returns-clause-renew : goal.returns-clause-renew
returns-clause-renew c = seconds_renew

pub returns-clause-unspent : goal.returns-clause-unspent
returns-clause-unspent c = seconds_stay_unspent

pub returns-clause-spend : goal.returns-clause-spend
returns-clause-spend c = seconds_spend

pub returns-clause-spent : goal.returns-clause-spent
returns-clause-spent c = spent_stands_still

pub returns-clause-lasts : goal.returns-clause-lasts
returns-clause-lasts c = own_lsp_lasts

pub returns-clause-renewed : goal.returns-clause-renewed
returns-clause-renewed c = own_lsp_is_renewed

pub returns-clause-alone : goal.returns-clause-alone
returns-clause-alone c = alone_stays_alone

pub returns-clause-every : goal.returns-clause-every
returns-clause-every c = every_nine_hundred
