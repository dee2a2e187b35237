use Rattle.bridge_api.proofs.TimeLsps.{seconds_age, lsps_last, lsps_expire}
use Rattle.bridge_laws.proofs.laws.silent_lsps_expire.Goals as goal

pub returns-clause-age : goal.returns-clause-age
returns-clause-age c = seconds_age

pub returns-clause-last : goal.returns-clause-last
returns-clause-last c = lsps_last

pub returns-clause-expire : goal.returns-clause-expire
returns-clause-expire c = lsps_expire
