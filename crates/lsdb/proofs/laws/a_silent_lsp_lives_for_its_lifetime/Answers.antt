use Rattle.lsdb.proofs.Time.{lives_for_its_lifetime, dies_after_it, others_dont_age}
use Rattle.lsdb.proofs.laws.a_silent_lsp_lives_for_its_lifetime.Goals as goal

pub returns-clause-lives : goal.returns-clause-lives
returns-clause-lives c = lives_for_its_lifetime

pub returns-clause-dies : goal.returns-clause-dies
returns-clause-dies c = dies_after_it

pub returns-clause-others : goal.returns-clause-others
returns-clause-others c = others_dont_age
