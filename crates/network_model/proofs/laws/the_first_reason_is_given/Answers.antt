use Rattle.network_model.proofs.Firsts as firsts
use Rattle.network_model.proofs.laws.the_first_reason_is_given.Goals as goal

pub returns : goal.returns
returns c = firsts.the_first_reason_is_given
