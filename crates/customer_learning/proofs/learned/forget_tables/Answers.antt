use Rattle.std.proofs.Common.{not, rules}
use Rattle.std.proofs.lemmas.Fn.{filter_same}
use Rattle.customer_learning.specs.Tables.{is_of}
use Rattle.customer_learning.proofs.learned.forget_tables.Goals as goal

pub returns : goal.returns
returns c = filter_same _ (λ t. not (is_of c.args.isid t)) _ (λ x b f' s. search rules) _ _ c.retain.ensures.filtered
