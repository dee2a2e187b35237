use Rattle.std.proofs.Common.{not, eqb, rules}
use Rattle.std.proofs.lemmas.Fn.{filter_same}
use Rattle.forwarding.proofs.copies.local_but_for.Goals as goal

pub returns : goal.returns
returns c = filter_same _ (λ p. not (eqb p c.args.port)) _ (λ x b f' s. search rules) _ _ c.retain.ensures.filtered
