use Rattle.std.proofs.Common.{rules}
use Rattle.std.proofs.lemmas.Fn.{filter_same}
use Rattle.forwarding.specs.Ports.{is_at_other_port}
use Rattle.forwarding.proofs.detaching.remove.Goals as goal

pub returns : goal.returns
returns c = filter_same _ (is_at_other_port c.args.port) _ (λ x b f' s. search rules) _ _ c.retain.ensures.filtered
