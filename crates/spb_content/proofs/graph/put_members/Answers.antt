use Rattle.std.proofs.Common.{List, drop, refl, ap, ◌∙◌}
use Rattle.std.proofs.lemmas.List.{take_rest}
use Rattle.spb_types.specs.declared.graph.Member.{Member}
use Rattle.spb_content.proofs.Folded.{read_stays}
use Rattle.spb_content.proofs.graph.put_members.Goals as goal

pub returns-then-ascends : goal.returns-then-ascends
returns-then-ascends c =
    read_stays c.args.said.now c.args.members.now _ _ _ c.len-start.ensures c.in_ok-put_each.ensures
    (take_rest c.as_slice.result.now c.len-start.result ∙ ap (λ (ms : List Member). drop c.len-start.result ms) c.as_slice.ensures) (c.if-ascends.ensures refl)
