use Rattle.std.proofs.Common.{sym, ap, ◌∙◌}
use Rattle.spb_types.specs.declared.graph.Graph.{Graph}
use Rattle.fdb_build.proofs.StrangerLemmas.{nothing, no_member_rows}
use Rattle.fdb_build.proofs.groups.groups_of.Goals as goal

pub returns-then-is_empty : goal.returns-then-is_empty
returns-then-is_empty g c =
    let graph = c.args.around.now.roads.now in
    c.new.ensures.items ∙ sym (no_member_rows graph c.args.around.now.me c.args.plans.now (ap (λ (h : Graph). h.members) (sym c.graph.ensures) ∙ nothing c.graph.result.now.members (sym c.is_empty.ensures ∙ c.if-is_empty.true)))
