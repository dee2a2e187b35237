use Rattle.std.proofs.Common.{◌≡◌, ℕ, List, subst, ap, ◌∙◌, IfOk}
use Rattle.spb_types.specs.Tables.{group_in}
use Rattle.spb_types.specs.declared.ports.PortSet.{PortSet}
use Rattle.forwarding.specs.Ports.{ports_in}
use Rattle.forwarding.specs.Tenant.{sent_to}
use Rattle.forwarding.proofs.customer.sent_to_group.Goals as goal

pub returns : goal.returns
returns c =
    let is : c.deref.result.now ≡ ports_in (group_in c.args.tables.now.group c.args.entry.vid c.args.da) =
    c.deref.ensures.value ∙ c.in_ok-ports.ensures ∙ ap (λ (set : PortSet). ports_in set) c.group_of.ensures
    in
    subst (λ (ports : List ℕ). IfOk c.sent_to.result (λ wire. wire ≡ sent_to c.args.tenant.now c.args.entry c.args.frame.now c.args.da ports)) is c.sent_to.ensures
