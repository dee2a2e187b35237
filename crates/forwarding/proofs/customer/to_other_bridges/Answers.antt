use Rattle.std.proofs.Common.{◌≡◌, subst, IfOk}
use Rattle.spb_types.specs.Tables.{group_in}
use Rattle.spb_types.specs.declared.address.Mac.{Mac}
use Rattle.forwarding.specs.Ports.{ports_in}
use Rattle.forwarding.specs.Tenant.{sent_to}
use Rattle.forwarding.proofs.customer.to_other_bridges.Goals as goal

pub returns : goal.returns
returns c =
    subst (λ (m : Mac). IfOk c.sent_to_group.result (λ wire. wire ≡ sent_to c.args.tenant.now c.args.entry c.args.frame.now m (ports_in (group_in c.args.tables.now.group c.args.entry.vid m)))) c.group_address-da.ensures c.sent_to_group.ensures
