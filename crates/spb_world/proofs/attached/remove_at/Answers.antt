use Rattle.std.specs.Global.{Vec}
use Rattle.bridge_api.specs.Services.{without_customer_port}
use Rattle.spb_types.specs.declared.service.Attachment.{Attachment}
use Rattle.spb_types.proofs.Places.{lent, lent-none}
use Rattle.spb_world.proofs.BoxLemmas.{map-set, changed-none}
use Rattle.spb_world.proofs.attached.remove_at.Goals as goal

pub returns-in-None : goal.returns-in-None
returns-in-None c =
    changed-none (λ (v : Vec Attachment). v.items) (without_customer_port c.args.port) c.args.lists.now.items c.args.place (lent-none _ _ _ c.get_mut.ensures.item c.in-None.is)

pub returns-in-Some : goal.returns-in-Some
returns-in-Some c =
    map-set (λ (v : Vec Attachment). v.items) (without_customer_port c.args.port) c.args.lists.now.items c.args.place c.in-Some.list.now c.remove.new.list (lent _ _ _ _ c.get_mut.ensures.item c.in-Some.is) c.remove.ensures
