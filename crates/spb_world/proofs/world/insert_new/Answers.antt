use Rattle.std.proofs.Common.{◌∙◌}
use Rattle.spb_world.proofs.NameLemmas.{insert_entry-new_name}
use Rattle.spb_world.proofs.world.insert_new.Goals as goal

pub returns-clause-ok : goal.returns-clause-ok
returns-clause-ok g c =
    c.in_ok-insert.ensures.entries ∙ insert_entry-new_name c.args.name c.args.things.now.entries c.args.thing c.requires
