use Rattle.std.proofs.Common.{ap, sym, ◌∙◌}
use Rattle.std.specs.Option.{option_copied_mut}
use Rattle.spb_world.proofs.WorldLemmas.{switched-set, switched-none}
use Rattle.spb_world.proofs.world.switch.Goals as goal

pub returns-in-None : goal.returns-in-None
returns-in-None c = switched-none c.args.on c.args.links.now.entries c.args.place (sym c.get_index_mut.ensures.value ∙ ap option_copied_mut c.in-None.is)

pub returns-in-Some : goal.returns-in-Some
returns-in-Some c = switched-set c.args.on c.args.links.now.entries c.args.place c.in-Some.link.now (sym c.get_index_mut.ensures.value ∙ ap option_copied_mut c.in-Some.is)
