use Rattle.std.proofs.Common.{ap, sym, ◌∙◌}
use Rattle.std.specs.Option.{option_copied_mut}
use Rattle.indexmap.specs.Layout.{set_value_at}
use Rattle.spb_world.proofs.WorldLemmas.{with_metric-set, with_metric-none}
use Rattle.spb_world.proofs.world.set_end_metric.Goals as goal

pub returns-in-None : goal.returns-in-None
returns-in-None c = with_metric-none c.args.side c.args.metric c.args.links.now.entries c.args.place (sym c.get_index_mut.ensures.value ∙ ap option_copied_mut c.in-None.is)

pub returns-in-Some : goal.returns-in-Some
returns-in-Some c = ap (set_value_at c.args.links.now.entries c.args.place) c.set_metric.ensures ∙ with_metric-set c.args.side c.args.metric c.args.links.now.entries c.args.place c.in-Some.link.now (sym c.get_index_mut.ensures.value ∙ ap option_copied_mut c.in-Some.is)
