use Rattle.std.proofs.Common.{sym, ap, ◌∙◌}
use Rattle.std.specs.Option.{option_copied}
use Rattle.spb_tlvs.specs.Capability.{IsTree}
use Rattle.bridge_control.proofs.OwnTables.{planned_tree}
use Rattle.bridge_control.proofs.machine.Machine.prepare_paths.Goals as goal

pub prepare_by-requires-clause-low : goal.prepare_by-requires-clause-low
prepare_by-requires-clause-low c =
    let tree : IsTree c.in-Some.plan.now = planned_tree c.args.self.now.vids c.args.vid c.in-Some.plan.now c.requires.sound.config.each_vid (sym c.plan.ensures ∙ ap option_copied c.in-Some.is) in tree.ect_low

pub prepare_by-requires-clause-high : goal.prepare_by-requires-clause-high
prepare_by-requires-clause-high c =
    let tree : IsTree c.in-Some.plan.now = planned_tree c.args.self.now.vids c.args.vid c.in-Some.plan.now c.requires.sound.config.each_vid (sym c.plan.ensures ∙ ap option_copied c.in-Some.is) in tree.ect_high
