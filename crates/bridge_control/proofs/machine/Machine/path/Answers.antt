use Rattle.std.proofs.Common.{sym, ap, ◌∙◌}
use Rattle.std.specs.Option.{option_copied}
use Rattle.spb_tlvs.specs.Capability.{IsTree}
use Rattle.bridge_control.specs.Machine.{view_of}
use Rattle.bridge_control.proofs.OwnTables.{planned_tree, path_none, path_found}
use Rattle.bridge_control.proofs.machine.Machine.path.Goals as goal

pub returns-in-None : goal.returns-in-None
returns-in-None c = path_none (view_of c.args.self.now) c.args.to c.args.vid (sym c.plan.ensures ∙ ap option_copied c.in-None.is)

pub path_by-requires-clause-low : goal.path_by-requires-clause-low
path_by-requires-clause-low c =
    let tree : IsTree c.in-Some.plan.now = planned_tree c.args.self.now.vids c.args.vid c.in-Some.plan.now c.requires.sound.config.each_vid (sym c.plan.ensures ∙ ap option_copied c.in-Some.is) in tree.ect_low

pub path_by-requires-clause-high : goal.path_by-requires-clause-high
path_by-requires-clause-high c =
    let tree : IsTree c.in-Some.plan.now = planned_tree c.args.self.now.vids c.args.vid c.in-Some.plan.now c.requires.sound.config.each_vid (sym c.plan.ensures ∙ ap option_copied c.in-Some.is) in tree.ect_high

pub returns-in-Some : goal.returns-in-Some
returns-in-Some c = path_found (view_of c.args.self.now) c.args.to c.args.vid c.in-Some.plan.now c.path_by.result (sym c.plan.ensures ∙ ap option_copied c.in-Some.is) c.path_by.ensures
