use Rattle.std.proofs.Common.{Some, rules}
use Rattle.bridge_control.specs.Kept.{AreOwn}
use Rattle.bridge_control.specs.Machine.{view_of, IsReady}
use Rattle.bridge_control.proofs.OwnTables.{tables_shown, kept_shown, copy_shown}
use Rattle.bridge_control.proofs.control_plane.ControlPlane.tables.Goals as goal

pub returns-in-Some-clause-tables : goal.returns-in-Some-clause-tables
returns-in-Some-clause-tables c =
    let own : AreOwn (view_of c.self.inside.machine) (Some c.in-Some.kept) = search rules in
    copy_shown c.args.self.now.view c.in-Some.kept c.copy_of.result (kept_shown c.self.inside.blank c.self.inside.failed c.self.inside.machine c.args.self.now c.in-Some.kept c.self.view_is own) c.copy_of.ensures

pub tables-requires : goal.tables-requires
tables-requires c =
    let ready : IsReady c.self.inside.machine = search rules in
    ready.sound

pub returns-in-None-clause-tables : goal.returns-in-None-clause-tables
returns-in-None-clause-tables c = tables_shown c.self.inside.blank c.self.inside.failed c.self.inside.machine c.args.self.now c.tables.result c.self.view_is c.tables.ensures
