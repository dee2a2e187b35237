use Rattle.std.proofs.Common.{ap, sym, subst, ◌∙◌}
use Rattle.fdb_build.specs.Tables.{ArePlans}
use Rattle.bridge_control.specs.Machine.{view_of}
use Rattle.bridge_control.specs.Plane.{Plane}
use Rattle.bridge_control.proofs.OwnTables.{plans_are}
use Rattle.bridge_control.proofs.control_plane.ControlPlane.vids.Goals as goal

pub returns-clause-plans : goal.returns-clause-plans
returns-clause-plans c = λ made unfailed.
    let ready = c.self.invariant.ready (ap (λ (p : Plane). p.blank) c.self.view_is ∙ made) (ap (λ (p : Plane). p.view.failed) c.self.view_is ∙ unfailed) in
    subst ArePlans (sym c.as_slice.ensures) (plans_are (view_of c.self.inside.machine) ready.sound.config)
