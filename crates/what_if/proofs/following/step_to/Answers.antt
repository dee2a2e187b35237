use Rattle.std.proofs.Common.{Option, None, refl, sym, subst, ◌∙◌}
use Rattle.ect_trees.specs.declared.mesh.Arc.{Arc}
use Rattle.what_if.specs.Labels.{IsStepBy}
use Rattle.what_if.proofs.Placed.{entry_at}
use Rattle.what_if.proofs.following.step_to.Goals as goal

abbrev none : Option Arc
none = None

pub returns-in-Start : goal.returns-in-Start
returns-in-Start c = λ x at. subst (λ e. IsStepBy c.args.mesh.now.graph c.args.place e none) (sym (entry_at c.args.mesh.now.graph c.args.entries.now c.args.place x _ c.requires.ready.valid c.requires.long at ∙ c.in-Start.is)) refl

pub returns-in-Before : goal.returns-in-Before
returns-in-Before c = λ x at. subst (λ e. IsStepBy c.args.mesh.now.graph c.args.place e c.arc_from.result) (sym (entry_at c.args.mesh.now.graph c.args.entries.now c.args.place x _ c.requires.ready.valid c.requires.long at ∙ c.in-Before.is)) c.arc_from.ensures

pub returns-in-Unreached : goal.returns-in-Unreached
returns-in-Unreached c = λ x at. subst (λ e. IsStepBy c.args.mesh.now.graph c.args.place e none) (sym (entry_at c.args.mesh.now.graph c.args.entries.now c.args.place x _ c.requires.ready.valid c.requires.long at ∙ c.in-Unreached.is)) refl
