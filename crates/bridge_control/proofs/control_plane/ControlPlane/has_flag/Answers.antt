use Rattle.std.proofs.Common.{rules, tests, ap, ◌∙◌}
use Rattle.std.proofs.lemmas.Iterator.{YieldsList-from_slice}
use Rattle.std.proofs.lemmas.Iterator.Search.{any_from_yields_List}
use Rattle.std.specs.List.{list_any}
use Rattle.bridge_api.specs.declared.port.BridgePort.{BridgePort}
use Rattle.bridge_control.proofs.Keeping.{flags_stand, due_stands}
use Rattle.bridge_control.proofs.control_plane.ControlPlane.has_flag.Goals as goal

pub returns-then-has_flags : goal.returns-then-has_flags
returns-then-has_flags c =
    flags_stand c.self.inside.blank c.self.inside.failed c.self.inside.machine c.args.self.now c.has_flags.result c.self.view_is c.has_flags.ensures c.if-has_flags.true

pub returns-else-has_flags : goal.returns-else-has_flags
returns-else-has_flags c =
    let all = YieldsList-from_slice c.deref.result.now c.iter.ensures.rest in
    due_stands c.self.inside.blank c.self.inside.failed c.self.inside.machine c.args.self.now c.has_flags.result c.any.result c.self.view_is c.has_flags.ensures c.if-has_flags.false
    (any_from_yields_List (λ (port : BridgePort). port.csnp_due) _ _ c.any.result c.any.ensures.ran all (λ x b q k. search (rules, tests)) ∙ ap (list_any (λ (port : BridgePort). port.csnp_due)) c.deref.ensures.value)
