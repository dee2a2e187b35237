use Rattle.std.proofs.Common.{◌&&◌, Bool, ap, sym, ◌∙◌}
use Rattle.bridge_control.specs.Carrying.{carries_customer}
use Rattle.bridge_control.proofs.Keeping.{carrier_is}
use Rattle.bridge_control.proofs.control_plane.ControlPlane.needs_tables.Goals as goal

pub returns-then-port_at : goal.returns-then-port_at
returns-then-port_at c =
    let carrier = carrier_is c.self.inside.blank c.self.inside.failed c.self.inside.machine c.args.self.now c.args.port c.as_slice.result.now c.port_at.result c.self.view_is c.as_slice.ensures.value c.port_at.ensures in
    c.is_customer.ensures ∙ ap (λ (b : Bool). b && carries_customer c.args.frame.now) (sym c.if-port_at.true ∙ carrier)

pub returns-else-port_at : goal.returns-else-port_at
returns-else-port_at c =
    let carrier = carrier_is c.self.inside.blank c.self.inside.failed c.self.inside.machine c.args.self.now c.args.port c.as_slice.result.now c.port_at.result c.self.view_is c.as_slice.ensures.value c.port_at.ensures in
    c.if-port_at.false ∙ ap (λ (b : Bool). b && carries_customer c.args.frame.now) (sym c.if-port_at.false ∙ carrier)
