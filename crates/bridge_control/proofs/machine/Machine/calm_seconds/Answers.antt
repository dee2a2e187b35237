use Rattle.std.proofs.Common.{List, arith, subst}
use Rattle.bridge_api.specs.declared.port.BridgePort.{BridgePort}
use Rattle.bridge_control.specs.Ports.{KeepsEach}
use Rattle.bridge_control.proofs.Owning.{own_first}
use Rattle.bridge_control.proofs.InCalm.{own_current, calm_for}
use Rattle.bridge_control.proofs.machine.Machine.calm_seconds.Goals as goal

pub fresh_seconds-requires-clause-first : goal.fresh_seconds-requires-clause-first
fresh_seconds-requires-clause-first c = own_first c.args.self.now c.requires.current

pub fresh_seconds-requires-clause-current : goal.fresh_seconds-requires-clause-current
fresh_seconds-requires-clause-current c = own_current c.args.self.now c.requires

pub returns : goal.returns
returns c = λ some.
    let keeps = subst (λ (ports : List BridgePort). KeepsEach ports) c.as_slice.ensures.value (c.keeps_each.ensures c.if-not-keeps_each.false) in
    calm_for c.args.self.now c.calm_seconds-seconds.result c.fresh_seconds.result c.min.result c.requires (omega (arith, c.min.ensures)) (omega (arith, c.min.ensures)) some
    c.if-self.false keeps c.calm_seconds-seconds.ensures.flags c.calm_seconds-seconds.ensures.left c.fresh_seconds.ensures
