use Rattle.std.proofs.Common.{◌<◌, length, slice_set, ap, refl, ◌∙◌, false, arith}
use Rattle.bridge_api.specs.declared.port.BridgePort.{BridgePort}
use Rattle.bridge_api.specs.Hearing.{with_csnp_due}
use Rattle.bridge_control.proofs.Loops.{changed_next}
use Rattle.bridge_control.proofs.Unused.{further_unused, undue}
use Rattle.bridge_control.proofs.ports.clear_csnp_due.Goals as goal

pub clear-init : goal.clear-init
clear-init c = refl

pub clear-preserved : goal.clear-preserved
clear-preserved c =
    let items = c.clear.ports.items in
    let within : c.clear.place < length c.args.ports.now.items = omega (arith, c.requires.within, c.clear-test.true) in
    ap (λ (port : BridgePort). slice_set items c.clear.place (with_csnp_due false port)) c.index_mut.ensures.value
    ∙ changed_next (with_csnp_due false) c.args.ports.now.items items c.clear.place c.index_mut.result.now within c.clear.invariant

pub returns : goal.returns
returns c = undue c.clear.place c.args.ports.now.items c.clear.ports.items c.requires.sound (further_unused c.args.used c.clear.place c.args.ports.now.items (omega (arith, c.clear-test.false)) c.requires.unused) c.clear.invariant
