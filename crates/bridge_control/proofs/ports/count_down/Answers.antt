use Rattle.std.proofs.Common.{◌<◌, length, slice_set, ap, refl, ◌∙◌, sym, true, false, arith, subst}
use Rattle.bridge_api.specs.declared.port.BridgePort.{BridgePort}
use Rattle.bridge_api.specs.Ticking.{later, leaves}
use Rattle.bridge_api.specs.Laws.{IsSoundPort}
use Rattle.bridge_control.specs.Ports.{loses}
use Rattle.bridge_control.proofs.Loops.{sound_next, there_next, changed_next}
use Rattle.bridge_control.proofs.Picked.{cleared_none, cleared_next, some_next}
use Rattle.bridge_control.proofs.Unused.{further_unused, counted, cleared, lost_counted}
use Rattle.bridge_control.proofs.ports.count_down.Goals as goal
use Rattle.bridge_control.proofs.ports.count_down.Goals.{then-count_down_at, else-count_down_at}

pub count-init : goal.count-init
count-init c = (refl, cleared_none c.args.db.now, refl)

pub count_down_at-requires-clause-sound : goal.count_down_at-requires-clause-sound
count_down_at-requires-clause-sound c =
    let within : c.count.place < length c.args.ports.now.items = omega (arith, c.requires.within, c.count-test.true) in
    subst IsSoundPort (sym c.index_mut.ensures.value) (sound_next later c.args.ports.now.items c.count.ports.items c.count.place c.index_mut.result.now c.requires.sound within c.count.invariant.0)

pub count-preserved : goal.count-preserved
count-preserved c =
    let ports = c.args.ports.now.items in
    let items = c.count.ports.items in
    let port = c.index_mut.result.now in
    let within : c.count.place < length ports = omega (arith, c.requires.within, c.count-test.true) in
    let leaving = there_next leaves later ports items c.count.place port (leaves port) within c.count.invariant.0 (ap leaves c.index_mut.ensures.value) in
    let losing = there_next loses later ports items c.count.place port c.count_down_at.result within c.count.invariant.0 (c.count_down_at.ensures.lost ∙ ap loses c.index_mut.ensures.value) in
    let passed =
    ap (λ (new : BridgePort). slice_set items c.count.place new) (c.count_down_at.ensures.port ∙ ap later c.index_mut.ensures.value)
    ∙ changed_next later ports items c.count.place port within c.count.invariant.0 in
    let cleared = cleared_next (leaves port) ports c.count.place port c.args.db.now c.count.db _ within leaving c.count.invariant.1 c.count_down_at.ensures.db in
    elim c.if-count_down_at.branch [
      | then-count_down_at w ↦ (passed, cleared, some_next true ports c.count.place port c.count.lost _ within (sym w.if-count_down_at.true ∙ losing) c.count.invariant.2 w.lost-is)
      | else-count_down_at w ↦ (passed, cleared, some_next false ports c.count.place port c.count.lost _ within (sym w.if-count_down_at.false ∙ losing) c.count.invariant.2 w.lost-is)
    ]

pub returns-clause-ports : goal.returns-clause-ports
returns-clause-ports c = counted c.count.place c.args.ports.now.items c.count.ports.items c.requires.sound (further_unused c.args.used c.count.place c.args.ports.now.items (omega (arith, c.count-test.false)) c.requires.unused) c.count.invariant.0

pub returns-clause-db : goal.returns-clause-db
returns-clause-db c = cleared c.count.place c.args.ports.now.items c.args.db.now c.count.db c.requires.sound (further_unused c.args.used c.count.place c.args.ports.now.items (omega (arith, c.count-test.false)) c.requires.unused) c.count.invariant.1

pub returns-clause-lost : goal.returns-clause-lost
returns-clause-lost c = lost_counted c.count.place c.args.ports.now.items c.count.lost c.requires.sound (further_unused c.args.used c.count.place c.args.ports.now.items (omega (arith, c.count-test.false)) c.requires.unused) c.count.invariant.2
