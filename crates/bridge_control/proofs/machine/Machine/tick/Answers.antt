use Rattle.std.proofs.Common.{◌≤◌, ℕ, List, length, take, drop, refl, sym, ap, ◌∙◌, subst, arith}
use Rattle.bridge_api.specs.declared.port.BridgePort.{BridgePort}
use Rattle.bridge_control.specs.Machine.{view_of, hellos_from}
use Rattle.bridge_control.specs.Ports.{AreUnused}
use Rattle.bridge_control.proofs.Wire.{sent_as, gained_none, gained_as, on_err}
use Rattle.bridge_control.proofs.Following.{few_hellos}
use Rattle.bridge_control.proofs.Unused.{taken, hellos_first}
use Rattle.bridge_control.proofs.Seconds.{readied_long, readied_sound, readied_unused, readied_sendable, readied_sized, after_sending_after, first_frames, first_done}
use Rattle.bridge_control.proofs.machine.Machine.tick.Goals as goal

pub slice_bounds-send_all-end : goal.slice_bounds-send_all-end
slice_bounds-send_all-end c =
    let used : ℕ = c.ports_in_use-used.result in
    let within : used ≤ length c.args.self.now.ports.items = omega (arith, c.ports_in_use-used.ensures.within, ap length c.as_slice.ensures.value) in
    let long = readied_long c.args.self.now c.prepare.new.self used c.in_ok-has_flags.ensures.after within in
    taken used c.as_slice-2.result.now (omega (arith, long, ap length c.as_slice-2.ensures.value))

pub slice_bounds-send_all-end-2 : goal.slice_bounds-send_all-end-2
slice_bounds-send_all-end-2 c =
    let used : ℕ = c.ports_in_use-used.result in
    let within : used ≤ length c.args.self.now.ports.items = omega (arith, c.ports_in_use-used.ensures.within, ap length c.as_slice.ensures.value) in
    let long = readied_long c.args.self.now c.prepare.new.self used c.in_ok-has_flags.ensures.after within in
    let hellos = few_hellos c.prepare.new.self c.in_ok-has_flags.ensures.after.current.ports in
    taken used c.as_slice-3.result.now (omega (arith, long, hellos, ap length c.as_slice-3.ensures.value))

pub send_all-requires-clause-few : goal.send_all-requires-clause-few
send_all-requires-clause-few c =
    let used : ℕ = c.ports_in_use-used.result in
    let within : used ≤ length c.args.self.now.ports.items = omega (arith, c.ports_in_use-used.ensures.within, ap length c.as_slice.ensures.value) in
    let long = readied_long c.args.self.now c.prepare.new.self used c.in_ok-has_flags.ensures.after within in
    let first = taken used c.as_slice-2.result.now (omega (arith, long, ap length c.as_slice-2.ensures.value)) in
    omega (arith, first, within, c.requires.sound.few)

pub send_all-requires-clause-hellos : goal.send_all-requires-clause-hellos
send_all-requires-clause-hellos c =
    let used : ℕ = c.ports_in_use-used.result in
    let n = c.prepare.new.self in
    ap (take used) (c.as_slice-3.ensures.value ∙ c.in_ok-has_flags.ensures.after.current.ports.hellos)
    ∙ (hellos_first n.id.system 1 used n.ports.items ∙ ap (λ (ports : List BridgePort). hellos_from n.id.system 1 (take used ports)) (sym c.as_slice-2.ensures.value))

pub send_all-requires-clause-sendable : goal.send_all-requires-clause-sendable
send_all-requires-clause-sendable c = readied_sendable c.args.self.now c.prepare.new.self c.requires c.in_ok-has_flags.ensures.after

pub send_all-requires-clause-sized : goal.send_all-requires-clause-sized
send_all-requires-clause-sized c = readied_sized c.args.self.now c.prepare.new.self c.requires c.in_ok-has_flags.ensures.after

pub clear_csnp_due-requires-clause-sound : goal.clear_csnp_due-requires-clause-sound
clear_csnp_due-requires-clause-sound c = readied_sound c.args.self.now c.prepare.new.self c.requires c.in_ok-has_flags.ensures.after

pub clear_csnp_due-requires-clause-within : goal.clear_csnp_due-requires-clause-within
clear_csnp_due-requires-clause-within c =
    let used : ℕ = c.ports_in_use-used.result in
    let within : used ≤ length c.args.self.now.ports.items = omega (arith, c.ports_in_use-used.ensures.within, ap length c.as_slice.ensures.value) in
    readied_long c.args.self.now c.prepare.new.self used c.in_ok-has_flags.ensures.after within

pub clear_csnp_due-requires-clause-unused : goal.clear_csnp_due-requires-clause-unused
clear_csnp_due-requires-clause-unused c =
    let used : ℕ = c.ports_in_use-used.result in
    let unused : AreUnused (drop used c.args.self.now.ports.items) = subst (λ (ports : List BridgePort). AreUnused (drop used ports)) c.as_slice.ensures.value c.ports_in_use-used.ensures.unused in
    readied_unused c.args.self.now c.prepare.new.self used c.requires c.in_ok-has_flags.ensures.after unused

pub returns-in_err-has_flags-clause-gained : goal.returns-in_err-has_flags-clause-gained
returns-in_err-has_flags-clause-gained c = on_err _ (gained_none _ c.args.outbox.now c.args.outbox.now refl)

pub returns-in_err-send_all-clause-gained : goal.returns-in_err-send_all-clause-gained
returns-in_err-send_all-clause-gained c =
    let used : ℕ = c.ports_in_use-used.result in
    let unused : AreUnused (drop used c.args.self.now.ports.items) = subst (λ (ports : List BridgePort). AreUnused (drop used ports)) c.as_slice.ensures.value c.ports_in_use-used.ensures.unused in
    let frames = first_frames c.args.self.now c.prepare.new.self used c.as_slice-2.result.now c.requires c.in_ok-has_flags.ensures.after unused c.as_slice-2.ensures.value in
    on_err c.from_residual-in_err-send_all.result (gained_as _ _ c.args.outbox.now c.send_all.new.outbox frames c.in_err-send_all.ensures.gained)

pub returns-clause-after : goal.returns-clause-after
returns-clause-after c =
    let used : ℕ = c.ports_in_use-used.result in
    let unused : AreUnused (drop used c.args.self.now.ports.items) = subst (λ (ports : List BridgePort). AreUnused (drop used ports)) c.as_slice.ensures.value c.ports_in_use-used.ensures.unused in
    let done = first_done c.args.self.now c.prepare.new.self used c.as_slice-2.result.now c.requires c.in_ok-has_flags.ensures.after unused c.as_slice-2.ensures.value in
    after_sending_after (view_of c.args.self.now) c.prepare.new.self c.clear_csnp_due.new.ports c.send_all.new.db c.in_ok-has_flags.ensures.after c.clear_csnp_due.ensures (c.in_ok-send_all.ensures.after_sending ∙ done)

pub returns-clause-sent : goal.returns-clause-sent
returns-clause-sent c =
    let used : ℕ = c.ports_in_use-used.result in
    let unused : AreUnused (drop used c.args.self.now.ports.items) = subst (λ (ports : List BridgePort). AreUnused (drop used ports)) c.as_slice.ensures.value c.ports_in_use-used.ensures.unused in
    let frames = first_frames c.args.self.now c.prepare.new.self used c.as_slice-2.result.now c.requires c.in_ok-has_flags.ensures.after unused c.as_slice-2.ensures.value in
    sent_as _ _ c.args.outbox.now c.send_all.new.outbox frames c.in_ok-send_all.ensures.sent
