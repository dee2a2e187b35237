use Rattle.std.proofs.Common.{length, ap, arith}
use Rattle.bridge_control.proofs.Following.{length_hellos, hello_there}
use Rattle.bridge_control.proofs.Wire.{ports_some, on_err}
use Rattle.bridge_control.proofs.Sends.{sending_next}
use Rattle.bridge_control.proofs.sending.send_all.Goals as goal

pub bounds-hellos-place : goal.bounds-hellos-place
bounds-hellos-place c = omega (arith, c.send-test.true, ap length c.requires.hellos, length_hellos c.args.system 1 c.args.ports.now)

pub send_at-requires-clause-hello : goal.send_at-requires-clause-hello
send_at-requires-clause-hello c = hello_there c.args.system c.args.ports.now c.args.hellos.now c.send.place _ c.index-hellos-place.result c.index-hellos-place.result c.send-test.true c.requires.hellos c.index-hellos-place.is

pub returns-in_err-send_at-clause-gained : goal.returns-in_err-send_at-clause-gained
returns-in_err-send_at-clause-gained c =
    on_err c.from_residual-in_err-send_at.result
    (ports_some c.args.system c.args.ports.now c.args.db.now c.send.db c.send.place _ c.args.outbox.now c.send.outbox c.send_at.new.outbox c.send-test.true c.send.invariant.sent c.send.invariant.after_sending c.in_err-send_at.ensures.gained)

pub send-preserved : goal.send-preserved
send-preserved c =
    sending_next c.args.system c.args.ports.now c.args.db.now c.args.outbox.now c.send.place _ c.srm_ports-srm.result c.ssn_ports-ssn.result _ _ c.send.db c.send_at.new.db c.send.outbox c.send_at.new.outbox c.requires.few c.send-test.true c.send.invariant c.in_ok-send_at.ensures.sent c.in_ok-send_at.ensures.after_sending
