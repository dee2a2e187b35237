use Rattle.std.proofs.Common.{◌++◌, [], sym, ap}
use Rattle.std.proofs.lemmas.Result.{on_ok_weaker, on_err_weaker}
use Rattle.std.proofs.lemmas.List.{append-nil}
use Rattle.bridge_api.specs.Ticking.{hellos_at, synced_at}
use Rattle.bridge_control.proofs.Wire.{sent_as, sent_both, gained_none, gained_further, on_err}
use Rattle.bridge_control.proofs.Sends.{said_hello, hello_alone, none_cleared_at}
use Rattle.bridge_control.proofs.sending.send_at.Goals as goal

pub returns-in_err-send_hello-clause-gained : goal.returns-in_err-send_hello-clause-gained
returns-in_err-send_hello-clause-gained c = on_err c.from_residual.result (gained_none _ c.args.outbox.now c.send_hello.new.outbox c.in_err-send_hello.ensures.err)

pub returns-then-is_synced-clause-sent : goal.returns-then-is_synced-clause-sent
returns-then-is_synced-clause-sent c =
    sent_as _ _ c.args.outbox.now c.send_hello.new.outbox
    (hello_alone c.args.system c.args.number c.args.port.now c.args.db.now (c.is_synced.ensures.due c.if-is_synced.true)
    (λ up. c.requires.srm (c.is_synced.ensures.srm c.if-is_synced.true up)) (λ up. c.requires.ssn (c.is_synced.ensures.ssn c.if-is_synced.true up)))
    (said_hello c.args.system c.args.number c.args.port.now c.args.hello.now c.args.outbox.now c.send_hello.new.outbox c.requires.hello c.in_ok-send_hello.ensures.ok)

pub returns-then-is_synced-clause-after_sending : goal.returns-then-is_synced-clause-after_sending
returns-then-is_synced-clause-after_sending c = none_cleared_at c.args.number c.args.port.now c.args.db.now (λ up. c.requires.ssn (c.is_synced.ensures.ssn c.if-is_synced.true up))

pub returns-clause-sent : goal.returns-clause-sent
returns-clause-sent c =
    let m = c.args.system in
    on_ok_weaker c.sync.result
    (sent_both (hellos_at m c.args.number c.args.port.now) (synced_at m c.args.number c.args.port.now c.args.db.now) c.args.outbox.now c.send_hello.new.outbox c.sync.new.outbox
    (said_hello m c.args.number c.args.port.now c.args.hello.now c.args.outbox.now c.send_hello.new.outbox c.requires.hello c.in_ok-send_hello.ensures.ok)) c.sync.ensures.sent

pub returns-clause-gained : goal.returns-clause-gained
returns-clause-gained c =
    let m = c.args.system in
    let hellos = hellos_at m c.args.number c.args.port.now in
    let synced = synced_at m c.args.number c.args.port.now c.args.db.now in
    on_err_weaker c.sync.result
    (gained_further hellos synced [] _ c.args.outbox.now c.send_hello.new.outbox c.sync.new.outbox (ap (λ fs. hellos ++ fs) (sym (append-nil synced)))
    (said_hello m c.args.number c.args.port.now c.args.hello.now c.args.outbox.now c.send_hello.new.outbox c.requires.hello c.in_ok-send_hello.ensures.ok)) c.sync.ensures.gained
