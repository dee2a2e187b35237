use Rattle.std.proofs.Common.{◌≡◌, [], length, rules}
use Rattle.std.proofs.lemmas.Result.{on_ok_weaker, on_err_weaker}
use Rattle.bridge_control.proofs.Wire.{sent_none, sent_as, gained_as}
use Rattle.bridge_control.proofs.Sends.{fitting_csnps, summaries_are, no_summaries}
use Rattle.bridge_control.proofs.sending.send_summaries.Goals as goal

pub returns-then-not-port-clause-sent : goal.returns-then-not-port-clause-sent
returns-then-not-port-clause-sent c =
    sent_as [] _ c.args.outbox.now c.args.outbox.now (no_summaries c.args.system c.args.number c.args.port.now c.args.db.now c.if-not-port.true) (sent_none c.args.outbox.now)

pub send_pdus-requires : goal.send_pdus-requires
send_pdus-requires c =
    let six : length c.args.system.mac.bytes ≡ 6 = search rules in
    fitting_csnps c.args.system c.args.db.now c.in_ok-pdus.pdus.items c.as_slice.result.now six c.requires c.as_slice.ensures.value c.in_ok-pdus.ensures

pub returns-clause-sent : goal.returns-clause-sent
returns-clause-sent c =
    let frames = summaries_are c.args.system c.args.number c.args.port.now c.args.db.now c.in_ok-pdus.pdus.items c.as_slice.result.now c.if-not-port.false c.as_slice.ensures.value c.in_ok-pdus.ensures in
    on_ok_weaker c.send_pdus.result (sent_as _ _ c.args.outbox.now c.send_pdus.new.outbox frames) c.send_pdus.ensures.sent

pub returns-clause-gained : goal.returns-clause-gained
returns-clause-gained c =
    let frames = summaries_are c.args.system c.args.number c.args.port.now c.args.db.now c.in_ok-pdus.pdus.items c.as_slice.result.now c.if-not-port.false c.as_slice.ensures.value c.in_ok-pdus.ensures in
    on_err_weaker c.send_pdus.result (gained_as _ _ c.args.outbox.now c.send_pdus.new.outbox frames) c.send_pdus.ensures.gained
