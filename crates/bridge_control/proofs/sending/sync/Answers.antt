use Rattle.std.proofs.Common.{◌++◌, [], sym, ap, ◌∙◌}
use Rattle.std.proofs.lemmas.Result.{on_ok_weaker, on_err_weaker}
use Rattle.std.proofs.lemmas.List.{append-nil}
use Rattle.bridge_api.specs.Ticking.{summaries_at}
use Rattle.bridge_control.specs.Frames.{flagged_at}
use Rattle.bridge_control.proofs.Wire.{sent_as, sent_both, sent_none, gained_further, on_err}
use Rattle.bridge_control.proofs.Sends.{synced_up, after_sending_up}
use Rattle.bridge_control.proofs.sending.sync.Goals as goal

pub returns-in_err-send_summaries-clause-gained : goal.returns-in_err-send_summaries-clause-gained
returns-in_err-send_summaries-clause-gained c =
    let m = c.args.system in
    on_err _
    (gained_further [] (summaries_at m c.args.number c.args.port.now c.args.db.now) (flagged_at m c.args.number c.args.db.now) _ c.args.outbox.now c.args.outbox.now c.send_summaries.new.outbox
    (synced_up m c.args.number c.args.port.now c.args.db.now c.requires.up) (sent_none c.args.outbox.now) c.in_err-send_summaries.ensures.gained)

pub returns-clause-sent : goal.returns-clause-sent
returns-clause-sent c =
    let m = c.args.system in
    let summaries = summaries_at m c.args.number c.args.port.now c.args.db.now in
    let flagged = flagged_at m c.args.number c.args.db.now in
    on_ok_weaker c.send_flagged.result
    (λ is. sent_as (summaries ++ flagged) _ c.args.outbox.now c.send_flagged.new.outbox (sym (synced_up m c.args.number c.args.port.now c.args.db.now c.requires.up))
    (sent_both summaries flagged c.args.outbox.now c.send_summaries.new.outbox c.send_flagged.new.outbox c.in_ok-send_summaries.ensures.sent is)) c.send_flagged.ensures.sent

pub returns-clause-after_sending : goal.returns-clause-after_sending
returns-clause-after_sending c =
    on_ok_weaker c.send_flagged.result (after_sending_up c.args.number c.args.port.now c.args.db.now c.send_flagged.new.db c.requires.up) c.send_flagged.ensures.after_sending

pub returns-clause-gained : goal.returns-clause-gained
returns-clause-gained c =
    let m = c.args.system in
    let summaries = summaries_at m c.args.number c.args.port.now c.args.db.now in
    let flagged = flagged_at m c.args.number c.args.db.now in
    on_err_weaker c.send_flagged.result
    (gained_further summaries flagged [] _ c.args.outbox.now c.send_summaries.new.outbox c.send_flagged.new.outbox
    (synced_up m c.args.number c.args.port.now c.args.db.now c.requires.up ∙ ap (λ fs. summaries ++ fs) (sym (append-nil flagged)))
    c.in_ok-send_summaries.ensures.sent) c.send_flagged.ensures.gained
