use Rattle.std.proofs.Common.{List, [], sym, ap, ◌∙◌}
use Rattle.std.proofs.lemmas.Result.{on_ok_weaker, on_err_weaker}
use Rattle.spb_tlvs.specs.declared.entries.SnpEntry.{SnpEntry}
use Rattle.snp_sync.specs.Chunks.{chunks}
use Rattle.bridge_control.specs.Frames.{psnps_sent}
use Rattle.bridge_control.proofs.Wire.{sent_none, sent_as, gained_as}
use Rattle.bridge_control.proofs.Sends.{no_requests, nothing_cleared}
use Rattle.bridge_control.proofs.sending.send_requests.Goals as goal

pub returns-then-not-has-clause-sent : goal.returns-then-not-has-clause-sent
returns-then-not-has-clause-sent c =
    sent_as [] _ c.args.outbox.now c.args.outbox.now (no_requests c.args.system c.args.number c.args.db.now (c.requires.ssn (sym c.has.ensures ∙ c.if-not-has.true))) (sent_none c.args.outbox.now)

pub returns-then-not-has-clause-after_sending : goal.returns-then-not-has-clause-after_sending
returns-then-not-has-clause-after_sending c = nothing_cleared c.args.number c.args.db.now (c.requires.ssn (sym c.has.ensures ∙ c.if-not-has.true))

pub returns-clause-sent : goal.returns-clause-sent
returns-clause-sent c =
    let frames = ap (λ (es : List SnpEntry). psnps_sent c.args.system c.args.number (chunks 90 es)) (c.as_slice.ensures.value ∙ c.in_ok-entries.ensures.ok) in
    on_ok_weaker c.send_psnps.result (λ is. sent_as _ _ c.args.outbox.now c.send_psnps.new.outbox frames is) c.send_psnps.ensures.sent

pub returns-clause-gained : goal.returns-clause-gained
returns-clause-gained c =
    let frames = ap (λ (es : List SnpEntry). psnps_sent c.args.system c.args.number (chunks 90 es)) (c.as_slice.ensures.value ∙ c.in_ok-entries.ensures.ok) in
    on_err_weaker c.send_psnps.result (λ g. gained_as _ _ c.args.outbox.now c.send_psnps.new.outbox frames g) c.send_psnps.ensures.gained
