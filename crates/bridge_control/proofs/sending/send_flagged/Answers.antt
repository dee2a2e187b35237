use Rattle.std.proofs.Common.{◌++◌, [], refl, sym, ap}
use Rattle.std.proofs.lemmas.Result.{on_ok_weaker, on_err_weaker}
use Rattle.std.proofs.lemmas.List.{append-nil}
use Rattle.bridge_api.specs.Ticking.{lsps_at, requests_at}
use Rattle.bridge_control.proofs.Wire.{sent_none, sent_both, gained_further, on_err}
use Rattle.bridge_control.proofs.sending.send_flagged.Goals as goal

pub returns-in_err-send_lsps-clause-gained : goal.returns-in_err-send_lsps-clause-gained
returns-in_err-send_lsps-clause-gained c =
    on_err c.from_residual.result
    (gained_further [] (lsps_at c.args.system c.args.number c.args.db.now) (requests_at c.args.system c.args.number c.args.db.now) _ c.args.outbox.now c.args.outbox.now c.send_lsps.new.outbox refl (sent_none c.args.outbox.now) c.in_err-send_lsps.ensures.gained)

pub returns-clause-sent : goal.returns-clause-sent
returns-clause-sent c =
    on_ok_weaker c.send_requests.result
    (λ is. sent_both (lsps_at c.args.system c.args.number c.args.db.now) (requests_at c.args.system c.args.number c.args.db.now) c.args.outbox.now c.send_lsps.new.outbox c.send_requests.new.outbox c.in_ok-send_lsps.ensures.sent is) c.send_requests.ensures.sent

pub returns-clause-gained : goal.returns-clause-gained
returns-clause-gained c =
    on_err_weaker c.send_requests.result
    (gained_further (lsps_at c.args.system c.args.number c.args.db.now) (requests_at c.args.system c.args.number c.args.db.now) [] _ c.args.outbox.now c.send_lsps.new.outbox c.send_requests.new.outbox
    (ap (λ fs. lsps_at c.args.system c.args.number c.args.db.now ++ fs) (sym (append-nil (requests_at c.args.system c.args.number c.args.db.now))))
    c.in_ok-send_lsps.ensures.sent) c.send_requests.ensures.gained
