use Rattle.std.proofs.Common.{◌∙◌}
use Rattle.bridge_control.proofs.Wire.{frames_some, on_err}
use Rattle.bridge_control.proofs.sending.send_pdus.Goals as goal

pub returns-in_err-send_pdu-clause-gained : goal.returns-in_err-send_pdu-clause-gained
returns-in_err-send_pdu-clause-gained c =
    on_err c.from_residual.result (frames_some c.args.system c.args.number c.args.pdus.now c.send.pdu-index c.args.outbox.now c.send_pdu.new.outbox (c.in_err-send_pdu.ensures.kept ∙ c.send.invariant))
