use Rattle.std.proofs.Common.{sym, ◌∙◌}
use Rattle.std.proofs.lemmas.Result.{IfOk-weaker}
use Rattle.isis_pdu.specs.Spelling.{psnp_bytes}
use Rattle.snp_sync.specs.Sending.{psnp_for}
use Rattle.bridge_api.specs.Ticking.{psnp_frame}
use Rattle.bridge_control.proofs.made.psnp_frame.Goals as goal

pub returns : goal.returns
unfolding psnp_frame
returns c =
    let pdu = psnp_bytes (psnp_for c.args.system c.args.entries.now) in
    let bytes = c.in_ok-frame.ensures.bytes
    ∙ c.in_ok-head.ensures pdu (c.in_ok-frame.ensures.length ∙ sym c.psnp_length.ensures.length) in
    IfOk-weaker c.from_vec.result _ _ (λ frame is. is ∙ bytes) c.from_vec.ensures
