use Rattle.std.proofs.Common.{rules, ◌≡◌, length, min, ap, ◌∙◌}
use Rattle.std.specs.Slice.Iter.{chunks_rest}
use Rattle.bridge_control.proofs.Wire.{on_err}
use Rattle.bridge_control.proofs.Sends.{requested_none, requested_more, requested_some, requested_all}
use Rattle.bridge_control.proofs.sending.send_psnps.Goals as goal

pub send-init : goal.send-init
send-init c = (search rules, tt, search rules, requested_none _ _ _ _ _ (search rules))

pub send-preserved : goal.send-preserved
send-preserved c =
    let steps = c.in-Some.ensures.steps in
    let rest = chunks_rest c.send.chunk-iterator in
    let size : length c.in-Some.chunk.now ≡ min 90 (length rest) = steps.1.1 ∙ ap (λ n. min n (length rest)) c.send.invariant.2 in
    (search rules, tt, search rules, requested_more _ _ _ rest c.in-Some.chunk.now _ _ _ _ c.send.invariant.3 steps.1.0 size steps.1.2 c.in_ok-send_psnp.ensures.sent)

pub returns-in_err-send_psnp-clause-gained : goal.returns-in_err-send_psnp-clause-gained
returns-in_err-send_psnp-clause-gained c =
    on_err c.from_residual.result (requested_some _ _ _ _ _ _ _ c.send.invariant.3 c.in_err-send_psnp.ensures.kept)

pub returns-clause-sent : goal.returns-clause-sent
returns-clause-sent c = requested_all _ _ _ _ _ _ c.send.invariant.3 c.in-None.ensures.steps.1.0
