use Rattle.std.proofs.Common.{[], ◌+◌, ℕ, List, drop, get_or, sym, ◌∙◌, subst}
use Rattle.std.specs.FinMap.{entries}
use Rattle.bridge_control.proofs.Wire.{sent_as, sent_none, on_err}
use Rattle.bridge_control.proofs.Copies.{made_at}
use Rattle.bridge_control.proofs.Sends.{no_lsps}
use Rattle.bridge_control.proofs.Standing.{Sends, sends_none, sends_next, sends_all, sends_some, next_place, no_place}
use Rattle.bridge_control.proofs.sending.send_lsps.Goals as goal

pub returns-then-not-has-clause-sent : goal.returns-then-not-has-clause-sent
returns-then-not-has-clause-sent c =
    sent_as [] _ c.args.outbox.now c.args.outbox.now (no_lsps c.args.system c.args.number c.args.db.now (c.requires.srm (sym c.has.ensures ∙ c.if-not-has.true))) (sent_none c.args.outbox.now)

pub send_lsp-requires-clause-made : goal.send_lsp-requires-clause-made
send_lsp-requires-clause-made c =
    made_at c.args.system (entries c.args.db.now) c.args.flags.places.now c.args.flags.frames.now c.send.k 0 c.get-made.result c.requires.frames c.send-test.true c.get-made.ensures.lookup.0 c.get-made.ensures.lookup.1

pub returns-in_err-send_lsp-clause-gained : goal.returns-in_err-send_lsp-clause-gained
returns-in_err-send_lsp-clause-gained c =
    on_err c.from_residual.result
    (sends_some c.args.system c.args.number (drop c.send.k c.args.flags.places.now) c.args.db.now c.args.outbox.now c.send.outbox c.send_lsp.new.outbox c.send.invariant c.in_err-send_lsp.ensures.kept)

pub send-init : goal.send-init
send-init c = sends_none c.args.system c.args.number c.args.flags.places.now (entries c.args.db.now) c.args.outbox.now c.requires.places

pub send-preserved : goal.send-preserved
send-preserved c =
    let ps : List ℕ = c.args.flags.places.now in
    let q : ℕ = get_or ps c.send.k 0 in
    let left : List ℕ = drop (c.send.k + 1) ps in
    sends_next c.args.system c.args.number q left (entries c.args.db.now) c.args.outbox.now c.send.outbox c.send_lsp.new.outbox
    (subst (λ (qs : List ℕ). Sends c.args.system c.args.number qs (entries c.args.db.now) c.args.outbox.now c.send.outbox) (next_place ps c.send.k 0 c.send-test.true) c.send.invariant)
    c.in_ok-send_lsp.ensures.sent

pub returns-clause-sent : goal.returns-clause-sent
returns-clause-sent c =
    sends_all c.args.system c.args.number c.args.db.now c.args.outbox.now c.send.outbox
    (subst (λ (qs : List ℕ). Sends c.args.system c.args.number qs (entries c.args.db.now) c.args.outbox.now c.send.outbox) (no_place c.args.flags.places.now c.send.k c.send-test.false) c.send.invariant)
