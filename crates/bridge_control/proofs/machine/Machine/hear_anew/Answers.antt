use Rattle.std.proofs.Common.{refl, ◌∙◌}
use Rattle.std.proofs.lemmas.Result.{on_ok_weaker}
use Rattle.isis_pdu.specs.Pdu.{hello_of, lsp_of, csnp_of, psnp_of}
use Rattle.bridge_api.specs.Parsing as parsing
use Rattle.bridge_control.specs.Carrying.{carrying}
use Rattle.bridge_control.specs.Machine.{view_of}
use Rattle.bridge_control.proofs.Owning.{after_same}
use Rattle.bridge_control.proofs.Anew.{heard_path, dropped_path}
use Rattle.bridge_control.proofs.Moving.{unmoved, moved_path, forwarded_hears, nothing_moved, nothing_gained, sent_moved, gained_moved, own_still}
use Rattle.bridge_control.proofs.Wire.{on_ok, on_err}
use Rattle.bridge_control.proofs.machine.Machine.hear_anew.Goals as goal

-- a hello

pub returns-in-Hello-clause-after : goal.returns-in-Hello-clause-after
returns-in-Hello-clause-after c =
    let v = view_of c.args.self.now in
    on_ok_weaker c.hear_new_hello.result (after_same _ _ c.hear_new_hello.new.self (heard_path v c.args.port c.args.frame.now (parsing.hello (hello_of c.in-Hello.hello) c.in-Hello.way) c.requires.carrier c.in-Hello.ensures.0)) c.hear_new_hello.ensures

pub returns-in-Hello-clause-sent : goal.returns-in-Hello-clause-sent
returns-in-Hello-clause-sent c =
    let v = view_of c.args.self.now in
    on_ok c.hear_new_hello.result (nothing_moved _ c.args.outbox.now (unmoved v c.args.port c.args.frame.now (parsing.hello (hello_of c.in-Hello.hello) c.in-Hello.way) c.in-Hello.ensures.0 refl))

pub returns-in-Hello-clause-gained : goal.returns-in-Hello-clause-gained
returns-in-Hello-clause-gained c = on_err c.hear_new_hello.result (nothing_gained _ c.args.outbox.now)

-- an LSP

pub returns-in-Lsp-clause-after : goal.returns-in-Lsp-clause-after
returns-in-Lsp-clause-after c =
    let v = view_of c.args.self.now in
    on_ok_weaker c.hear_lsp.result (after_same _ _ c.hear_lsp.new.self (heard_path v c.args.port c.args.frame.now (parsing.lsp (lsp_of c.in-Lsp.lsp)) c.requires.carrier c.in-Lsp.ensures)) c.hear_lsp.ensures

pub returns-in-Lsp-clause-sent : goal.returns-in-Lsp-clause-sent
returns-in-Lsp-clause-sent c =
    let v = view_of c.args.self.now in
    on_ok c.hear_lsp.result (nothing_moved _ c.args.outbox.now (unmoved v c.args.port c.args.frame.now (parsing.lsp (lsp_of c.in-Lsp.lsp)) c.in-Lsp.ensures refl))

pub returns-in-Lsp-clause-gained : goal.returns-in-Lsp-clause-gained
returns-in-Lsp-clause-gained c = on_err c.hear_lsp.result (nothing_gained _ c.args.outbox.now)

-- sequence numbers PDUs

pub returns-in-Csnp-clause-after : goal.returns-in-Csnp-clause-after
returns-in-Csnp-clause-after c =
    let v = view_of c.args.self.now in
    on_ok_weaker c.hear_csnp.result (after_same _ _ c.hear_csnp.new.self (heard_path v c.args.port c.args.frame.now (parsing.csnp (csnp_of c.in-Csnp.csnp)) c.requires.carrier c.in-Csnp.ensures)) c.hear_csnp.ensures

pub returns-in-Csnp-clause-sent : goal.returns-in-Csnp-clause-sent
returns-in-Csnp-clause-sent c =
    let v = view_of c.args.self.now in
    on_ok c.hear_csnp.result (nothing_moved _ c.args.outbox.now (unmoved v c.args.port c.args.frame.now (parsing.csnp (csnp_of c.in-Csnp.csnp)) c.in-Csnp.ensures refl))

pub returns-in-Csnp-clause-gained : goal.returns-in-Csnp-clause-gained
returns-in-Csnp-clause-gained c = on_err c.hear_csnp.result (nothing_gained _ c.args.outbox.now)

pub returns-in-Psnp-clause-after : goal.returns-in-Psnp-clause-after
returns-in-Psnp-clause-after c =
    let v = view_of c.args.self.now in
    on_ok_weaker c.hear_psnp.result (after_same _ _ c.hear_psnp.new.self (heard_path v c.args.port c.args.frame.now (parsing.psnp (psnp_of c.in-Psnp.psnp)) c.requires.carrier c.in-Psnp.ensures)) c.hear_psnp.ensures

pub returns-in-Psnp-clause-sent : goal.returns-in-Psnp-clause-sent
returns-in-Psnp-clause-sent c =
    let v = view_of c.args.self.now in
    on_ok c.hear_psnp.result (nothing_moved _ c.args.outbox.now (unmoved v c.args.port c.args.frame.now (parsing.psnp (psnp_of c.in-Psnp.psnp)) c.in-Psnp.ensures refl))

pub returns-in-Psnp-clause-gained : goal.returns-in-Psnp-clause-gained
returns-in-Psnp-clause-gained c = on_err c.hear_psnp.result (nothing_gained _ c.args.outbox.now)

-- a frame that every bridge drops

pub returns-in-Dropped-clause-after : goal.returns-in-Dropped-clause-after
returns-in-Dropped-clause-after c =
    after_same _ _ c.count_drop.new.self (dropped_path (view_of c.args.self.now) c.args.port c.args.frame.now c.in-Dropped.reason c.requires.carrier c.in-Dropped.ensures) c.count_drop.ensures.after

pub returns-in-Dropped-clause-kept : goal.returns-in-Dropped-clause-kept
returns-in-Dropped-clause-kept c = own_still _ _ c.args.kept.now c.count_drop.ensures.tables c.requires.tables

pub returns-in-Dropped-clause-sent : goal.returns-in-Dropped-clause-sent
returns-in-Dropped-clause-sent c =
    nothing_moved _ c.args.outbox.now (unmoved (view_of c.args.self.now) c.args.port c.args.frame.now _ c.in-Dropped.ensures refl)

-- a customer's frame

pub returns-in-Customer-clause-after : goal.returns-in-Customer-clause-after
returns-in-Customer-clause-after c =
    let v = view_of c.args.self.now in
    let f = c.in-Customer.backbone in
    on_ok_weaker c.relay.result (after_same _ _ c.relay.new.self (forwarded_hears f c.args.port v c.requires.carrier ∙ heard_path v c.args.port c.args.frame.now (carrying f) c.requires.carrier c.in-Customer.ensures)) c.relay.ensures.after

pub returns-in-Customer-clause-sent : goal.returns-in-Customer-clause-sent
returns-in-Customer-clause-sent c =
    let v = view_of c.args.self.now in
    sent_moved c.relay.result _ _ c.args.outbox.now c.relay.new.outbox (moved_path v c.args.port c.args.frame.now (carrying c.in-Customer.backbone) c.requires.carrier c.in-Customer.ensures) c.relay.ensures.sent

pub returns-in-Customer-clause-gained : goal.returns-in-Customer-clause-gained
returns-in-Customer-clause-gained c =
    let v = view_of c.args.self.now in
    gained_moved c.relay.result _ _ c.args.outbox.now c.relay.new.outbox (moved_path v c.args.port c.args.frame.now (carrying c.in-Customer.backbone) c.requires.carrier c.in-Customer.ensures) c.relay.ensures.gained
