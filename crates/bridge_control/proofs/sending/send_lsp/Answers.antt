use Rattle.std.proofs.Common.{◌≡◌, ◌∷◌, [], ℕ, List, Bool, Option, sym, ap, subst, ◌∙◌}
use Rattle.std.specs.Prelude.{true, if◌then◌else◌}
use Rattle.std.specs.Option.{option_copied}
use Rattle.spb_types.specs.declared.address.LspId.{LspId}
use Rattle.std.proofs.lemmas.Result.{on_ok_weaker}
use Rattle.spb_types.specs.Ports.{has}
use Rattle.lsdb.specs.Entry.{Entry, entry_of}
use Rattle.lsdb.specs.Database.{keyed}
use Rattle.lsdb.proofs.LookupLemmas.{get_place}
use Rattle.flooding.specs.Sending.{lsp_in}
use Rattle.bridge_api.specs.Ticking.{lsp_frame}
use Rattle.bridge_api.specs.Step.{with_wire}
use Rattle.bridge_control.specs.Frames.{frames_held}
use Rattle.bridge_control.specs.Made.{IsMadeAt}
use Rattle.bridge_control.proofs.sending.send_lsp.Goals as goal

pub frame_of-requires-clause-written : goal.frame_of-requires-clause-written
frame_of-requires-clause-written c =
    let e = entry_of c.in-Some.held.now in
    (c.requires.sendable c.in-Some.held.now.id e (get_place c.args.db.now c.args.place (keyed c.in-Some.held.now) (sym c.in-Some.ensures.entry))).written

pub frame_of-requires-clause-id : goal.frame_of-requires-clause-id
frame_of-requires-clause-id c =
    let e = entry_of c.in-Some.held.now in
    (c.requires.sized c.in-Some.held.now.id e (get_place c.args.db.now c.args.place (keyed c.in-Some.held.now) (sym c.in-Some.ensures.entry))).named.system

pub frame_of-requires-clause-made : goal.frame_of-requires-clause-made
frame_of-requires-clause-made c =
    let held : LspId × Entry = keyed c.in-Some.held.now in
    subst (λ (o : Option (LspId × Entry)). IsMadeAt c.args.system o (option_copied c.args.made)) (sym c.in-Some.ensures.entry) c.requires.made

pub returns-clause-sent : goal.returns-clause-sent
returns-clause-sent c =
    let e = entry_of c.in-Some.held.now in
    let id = c.in-Some.held.now.id in
    let flagged : has e.srm c.args.number ≡ true = sym c.has.ensures ∙ c.if-not-has.false in
    on_ok_weaker c.send_frame.result
    (λ is. is ∙ ap (λ (fs : List (ℕ × List ℕ)). with_wire fs c.args.outbox.now)
    (ap (λ (bytes : List ℕ). (c.args.number, bytes) ∷ []) c.in_ok-frame.ensures
    ∙ sym (ap (λ (b : Bool). if b then (c.args.number, lsp_frame c.args.system (lsp_in id e)) ∷ [] else []) flagged)
    ∙ ap (frames_held c.args.system c.args.number) c.in-Some.ensures.entry)) c.send_frame.ensures.sent
