use Rattle.std.proofs.Common.{sym}
use Rattle.lsdb.specs.Entry.{entry_of}
use Rattle.lsdb.specs.Database.{keyed}
use Rattle.lsdb.proofs.LookupLemmas.{get_place}
use Rattle.bridge_control.proofs.made.frame_at.Goals as goal

pub lsp_frame-requires-clause-written : goal.lsp_frame-requires-clause-written
lsp_frame-requires-clause-written c =
    let e = entry_of c.in-Some.held.now in
    (c.requires.sendable c.in-Some.held.now.id e (get_place c.args.db.now c.args.place (keyed c.in-Some.held.now) (sym c.in-Some.ensures.entry))).written

pub lsp_frame-requires-clause-id : goal.lsp_frame-requires-clause-id
lsp_frame-requires-clause-id c =
    let e = entry_of c.in-Some.held.now in
    (c.requires.sized c.in-Some.held.now.id e (get_place c.args.db.now c.args.place (keyed c.in-Some.held.now) (sym c.in-Some.ensures.entry))).named.system
