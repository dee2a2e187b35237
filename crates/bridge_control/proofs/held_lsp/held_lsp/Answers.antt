use Rattle.std.proofs.Common.{sym}
use Rattle.lsdb.specs.Entry.{entry_of}
use Rattle.lsdb.specs.Database.{keyed}
use Rattle.lsdb.proofs.LookupLemmas.{get_place}
use Rattle.bridge_control.proofs.held_lsp.held_lsp.Goals as goal

pub same_lsp-requires-clause-sendable : goal.same_lsp-requires-clause-sendable
same_lsp-requires-clause-sendable c =
    let held = c.in_ok-held.held.now in
    c.requires held.id (entry_of held) (get_place c.args.db.now c.args.place (keyed held) (sym c.in_ok-held.ensures.entry))
