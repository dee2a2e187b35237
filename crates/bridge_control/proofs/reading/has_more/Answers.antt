use Rattle.std.proofs.Common.{◌≡◌, ◌≤◌, length, arith, sym, ap, subst}
use Rattle.std.specs.List.{filter_map}
use Rattle.std.specs.FinMap.{entries, len-entries}
use Rattle.std.proofs.lemmas.List.{take_all}
use Rattle.lsdb.specs.Database.{keyed}
use Rattle.bridge_api.specs.Tables.{live_lsp}
use Rattle.bridge_control.specs.Reading.{AreFirst}
use Rattle.bridge_control.proofs.Together.{first_read, none_read, first_more}
use Rattle.bridge_control.proofs.reading.has_more.Goals.{else-held-ne0-via-then-held-ne0+else-is_read, else-held-ne0-via-else-held-ne0}
use Rattle.bridge_control.proofs.reading.has_more.Goals as goal

pub loop-place-preserved : goal.loop-place-preserved
loop-place-preserved c =
    let held = keyed c.in-Some.held.now in
    let more = first_more (entries c.args.db.now) c.loop-place.place held (sym c.in-Some.ensures.entry) in
    elim c.else-held-ne0.branch [
      | else-held-ne0-via-then-held-ne0+else-is_read w ↦ more (none_read held (w.is_read.ensures.other w.if-is_read.false)) c.loop-place.invariant
      | else-held-ne0-via-else-held-ne0 w ↦ more (first_read held w.if-held-ne0.false) c.loop-place.invariant
    ]

pub returns : goal.returns
returns c = λ e.
    let es = entries c.args.db.now in
    let all : length es ≤ c.loop-place.place = omega (arith, c.loop-place-test.false, c.len-place-end.ensures.len, len-entries c.args.db.now) in
    subst AreFirst (ap (filter_map live_lsp) (take_all c.loop-place.place es all)) c.loop-place.invariant
