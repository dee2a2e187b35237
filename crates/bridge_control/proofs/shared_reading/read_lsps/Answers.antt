use Rattle.std.proofs.Common.{◌≤◌, length, map, arith, sym, ap, ◌∙◌}
use Rattle.std.proofs.lemmas.List.{take_all}
use Rattle.std.specs.Global.{Vec}
use Rattle.std.specs.List.{filter_map}
use Rattle.std.specs.FinMap.{entries, len-entries}
use Rattle.lsdb.specs.Database.{keyed}
use Rattle.bridge_api.specs.Tables.{live_lsp, contents_among}
use Rattle.bridge_control.specs.Reading.{copied}
use Rattle.bridge_control.specs.declared.shared_reading.LiveLsp.{LiveLsp}
use Rattle.bridge_control.proofs.OwnTables.{read_more, read_past}
use Rattle.bridge_control.proofs.shared_reading.read_lsps.Goals as goal
use Rattle.bridge_control.proofs.shared_reading.read_lsps.Goals.{in-Some+in_ok-push_lsp, in_default}

pub loop-place-preserved : goal.loop-place-preserved
loop-place-preserved c =
    let es = entries c.args.db.now in
    elim c.match-at.branch [
      | in-Some+in_ok-push_lsp w ↦
          let put = ap (λ (v : Vec LiveLsp). map copied v.items) w.lsps-is ∙ w.in_ok-push_lsp.ensures in
          read_more live_lsp es c.loop-place.place (keyed w.in-Some.held.now) _ _ (sym w.in-Some.ensures.entry) c.loop-place.invariant put
      | in_default w ↦
          let put = ap (λ (v : Vec LiveLsp). map copied v.items) w.lsps-is in
          read_past live_lsp es c.loop-place.place _ _ (sym w.in_default.ensures.entry) c.loop-place.invariant put
    ]

pub returns-clause-held : goal.returns-clause-held
returns-clause-held c =
    let es = entries c.args.db.now in
    let len_is = c.len-place-end.ensures.len ∙ len-entries c.args.db.now in
    let all : length es ≤ c.loop-place.place = omega arith in
    c.loop-place.invariant ∙ ap (filter_map live_lsp) (take_all c.loop-place.place es all)

pub returns-clause-read : goal.returns-clause-read
returns-clause-read c = ap contents_among (returns-clause-held c)
