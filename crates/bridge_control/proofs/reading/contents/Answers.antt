use Rattle.std.proofs.Common.{◌≤◌, length, arith, sym, ap, ◌∙◌}
use Rattle.std.proofs.lemmas.List.{take_all}
use Rattle.std.specs.Global.{Vec}
use Rattle.std.specs.List.{filter_map}
use Rattle.std.specs.FinMap.{entries, len-entries}
use Rattle.spb_types.specs.declared.address.SystemId.{SystemId}
use Rattle.spb_content.specs.declared.content.Content.{Content}
use Rattle.lsdb.specs.Database.{keyed}
use Rattle.lsdb.proofs.LookupLemmas.{get_place}
use Rattle.bridge_api.specs.Tables.{live_lsps}
use Rattle.bridge_api.proofs.GraphRead.{entries_read}
use Rattle.bridge_control.specs.Reading.{read_entry}
use Rattle.bridge_control.proofs.OwnTables.{read_more, read_past, more_read}
use Rattle.bridge_control.proofs.reading.contents.Goals as goal
use Rattle.bridge_control.proofs.reading.contents.Goals.{in-Some+in_ok-push_read, in_default}

pub push_read-requires-clause-held : goal.push_read-requires-clause-held
push_read-requires-clause-held c = get_place c.args.db.now c.loop-place.place (keyed c.in-Some.held.now) (sym c.in-Some.ensures.entry)

pub loop-place-preserved : goal.loop-place-preserved
loop-place-preserved c =
    let es = entries c.args.db.now in
    elim c.match-at.branch [
      | in-Some+in_ok-push_read w ↦
          let put = ap (λ (v : Vec (SystemId × Content)). v.items) w.list-is ∙ w.in_ok-push_read.ensures in
          (read_more (read_entry (live_lsps c.args.db.now)) es c.loop-place.place (keyed w.in-Some.held.now) _ _ (sym w.in-Some.ensures.entry) c.loop-place.invariant.0 put, more_read _ _ _ c.loop-place.place put c.loop-place.invariant.1)
      | in_default w ↦
          let put = ap (λ (v : Vec (SystemId × Content)). v.items) w.list-is in
          (read_past (read_entry (live_lsps c.args.db.now)) es c.loop-place.place _ _ (sym w.in_default.ensures.entry) c.loop-place.invariant.0 put, omega (arith, ap length put, c.loop-place.invariant.1))
    ]

pub returns-clause-read : goal.returns-clause-read
returns-clause-read c =
    let es = entries c.args.db.now in
    let len_is = c.len-place-end.ensures.len ∙ len-entries c.args.db.now in
    let all : length es ≤ c.loop-place.place = omega arith in
    c.loop-place.invariant.0 ∙ (ap (filter_map (read_entry (live_lsps c.args.db.now))) (take_all c.loop-place.place es all) ∙ sym (entries_read (live_lsps c.args.db.now) c.args.db.now))

pub returns-clause-few : goal.returns-clause-few
returns-clause-few c = omega (arith, c.loop-place.invariant.1, c.len-place-end.ensures.few, c.loop-place-test.false)
