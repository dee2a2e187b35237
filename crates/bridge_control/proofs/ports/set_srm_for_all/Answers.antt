use Rattle.std.proofs.Common.{◌≤◌, ◌<◌, true, if◌then◌else◌, arith, sym, ap, ◌∙◌}
use Rattle.std.specs.FinMap.{len}
use Rattle.spb_types.specs.declared.address.LspId.{LspId}
use Rattle.lsdb.specs.Entry.{Entry, entry_of, with_srm, flagged, srm_set_at}
use Rattle.lsdb.specs.Database.{keyed}
use Rattle.snp_sync.proofs.Places.{changed_none, changed_more, changed_kept, changed_some, changed_all}
use Rattle.bridge_control.proofs.ports.set_srm_for_all.Goals as goal
use Rattle.bridge_control.proofs.ports.set_srm_for_all.Goals.{in-Some+then-not-is_absent, in-Some+else-not-is_absent, in_default}

pub loop-place-init : goal.loop-place-init
loop-place-init c = changed_none (λ id e. srm_set_at c.args.port e) c.args.db.now

pub loop-place-preserved : goal.loop-place-preserved
loop-place-preserved c =
    let f : LspId → Entry → Entry = λ id e. srm_set_at c.args.port e in
    let within : c.loop-place.place < len c.args.db.now = omega (arith, c.len-place-end.ensures.len) in
    elim c.match-at.branch [
      | in-Some+then-not-is_absent w ↦
          let e = entry_of w.in-Some.held.now in
          changed_more f (with_srm c.args.port true) _ _ _ c.loop-place.place (keyed w.in-Some.held.now) c.loop-place.invariant within w.in-Some.ensures.entry (ap (λ b. if b then e else flagged c.args.port e) (sym w.is_absent.ensures ∙ w.if-not-is_absent.true)) (w.db-is ∙ w.set_srm_at.ensures)
      | in-Some+else-not-is_absent w ↦
          let e = entry_of w.in-Some.held.now in
          changed_kept f _ _ _ c.loop-place.place (keyed w.in-Some.held.now) c.loop-place.invariant within w.in-Some.ensures.entry (ap (λ b. if b then e else flagged c.args.port e) (sym w.is_absent.ensures ∙ w.if-not-is_absent.false)) w.db-is
      | in_default w ↦ absurd (changed_some f _ _ c.loop-place.place c.loop-place.invariant within w.in_default.ensures.entry)
    ]

pub returns : goal.returns
returns c =
    let past : len c.args.db.now ≤ c.loop-place.place = omega (arith, c.len-place-end.ensures.len) in
    changed_all (λ id e. srm_set_at c.args.port e) _ _ c.loop-place.place c.loop-place.invariant past
