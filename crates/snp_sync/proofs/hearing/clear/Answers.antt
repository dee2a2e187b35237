use Rattle.std.proofs.Common.{◌≡◌, true, false, sym, ap, ◌∙◌}
use Rattle.lsdb.specs.Version.{is_absent}
use Rattle.lsdb.specs.Entry.{cleared}
use Rattle.lsdb.specs.Database.{version_if_held, changed_if_held}
use Rattle.flooding.proofs.Changed.{held_spared, held_unspared, absent_is}
use Rattle.snp_sync.proofs.hearing.clear.Goals as goal

pub returns-then-is_absent : goal.returns-then-is_absent
returns-then-is_absent c =
    let gone : is_absent (version_if_held c.args.db.now c.args.place) ≡ true = ap is_absent (sym c.version_if_held.ensures) ∙ sym c.is_absent.ensures ∙ c.if-is_absent.true in
    sym (held_spared (cleared c.args.port) c.args.db.now c.args.place (absent_is _ gone))

pub returns-in-Some : goal.returns-in-Some
returns-in-Some c =
    let there : is_absent (version_if_held c.args.db.now c.args.place) ≡ false = ap is_absent (sym c.version_if_held.ensures) ∙ sym c.is_absent.ensures ∙ c.if-is_absent.false in
    c.set_srm_at.ensures ∙ sym (ap (changed_if_held (cleared c.args.port) c.args.db.now) c.in-Some.is) ∙ sym (held_unspared (cleared c.args.port) c.args.db.now c.args.place there)
