use Rattle.std.proofs.Common.{◌≡◌, true, false, sym, ap, ◌∙◌}
use Rattle.lsdb.specs.Version.{is_absent}
use Rattle.lsdb.specs.Entry.{acked}
use Rattle.lsdb.specs.Database.{version_if_held}
use Rattle.flooding.proofs.Changed.{held_spared, held_unspared, absent_is}
use Rattle.flooding.proofs.hear.acknowledge_held.Goals as goal

pub returns-then-not-is_absent : goal.returns-then-not-is_absent
returns-then-not-is_absent c =
    let there : is_absent (version_if_held c.args.db.now c.args.place) ≡ false = ap is_absent (sym c.version_if_held.ensures) ∙ sym c.is_absent.ensures ∙ c.if-not-is_absent.true in
    c.acknowledge.ensures ∙ sym (held_unspared (acked c.args.port) c.args.db.now c.args.place there)

pub returns-else-not-is_absent : goal.returns-else-not-is_absent
returns-else-not-is_absent c =
    let gone : is_absent (version_if_held c.args.db.now c.args.place) ≡ true = ap is_absent (sym c.version_if_held.ensures) ∙ sym c.if-not-is_absent.ensures in
    sym (held_spared (acked c.args.port) c.args.db.now c.args.place (absent_is _ gone))
