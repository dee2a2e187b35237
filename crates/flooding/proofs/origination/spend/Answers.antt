use Rattle.std.proofs.Common.{ap, ◌∙◌}
use Rattle.lsdb.specs.Entry.{with_flags, purged}
use Rattle.lsdb.specs.Database.{Lsps, changed}
use Rattle.lsdb.proofs.LookupLemmas.{changed-changed}
use Rattle.flooding.proofs.Originated.{spent_is}
use Rattle.flooding.proofs.origination.spend.Goals as goal

pub returns : goal.returns
returns c =
    c.set_flags.ensures ∙ ap (λ (db : Lsps). changed (with_flags c.args.up c.ssn_at-ssn.result) db c.args.id.now) c.purge.ensures
    ∙ changed-changed (purged c.args.seq c.args.up) (with_flags c.args.up c.ssn_at-ssn.result) c.args.db.now c.args.id.now
    ∙ spent_is c.args.up c.ssn_at-ssn.result c.args.seq c.args.db.now c.args.id.now c.requires c.ssn_at-ssn.ensures
