use Rattle.std.proofs.Common.{◌∙◌, sym}
use Rattle.flooding.specs.Hearing.{snp_rule}
use Rattle.flooding.specs.Placing.{holding}
use Rattle.flooding.proofs.Claimed.{full_stands}
use Rattle.snp_sync.specs.Hearing.{claim_in}
use Rattle.snp_sync.proofs.hearing.count_entry.Goals as goal

pub returns-in-Err-Full-clause-heard : goal.returns-in-Err-Full-clause-heard
returns-in-Err-Full-clause-heard c =
    let e = claim_in c.args.entry.now in
    let end = rw c.in-Err-Full.field-0-is at c.in-Err-Full.ensures in
    end.1 ∙ sym (full_stands (snp_rule c.args.up c.args.port e.version) c.args.up e (holding c.args.db.now c.args.own.now) end.0)
