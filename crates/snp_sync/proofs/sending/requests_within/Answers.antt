use Rattle.std.proofs.Common.{◌≡◌, [], length, rules, sym, ◌∙◌}
use Rattle.snp_sync.specs.SnpEntries.{snp_entries_where, has_ssn_at}
use Rattle.snp_sync.proofs.Silent.{nil_from, none_cleared}
use Rattle.snp_sync.proofs.sending.requests_within.Goals as goal

pub returns-then-is_empty-clause-ssn_cleared : goal.returns-then-is_empty-clause-ssn_cleared
returns-then-is_empty-clause-ssn_cleared c =
    let empty : length c.in_ok-entries.entries.items ≡ 0 = search rules in
    let none : snp_entries_where (has_ssn_at c.args.port) c.args.db.now ≡ [] = sym c.in_ok-entries.ensures ∙ nil_from c.in_ok-entries.entries.items empty in
    none_cleared c.args.port c.args.db.now none
