use Rattle.lsdb.proofs.Ids.{ids_total, ids_tied}
use Rattle.lsdb.proofs.LookupLemmas.{get-insert_same, get-insert_other, get-each, get-changed_same, get-changed_other}
use Rattle.lsdb.proofs.laws.changes_are_read_by_id.Goals as goal

pub returns : goal.returns
returns c = record {
  each = get-each;
  changed = get-changed_same;
  others_changed = get-changed_other;
  inserted = get-insert_same;
  others_inserted = get-insert_other;
  order = ids_total;
  tied = ids_tied;
}
