use Rattle.std.proofs.Common.{◌≡◌, flat_map}
use Rattle.std.specs.List.{range_with_len}
use Rattle.table_changes.specs.Changes.{changes_at}
use Rattle.table_changes.proofs.differing.changes.Given as goal

abbrev pub invariant-loop-place : goal.invariant-loop-place
invariant-loop-place l = record {
  before : l.before ≡ l.initial.before;
  after : l.after ≡ l.initial.after;
  list : l.list.items ≡ flat_map (changes_at l.initial.before l.initial.after) (range_with_len 0 l.place);
}
