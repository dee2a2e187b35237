use Rattle.std.proofs.Common.{◌≡◌, length}
use Rattle.customer_learning.specs.Known.{without_local}
use Rattle.customer_learning.proofs.table.forget_at.Given as goal

abbrev pub invariant-loop-mac : goal.invariant-loop-mac
invariant-loop-mac l = record {
  others : without_local l.port l.addresses.entries ≡ without_local l.port l.initial.addresses.entries;
  cap : l.addresses.cap ≡ l.initial.addresses.cap;
}

abbrev pub decreases-loop-mac : goal.decreases-loop-mac
decreases-loop-mac l = length l.addresses.entries
