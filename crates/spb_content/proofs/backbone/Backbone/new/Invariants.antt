use Rattle.std.proofs.Common.{◌≡◌, ◌≤◌, length, drop}
use Rattle.std.specs.BTreeMap.{get}
use Rattle.std.specs.Ordering.{nat_cmp}
use Rattle.spb_types.specs.Address.{system_number, HasSixBytes}
use Rattle.spb_types.specs.declared.address.SystemId.{SystemId}
use Rattle.spb_content.specs.Building.{place_from}
use Rattle.spb_content.proofs.backbone.Backbone.new.Given as goal

-- the map has the places of the bridges from here on
abbrev pub invariant-loop-left : goal.invariant-loop-left
invariant-loop-left l = record {
  within : l.left ≤ length l.list;
  places : (x : SystemId) → HasSixBytes x → get nat_cmp l.places (system_number x) ≡ place_from l.left (drop l.left l.list) x;
}

abbrev pub decreases-loop-left : goal.decreases-loop-left
decreases-loop-left l = l.left
