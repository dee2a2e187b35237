-- How what is learned is kept: a table for each I-SID of which something was learned.
use Rattle.std.specs.Prelude.{◌≡◌, List, Bool, ◌==◌}
use Rattle.std.specs.List.{AllByRecursion}
use Rattle.spb_types.specs.declared.address.Mac.{Mac}
use Rattle.spb_types.specs.declared.service.Isid.{Isid}
use Rattle.spb_types.specs.declared.limits.TheConstants.{MOST_ADDRESSES}
use Rattle.customer_learning.specs.declared.place.Place.{Place}
use Rattle.customer_learning.specs.declared.table.Table.{Table}

abbrev pub keyed : Table → Isid × List (Mac × Place)
keyed t = (t.isid, t.addresses.entries)

abbrev pub is_of : Isid → Table → Bool
is_of isid t = t.isid.value == isid.value

-- each table takes as many addresses as are kept
abbrev pub AreSized : List Table → Type 0
AreSized tables = AllByRecursion (λ t. t.addresses.cap ≡ MOST_ADDRESSES) tables
