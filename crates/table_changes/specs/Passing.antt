-- A pass over the rows of two tables in their order.
use Rattle.std.specs.Prelude.{List, [], ◌∷◌, Bool, false, if◌then◌else◌}
use Rattle.std.specs.declared.cmp.Ordering.{Ordering}
use Rattle.std.specs.declared.cmp.Ordering.TheVariants.{Less, Greater}
use Rattle.std.specs.Ordering.{nat_cmp, is_lt, ordering_then}
use Rattle.spb_types.specs.declared.address.Mac.{Mac}
use Rattle.spb_types.specs.declared.service.Vid.{Vid}
use Rattle.spb_types.specs.declared.tables.TableRow.{TableRow}
use Rattle.spb_types.specs.declared.tables.TableRow.TheVariants.{Unicast, Group}
use Rattle.fdb_build.specs.Tables.{mac_cmp}
use Rattle.table_changes.specs.Changes.{same_row}

-- by VID, then by address
abbrev pub key_cmp : Vid → Mac → Vid → Mac → Ordering
key_cmp v a w b = ordering_then (nat_cmp v.value w.value) (mac_cmp a b)

-- unicast rows before group rows, and then by VID and address
abbrev pub table_cmp : TableRow → TableRow → Ordering
table_cmp (Unicast r) (Unicast s) = key_cmp r.vid r.mac s.vid s.mac
table_cmp (Unicast r) (Group s) = Less
table_cmp (Group r) (Unicast s) = Greater
table_cmp (Group r) (Group s) = key_cmp r.vid r.mac s.vid s.mac

-- without the rows at the start that stand before this one
abbrev pub drop_before : TableRow → List TableRow → List TableRow
drop_before r [] = []
drop_before r (s ∷ rows) = if is_lt (table_cmp s r) then drop_before r rows else s ∷ rows

-- the first row is this one
abbrev pub begins_with : TableRow → List TableRow → Bool
begins_with r [] = false
begins_with r (s ∷ rows) = same_row r s
