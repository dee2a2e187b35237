-- What one change would do to the tables that the wiring gives the bridges.
use Rattle.std.specs.Prelude.{ℕ, List, ◌++◌, length, map, filter, Bool, true, false, not, ◌&&◌, ◌==◌, flat_map}
use Rattle.std.specs.List.{list_any, range_with_len}
use Rattle.std.specs.Str.{bytes_eq}
use Rattle.spb_types.specs.declared.tables.UnicastRow.{UnicastRow}
use Rattle.spb_types.specs.declared.tables.GroupRow.{GroupRow}
use Rattle.spb_types.specs.declared.tables.TableRow.{TableRow}
use Rattle.spb_types.specs.declared.tables.TableRow.TheVariants.{Unicast, Group}
use Rattle.spb_types.specs.declared.tables.Tables.{Tables}
use Rattle.scenario.specs.declared.command.Command.{Command}
use Rattle.spb_world.specs.World.{World, wired_tables}
use Rattle.spb_world.specs.Changing.{with_change}
use Rattle.table_changes.specs.declared.differing.Change.{Change}

-- the rows of both tables of a bridge, unicast rows first
abbrev pub all_rows : Tables → List TableRow
all_rows t = map Unicast t.unicast ++ map Group t.group

-- two unicast rows have the same VID, address and port
abbrev pub same_unicast : UnicastRow → UnicastRow → Bool
same_unicast r s = (r.vid.value == s.vid.value) && (bytes_eq r.mac.bytes s.mac.bytes && (r.port == s.port))

-- two group rows have the same VID, address and ports
abbrev pub same_group : GroupRow → GroupRow → Bool
same_group r s = (r.vid.value == s.vid.value) && (bytes_eq r.mac.bytes s.mac.bytes && (r.ports.bits == s.ports.bits))

-- two rows are the same, which the derived == tells
abbrev pub same_row : TableRow → TableRow → Bool
same_row (Unicast r) (Unicast s) = same_unicast r s
same_row (Unicast r) (Group s) = false
same_row (Group r) (Unicast s) = false
same_row (Group r) (Group s) = same_group r s

-- a row is one of these
abbrev pub is_row_in : TableRow → List TableRow → Bool
is_row_in r rows = list_any (same_row r) rows

-- the rows of the old tables that the new ones lack
abbrev pub gone : Tables → Tables → List TableRow
gone old new = filter (λ r. not (is_row_in r (all_rows new))) (all_rows old)

-- a row comes to the tables of the bridge at place i, or goes from them
abbrev pub change_at : ℕ → Bool → TableRow → Change
change_at i added r = record { bridge = i; added = added; row = r }

-- what changes in the tables of the bridge at place i from one world to another: the rows that go, then those that
-- come
abbrev pub changes_at : World → World → ℕ → List Change
changes_at w u i = map (change_at i false) (gone (wired_tables w i) (wired_tables u i))
    ++ map (change_at i true) (gone (wired_tables u i) (wired_tables w i))

-- what a command would change in the tables of all bridges, in order of declaration
unfoldable pub changes_of : World → Command → List Change
changes_of w c = flat_map (changes_at w (with_change w c)) (range_with_len 0 (length w.bridges))
