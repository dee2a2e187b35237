-- The laws of changes.
use Rattle.std.specs.Prelude.{◌≡◌, ℕ, List, [], true, not, ◌&&◌, ◌||◌, None}
use Rattle.spb_types.specs.declared.tables.TableRow.{TableRow}
use Rattle.scenario.specs.declared.command.Command.{Command}
use Rattle.spb_world.specs.World.{World, wired_tables}
use Rattle.spb_world.specs.Changing.{change_refusal, is_change, with_change}
use Rattle.table_changes.specs.Changes.{all_rows, is_row_in, gone, changes_of}

-- a command that changes nothing of what is declared changes no row
abbrev pub SameWorldSameRows : Type 0
SameWorldSameRows = (w : World) (c : Command) → with_change w c ≡ w → changes_of w c ≡ []

-- such a change, which isn't refused
pub record ChangesNothing (w : World) (c : Command) : Type 0 where
  pub change : is_change c ≡ true
  pub accepted : change_refusal w c ≡ None
  pub same : with_change w c ≡ w

-- there is one
abbrev pub SomeChangeIsNone : Type 0
SomeChangeIsNone = (w : World) × (c : Command) × ChangesNothing w c

-- the rows of the bridge at place i that go
abbrev pub removed_at : World → Command → ℕ → List TableRow
removed_at w c i = gone (wired_tables w i) (wired_tables (with_change w c) i)

-- those that come
abbrev pub added_at : World → Command → ℕ → List TableRow
added_at w c i = gone (wired_tables (with_change w c) i) (wired_tables w i)

-- after a change a bridge has the rows that it had and that don't go, and those that come, and no others
abbrev pub RowsGoAndCome : Type 0
RowsGoAndCome = (w : World) (c : Command) (i : ℕ) (r : TableRow)
    → is_row_in r (all_rows (wired_tables (with_change w c) i))
    ≡ ((is_row_in r (all_rows (wired_tables w i)) && not (is_row_in r (removed_at w c i)))
    || is_row_in r (added_at w c i))
