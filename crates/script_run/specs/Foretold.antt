-- What `whatif` answers becomes of the tables, where a network is quiet before the change and after it. And `whatif` is
-- refused as the change is.
use Rattle.std.specs.Prelude.{◌≡◌, ℕ, ◌&&◌, ◌||◌, not, true, Some, slice_get}
use Rattle.spb_types.specs.declared.tables.TableRow.{TableRow}
use Rattle.scenario.specs.declared.command.Command.{Command}
use Rattle.scenario.specs.declared.extra.Extra.TheVariants.{WhatIf}
use Rattle.bridge_api.specs.View.{BridgeView}
use Rattle.bridge_api.specs.Graph.{own_tables}
use Rattle.spb_world.specs.World.{World, world_graph}
use Rattle.spb_world.specs.Changing.{is_change, with_change}
use Rattle.table_changes.specs.Changes.{all_rows, is_row_in}
use Rattle.table_changes.specs.Laws.{removed_at, added_at}
use Rattle.extra_answers.specs.Refusing.{extra_refusal}
use Rattle.network_model.specs.Quiet.{IsQuiet}
use Rattle.network_model.specs.Refusing.{refusal_of}
use Rattle.network_model.specs.State.{State}
use Rattle.script_run.specs.States.{IsTrusted}

-- two worlds have the same bridges and base VIDs, and one wiring: whatever stands in another order makes no other graph
pub record HaveOneWiring (w u : World) : Type 0 where
  pub vids : w.vids ≡ u.vids
  pub bridges : w.bridges ≡ u.bridges
  pub graph : world_graph w ≡ world_graph u

-- the bridge at place i was v before a change and is w after it: it has the rows that it had and that don't go, and
-- those that come, and no others
abbrev pub HasForetoldRows : World → Command → ℕ → BridgeView → BridgeView → Type 0
HasForetoldRows world c i v w = (r : TableRow) → is_row_in r (all_rows (own_tables w))
    ≡ ((is_row_in r (all_rows (own_tables v)) && not (is_row_in r (removed_at world c i)))
    || is_row_in r (added_at world c i))

-- so it is between a quiet state and every other one whose wiring is that after this change alone
abbrev pub ForetellsOf : State → Command → State → Type 0
ForetellsOf s c t = IsQuiet s → IsQuiet t → HaveOneWiring (with_change s.world c) t.world
    → (i : ℕ) (v w : BridgeView) → slice_get s.views i ≡ Some v → slice_get t.views i ≡ Some w
    → HasForetoldRows s.world c i v w

abbrev pub ChangesAreForetold : Type 0
ChangesAreForetold = (s t : State) (c : Command) → IsTrusted s → IsTrusted t → ForetellsOf s c t

-- what a change would do is asked of a network exactly where the change would be accepted, and is refused for its
-- reason
abbrev pub ChangesAreRefusedAlike : Type 0
ChangesAreRefusedAlike = (s : State) (c : Command) → is_change c ≡ true
    → extra_refusal s.world (WhatIf c) ≡ refusal_of s c
