-- What `whatif` answers becomes of the tables of quiet networks.
use Rattle.std.proofs.Common.{◌≡◌, ℕ, ◌&&◌, ◌||◌, not, Bool, true, false, true≢false, refl, sym, ap, ◌∙◌, subst}
use Rattle.spb_types.specs.declared.tables.TableRow.{TableRow}
use Rattle.spb_types.specs.declared.tables.Tables.{Tables}
use Rattle.scenario.specs.declared.command.Command.{Command}
use Rattle.scenario.specs.declared.command.Command.TheVariants as command
use Rattle.bridge_api.specs.Graph.{own_tables}
use Rattle.fdb_build.specs.Groups.{group_rows}
use Rattle.fdb_build.specs.Tables.{unicast_rows}
use Rattle.spb_world.specs.World.{World, system_at, wired_tables}
use Rattle.spb_world.specs.Changing.{with_change}
use Rattle.table_changes.specs.Changes.{all_rows, is_row_in}
use Rattle.table_changes.specs.Laws.{removed_at, added_at}
use Rattle.table_changes.proofs.Comparing.{rows_go_and_come}
use Rattle.script_run.specs.Foretold.{HaveOneWiring, ChangesAreForetold, ChangesAreRefusedAlike}

-- one wiring gives one table
one_table : (w u : World) (i : ℕ) → HaveOneWiring w u → wired_tables w i ≡ wired_tables u i
unfolding wired_tables
one_table w u i one = λ k. record {
  unicast = unicast_rows (one.graph k) (system_at (one.bridges k) i) (one.vids k);
  group = group_rows (one.graph k) (system_at (one.bridges k) i) (one.vids k);
}

pub changes_are_foretold : ChangesAreForetold
changes_are_foretold s t c trusted trusted' quiet quiet' one i v w at at' r =
    let before : own_tables v ≡ wired_tables s.world i = ((trusted.converged quiet).wired i v at).tables in
    let after : own_tables w ≡ wired_tables (with_change s.world c) i =
    ((trusted'.converged quiet').wired i w at').tables ∙ sym (one_table (with_change s.world c) t.world i one) in
    ap (λ (ts : Tables). is_row_in r (all_rows ts)) after
    ∙ rows_go_and_come s.world c i r
    ∙ ap (λ (ts : Tables). (is_row_in r (all_rows ts) && not (is_row_in r (removed_at s.world c i))) || is_row_in r (added_at s.world c i)) (sym before)

pub changes_are_refused_alike : ChangesAreRefusedAlike
changes_are_refused_alike s (command.Down link) h = refl
changes_are_refused_alike s (command.Up link) h = refl
changes_are_refused_alike s (command.Metric link side m) h = refl
changes_are_refused_alike s c h = absurd (true≢false (sym h))
