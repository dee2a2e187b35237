use Rattle.std.proofs.Common.{◌≡◌, ℕ, Result, Ok, Err, IfOk, sym, subst}
use Rattle.spb_types.specs.declared.memory.NoMemory.{NoMemory}
use Rattle.spb_types.specs.declared.tables.Tables.{Tables}
use Rattle.fdb_build.specs.Tables.{AscendsBy}
use Rattle.spb_world.specs.World.{World, Sound, wired_tables}
use Rattle.table_changes.specs.Changes.{all_rows}
use Rattle.table_changes.specs.Passing.{table_cmp}
use Rattle.table_changes.proofs.Order.{wired_ascend}
use Rattle.table_changes.proofs.differing.wired.Goals as goal

answer_ascends : (w : World) (i : ℕ) → Sound w → (answer : Result Tables NoMemory) → IfOk answer (λ t. t ≡ wired_tables w i) → IfOk answer (λ t. AscendsBy table_cmp (all_rows t))
answer_ascends w i sound (Ok t) h = subst (λ (u : Tables). AscendsBy table_cmp (all_rows u)) (sym h) (wired_ascend w i sound)
answer_ascends w i sound (Err e) h = tt

pub returns-clause-ascend : goal.returns-clause-ascend
returns-clause-ascend c =
    let kept : c.prepare_tables.new.self ≡ c.args.world.now = c.in_ok-prepare_tables.ensures in
    answer_ascends c.prepare_tables.new.self c.args.place (subst Sound (sym kept) c.requires) c.wired_tables.result c.wired_tables.ensures
