-- The order of the rows of both tables, and that the tables of a valid graph stand in it.
use Rattle.std.proofs.Common.{◌≡◌, ◌≢◌, ℕ, zero, suc, List, [], ◌∷◌, ◌++◌, map, drop, refl, sym, ◌∙◌, Less, Equal}
use Rattle.std.specs.List.{AllByRecursion}
use Rattle.std.proofs.lemmas.Cmp.{tied_itself}
use Rattle.spb_types.specs.declared.tables.UnicastRow.{UnicastRow}
use Rattle.spb_types.specs.declared.tables.GroupRow.{GroupRow}
use Rattle.spb_types.specs.declared.tables.TableRow.{TableRow}
use Rattle.spb_types.specs.declared.tables.TableRow.TheVariants.{Unicast, Group}
use Rattle.fdb_build.specs.Tables.{AscendsBy, row_cmp}
use Rattle.fdb_build.specs.Groups.{group_cmp}
use Rattle.fdb_build.proofs.TableLemmas.{rows_total, rows_are_table}
use Rattle.fdb_build.proofs.GroupLemmas.{groups_total, group_rows_are_table}
use Rattle.spb_world.specs.World.{World, Sound, system_at, world_graph, wired_tables}
use Rattle.spb_world.proofs.ValidLemmas.{valid, valid_for}
use Rattle.table_changes.specs.Changes.{all_rows}
use Rattle.table_changes.specs.Passing.{table_cmp}

pub not_before_itself : (r : TableRow) → table_cmp r r ≢ Less
not_before_itself (Unicast r) h = let e : Less ≡ Equal = sym h ∙ tied_itself rows_total r in absurd (cc)
not_before_itself (Group r) h = let e : Less ≡ Equal = sym h ∙ tied_itself groups_total r in absurd (cc)

pub before_both : (r s t : TableRow) → table_cmp r s ≡ Less → table_cmp s t ≡ Less → table_cmp r t ≡ Less
before_both (Unicast r) (Unicast s) (Unicast t) h k = rows_total.trans r s t h k
before_both (Unicast r) s (Group t) h k = refl
before_both (Unicast r) (Group s) (Unicast t) h k = cc
before_both (Group r) (Unicast s) t h k = cc
before_both (Group r) (Group s) (Unicast t) h k = cc
before_both (Group r) (Group s) (Group t) h k = groups_total.trans r s t h k

pub Ascends-drop : (n : ℕ) (rows : List TableRow) → AscendsBy table_cmp rows → AscendsBy table_cmp (drop n rows)
Ascends-drop zero rows h = h
Ascends-drop (suc n) [] h = tt
Ascends-drop (suc n) (r ∷ rows) h = Ascends-drop n rows h.1

All-groups : (P : TableRow → Type 0) (Q : GroupRow → Type 0) → ((s : GroupRow) → Q s → P (Group s)) → (gs : List GroupRow) → AllByRecursion Q gs → AllByRecursion P (map Group gs)
All-groups P Q f [] h = tt
All-groups P Q f (g ∷ gs) h = (f g h.0, All-groups P Q f gs h.1)

all_groups : (r : UnicastRow) (gs : List GroupRow) → AllByRecursion (λ s. table_cmp (Unicast r) s ≡ Less) (map Group gs)
all_groups r [] = tt
all_groups r (g ∷ gs) = (refl, all_groups r gs)

all_behind : (r : UnicastRow) (us : List UnicastRow) (gs : List GroupRow) → AllByRecursion (λ s. row_cmp r s ≡ Less) us → AllByRecursion (λ s. table_cmp (Unicast r) s ≡ Less) (map Unicast us ++ map Group gs)
all_behind r [] gs h = all_groups r gs
all_behind r (u ∷ us) gs h = (h.0, all_behind r us gs h.1)

groups_ascend : (gs : List GroupRow) → AscendsBy group_cmp gs → AscendsBy table_cmp (map Group gs)
groups_ascend [] h = tt
groups_ascend (g ∷ gs) h = (All-groups (λ s. table_cmp (Group g) s ≡ Less) (λ s. group_cmp g s ≡ Less) (λ s k. k) gs h.0, groups_ascend gs h.1)

both_ascend : (us : List UnicastRow) (gs : List GroupRow) → AscendsBy row_cmp us → AscendsBy group_cmp gs → AscendsBy table_cmp (map Unicast us ++ map Group gs)
both_ascend [] gs h k = groups_ascend gs k
both_ascend (u ∷ us) gs h k = (all_behind u us gs h.0, both_ascend us gs h.1 k)

-- the rows that the wiring gives a bridge ascend
pub wired_ascend : (w : World) (i : ℕ) → Sound w → AscendsBy table_cmp (all_rows (wired_tables w i))
unfolding wired_tables
wired_ascend w i sound =
    let me = system_at w.bridges i in
    both_ascend _ _ (rows_are_table (world_graph w) me w.vids (valid w sound) sound.plans).ascends (group_rows_are_table (world_graph w) me w.vids (valid_for w me sound) sound.plans).ascends
