-- What is left of a table and what comes make the table after a change; where nothing changes no row does.
use Rattle.std.proofs.Common.{◌≡◌, ℕ, Bool, true, false, not, List, [], ◌∷◌, ◌++◌, map, filter, flat_map, cond, refl, sym, ap, ap₂, ◌∙◌}
use Rattle.std.specs.Prelude.{◌&&◌, ◌||◌, length, codes}
use Rattle.std.specs.List.{AllByRecursion, range_with_len}
use Rattle.std.proofs.lemmas.Map.Views.{any-filter_same}
use Rattle.spb_types.specs.declared.tables.TableRow.{TableRow}
use Rattle.spb_types.specs.declared.tables.Tables.{Tables}
use Rattle.spb_types.specs.declared.link.Side.TheVariants.{A}
use Rattle.scenario.specs.declared.command.Command.TheVariants as command
use Rattle.spb_world.specs.World.{World, wired_tables}
use Rattle.spb_world.specs.Changing.{with_change}
use Rattle.spb_world.specs.Declaring.{link_of, with_end_metric}
use Rattle.spb_world.specs.Naming.{metric_refusal}
use Rattle.spb_world.specs.Reason.{reason_unless}
use Rattle.table_changes.specs.Changes.{all_rows, same_row, is_row_in, gone, changes_at, changes_of, change_at}
use Rattle.table_changes.specs.Laws.{SameWorldSameRows, SomeChangeIsNone, RowsGoAndCome}
use Rattle.table_changes.proofs.Same.{same_is, same_self}

-- a row is gone where it is among the old rows and not among the new ones
is_gone : (r : TableRow) (old new : Tables) → is_row_in r (gone old new) ≡ (not (is_row_in r (all_rows new)) && is_row_in r (all_rows old))
is_gone r old new =
    any-filter_same (same_row r) (λ s. not (is_row_in s (all_rows new))) (not (is_row_in r (all_rows new))) (λ s h. ap (λ t. not (is_row_in t (all_rows new))) (sym (same_is r s h))) (all_rows old)

left_and_come : (o n : Bool) → n ≡ (o && not (not n && o)) || (not o && n)
left_and_come true true = refl
left_and_come true false = refl
left_and_come false true = refl
left_and_come false false = refl

pub rows_go_and_come : RowsGoAndCome
rows_go_and_come w c i r =
    let old = wired_tables w i in
    let new = wired_tables (with_change w c) i in
    let o = is_row_in r (all_rows old) in
    left_and_come o (is_row_in r (all_rows new)) ∙ sym (ap₂ (λ g a. (o && not g) || a) (is_gone r old new) (is_gone r new old))

in_longer : (r s : TableRow) (rows : List TableRow) → is_row_in r rows ≡ true → is_row_in r (s ∷ rows) ≡ true
in_longer r s rows h = by (same_row r s)
  where
    by : (b : Bool) → (b || is_row_in r rows) ≡ true
    by true = refl
    by false = h

-- no row is gone from rows that stand among others
none_gone : (rows others : List TableRow) → AllByRecursion (λ r. is_row_in r others ≡ true) rows → filter (λ r. not (is_row_in r others)) rows ≡ []
none_gone [] others h = refl
none_gone (r ∷ rows) others h = ap (λ b. cond (not b) (r ∷ filter (λ s. not (is_row_in s others)) rows) (filter (λ s. not (is_row_in s others)) rows)) h.0 ∙ none_gone rows others h.1

all_longer : (s : TableRow) (rows some : List TableRow) → AllByRecursion (λ r. is_row_in r rows ≡ true) some → AllByRecursion (λ r. is_row_in r (s ∷ rows) ≡ true) some
all_longer s rows [] h = tt
all_longer s rows (r ∷ some) h = (in_longer r s rows h.0, all_longer s rows some h.1)

all_in : (rows : List TableRow) → AllByRecursion (λ r. is_row_in r rows ≡ true) rows
all_in [] = tt
all_in (r ∷ rows) = (ap (λ b. b || is_row_in r rows) (same_self r), all_longer r rows rows (all_in rows))

none_gone_itself : (t : Tables) → gone t t ≡ []
none_gone_itself t = none_gone (all_rows t) (all_rows t) (all_in (all_rows t))

no_changes : (w : World) (places : List ℕ) → flat_map (changes_at w w) places ≡ []
no_changes w [] = refl
no_changes w (i ∷ places) =
    ap (λ g. (map (change_at i false) g ++ map (change_at i true) g) ++ flat_map (changes_at w w) places) (none_gone_itself (wired_tables w i)) ∙ no_changes w places

pub same_world_same_rows : SameWorldSameRows
unfolding changes_of
same_world_same_rows w c same =
    ap (λ u. flat_map (changes_at w u) (range_with_len 0 (length w.bridges))) same ∙ no_changes w (range_with_len 0 (length w.bridges))

-- nothing is declared but a link, whose ends have the metric 1
some_world : World
some_world = record {
  vids = [];
  bridges = [];
  links = (codes "l", link_of 0 1 1 1 1) ∷ [];
  services = [];
  attached = [];
}

pub some_change_is_none : SomeChangeIsNone
unfolding some_world with_change metric_refusal reason_unless with_end_metric
some_change_is_none = (some_world, command.Metric (codes "l") A 1, record { change = refl; accepted = refl; same = refl })
