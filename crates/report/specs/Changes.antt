-- What a change would do to the tables of bridges, as a text.
use Rattle.std.specs.Prelude.{ℕ, List, [], ◌∷◌, ◌++◌, length, Bool, true, false, codes, decimal}
use Rattle.std.specs.List.{flat_map}
use Rattle.spb_types.specs.declared.tables.TableRow.{TableRow}
use Rattle.spb_types.specs.declared.tables.TableRow.TheVariants.{Unicast, Group}
use Rattle.report.specs.Words.{line}
use Rattle.report.specs.Tables.{unicast_words, group_words}

-- a row, as it stands in the answer that shows a table
abbrev pub row_words : TableRow → List (List ℕ)
row_words (Unicast r) = codes "u" ∷ unicast_words r
row_words (Group r) = codes "g" ∷ group_words r

-- a row that is there only afterwards, or only before
abbrev pub sign : Bool → List ℕ
sign true = codes "+"
sign false = codes "-"

-- a row that changes: `+ NAME ROW` or `- NAME ROW`
unfoldable pub change_line : List ℕ × Bool × TableRow → List ℕ
change_line c = line (sign c.1) (c.0 ∷ row_words c.2)

-- all of them: `whatif` and their number, and a line for each, in order
unfoldable pub whatif_text : List (List ℕ × Bool × TableRow) → List ℕ
whatif_text changes = line (codes "whatif") (decimal (length changes) ∷ []) ++ flat_map change_line changes
