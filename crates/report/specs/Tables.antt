-- The tables of a bridge as a text.
use Rattle.std.specs.Prelude.{ℕ, List, [], ◌∷◌, ◌++◌, length, Bool, true, false, Option, Some, None, codes, decimal}
use Rattle.std.specs.List.{flat_map}
use Rattle.hex.specs.Hex.{encode_lower}
use Rattle.spb_types.specs.declared.tables.GroupRow.{GroupRow}
use Rattle.spb_types.specs.declared.tables.Tables.{Tables}
use Rattle.spb_types.specs.declared.tables.UnicastRow.{UnicastRow}
use Rattle.report.specs.Words.{line}
use Rattle.report.specs.Ports.{ports_text}

-- a unicast row: `u VID MAC PORT`
abbrev pub unicast_words : UnicastRow → List (List ℕ)
unicast_words r = decimal r.vid.value ∷ encode_lower r.mac.bytes ∷ decimal r.port ∷ []

unfoldable pub unicast_line : UnicastRow → List ℕ
unicast_line r = line (codes "u") (unicast_words r)

-- a group row: `g VID MAC PORTS`
abbrev pub group_words : GroupRow → List (List ℕ)
group_words r = decimal r.vid.value ∷ encode_lower r.mac.bytes ∷ ports_text r.ports ∷ []

unfoldable pub group_line : GroupRow → List ℕ
group_line r = line (codes "g") (group_words r)

-- what is said of quiet, where that was asked
abbrev pub quiet_words : Option Bool → List (List ℕ)
quiet_words None = []
quiet_words (Some true) = codes "quiet" ∷ []
quiet_words (Some false) = codes "busy" ∷ []

-- the first line of tables: a word, the bridge's name, what is said of quiet, and the numbers of unicast and group rows
unfoldable pub tables_head : List ℕ → List ℕ → Option Bool → Tables → List ℕ
tables_head word name quiet tables = line word
    (name ∷ quiet_words quiet ++ decimal (length tables.unicast) ∷ decimal (length tables.group) ∷ [])

-- the text of tables: the first line, a line for each unicast row, and a line for each group row, in order
unfoldable pub tables_text : List ℕ → List ℕ → Option Bool → Tables → List ℕ
tables_text word name quiet tables = tables_head word name quiet tables ++ flat_map unicast_line tables.unicast
    ++ flat_map group_line tables.group
