-- The answers of one line.
use Rattle.std.specs.Prelude.{ℕ, List, [], ◌∷◌, ◌++◌, length, map, Option, Some, None, codes, decimal}
use Rattle.hex.specs.Hex.{encode_lower}
use Rattle.report.specs.Words.{line}

-- a way: its cost, its hops, which are one less than its names, and its names; or `none` where there is no name
abbrev pub way_words : ℕ → List (List ℕ) → List (List ℕ)
way_words cost [] = codes "none" ∷ []
way_words cost (name ∷ names) = decimal cost ∷ decimal (length names) ∷ name ∷ names

-- a path between two bridges: `path FROM TO VID` and the way
unfoldable pub path_text : List ℕ → List ℕ → ℕ → ℕ → List (List ℕ) → List ℕ
path_text from to vid cost names = line (codes "path") (from ∷ to ∷ decimal vid ∷ way_words cost names)

-- how many frames a bridge dropped: `drops NAME` and the counts
unfoldable pub drops_text : List ℕ → List ℕ → List ℕ
drops_text name counts = line (codes "drops") (name ∷ map decimal counts)

-- a customer frame that leaves a bridge: `out NAME PORT FRAME`
unfoldable pub out_text : List ℕ → ℕ → List ℕ → List ℕ
out_text name port frame = line (codes "out") (name ∷ decimal port ∷ encode_lower frame ∷ [])

-- the state of a network: `quiet`, or `busy` and the conditions that fail
abbrev pub state_words : List ℕ → List (List ℕ)
state_words [] = codes "quiet" ∷ []
state_words (q ∷ qs) = codes "busy" ∷ map (λ n. codes "q" ++ decimal n) (q ∷ qs)

unfoldable pub state_text : List ℕ → List ℕ
state_text failing = line (codes "state") (state_words failing)

-- what settling came to: quiet, or busy and why
abbrev pub settle_words : Option (List ℕ) → List (List ℕ)
settle_words None = codes "quiet" ∷ []
settle_words (Some why) = codes "busy" ∷ why ∷ []

-- settling, after so many rounds: `settle K quiet`, or `settle K busy WHY`
unfoldable pub settle_text : ℕ → Option (List ℕ) → List ℕ
settle_text rounds why = line (codes "settle") (decimal rounds ∷ settle_words why)

-- the column of a word that doesn't fit, where one is given
abbrev pub column_words : Option ℕ → List (List ℕ)
column_words None = []
column_words (Some column) = decimal column ∷ []

-- a refused line: `error LINE NUMBER NAME`, with the number and the name of the reason, and the column
unfoldable pub error_text : ℕ → ℕ → List ℕ → Option ℕ → List ℕ
error_text at number name column = line (codes "error") (decimal at ∷ decimal number ∷ name ∷ column_words column)

-- a count and its name
abbrev pub count_words : List ℕ → ℕ → List (List ℕ)
count_words name count = name ∷ decimal count ∷ []

-- what was counted of the answers to a script for so many bridges: `try N lines L shows S same M outs O`
unfoldable pub try_text : ℕ → ℕ → ℕ → ℕ → ℕ → List ℕ
try_text bridges lines shows same outs = line (codes "try")
    (decimal bridges ∷ count_words (codes "lines") lines ++ count_words (codes "shows") shows
    ++ count_words (codes "same") same ++ count_words (codes "outs") outs)
