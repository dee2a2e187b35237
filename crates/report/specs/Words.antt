-- How a line is written: its words, its numbers and its addresses.
use Rattle.std.specs.Prelude.{ℕ, List, ◌++◌, codes}
use Rattle.std.specs.List.{flat_map}

-- a word with a space before it
abbrev pub spaced : List ℕ → List ℕ
spaced word = codes " " ++ word

-- a line: its first word, each further word with a single space before it, and LF. A number is written `decimal`, with
-- no leading zero, and bytes of an address, of an id or of a frame `encode_lower`, two lower-case digits for each
abbrev pub line : List ℕ → List (List ℕ) → List ℕ
line first words = first ++ flat_map spaced words ++ codes "\n"
