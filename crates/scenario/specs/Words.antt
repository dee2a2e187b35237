use Rattle.std.specs.Prelude.{ℕ, ◌+◌, List, [], ◌∷◌, length, Bool, true, false, ◌||◌, ◌==◌, if◌then◌else◌, Option, Some, None, Result, Ok, Err}
use Rattle.std.specs.List.{before_first}

-- a space or a tab
unfoldable pub is_blank : ℕ → Bool
is_blank byte = (byte == 32) || (byte == 9)

-- a word of a line, and the column of its first byte, counted from 1
pub record Word : Type 0 where
  pub column : ℕ
  pub bytes : List ℕ

-- The words that begin among these bytes, the first of which stands at the column, by a test of blanks. A word begins
-- at a byte that isn't blank, unless the byte before it, which is inside a word, isn't blank either. It goes up to the
-- next blank.
abbrev pub words_in : (ℕ → Bool) → Bool → ℕ → List ℕ → List Word
words_in blank inside column [] = []
words_in blank inside column (byte ∷ bytes) =
    if blank byte then words_in blank false (column + 1) bytes
    else (if inside then words_in blank true (column + 1) bytes
    else record { column = column; bytes = before_first blank (byte ∷ bytes) } ∷ words_in blank true (column + 1) bytes)

-- what is left of a line: its words, and the column right behind its last byte
pub record Rest : Type 0 where
  pub words : List Word
  pub end : ℕ

-- what is left of a line where these bytes are left, the first of which stands at the column
unfoldable pub rest_from : ℕ → List ℕ → Rest
rest_from column bytes = record { words = words_in is_blank false column bytes; end = column + length bytes }

-- what was read, and what is left after it, or else the column of the first byte of the first word that doesn't fit;
-- where a word is missing that is the column right behind the line
abbrev pub Reading : Type 0 → Type 0
Reading A = Result (A × Rest) ℕ

abbrev pub meant : {A : Type 0} → Option A → ℕ → Rest → Reading A
meant (Some value) column rest = Ok (value, rest)
meant None column rest = Err column

abbrev pub first_of : {A : Type 0} → (List ℕ → Option A) → List Word → ℕ → Reading A
first_of meaning [] end = Err end
first_of meaning (word ∷ words) end = meant (meaning word.bytes) word.column (record { words = words; end = end })

-- the next word, by what a word means
unfoldable pub next : {A : Type 0} → (List ℕ → Option A) → Rest → Reading A
next meaning rest = first_of meaning rest.words rest.end

-- a word that was read, as one that may be missing
abbrev pub some_read : {A : Type 0} → Reading A → Reading (Option A)
some_read (Ok found) = Ok (Some found.0, found.1)
some_read (Err column) = Err column

-- the first of these words, if there is one
abbrev pub more_of : {A : Type 0} → (List ℕ → Option A) → List Word → ℕ → Reading (Option A)
more_of meaning [] end = Ok (None, record { words = []; end = end })
more_of meaning (word ∷ words) end =
    some_read (meant (meaning word.bytes) word.column (record { words = words; end = end }))

-- the next word, if there is one more
unfoldable pub next_more : {A : Type 0} → (List ℕ → Option A) → Rest → Reading (Option A)
next_more meaning rest = more_of meaning rest.words rest.end

abbrev pub ends_with : List Word → Result (Unit {0}) ℕ
ends_with [] = Ok tt
ends_with (word ∷ words) = Err word.column

-- the end of the line, where no word is left
unfoldable pub at_end : Rest → Result (Unit {0}) ℕ
at_end rest = ends_with rest.words
