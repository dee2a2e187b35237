-- The lines of extras, which are no commands: `whatif`, `proof` and `check`, questions that change nothing; and
-- `settle`.
use Rattle.std.specs.Prelude.{◌≡◌, ℕ, zero, suc, ◌+◌, ◌-◌, ◌≤◌, ◌<◌, List, [], ◌∷◌, ◌++◌, length, nat_lt, Bool, true, false, IsTrue, if◌then◌else◌, Option, Some, None, Result, Ok, Err, ⊤, ◌||◌, ◌==◌}
use Rattle.std.specs.Option.{is_some}
use Rattle.spb_types.specs.declared.entry_word.EntryWord.{EntryWord}
use Rattle.spb_types.specs.declared.limits.TheConstants.{MOST_BRIDGES}
use Rattle.scenario.specs.declared.command.Command.{Command}
use Rattle.scenario.specs.declared.command.Command.TheVariants as command
use Rattle.scenario.specs.declared.error.LineError.{LineError}
use Rattle.scenario.specs.declared.error.LineError.TheVariants.{Words, NoMemory}
use Rattle.scenario.specs.declared.extra.Extra.{Extra}
use Rattle.scenario.specs.declared.extra.Extra.TheVariants as extra
use Rattle.scenario.specs.declared.extra.ExtraKeyword.{ExtraKeyword}
use Rattle.scenario.specs.declared.extra.ExtraKeyword.TheVariants.{WhatIf, Proof, Check, Settle}
use Rattle.scenario.specs.declared.extra.Change.{Change}
use Rattle.scenario.specs.declared.extra.Change.TheVariants.{Down, Up, Metric}
use Rattle.scenario.specs.declared.line.TheConstants.{LINE_LIMIT}
use Rattle.scenario.specs.Words.{is_blank, Word, words_in, Rest, rest_from, at_end}
use Rattle.scenario.specs.Keywords.{extra_text, extra_keyword}
use Rattle.scenario.specs.Answers.{Refuses}
use Rattle.scenario.specs.Grammar.{a_name, a_number, a_side, an_extra, a_change, an_entry, Form, gives, may_take, one_name, read, some, ◌giving◌, ◌>>=◌}
use Rattle.scenario.specs.Spelling.{SpellsForm, AreWords, bytes_of}

-- ---- The grammar

-- up to n entries more, and what all of them give
unfoldable pub more_entries : {A : Type 0} → ℕ → (List EntryWord → A) → List EntryWord → Form A
more_entries zero given entries = gives (given entries)
more_entries (suc n) given entries =
    may_take (given entries) an_entry (λ entry. more_entries n given (entries ++ (entry ∷ [])))

-- at least one entry, and at most one for each bridge
unfoldable pub all_entries : {A : Type 0} → (List EntryWord → A) → Form A
all_entries given = do
  first ← an_entry
  more_entries (MOST_BRIDGES - 1) given (first ∷ [])

-- the words behind a change, as those of its command
unfoldable pub change_form : Change → Form Extra
change_form Down = one_name (λ link. extra.WhatIf (command.Down link))
change_form Up = one_name (λ link. extra.WhatIf (command.Up link))
change_form Metric = do
  link ← a_name
  side ← a_side
  metric ← a_number
  gives (extra.WhatIf (command.Metric link side metric))

-- the form of the line that the keyword of each extra begins
unfoldable pub extra_form : ExtraKeyword → Form Extra
extra_form WhatIf = do
  change ← a_change
  change_form change
extra_form Proof = do
  from ← a_name
  to ← a_name
  vid ← a_number
  gives (extra.Proof from to vid)
extra_form Check = do
  from ← a_name
  to ← a_name
  vid ← a_number
  all_entries (extra.Check from to vid)
extra_form Settle = gives extra.Settle

-- the form of a whole line: a keyword, and what its form takes
abbrev pub extra_line : Form Extra
extra_line = do
  keyword ← an_extra
  extra_form keyword

-- whether the first of these words is the keyword of an extra
abbrev pub begins_extra : List Word → Bool
begins_extra [] = false
begins_extra (word ∷ words) = is_some (extra_keyword word.bytes)

-- whether a line that begins with a byte may begin so: with a blank, or with the first letter of such a keyword
abbrev pub may_begin_extra : ℕ → Bool
may_begin_extra b = (((is_blank b || (b == 119)) || (b == 112)) || (b == 99)) || (b == 115)

-- The extra that a line gives, or None where its first word is no keyword of an extra, however long it is, or else the
-- column, counted from 1, of the first byte of the first word that doesn't fit, or where words are missing, the column
-- right behind the line.
unfoldable pub extra_of : List ℕ → Result (Option Extra) ℕ
extra_of line =
    if begins_extra (rest_from 1 line).words
    then (if nat_lt LINE_LIMIT (length line) then Err (LINE_LIMIT + 1) else some (read extra_line (rest_from 1 line)))
    else Ok None

-- whether a command changes a link, as `whatif` asks of it
abbrev pub is_change : Command → Bool
is_change (command.Down link) = true
is_change (command.Up link) = true
is_change (command.Metric link side metric) = true
is_change c = false

-- a `whatif` has a change, and a `check` at least one entry and at most one for each bridge
abbrev pub IsSoundExtra : Extra → Type 0
IsSoundExtra (extra.WhatIf command) = IsTrue (is_change command)
IsSoundExtra (extra.Proof from to vid) = ⊤
IsSoundExtra (extra.Check from to vid entries) = (1 ≤ length entries) × (length entries ≤ MOST_BRIDGES)
IsSoundExtra extra.Settle = ⊤

-- ---- What is answered

-- only a check needs memory, for its entries
abbrev pub NeedsEntries : Result (Option Extra) ℕ → Type 0
NeedsEntries (Ok (Some (extra.Check from to vid entries))) = ⊤
NeedsEntries _ = ⊥

abbrev pub FailsExtra : LineError → Result (Option Extra) ℕ → Type 0
FailsExtra (Words column) reading = reading ≡ Err column
FailsExtra NoMemory reading = NeedsEntries reading

-- What was answered for a line is what the grammar gives, unless there was no memory for the entries of a check.
abbrev pub ReadsExtra : Result (Option Extra) LineError → Result (Option Extra) ℕ → Type 0
ReadsExtra (Ok found) reading = reading ≡ Ok found
ReadsExtra (Err e) reading = FailsExtra e reading

-- the same of the words behind a keyword
abbrev pub GivesExtra : Result Extra LineError → Result Extra ℕ → Type 0
GivesExtra (Ok given) reading = reading ≡ Ok given
GivesExtra (Err e) reading = FailsExtra e (some reading)

-- entries were read as far as they go, and the words that are left end the line, or else a word is refused
abbrev pub AddsEntries : (List EntryWord → Extra) → Result (Unit {0}) LineError → List EntryWord → Rest
    → Result Extra ℕ → Type 0
AddsEntries given (Ok done) entries left reading = reading ≡ (at_end left giving given entries)
AddsEntries given (Err e) entries left reading = Refuses e reading

-- the entries that were read give this by the form, or else a word is refused
abbrev pub ListsEntries : (List EntryWord → Extra) → Result (List EntryWord) LineError → Result Extra ℕ → Type 0
ListsEntries given (Ok entries) reading = reading ≡ Ok (given entries)
ListsEntries given (Err e) reading = Refuses e reading

-- ---- How an extra may be spelled in a line

-- The line spells the extra: it has at most 8,192 bytes, and its words are a keyword and what its form takes.
pub record SpellsExtra (line : List ℕ) (given : Extra) : Type 0 where
  pub keyword : ExtraKeyword
  pub words : List (List ℕ)
  pub short : length line ≤ LINE_LIMIT
  pub apart : AreWords (extra_text keyword ∷ words) line
  pub form : SpellsForm (extra_form keyword) given words

-- the first word of the line is the keyword of an extra
abbrev pub BeginsExtra : List ℕ → Type 0
BeginsExtra line = (keyword : ExtraKeyword) × (words : List (List ℕ)) × AreWords (extra_text keyword ∷ words) line

-- ---- Where the line of an extra goes wrong

-- some words more, if any are missing, make something that the form gives
abbrev pub GoesOn : {A : Type 0} → Form A → List (List ℕ) → Type 0
GoesOn {A} f words = (more : List (List ℕ)) × (given : A) × SpellsForm f given (words ++ more)

-- Of these words the one at the column is the first that doesn't fit: those before it can go on, and not with it.
pub record FormMisfits {A : Type 0} (f : Form A) (words : List Word) (column : ℕ) : Type 0 where
  pub before : List Word
  pub word : Word
  pub after : List Word
  pub words_are : words ≡ before ++ (word ∷ after)
  pub column_is : column ≡ word.column
  pub fit : GoesOn f (bytes_of before)
  pub misfit : GoesOn f (bytes_of before ++ (word.bytes ∷ [])) → ⊥

-- All words fit, and some are missing.
pub record FormMisses {A : Type 0} (f : Form A) (words : List Word) : Type 0 where
  pub fit : GoesOn f (bytes_of words)
  pub missing : (given : A) → SpellsForm f given (bytes_of words) → ⊥

-- The line is refused at the column: it is too long, or a word doesn't fit, or words are missing.
pub data IsExtraRefusedAt (line : List ℕ) (column : ℕ) : Type 0 where
  too_long : LINE_LIMIT < length line → column ≡ LINE_LIMIT + 1 → IsExtraRefusedAt line column
  misfits : length line ≤ LINE_LIMIT → FormMisfits extra_line (words_in is_blank false 1 line) column
      → IsExtraRefusedAt line column
  misses : length line ≤ LINE_LIMIT → FormMisses extra_line (words_in is_blank false 1 line) → column ≡ length line + 1
      → IsExtraRefusedAt line column
