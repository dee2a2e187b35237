use Rattle.std.specs.Prelude.{◌≡◌, ℕ, ◌+◌, ◌≤◌, ◌<◌, ◌%◌, List, [], ◌∷◌, ◌++◌, length, map, false, not, IsTrue, codes, ⊤, ◌⊎◌}
use Rattle.std.specs.List.{list_all}
use Rattle.hex.specs.Hex.{is_hex_digit}
use Rattle.spb_types.specs.Name.{is_name, is_digit}
use Rattle.spb_types.specs.declared.entry_word.EntryWord.{EntryWord}
use Rattle.spb_types.specs.declared.entry_word.EntryWord.TheVariants.{Start, Before, Unreached}
use Rattle.spb_types.specs.declared.link.Side.{Side}
use Rattle.spb_types.specs.declared.link.Side.TheVariants.{A, B}
use Rattle.spb_types.specs.declared.link.Dir.{Dir}
use Rattle.spb_types.specs.declared.link.Dir.TheVariants.{Ab, Ba}
use Rattle.scenario.specs.declared.command.Command.{Command}
use Rattle.spb_types.specs.declared.service.Mode.{Mode}
use Rattle.spb_types.specs.declared.service.Mode.TheVariants.{Both, Send, Recv}
use Rattle.scenario.specs.declared.keyword.Keyword.{Keyword}
use Rattle.scenario.specs.Words.{is_blank, Word, words_in}
use Rattle.scenario.specs.WordForms.{decimal, decoded, hexadecimal}
use Rattle.scenario.specs.Keywords.{text_of, extra_text, change_text}
use Rattle.scenario.specs.Grammar.{Kind, a_name, a_number, a_system, a_source, a_frame, a_dir, a_side, a_mode, an_extra, a_change, an_entry, Value, Form, gives, takes, may_take, form_of, is_comment}
use Rattle.scenario.specs.declared.line.TheConstants.{LINE_LIMIT}

-- How a command may be spelled in a line.

abbrev pub AreDigits : List ℕ → Type 0
AreDigits word = IsTrue (list_all is_digit word)

abbrev pub AreHexDigits : List ℕ → Type 0
AreHexDigits word = IsTrue (list_all is_hex_digit word)

abbrev pub side_text : Side → List ℕ
side_text A = codes "a"
side_text B = codes "b"

abbrev pub dir_text : Dir → List ℕ
dir_text Ab = codes "ab"
dir_text Ba = codes "ba"

abbrev pub mode_text : Mode → List ℕ
mode_text Both = codes "both"
mode_text Send = codes "send"
mode_text Recv = codes "recv"

-- the word spells the entry
abbrev pub SpellsEntry : EntryWord → List ℕ → Type 0
SpellsEntry Start word = word ≡ codes "-"
SpellsEntry Unreached word = word ≡ codes "."
SpellsEntry (Before name) word = IsTrue (is_name word) × (word ≡ name)

-- the word spells the value
abbrev pub SpellsValue : (k : Kind) → Value k → List ℕ → Type 0
SpellsValue a_name name word = IsTrue (is_name word) × (word ≡ name)
SpellsValue a_number number word = (1 ≤ length word) × (length word ≤ 10) × AreDigits word × (decimal word ≡ number)
SpellsValue a_system system word = (length word ≡ 12) × AreHexDigits word × (decoded word ≡ system.bytes)
SpellsValue a_source source word = (length word ≡ 5) × AreHexDigits word × (hexadecimal word ≡ source.value)
SpellsValue a_frame frame word = (1 ≤ length word) × (length word % 2 ≡ 0) × AreHexDigits word × (decoded word ≡ frame)
SpellsValue a_dir dir word = word ≡ dir_text dir
SpellsValue a_side side word = word ≡ side_text side
SpellsValue a_mode mode word = word ≡ mode_text mode
SpellsValue an_extra keyword word = word ≡ extra_text keyword
SpellsValue a_change change word = word ≡ change_text change
SpellsValue an_entry entry word = SpellsEntry entry word

-- the words spell what the form takes, one word for each, and the form then gives the command
abbrev pub SpellsForm : {A : Type 0} → Form A → A → List (List ℕ) → Type 0
SpellsForm (gives given) command [] = given ≡ command
SpellsForm (gives given) command (word ∷ words) = ⊥
SpellsForm (takes kind more) command [] = ⊥
SpellsForm (takes kind more) command (word ∷ words) =
    (value : Value kind) × SpellsValue kind value word × SpellsForm (more value) command words
SpellsForm (may_take given kind more) command [] = given ≡ command
SpellsForm (may_take given kind more) command (word ∷ words) =
    (value : Value kind) × SpellsValue kind value word × SpellsForm (more value) command words

abbrev pub AreBlank : List ℕ → Type 0
AreBlank bytes = IsTrue (list_all is_blank bytes)

-- at least one byte, and none that is blank
abbrev pub IsWord : List ℕ → Type 0
IsWord [] = ⊥
IsWord (byte ∷ bytes) = IsTrue (list_all (λ b. not (is_blank b)) (byte ∷ bytes))

-- nothing, or a blank first
abbrev pub EndsWord : List ℕ → Type 0
EndsWord [] = ⊤
EndsWord (byte ∷ bytes) = IsTrue (is_blank byte)

-- the bytes are these words in order, with at least one blank between two of them, and any blanks around
abbrev pub AreWords : List (List ℕ) → List ℕ → Type 0
AreWords [] bytes = AreBlank bytes
AreWords (word ∷ words) bytes =
    (before after : List ℕ) × AreBlank before × IsWord word × EndsWord after × (bytes ≡ before ++ (word ++ after))
    × AreWords words after

-- The line spells the command: it has at most 8,192 bytes, and its words are a keyword and what its form takes.
pub record Spells (line : List ℕ) (command : Command) : Type 0 where
  pub keyword : Keyword
  pub words : List (List ℕ)
  pub short : length line ≤ LINE_LIMIT
  pub apart : AreWords (text_of keyword ∷ words) line
  pub form : SpellsForm (form_of keyword) command words

-- The line is ignored: it has at most 8,192 bytes, and it is blank or a comment.
abbrev pub IsBlankOrComment : List ℕ → Type 0
IsBlankOrComment line = (length line ≤ LINE_LIMIT) × (AreBlank line ⊎ IsTrue (is_comment line))

-- ---- Where a line goes wrong

-- the words are a keyword and what its form takes
pub record SpellsWords (words : List (List ℕ)) (command : Command) : Type 0 where
  pub keyword : Keyword
  pub others : List (List ℕ)
  pub words_are : words ≡ text_of keyword ∷ others
  pub form : SpellsForm (form_of keyword) command others

-- some words more make a command of these, if any are missing
abbrev pub CanGoOn : List (List ℕ) → Type 0
CanGoOn words = (more : List (List ℕ)) × (command : Command) × SpellsWords (words ++ more) command

-- the bytes of words
abbrev pub bytes_of : List Word → List (List ℕ)
bytes_of words = map (λ w. w.bytes) words

-- Of these words the one at the column is the first that doesn't fit: those before it can go on, and not with it.
pub record Misfits (words : List Word) (column : ℕ) : Type 0 where
  pub before : List Word
  pub word : Word
  pub after : List Word
  pub words_are : words ≡ before ++ (word ∷ after)
  pub column_is : column ≡ word.column
  pub fit : CanGoOn (bytes_of before)
  pub misfit : CanGoOn (bytes_of before ++ (word.bytes ∷ [])) → ⊥

-- All words fit, and some are missing.
pub record Misses (words : List Word) : Type 0 where
  pub fit : CanGoOn (bytes_of words)
  pub missing : (command : Command) → SpellsWords (bytes_of words) command → ⊥

-- The line is refused at the column: it is too long, or a word doesn't fit, or words are missing.
pub data IsRefusedAt (line : List ℕ) (column : ℕ) : Type 0 where
  too_long : LINE_LIMIT < length line → column ≡ LINE_LIMIT + 1 → IsRefusedAt line column
  misfits : length line ≤ LINE_LIMIT → Misfits (words_in is_blank false 1 line) column → IsRefusedAt line column
  misses : length line ≤ LINE_LIMIT → Misses (words_in is_blank false 1 line) → column ≡ length line + 1
      → IsRefusedAt line column
