use Rattle.std.specs.Prelude.{ℕ, ◌+◌, List, [], ◌∷◌, length, nat_lt, Bool, false, ◌==◌, if◌then◌else◌, Option, Some, None, Result, Ok, Err}
use Rattle.spb_types.specs.declared.address.Mac.{Mac}
use Rattle.spb_types.specs.declared.service.SourceId.{SourceId}
use Rattle.spb_types.specs.declared.link.Side.{Side}
use Rattle.spb_types.specs.declared.link.Dir.{Dir}
use Rattle.scenario.specs.declared.command.Command.{Command}
use Rattle.spb_types.specs.declared.service.Mode.{Mode}
use Rattle.spb_types.specs.declared.entry_word.EntryWord.{EntryWord}
use Rattle.spb_types.specs.declared.service.Mode.TheVariants.{Both}
use Rattle.scenario.specs.declared.command.Command.TheVariants as command
use Rattle.scenario.specs.declared.keyword.Keyword.{Keyword}
use Rattle.scenario.specs.declared.keyword.Keyword.TheVariants.{Vid, Bridge, Link, Isid, Attach, Detach, Metric, Down, Up, Restart, Tick, Deliver, Lose, Double, Round, Drain, Frame, State, Show, Wiring, Db, Adj, Path, Drops}
use Rattle.scenario.specs.declared.extra.ExtraKeyword.{ExtraKeyword}
use Rattle.scenario.specs.declared.extra.Change.{Change}
use Rattle.scenario.specs.declared.line.TheConstants.{LINE_LIMIT}
use Rattle.scenario.specs.Words.{Word, Rest, rest_from, Reading, next, next_more, at_end}
use Rattle.scenario.specs.WordForms.{name, number, system, source, frame, dir, side, mode, entry}
use Rattle.scenario.specs.Keywords.{keyword, extra_keyword, change_of}

-- the kinds of words that follow a keyword
pub data Kind : Type 0 where
  a_name : Kind
  a_number : Kind
  a_system : Kind
  a_source : Kind
  a_frame : Kind
  a_dir : Kind
  a_side : Kind
  a_mode : Kind
  an_extra : Kind
  a_change : Kind
  an_entry : Kind

-- what a word of the kind means
abbrev pub Value : Kind → Type 0
Value a_name = List ℕ
Value a_number = ℕ
Value a_system = Mac
Value a_source = SourceId
Value a_frame = List ℕ
Value a_dir = Dir
Value a_side = Side
Value a_mode = Mode
Value an_extra = ExtraKeyword
Value a_change = Change
Value an_entry = EntryWord

abbrev pub meaning : (k : Kind) → List ℕ → Option (Value k)
meaning a_name = name
meaning a_number = number
meaning a_system = system
meaning a_source = source
meaning a_frame = frame
meaning a_dir = dir
meaning a_side = side
meaning a_mode = mode
meaning an_extra = extra_keyword
meaning a_change = change_of
meaning an_entry = entry

-- what may follow: words of these kinds, and what they then give. Where a word may follow, the line may also end
-- before it, and then gives this.
pub data Form (A : Type 0) : Type 0 where
  gives : A → Form A
  takes : (k : Kind) → (Value k → Form A) → Form A
  may_take : A → (k : Kind) → (Value k → Form A) → Form A

-- what the words left of a line give, or else the column of the first byte of the first that doesn't fit
infixl 10 ◌then◌
abbrev pub ◌then◌ : {A B : Type 0} → Reading A → (A → Rest → Result B ℕ) → Result B ℕ
(Ok found) then f = f found.0 found.1
(Err column) then f = Err column

infixl 10 ◌giving◌
abbrev pub ◌giving◌ : {A : Type 0} → Result (Unit {0}) ℕ → A → Result A ℕ
(Ok end) giving value = Ok value
(Err column) giving value = Err column

-- what follows where a word more was found, or where none was left
abbrev pub with_more : {A B : Type 0} → Option A → Result B ℕ → (A → Result B ℕ) → Result B ℕ
with_more None ends goes = ends
with_more (Some value) ends goes = goes value

abbrev pub read : {A : Type 0} → Form A → Rest → Result A ℕ
read (gives given) rest = at_end rest giving given
read (may_take given kind more) rest =
    next_more (meaning kind) rest
    then (λ found left. with_more found (at_end left giving given) (λ value. read (more value) left))
read (takes kind more) rest = next (meaning kind) rest then (λ value left. read (more value) left)

infixl 10 ◌>>=◌
abbrev pub ◌>>=◌ : {A : Type 0} → (k : Kind) → (Value k → Form A) → Form A
k >>= f = takes k f

-- one name, and what it gives
abbrev pub one_name : {A : Type 0} → (List ℕ → A) → Form A
one_name given = do
  name ← a_name
  gives (given name)

-- the form of the line that each keyword begins
unfoldable pub form_of : Keyword → Form Command
form_of Vid = do
  vid ← a_number
  ect ← a_number
  gives (command.Vid vid ect)
form_of Bridge = do
  name ← a_name
  priority ← a_number
  system ← a_system
  source ← a_source
  ports ← a_number
  gives (command.Bridge name priority system source ports)
form_of Link = do
  name ← a_name
  a ← a_name
  port_a ← a_number
  b ← a_name
  port_b ← a_number
  cost ← a_number
  gives (command.Link name a port_a b port_b cost)
form_of Isid = do
  isid ← a_number
  vid ← a_number
  gives (command.Isid isid vid)
form_of Attach = do
  bridge ← a_name
  port ← a_number
  isid ← a_number
  may_take (command.Attach bridge port isid Both) a_mode (λ mode. gives (command.Attach bridge port isid mode))
form_of Detach = do
  bridge ← a_name
  port ← a_number
  gives (command.Detach bridge port)
form_of Metric = do
  link ← a_name
  side ← a_side
  metric ← a_number
  gives (command.Metric link side metric)
form_of Down = one_name command.Down
form_of Up = one_name command.Up
form_of Restart = one_name command.Restart
form_of Tick = one_name command.Tick
form_of Deliver = do
  link ← a_name
  dir ← a_dir
  gives (command.Deliver link dir)
form_of Lose = do
  link ← a_name
  dir ← a_dir
  place ← a_number
  gives (command.Lose link dir place)
form_of Double = do
  link ← a_name
  dir ← a_dir
  place ← a_number
  gives (command.Double link dir place)
form_of Round = do
  times ← a_number
  gives (command.Round times)
form_of Drain = do
  most ← a_number
  gives (command.Drain most)
form_of Frame = do
  bridge ← a_name
  port ← a_number
  frame ← a_frame
  gives (command.Frame bridge port frame)
form_of State = gives command.State
form_of Show = one_name command.Show
form_of Wiring = one_name command.Wiring
form_of Db = one_name command.Db
form_of Adj = one_name command.Adj
form_of Path = do
  from ← a_name
  to ← a_name
  vid ← a_number
  gives (command.Path from to vid)
form_of Drops = one_name command.Drops

-- a line whose first byte is `#`
abbrev pub is_comment : List ℕ → Bool
is_comment [] = false
is_comment (byte ∷ bytes) = byte == 35

-- The command that a keyword and the words behind it give.
abbrev pub command_in : Rest → Result Command ℕ
command_in rest = next keyword rest then (λ k left. read (form_of k) left)

abbrev pub some : {A : Type 0} → Result A ℕ → Result (Option A) ℕ
some (Ok value) = Ok (Some value)
some (Err column) = Err column

-- nothing where no word is left, and else the command
abbrev pub unless_blank : List Word → Rest → Result (Option Command) ℕ
unless_blank [] rest = Ok None
unless_blank (word ∷ words) rest = some (command_in rest)

-- The command that a line gives, or None where it is blank or a comment, or else the column, counted from 1, of the
-- first byte of the first word that doesn't fit, or where words are missing, the column right behind the line.
unfoldable pub line_of : List ℕ → Result (Option Command) ℕ
line_of line =
    if nat_lt LINE_LIMIT (length line) then Err (LINE_LIMIT + 1)
    else (if is_comment line then Ok None
    else unless_blank (rest_from 1 line).words (rest_from 1 line))
