-- How a command is printed.
use Rattle.std.specs.Prelude.{ℕ, Bool, true, false, ◌/◌, ◌%◌, List, [], ◌∷◌, ◌++◌, codes, decimal, slice_index}
use Rattle.std.specs.List.{flat_map}
use Rattle.hex.specs.Hex.{encode_lower, lower_digits}
use Rattle.scenario.specs.declared.command.Command.{Command}
use Rattle.scenario.specs.declared.command.Command.TheVariants as command
use Rattle.spb_types.specs.declared.service.Mode.{Mode}
use Rattle.spb_types.specs.declared.service.Mode.TheVariants.{Both, Send, Recv}
use Rattle.scenario.specs.declared.keyword.Keyword.TheVariants.{Vid, Bridge, Link, Isid, Attach, Detach, Metric, Down, Up, Restart, Tick, Deliver, Lose, Double, Round, Drain, Frame, State, Show, Wiring, Db, Adj, Path, Drops}
use Rattle.scenario.specs.Keywords.{text_of}
use Rattle.scenario.specs.Spelling.{side_text, dir_text, mode_text}

-- a hexadecimal digit, in lower case
abbrev pub hex_digit : ℕ → ℕ
hex_digit value = slice_index lower_digits value

-- the five hexadecimal digits of a source id of 20 bits, the highest first
abbrev pub source_text : ℕ → List ℕ
source_text value =
    hex_digit (value / 65536 % 16) ∷ hex_digit (value / 4096 % 16) ∷ hex_digit (value / 256 % 16)
    ∷ hex_digit (value / 16 % 16) ∷ hex_digit (value % 16) ∷ []

-- a mode is printed where it isn't `both`
abbrev pub mode_words : Mode → List (List ℕ)
mode_words Both = []
mode_words Send = mode_text Send ∷ []
mode_words Recv = mode_text Recv ∷ []

-- The words of a command: its keyword and its values. A name stands as it is, a number is `decimal`, with no leading
-- zero, and the bytes of a system id and of a frame are `encode_lower`, two lower-case digits for each.
unfoldable pub words_of : Command → List (List ℕ)
words_of (command.Vid vid ect) = text_of Vid ∷ decimal vid ∷ decimal ect ∷ []
words_of (command.Bridge name priority system source ports) =
    text_of Bridge ∷ name ∷ decimal priority ∷ encode_lower system.bytes ∷ source_text source.value ∷ decimal ports ∷ []
words_of (command.Link name a port_a b port_b cost) =
    text_of Link ∷ name ∷ a ∷ decimal port_a ∷ b ∷ decimal port_b ∷ decimal cost ∷ []
words_of (command.Isid isid vid) = text_of Isid ∷ decimal isid ∷ decimal vid ∷ []
words_of (command.Attach bridge port isid mode) =
    text_of Attach ∷ bridge ∷ decimal port ∷ decimal isid ∷ mode_words mode
words_of (command.Detach bridge port) = text_of Detach ∷ bridge ∷ decimal port ∷ []
words_of (command.Metric link side metric) = text_of Metric ∷ link ∷ side_text side ∷ decimal metric ∷ []
words_of (command.Down link) = text_of Down ∷ link ∷ []
words_of (command.Up link) = text_of Up ∷ link ∷ []
words_of (command.Restart bridge) = text_of Restart ∷ bridge ∷ []
words_of (command.Tick bridge) = text_of Tick ∷ bridge ∷ []
words_of (command.Deliver link dir) = text_of Deliver ∷ link ∷ dir_text dir ∷ []
words_of (command.Lose link dir place) = text_of Lose ∷ link ∷ dir_text dir ∷ decimal place ∷ []
words_of (command.Double link dir place) = text_of Double ∷ link ∷ dir_text dir ∷ decimal place ∷ []
words_of (command.Round times) = text_of Round ∷ decimal times ∷ []
words_of (command.Drain most) = text_of Drain ∷ decimal most ∷ []
words_of (command.Frame bridge port frame) = text_of Frame ∷ bridge ∷ decimal port ∷ encode_lower frame ∷ []
words_of command.State = text_of State ∷ []
words_of (command.Show bridge) = text_of Show ∷ bridge ∷ []
words_of (command.Wiring bridge) = text_of Wiring ∷ bridge ∷ []
words_of (command.Db bridge) = text_of Db ∷ bridge ∷ []
words_of (command.Adj bridge) = text_of Adj ∷ bridge ∷ []
words_of (command.Path from to vid) = text_of Path ∷ from ∷ to ∷ decimal vid ∷ []
words_of (command.Drops bridge) = text_of Drops ∷ bridge ∷ []

-- whether a command asks something
abbrev pub is_question : Command → Bool
is_question command.State = true
is_question (command.Show bridge) = true
is_question (command.Wiring bridge) = true
is_question (command.Db bridge) = true
is_question (command.Adj bridge) = true
is_question (command.Path from to vid) = true
is_question (command.Drops bridge) = true
is_question c = false

-- whether a command asks something, or lets something happen at a bridge or on the links
abbrev pub asks_or_happens : Command → Bool
asks_or_happens (command.Restart bridge) = true
asks_or_happens (command.Tick bridge) = true
asks_or_happens (command.Deliver link dir) = true
asks_or_happens (command.Lose link dir place) = true
asks_or_happens (command.Double link dir place) = true
asks_or_happens (command.Round times) = true
asks_or_happens (command.Drain most) = true
asks_or_happens (command.Frame bridge port frame) = true
asks_or_happens c = is_question c

-- a word with a space before it
abbrev pub spaced : List ℕ → List ℕ
spaced word = codes " " ++ word

-- words with a single space between two of them
abbrev pub joined : List (List ℕ) → List ℕ
joined [] = []
joined (word ∷ words) = word ++ flat_map spaced words

-- the line that is printed for a command, without its end
abbrev pub command_text : Command → List ℕ
command_text c = joined (words_of c)
