-- The words of the program, its own name aside: they are one of these forms, spelled exactly so, or none.
use Rattle.std.specs.Prelude.{◌≡◌, ◌↔◌, ℕ, ◌≤◌, ⊤, ◌+◌, ◌-◌, ◌*◌, nat_le, ◌&&◌, Bool, if◌then◌else◌, List, [], ◌∷◌, Option, Some, None, option_map, codes, decimal}
use Rattle.std.specs.Str.{bytes_eq}
use Rattle.network_model.specs.declared.kind_rule.KindRule.{KindRule}
use Rattle.network_model.specs.declared.kind_rule.KindRule.TheVariants.{Plain, Swift, Mixed}
use Rattle.capture_list.specs.Listing.{most_listed}
use Rattle.scenario.specs.Cutting.{most_bytes}
use Rattle.spb_run.specs.declared.words.Form.{Form}
use Rattle.spb_run.specs.declared.words.Form.TheVariants.{Run, Make, Try, Listing, Capture}

-- whether a byte is a decimal digit from this one on
abbrev pub is_digit_from : ℕ → ℕ → Bool
is_digit_from least byte = nat_le least byte && nat_le byte 57

-- the number, if scripts are made for so many bridges: 4 to 96
abbrev pub if_made : ℕ → Option ℕ
if_made n = if nat_le 4 n && nat_le n 96 then Some n else None

-- the number of bridges that a word says, in one or two decimal digits, the first of which isn't 0
abbrev pub bridges_of : List ℕ → Option ℕ
bridges_of (ones ∷ []) = if is_digit_from 49 ones then if_made (ones - 48) else None
bridges_of (tens ∷ ones ∷ []) =
    if is_digit_from 49 tens && is_digit_from 48 ones then if_made (10 * (tens - 48) + (ones - 48)) else None
bridges_of _ = None

-- the name of a rule by which bridges take boxes
abbrev pub name_of_rule : KindRule → List ℕ
name_of_rule Plain = codes "plain"
name_of_rule Swift = codes "swift"
name_of_rule Mixed = codes "mixed"

-- the rule that a word names
abbrev pub rule_named : List ℕ → Option KindRule
rule_named word =
    if bytes_eq word (codes "plain") then Some Plain
    else (if bytes_eq word (codes "swift") then Some Swift
    else (if bytes_eq word (codes "mixed") then Some Mixed else None))

-- the rule that the last words of a form tell: `--kind` and a name, or no word where all bridges are plain
abbrev pub rule_told : List (List ℕ) → Option KindRule
rule_told [] = Some Plain
rule_told (word ∷ name ∷ []) = if bytes_eq word (codes "--kind") then rule_named name else None
rule_told _ = None

-- behind `make`: a number of bridges
abbrev pub make_form : List (List ℕ) → Option Form
make_form (number ∷ []) = option_map Make (bridges_of number)
make_form _ = None

-- behind `try`: a number of bridges and a rule
abbrev pub try_by : Option ℕ → Option KindRule → Option Form
try_by (Some n) (Some rule) = Some (Try n rule)
try_by _ _ = None

abbrev pub try_form : List (List ℕ) → Option Form
try_form (number ∷ others) = try_by (bridges_of number) (rule_told others)
try_form [] = None

-- behind `list`: nothing
abbrev pub list_form : List (List ℕ) → Option Form
list_form [] = Some Listing
list_form _ = None

-- behind `capture`: nothing
abbrev pub capture_form : List (List ℕ) → Option Form
capture_form [] = Some Capture
capture_form _ = None

-- the form that words are, by the first of them
abbrev pub form_of : List (List ℕ) → Option Form
form_of (word ∷ others) =
    if bytes_eq word (codes "run") then option_map Run (rule_told others)
    else (if bytes_eq word (codes "make") then make_form others
    else (if bytes_eq word (codes "try") then try_form others
    else (if bytes_eq word (codes "list") then list_form others
    else (if bytes_eq word (codes "capture") then capture_form others else None))))
form_of [] = None

-- the number of bridges of a form is in range
abbrev pub IsForm : Form → Type 0
IsForm (Run rule) = ⊤
IsForm (Make n) = (4 ≤ n) × (n ≤ 96)
IsForm (Try n rule) = (4 ≤ n) × (n ≤ 96)
IsForm Listing = ⊤
IsForm Capture = ⊤

-- how many bytes are read for a form at most: one more than a script may have, or a capture that is listed
abbrev pub most_read : Option Form → ℕ
most_read (Some (Run rule)) = most_bytes + 1
most_read (Some (Make n)) = 0
most_read (Some (Try n rule)) = 0
most_read (Some Listing) = most_listed + 1
most_read (Some Capture) = most_bytes + 1
most_read None = 0

-- how a form is spelled: the rule is told last, by `--kind` and its name, and no word tells that all bridges are plain
pub data Spells : Form → List (List ℕ) → Type 0 where
  run_alone : Spells (Run Plain) (codes "run" ∷ [])
  run_kind : (rule : KindRule) → Spells (Run rule) (codes "run" ∷ codes "--kind" ∷ name_of_rule rule ∷ [])
  make_number : (n : ℕ) → Spells (Make n) (codes "make" ∷ decimal n ∷ [])
  try_alone : (n : ℕ) → Spells (Try n Plain) (codes "try" ∷ decimal n ∷ [])
  try_kind : (n : ℕ) (rule : KindRule)
      → Spells (Try n rule) (codes "try" ∷ decimal n ∷ codes "--kind" ∷ name_of_rule rule ∷ [])
  list_alone : Spells Listing (codes "list" ∷ [])
  capture_alone : Spells Capture (codes "capture" ∷ [])

-- words are a form exactly where they spell it
abbrev pub FormsAreSpelled : Type 0
FormsAreSpelled = (words : List (List ℕ)) (f : Form) → (form_of words ≡ Some f) ↔ (IsForm f × Spells f words)
