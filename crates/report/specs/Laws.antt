-- What the texts of answers are like.
use Rattle.std.specs.Prelude.{◌≡◌, ℕ, ◌+◌, List, ◌++◌, length, Bool, ◌==◌, IsTrue, ◌↔◌, Contains, count_by, All, Option, Some, codes, ⊤}
use Rattle.std.specs.List.Sorted.{IsStrictlyIncreasing}
use Rattle.spb_types.specs.declared.entry_word.EntryWord.{EntryWord}
use Rattle.spb_types.specs.declared.entry_word.EntryWord.TheVariants.{Start, Before, Unreached}
use Rattle.spb_types.specs.declared.ports.PortSet.{PortSet}
use Rattle.spb_types.specs.declared.tables.TableRow.{TableRow}
use Rattle.spb_types.specs.declared.tables.Tables.{Tables}
use Rattle.spb_types.specs.Name.{is_name}
use Rattle.spb_types.specs.Ports.{has}
use Rattle.adjacency.specs.declared.port.Adjacency.{Adjacency}
use Rattle.lsdb.specs.declared.held.DbRow.{DbRow}
use Rattle.report.specs.Ports.{ports_of}
use Rattle.report.specs.Tables.{tables_text}
use Rattle.report.specs.Database.{db_text}
use Rattle.report.specs.Adjacencies.{adj_text}
use Rattle.report.specs.Lines.{path_text, drops_text, out_text, state_text, settle_text, error_text}
use Rattle.report.specs.Changes.{whatif_text}
use Rattle.report.specs.Checking.{proof_text, check_yes_text, check_no_text}

-- the ports that are written for a set are just those of the set, ascending
pub record ListsPorts (set : PortSet) : Type 0 where
  pub ports : (p : ℕ) → Contains (ports_of set) p ↔ IsTrue (has set p)
  pub ascending : IsStrictlyIncreasing (ports_of set)

abbrev pub PortsAreThoseOfTheSet : Type 0
PortsAreThoseOfTheSet = (set : PortSet) → ListsPorts set

-- how often LF stands in a text
abbrev pub newlines : List ℕ → ℕ
newlines text = count_by (λ b. b == 10) text

-- LF doesn't stand in these bytes
abbrev pub LacksNewline : List ℕ → Type 0
LacksNewline bytes = newlines bytes ≡ 0

-- the bytes of a name
abbrev pub IsName : List ℕ → Type 0
IsName bytes = IsTrue (is_name bytes)

-- a text of this many lines, each ended by LF
pub record HasLines (count : ℕ) (text : List ℕ) : Type 0 where
  pub last : (front : List ℕ) × (text ≡ front ++ codes "\n")
  pub number : newlines text ≡ count

-- tables have a line for each row, and one before
abbrev pub TablesHaveLines : Type 0
TablesHaveLines = (word name : List ℕ) (quiet : Option Bool) (tables : Tables) → LacksNewline word → IsName name
    → HasLines (1 + length tables.unicast + length tables.group) (tables_text word name quiet tables)

-- a database has a line for each id, and one before
abbrev pub DatabaseHasLines : Type 0
DatabaseHasLines = (name : List ℕ) (rows : List DbRow) → IsName name → HasLines (1 + length rows) (db_text name rows)

-- adjacencies have a line for each port, and one before
abbrev pub AdjacenciesHaveLines : Type 0
AdjacenciesHaveLines = (name : List ℕ) (ports : List (Adjacency × Bool)) → IsName name
    → HasLines (1 + length ports) (adj_text name ports)

-- what a change would do has a line for each row that changes, and one before
abbrev pub ChangesHaveLines : Type 0
ChangesHaveLines = (changes : List (List ℕ × Bool × TableRow)) → All (λ c. IsName c.0) changes
    → HasLines (1 + length changes) (whatif_text changes)

-- the other answers are one line
abbrev pub PathIsLine : Type 0
PathIsLine = (from to : List ℕ) (vid cost : ℕ) (names : List (List ℕ)) → IsName from → IsName to → All IsName names
    → HasLines 1 (path_text from to vid cost names)

abbrev pub DropsIsLine : Type 0
DropsIsLine = (name counts : List ℕ) → IsName name → HasLines 1 (drops_text name counts)

abbrev pub OutIsLine : Type 0
OutIsLine = (name : List ℕ) (port : ℕ) (frame : List ℕ) → IsName name → HasLines 1 (out_text name port frame)

abbrev pub StateIsLine : Type 0
StateIsLine = (failing : List ℕ) → HasLines 1 (state_text failing)

abbrev pub SettleIsLine : Type 0
SettleIsLine = (rounds : ℕ) (why : Option (List ℕ)) → ((word : List ℕ) → why ≡ Some word → LacksNewline word)
    → HasLines 1 (settle_text rounds why)

abbrev pub ErrorIsLine : Type 0
ErrorIsLine = (at number : ℕ) (name : List ℕ) (column : Option ℕ) → LacksNewline name
    → HasLines 1 (error_text at number name column)

-- what an entry names is a name
abbrev pub NamesBefore : EntryWord → Type 0
NamesBefore Start = ⊤
NamesBefore (Before name) = IsName name
NamesBefore Unreached = ⊤

abbrev pub ProofIsLine : Type 0
ProofIsLine = (from to : List ℕ) (vid : ℕ) (entries : List EntryWord) → IsName from → IsName to
    → All NamesBefore entries → HasLines 1 (proof_text from to vid entries)

abbrev pub YesIsLine : Type 0
YesIsLine = (cost : ℕ) (names : List (List ℕ)) → All IsName names → HasLines 1 (check_yes_text cost names)

abbrev pub NoIsLine : Type 0
NoIsLine = (number : ℕ) → HasLines 1 (check_no_text number)
