-- Proofs of paths, and what becomes of them when they are checked.
use Rattle.std.specs.Prelude.{ℕ, List, [], ◌∷◌, map, codes, decimal}
use Rattle.spb_types.specs.declared.entry_word.EntryWord.{EntryWord}
use Rattle.spb_types.specs.declared.entry_word.EntryWord.TheVariants.{Start, Before, Unreached}
use Rattle.report.specs.Words.{line}
use Rattle.report.specs.Lines.{way_words}

-- an entry: the name of the bridge before, `-` where the paths start, or `.` where none leads
abbrev pub entry_text : EntryWord → List ℕ
entry_text Start = codes "-"
entry_text (Before name) = name
entry_text Unreached = codes "."

-- a proof: `proof FROM TO VID` and its entries
unfoldable pub proof_text : List ℕ → List ℕ → ℕ → List EntryWord → List ℕ
proof_text from to vid entries = line (codes "proof") (from ∷ to ∷ decimal vid ∷ map entry_text entries)

-- a proof that is right: `check yes` and the way that it gives
unfoldable pub check_yes_text : ℕ → List (List ℕ) → List ℕ
check_yes_text cost names = line (codes "check") (codes "yes" ∷ way_words cost names)

-- one that is wrong: `check no` and the number of the first bridge that says so
unfoldable pub check_no_text : ℕ → List ℕ
check_no_text number = line (codes "check") (codes "no" ∷ decimal number ∷ [])
