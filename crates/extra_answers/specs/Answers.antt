-- What is answered to a question that changes nothing. All of it is told of the actual wiring, whether the network is
-- quiet or not.
use Rattle.std.specs.Prelude.{ℕ, List, [], ◌==◌, Bool, Option, Some, None, find, slice_get}
use Rattle.std.specs.List.{filter_map}
use Rattle.std.specs.Option.{option_map}
use Rattle.spb_types.specs.Ect.{mask_of}
use Rattle.spb_types.specs.declared.address.SystemId.{SystemId}
use Rattle.spb_types.specs.declared.entry_word.EntryWord.{EntryWord}
use Rattle.spb_types.specs.declared.graph.Graph.{Graph}
use Rattle.spb_types.specs.declared.service.VidPlan.{VidPlan}
use Rattle.spb_types.specs.declared.tables.Path.{Path}
use Rattle.spb_types.specs.declared.tables.TableRow.{TableRow}
use Rattle.ect_trees.specs.Path.{cost_of}
use Rattle.what_if.specs.declared.checking.Verdict.{Verdict}
use Rattle.what_if.specs.declared.entry.Entry.{Entry}
use Rattle.what_if.specs.Entries.{best_entries}
use Rattle.what_if.specs.Failing.{verdict_of}
use Rattle.what_if.specs.Following.{way_of}
use Rattle.report.specs.Changes.{whatif_text}
use Rattle.report.specs.Checking.{proof_text, check_yes_text, check_no_text}
use Rattle.scenario.specs.declared.command.Command.{Command}
use Rattle.scenario.specs.declared.extra.Extra.{Extra}
use Rattle.scenario.specs.declared.extra.Extra.TheVariants.{WhatIf, Proof, Check, Settle}
use Rattle.spb_world.specs.World.{World, Bridges, names_of, world_graph}
use Rattle.spb_world.specs.Systems.{names_on}
use Rattle.table_changes.specs.declared.differing.Change.{Change}
use Rattle.table_changes.specs.Changes.{changes_of}
use Rattle.extra_answers.specs.Entries.{system_named, entries_of, words_of}

-- ---- what a change would do

-- a row that goes or comes, with the name of its bridge
abbrev pub named_change : Bridges → Change → Option (List ℕ × Bool × TableRow)
named_change bridges c = option_map (λ name. (name, c.added, c.row)) (slice_get (names_of bridges) c.bridge)

-- all of them, in order
abbrev pub named_changes : World → Command → List (List ℕ × Bool × TableRow)
named_changes w change = filter_map (named_change w.bridges) (changes_of w change)

-- ---- proofs of paths

-- what is planned for the base VID of a number, if it is declared
abbrev pub planned_for : List VidPlan → ℕ → Option VidPlan
planned_for vids n = find (λ plan. plan.vid.value == n) vids

-- the entries that prove the best paths from a bridge in a base VID
abbrev pub proved_entries : World → VidPlan → List ℕ → List Entry
proved_entries w plan from = best_entries (world_graph w) (mask_of plan.ect) (system_named w.bridges from)

-- and by names, as they are answered
abbrev pub proved_words : World → VidPlan → List ℕ → List EntryWord
proved_words w plan from = words_of w.bridges (proved_entries w plan from)

abbrev pub proof_in : World → List ℕ → List ℕ → Option VidPlan → List ℕ
proof_in w from to None = []
proof_in w from to (Some plan) = proof_text from to plan.vid.value (proved_words w plan from)

-- ---- and their check

-- the path to a bridge that following entries gives, with its cost
abbrev pub path_along : Graph → List Entry → SystemId → SystemId → Option Path
path_along g entries from to =
    option_map (λ way. record { cost = cost_of g way; bridges = way }) (way_of g entries from to)

-- of entries that prove the best paths: one of these
abbrev pub yes_text : Bridges → Option Path → List ℕ
yes_text bridges None = check_yes_text 0 []
yes_text bridges (Some path) = check_yes_text path.cost (names_on bridges path.bridges)

abbrev pub verdict_text : Bridges → Option Path → Verdict → List ℕ
verdict_text bridges path Verdict.Yes = yes_text bridges path
verdict_text bridges path (Verdict.No k) = check_no_text k

-- of entries that are to prove the best paths from a bridge under a mask, with the one to another
abbrev pub checked_text : World → ℕ → SystemId → SystemId → List Entry → List ℕ
checked_text w mask from to entries = verdict_text w.bridges (path_along (world_graph w) entries from to)
    (verdict_of (world_graph w) mask entries from)

abbrev pub check_in : World → List ℕ → List ℕ → List EntryWord → Option VidPlan → List ℕ
check_in w from to entries None = []
check_in w from to entries (Some plan) =
    checked_text w (mask_of plan.ect) (system_named w.bridges from) (system_named w.bridges to)
    (entries_of w.bridges entries)

-- ---- each question

-- the lines that are answered to a question that isn't refused. To settle is no question: it changes the network, and
-- is judged apart from these
abbrev pub extra_text : World → Extra → List ℕ
extra_text w (WhatIf change) = whatif_text (named_changes w change)
extra_text w (Proof from to vid) = proof_in w from to (planned_for w.vids vid)
extra_text w (Check from to vid entries) = check_in w from to entries (planned_for w.vids vid)
extra_text w Settle = []
