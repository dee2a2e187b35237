-- The entries that prove the best paths from a bridge (IEEE 802.1aq, 28.5 to 28.8).
use Rattle.std.specs.Prelude.{ℕ, List, [], ◌∷◌, map, Option, Some, None, if◌then◌else◌}
use Rattle.spb_types.specs.Address.{same_system}
use Rattle.spb_types.specs.Graph.{systems_of}
use Rattle.spb_types.specs.declared.address.SystemId.{SystemId}
use Rattle.spb_types.specs.declared.graph.Graph.{Graph}
use Rattle.ect_trees.specs.Best.{best_of}
use Rattle.what_if.specs.declared.entry.Entry.{Entry}

-- the last but one
abbrev pub before_last : List SystemId → Option SystemId
before_last [] = None
before_last (x ∷ []) = None
before_last (x ∷ y ∷ []) = Some x
before_last (x ∷ y ∷ z ∷ zs) = before_last (y ∷ z ∷ zs)

abbrev pub named : Option SystemId → Entry
named None = Entry.Unreached
named (Some y) = Entry.Before y

abbrev pub entry_by : Option (List SystemId) → Entry
entry_by None = Entry.Unreached
entry_by (Some p) = named (before_last p)

-- the entry of x: Start for a itself, and else the bridge before x on the best path from a, if there is one
abbrev pub best_entry : Graph → ℕ → SystemId → SystemId → Entry
best_entry g mask a x = if same_system x a then Entry.Start else entry_by (best_of g mask a x)

-- an entry for each bridge, in the order of the graph's list
abbrev pub best_entries : Graph → ℕ → SystemId → List Entry
best_entries g mask a = map (best_entry g mask a) (systems_of g.bridges)
