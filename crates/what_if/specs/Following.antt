-- Following entries from bridge to bridge, back to the source.
use Rattle.std.specs.Prelude.{ℕ, zero, suc, List, [], ◌∷◌, ◌++◌, length, Option, Some, None, is_some, option_map, if◌then◌else◌}
use Rattle.spb_types.specs.Address.{same_system}
use Rattle.spb_types.specs.Graph.{cost_between}
use Rattle.spb_types.specs.declared.address.SystemId.{SystemId}
use Rattle.spb_types.specs.declared.graph.Graph.{Graph}
use Rattle.spb_types.specs.declared.graph.GraphBridge.{GraphBridge}
use Rattle.what_if.specs.declared.entry.Entry.{Entry}

-- the entry of a bridge: that at its place
abbrev pub entry_among : List GraphBridge → List Entry → SystemId → Entry
entry_among [] es x = Entry.Unreached
entry_among (b ∷ bs) [] x = Entry.Unreached
entry_among (b ∷ bs) (e ∷ es) x = if same_system b.id.system x then e else entry_among bs es x

abbrev pub entry_for : Graph → List Entry → SystemId → Entry
entry_for g es x = entry_among g.bridges es x

-- the way of x is that of the neighbour which its entry names, and x behind it; every other entry stops
abbrev pub behind : Graph → (SystemId → Option (List SystemId)) → SystemId → Entry → Option (List SystemId)
behind g way x Entry.Start = None
behind g way x Entry.Unreached = None
behind g way x (Entry.Before y) = if is_some (cost_between g x y) then option_map (λ p. p ++ x ∷ []) (way y) else None

-- the path that following entries from x back to a gives in at most n steps, read from a on. It ends at a, whatever
-- the entry of a is
abbrev pub way_within : Graph → List Entry → SystemId → ℕ → SystemId → Option (List SystemId)
way_within g es a zero x = if same_system x a then Some (x ∷ []) else None
way_within g es a (suc n) x =
    if same_system x a then Some (x ∷ []) else behind g (λ y. way_within g es a n y) x (entry_for g es x)

-- the way of x: in at most as many steps as there are bridges
abbrev pub way_of : Graph → List Entry → SystemId → SystemId → Option (List SystemId)
way_of g es a x = way_within g es a (length g.bridges) x
