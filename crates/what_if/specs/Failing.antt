-- Which bridge shows that entries don't prove the best paths from a bridge.
use Rattle.std.specs.Prelude.{◌≡◌, ℕ, List, [], ◌∷◌, ◌++◌, Bool, true, false, not, ◌&&◌, ◌||◌, Option, Some, None, is_some, if◌then◌else◌}
use Rattle.std.specs.List.{AllByRecursion, list_any, position_from}
use Rattle.std.specs.Ordering.{is_lt}
use Rattle.spb_types.specs.Address.{same_system}
use Rattle.spb_types.specs.Graph.{cost_between, systems_of}
use Rattle.spb_types.specs.declared.address.SystemId.{SystemId}
use Rattle.spb_types.specs.declared.graph.Graph.{Graph}
use Rattle.ect_trees.specs.Key.{key_of, key_cmp}
use Rattle.ect_trees.specs.Best.{is_among}
use Rattle.what_if.specs.declared.entry.Entry.{Entry}
use Rattle.what_if.specs.declared.checking.Verdict.{Verdict}
use Rattle.what_if.specs.Following.{entry_for, way_of}

abbrev pub is_start : Entry → Bool
is_start Entry.Start = true
is_start (Entry.Before y) = false
is_start Entry.Unreached = false

-- the entry names y
abbrev pub names : Entry → SystemId → Bool
names Entry.Start y = false
names (Entry.Before z) y = same_system z y
names Entry.Unreached y = false

-- the entry names a bridge that is no neighbour of x
abbrev pub names_no_neighbour : Graph → SystemId → Entry → Bool
names_no_neighbour g x Entry.Start = false
names_no_neighbour g x (Entry.Before y) = not (is_some (cost_between g x y))
names_no_neighbour g x Entry.Unreached = false

-- the entry names a bridge, and no way comes of it
abbrev pub leads_nowhere : Entry → Option (List SystemId) → Bool
leads_nowhere Entry.Start own = false
leads_nowhere (Entry.Before y) own = not (is_some own)
leads_nowhere Entry.Unreached own = false

-- there is no own way, or the path p has a lower key than it (IEEE 802.1aq, 28.5 to 28.8)
abbrev pub is_better : Graph → ℕ → Option (List SystemId) → List SystemId → Bool
is_better g mask None p = true
is_better g mask (Some q) p = is_lt (key_cmp (key_of g mask p) (key_of g mask q))

-- a neighbour has a way that doesn't pass x, and with x behind it that way is better than the own way of x
abbrev pub gives_better : Graph → ℕ → SystemId → Option (List SystemId) → Option (List SystemId) → Bool
gives_better g mask x own None = false
gives_better g mask x own (Some p) = not (is_among x p) && is_better g mask own (p ++ x ∷ [])

-- some neighbour gives x a better way
abbrev pub has_better : Graph → ℕ → List Entry → SystemId → SystemId → Bool
has_better g mask es a x =
    list_any (λ u. is_some (cost_between g x u) && gives_better g mask x (way_of g es a x) (way_of g es a u))
    (systems_of g.bridges)

-- a itself fails unless its entry is Start. Another bridge fails where its entry is Start; names no neighbour; names a
-- neighbour, and no way comes of it; or where a neighbour gives it a better way
abbrev pub fails_with : Graph → ℕ → List Entry → SystemId → SystemId → Entry → Bool
fails_with g mask es a x e =
    if same_system x a then not (is_start e)
    else is_start e
    || (names_no_neighbour g x e || (leads_nowhere e (way_of g es a x) || has_better g mask es a x))

abbrev pub fails : Graph → ℕ → List Entry → SystemId → SystemId → Bool
fails g mask es a x = fails_with g mask es a x (entry_for g es x)

abbrev pub NobodyFails : Graph → ℕ → List Entry → SystemId → Type 0
NobodyFails g mask es a = AllByRecursion (λ x. fails g mask es a x ≡ false) (systems_of g.bridges)

-- Yes where no bridge fails, and No with the number of the first that does, counted from 1
abbrev pub verdict_by : Option ℕ → Verdict
verdict_by None = Verdict.Yes
verdict_by (Some k) = Verdict.No k

abbrev pub verdict_of : Graph → ℕ → List Entry → SystemId → Verdict
verdict_of g mask es a = verdict_by (position_from (fails g mask es a) 1 (systems_of g.bridges))
