-- Entries that no bridge fails, and the paths that are read off them.
use Rattle.std.proofs.Common.{◌≡◌, ◌↔◌, inl, inr, ltb, ℕ, ◌+◌, List, [], ◌∷◌, length, map, Bool, true, false, true≢false, not, cond, Option, Some, None, is_some, option_map, if◌then◌else◌, refl, sym, ap, subst, ◌∙◌}
use Rattle.std.proofs.lemmas.List.{length-map}
use Rattle.std.specs.List.{position, position_or_len, position_from}
use Rattle.spb_types.specs.Address.{same_system}
use Rattle.spb_types.specs.Graph.{IsBridge, IsValid, systems_of}
use Rattle.spb_types.specs.declared.address.SystemId.{SystemId}
use Rattle.spb_types.specs.declared.graph.Graph.{Graph}
use Rattle.spb_types.specs.declared.graph.GraphBridge.{GraphBridge}
use Rattle.ect_trees.specs.declared.search.Label.{Label}
use Rattle.ect_trees.specs.Arcs.{IsBridgeAt, place_in}
use Rattle.ect_trees.specs.Best.{best_of}
use Rattle.ect_trees.specs.Path.{cost_of}
use Rattle.ect_trees.specs.Search.{path_of}
use Rattle.ect_trees.proofs.Exists.{best_of_cases}
use Rattle.ect_trees.proofs.Extended.{at_same}
use Rattle.ect_trees.proofs.Places.{place_found, found_place}
use Rattle.ect_trees.proofs.Walks.{path_end, path_bridges}
use Rattle.what_if.specs.declared.checking.Verdict.TheVariants.{Yes, No}
use Rattle.what_if.specs.declared.entry.Entry.{Entry}
use Rattle.what_if.specs.Following.{way_of}
use Rattle.what_if.specs.Failing.{is_start, fails, NobodyFails, verdict_by, verdict_of}
use Rattle.what_if.specs.Entries.{before_last, named, entry_by, best_entry, best_entries}
use Rattle.what_if.specs.Labels.{IsWay, IsWayTo, IsPathBy}
use Rattle.what_if.proofs.Passing.{passing_is_best}
use Rattle.what_if.proofs.Best.{best_passes}
use Rattle.what_if.proofs.Verdicts.{none_passes, none_is_found}

-- ---- the verdict

pub yes_is_best : (g : Graph) (mask : ℕ) (es : List Entry) (a : SystemId) → IsValid g → IsBridge g a → length es ≡ length g.bridges → (verdict_of g mask es a ≡ Yes) ↔ (es ≡ best_entries g mask a)
yes_is_best g mask es a valid bridge long = (passed, best)
  where
    no_yes : (k : ℕ) → No k ≡ Yes → ⊥
    no_yes k h = absurd cc

    none : (o : Option ℕ) → verdict_by o ≡ Yes → o ≡ None
    none None h = refl
    none (Some k) h = absurd (no_yes k h)

    passed : verdict_of g mask es a ≡ Yes → es ≡ best_entries g mask a
    passed h = (passing_is_best g mask a es valid bridge long (none_passes (fails g mask es a) 1 (systems_of g.bridges) (none (position_from (fails g mask es a) 1 (systems_of g.bridges)) h))).entries

    best : es ≡ best_entries g mask a → verdict_of g mask es a ≡ Yes
    best h = ap verdict_by (none_is_found (fails g mask es a) 1 (systems_of g.bridges) (subst (λ t. NobodyFails g mask t a) (sym h) (best_passes g mask a valid bridge)))

-- ---- where the source stands

not_start : (o : Option (List SystemId)) → is_start (entry_by o) ≡ false
not_start None = refl
not_start (Some p) = by (before_last p)
  where
    by : (o : Option SystemId) → is_start (named o) ≡ false
    by None = refl
    by (Some y) = refl

start_is : (g : Graph) (mask : ℕ) (a x : SystemId) → is_start (best_entry g mask a x) ≡ same_system x a
start_is g mask a x = by (same_system x a) refl
  where
    by : (t : Bool) → same_system x a ≡ t → is_start (if t then Entry.Start else entry_by (best_of g mask a x)) ≡ t
    by true s = refl
    by false s = not_start (best_of g mask a x)

same_place : (g : Graph) (mask : ℕ) (a : SystemId) (bs : List GraphBridge) → position_or_len is_start (map (best_entry g mask a) (systems_of bs)) ≡ place_in bs a
same_place g mask a [] = refl
same_place g mask a (b ∷ bs) = ap (λ t. cond (not t) (1 + position_or_len is_start (map (best_entry g mask a) (systems_of bs))) 0) (start_is g mask a b.id.system) ∙ ap (λ n. cond (not (same_system b.id.system a)) (1 + n) 0) (same_place g mask a bs)

source_stands : (g : Graph) (mask : ℕ) (a : SystemId) → position is_start (best_entries g mask a) ≡ position (λ b. same_system b.id.system a) g.bridges
source_stands g mask a =
    let long : length (best_entries g mask a) ≡ length g.bridges = length-map (systems_of g.bridges) (best_entry g mask a) ∙ length-map g.bridges (λ (b : GraphBridge). b.id.system) in
    ap (λ n. cond (ltb n (length (best_entries g mask a))) (Some n) None) (same_place g mask a g.bridges) ∙ ap (λ l. cond (ltb (place_in g.bridges a) l) (Some (place_in g.bridges a)) None) long

module _ (g : Graph) (es : List Entry) (valid : IsValid g) (long : length es ≡ length g.bridges) where
  stands : (mask : ℕ) (a : SystemId) → IsBridge g a → NobodyFails g mask es a → position is_start es ≡ position (λ b. same_system b.id.system a) g.bridges
  stands mask a bridge nobody = ap (position is_start) (passing_is_best g mask a es valid bridge long nobody).entries ∙ source_stands g mask a

  -- ---- the paths that are read off

  pub no_start : (to : SystemId) → position is_start es ≡ None → IsPathBy g es to None
  no_start to none mask a bridge nobody =
      let some : is_some (position (λ b. same_system b.id.system a) g.bridges) ≡ true = place_found g a bridge in
      absurd (true≢false (sym some ∙ ap is_some (sym (stands mask a bridge nobody) ∙ none)))

  pub no_bridge_there : (to : SystemId) → position (λ b. same_system b.id.system to) g.bridges ≡ None → IsPathBy g es to None
  no_bridge_there to none mask a bridge nobody = elim (best_of_cases g mask a to valid) [
    | inl h ↦ sym (ap (option_map (λ p. record { cost = cost_of g p; bridges = p })) h.1)
    | inr h ↦
        let there : IsBridge g to = path_bridges g a to to h.0 h.2.path (path_end g a to h.0 h.2.path) in
        let some : is_some (position (λ b. same_system b.id.system to) g.bridges) ≡ true = place_found g to there in
        absurd (true≢false (sym some ∙ ap is_some none))
  ]

  path_is : (way : Option (List SystemId)) (o : Option Label) → IsWay g way o → option_map path_of o ≡ option_map (λ p. record { cost = cost_of g p; bridges = p }) way
  path_is way None w = ap (option_map (λ p. record { cost = cost_of g p; bridges = p })) w.way_is
  path_is way (Some l) w =
      let path : Some (path_of l) ≡ Some (record { cost = cost_of g l.bridges.items; bridges = l.bridges.items }) = ap (λ n. Some (record { cost = n; bridges = l.bridges.items })) (w.cost_is l refl) in
      path ∙ ap (option_map (λ p. record { cost = cost_of g p; bridges = p })) w.way_is

  pub read_off : (to s : SystemId) (start place : ℕ) (o : Option Label) → position is_start es ≡ Some start → IsBridgeAt g start s → position (λ b. same_system b.id.system to) g.bridges ≡ Some place → IsWayTo g es s place o → IsPathBy g es to (option_map path_of o)
  read_off to s start place o found at there way mask a bridge nobody =
      let source : a ≡ s = at_same g start a s (found_place g a start (sym (stands mask a bridge nobody) ∙ found)) at in
      let own : IsWay g (way_of g es a to) o = subst (λ z. IsWay g (way_of g es z to) o) (sym source) (way to (found_place g to place there)) in
      path_is (way_of g es a to) o own ∙ ap (option_map (λ p. record { cost = cost_of g p; bridges = p })) ((passing_is_best g mask a es valid bridge long nobody).ways to)
