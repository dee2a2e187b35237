-- The tree that is found for a source and a mask.
use Rattle.std.proofs.Common.{◌≡◌, ◌↔◌, ℕ, suc, ◌<◌, Bool, true, false, true≢false, not, ◌&&◌, ◌||◌, inl, inr, List, [], ◌∷◌, length, map, get_or, find, cond, Option, Some, None, option_map, IsSome, All, refl, sym, ap, ◌∙◌, subst, arith, nat_eq}
use Rattle.std.specs.List.{list_any, slice_get, position}
use Rattle.std.proofs.lemmas.Option.{none-some, same_Some, slice_get-map, slice_get-get_or}
use Rattle.std.proofs.lemmas.Bool.{eqb-true}
use Rattle.spb_types.specs.Address.{same_system}
use Rattle.spb_types.specs.Graph.{IsAmong, IsBridge, IsValid, systems_of}
use Rattle.spb_types.specs.declared.address.SystemId.{SystemId}
use Rattle.spb_types.specs.declared.graph.GraphBridge.{GraphBridge}
use Rattle.spb_types.specs.declared.graph.Graph.{Graph}
use Rattle.ect_trees.specs.Tree.{Paths, GivesBest, IsGrown}
use Rattle.ect_trees.specs.Arcs.{IsBridgeAt}
use Rattle.ect_trees.proofs.Among.{same_is, same_self}
use Rattle.ect_trees.proofs.Places.{place_found, found_place, at_among, at_within}
use Rattle.ect_trees.proofs.TreesAlike.{grown_is_best}
use Rattle.fork_trees.specs.declared.set.Row.{Row}
use Rattle.fork_trees.specs.Set.{Kept, Answers, AreTrees, HasRows, has_tree}
use Rattle.fork_trees.proofs.Kept.{trees_long}

-- ---- tests on lists

-- what is found passes, and so some element does
found_passes : {X : Type 0} (p : X → Bool) (xs : List X) (x : X) → find p xs ≡ Some x → (p x ≡ true) × (list_any p xs ≡ true)
found_passes p [] x h = absurd (none-some x h)
found_passes p (y ∷ ys) x h = at (p y) refl h (found_passes p ys x)
  where
    at : (b : Bool) → p y ≡ b → cond b (Some y) (find p ys) ≡ Some x → (find p ys ≡ Some x → (p x ≡ true) × (list_any p ys ≡ true)) → (p x ≡ true) × ((p y || list_any p ys) ≡ true)
    at true e k r = (ap p (sym (same_Some y x k)) ∙ e, ap (λ b. b || list_any p ys) e)
    at false e k r = (let s = r k in (s.0, ap (λ b. b || list_any p ys) e ∙ s.1))

-- what holds of each holds of what is found
found_has : {X : Type 0} (P : X → Type 0) (p : X → Bool) (xs : List X) (x : X) → All P xs → find p xs ≡ Some x → P x
found_has P p [] x all h = absurd (none-some x h)
found_has P p (y ∷ ys) x all h = at (p y) h (found_has P p ys x (λ k d l. all (suc k) d (omega arith)))
  where
    at : (b : Bool) → cond b (Some y) (find p ys) ≡ Some x → (find p ys ≡ Some x → P x) → P x
    at true k r = subst P (same_Some y x k) (all 0 y (omega arith))
    at false k r = r k

found_none : {X : Type 0} (p : X → Bool) (xs : List X) → find p xs ≡ None → list_any p xs ≡ false
found_none p [] h = refl
found_none p (y ∷ ys) h = at (p y) refl h (found_none p ys)
  where
    at : (b : Bool) → p y ≡ b → cond b (Some y) (find p ys) ≡ None → (find p ys ≡ None → list_any p ys ≡ false) → (p y || list_any p ys) ≡ false
    at true e k r = absurd (none-some y (sym k))
    at false e k r = ap (λ b. b || list_any p ys) e ∙ r k

any_map : {X Y : Type 0} (f : X → Y) (p : Y → Bool) (xs : List X) → list_any p (map f xs) ≡ list_any (λ x. p (f x)) xs
any_map f p [] = refl
any_map f p (x ∷ xs) = ap (λ b. p (f x) || b) (any_map f p xs)

-- ---- bridges

any_bridge : (bs : List GraphBridge) (x : SystemId) → list_any (λ b. same_system b.id.system x) bs ≡ true → IsAmong x (systems_of bs)
any_bridge [] x h = absurd (true≢false (sym h))
any_bridge (b ∷ bs) x h = at (same_system b.id.system x) refl h (any_bridge bs x)
  where
    at : (t : Bool) → same_system b.id.system x ≡ t → (t || list_any (λ c. same_system c.id.system x) bs) ≡ true → (list_any (λ c. same_system c.id.system x) bs ≡ true → IsAmong x (systems_of bs)) → IsAmong x (systems_of (b ∷ bs))
    at true e k r = inl (sym (same_is b.id.system x e))
    at false e k r = inr (r k)

bridge_any : (bs : List GraphBridge) (x : SystemId) → IsAmong x (systems_of bs) → list_any (λ b. same_system b.id.system x) bs ≡ true
bridge_any [] x h = absurd h
bridge_any (b ∷ bs) x (inl e) = ap (λ t. t || list_any (λ c. same_system c.id.system x) bs) (subst (λ z. same_system b.id.system z ≡ true) (sym e) (same_self b.id.system))
bridge_any (b ∷ bs) x (inr h) = at (same_system b.id.system x) (bridge_any bs x h)
  where
    at : (t : Bool) → list_any (λ c. same_system c.id.system x) bs ≡ true → (t || list_any (λ c. same_system c.id.system x) bs) ≡ true
    at true k = refl
    at false k = k

-- where no place is found, no bridge has this system id
no_place : (g : Graph) (x : SystemId) → position (λ b. same_system b.id.system x) g.bridges ≡ None → list_any (λ b. same_system b.id.system x) g.bridges ≡ false
no_place g x h = at (list_any (λ b. same_system b.id.system x) g.bridges) refl
  where
    at : (t : Bool) → list_any (λ b. same_system b.id.system x) g.bridges ≡ t → t ≡ false
    at true e = absurd (true≢false (sym (subst (λ o. IsSome o) h (place_found g x (any_bridge g.bridges x e)))))
    at false e = refl

-- a place is found exactly where it is a bridge
pub place_tells : (g : Graph) (x : SystemId) → IsSome (position (λ b. same_system b.id.system x) g.bridges) ↔ IsBridge g x
place_tells g x = (λ s. at (position (λ b. same_system b.id.system x) g.bridges) refl s, place_found g x)
  where
    at : (o : Option ℕ) → position (λ b. same_system b.id.system x) g.bridges ≡ o → IsSome (position (λ b. same_system b.id.system x) g.bridges) → IsBridge g x
    at (Some place) e s = at_among (systems_of g.bridges) place x (found_place g x place e)
    at None e s = absurd (true≢false (sym (subst (λ o. IsSome o) e s)))

-- ---- answers

no_answer : (s : Kept) (source : SystemId) (mask : ℕ) → has_tree s source mask ≡ false → Answers s source mask None
no_answer s source mask h = record { some = sym h; best = tt }

pub none_failed : (s : Kept) (source : SystemId) (mask : ℕ) → s.failed ≡ true → Answers s source mask None
none_failed s source mask h = no_answer s source mask (ap (λ f. not f && (list_any (λ m. nat_eq m mask) s.masks && list_any (λ b. same_system b.id.system source) s.graph.bridges)) h)

and_false : (a b c : Bool) → b ≡ false → (a && (b && c)) ≡ false
and_false true b c h = ap (λ t. t && c) h
and_false false b c h = refl

and_last_false : (a b c : Bool) → c ≡ false → (a && (b && c)) ≡ false
and_last_false true true c h = h
and_last_false true false c h = refl
and_last_false false b c h = refl

-- the tests of the masks and of the rows are one
masks_any : (g : Graph) (masks : List ℕ) (rows : List Row) (mask : ℕ) → HasRows g masks rows → list_any (λ m. nat_eq m mask) masks ≡ list_any (λ r. nat_eq r.mask mask) rows
masks_any g masks rows mask has =
    ap (list_any (λ m. nat_eq m mask)) (sym has.masks_are) ∙ any_map (λ r. r.mask) (λ m. nat_eq m mask) rows

pub none_under : (s : Kept) (rows : List Row) (source : SystemId) (mask : ℕ) → HasRows s.graph s.masks rows → find (λ r. nat_eq r.mask mask) rows ≡ None → Answers s source mask None
none_under s rows source mask has h =
    no_answer s source mask (and_false (not s.failed) (list_any (λ m. nat_eq m mask) s.masks) (list_any (λ b. same_system b.id.system source) s.graph.bridges) (masks_any s.graph s.masks rows mask has ∙ found_none (λ r. nat_eq r.mask mask) rows h))

pub none_from : (s : Kept) (source : SystemId) (mask : ℕ) → position (λ b. same_system b.id.system source) s.graph.bridges ≡ None → Answers s source mask None
none_from s source mask h =
    no_answer s source mask (and_last_false (not s.failed) (list_any (λ m. nat_eq m mask) s.masks) (list_any (λ b. same_system b.id.system source) s.graph.bridges) (no_place s.graph source h))

-- the trees of the row that is found
pub row_trees : (g : Graph) (masks : List ℕ) (rows : List Row) (mask : ℕ) (row : Row) → HasRows g masks rows → find (λ r. nat_eq r.mask mask) rows ≡ Some row → AreTrees g mask row.trees.items
row_trees g masks rows mask row has h =
    let same : row.mask ≡ mask = eqb-true row.mask mask (found_passes (λ r. nat_eq r.mask mask) rows row h).0 in
    subst (λ m. AreTrees g m row.trees.items) same (found_has (λ r. AreTrees g r.mask r.trees.items) (λ r. nat_eq r.mask mask) rows row has.trees h)

-- there is one at the place of each bridge
pub tree_within : (g : Graph) (mask : ℕ) (trees : List Paths) (source : SystemId) (place : ℕ) → AreTrees g mask trees → position (λ b. same_system b.id.system source) g.bridges ≡ Some place → place < length trees
tree_within g mask trees source place are h =
    let within : place < length g.bridges = at_within g place source (found_place g source place h) in
    let long : length trees ≡ length g.bridges = trees_long g mask trees are in
    omega arith

pub tree_answers : (s : Kept) (rows : List Row) (row : Row) (source : SystemId) (mask place : ℕ) (t : Paths) → IsValid s.graph → s.failed ≡ false → HasRows s.graph s.masks rows → find (λ r. nat_eq r.mask mask) rows ≡ Some row → position (λ b. same_system b.id.system source) s.graph.bridges ≡ Some place → t ≡ get_or row.trees.items place t → Answers s source mask (Some t)
tree_answers s rows row source mask place t v can has found here is =
    let trees = row_trees s.graph s.masks rows mask row has found in
    let within : place < length row.trees.items = tree_within s.graph mask row.trees.items source place trees here in
    let stands : IsBridgeAt s.graph place source = found_place s.graph source place here in
    let read : slice_get (map (λ p. p.source) row.trees.items) place ≡ Some t.source =
    slice_get-map (λ (p : Paths). p.source) row.trees.items place ∙ ap (option_map (λ (p : Paths). p.source)) (slice_get-get_or row.trees.items place t within ∙ ap Some (sym is)) in
    let same : t.source ≡ source = same_Some t.source source (sym read ∙ (ap (λ xs. slice_get xs place) trees.sources ∙ stands)) in
    let under : list_any (λ m. nat_eq m mask) s.masks ≡ true = masks_any s.graph s.masks rows mask has ∙ (found_passes (λ r. nat_eq r.mask mask) rows row found).1 in
    let from : list_any (λ b. same_system b.id.system source) s.graph.bridges ≡ true = bridge_any s.graph.bridges source (at_among (systems_of s.graph.bridges) place source stands) in
    record {
      some = λ i. not (sym can i) && (sym under i && sym from i);
      best = subst (λ x. GivesBest s.graph mask x t) same (grown_is_best s.graph mask t v (subst (λ p. IsGrown s.graph mask p) (sym is) (trees.grown place t within)));
    }
