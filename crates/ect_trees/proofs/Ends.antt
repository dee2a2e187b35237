-- The paths of the labels, as the map from the bridges where they end.
use Rattle.std.proofs.Common.{◌≡◌, ℕ, zero, suc, ◌-◌, ◌<◌, Bool, true, false, true≢false, if◌then◌else◌, ◌⊎◌, inl, inr, List, [], ◌∷◌, length, Option, Some, None, option_map, refl, sym, ap, ◌∙◌, subst, arith}
use Rattle.std.specs.List.{slice_get}
use Rattle.std.proofs.lemmas.List.{length-map}
use Rattle.std.proofs.lemmas.Option.{same_Some, none-some, slice_get-get_or}
use Rattle.spb_types.specs.Address.{same_system}
use Rattle.spb_types.specs.Graph.{IsValid, systems_of}
use Rattle.spb_types.specs.declared.address.SystemId.{SystemId}
use Rattle.spb_types.specs.declared.graph.Graph.{Graph}
use Rattle.spb_types.specs.declared.tables.Path.{Path}
use Rattle.ect_trees.specs.declared.search.Label.{Label}
use Rattle.ect_trees.specs.Path.{IsPath, cost_of}
use Rattle.ect_trees.specs.Path as path
use Rattle.ect_trees.specs.Best.{IsBest, best_of}
use Rattle.ect_trees.specs.Tree.{ends_at, path_in, best_path}
use Rattle.ect_trees.specs.Arcs.{IsBridgeAt, place_in}
use Rattle.ect_trees.specs.Search.{IsLabelFrom, label_at, AreLabelsFrom, AreBestFrom, path_of, paths_in}
use Rattle.ect_trees.proofs.Among.{same_is, same_self}
use Rattle.ect_trees.proofs.Exists.{best_of_cases}
use Rattle.ect_trees.proofs.Places.{place_is}

leads_ends : (g : Graph) (a b : SystemId) (xs : List SystemId) → path.Leads g a xs b → ends_at (a ∷ xs) b ≡ true
leads_ends g a b [] l = subst (λ t. same_system a t ≡ true) l.1 (same_self a)
leads_ends g a b (x ∷ xs) l = leads_ends g x b xs l.2

-- a path ends at its last bridge
path_ends : (g : Graph) (a b : SystemId) (p : List SystemId) → IsPath g a b p → ends_at p b ≡ true
path_ends g a b [] w = absurd w
path_ends g a b (x ∷ xs) w = leads_ends g x b xs w.1

leads_once : (g : Graph) (a b c : SystemId) (xs : List SystemId) → path.Leads g a xs b → ends_at (a ∷ xs) c ≡ true → b ≡ c
leads_once g a b c [] l h = sym l.1 ∙ same_is a c h
leads_once g a b c (x ∷ xs) l h = leads_once g x b c xs l.2 h

-- and at no other
pub path_once : (g : Graph) (a b c : SystemId) (p : List SystemId) → IsPath g a b p → ends_at p c ≡ true → b ≡ c
path_once g a b c [] w h = absurd w
path_once g a b c (x ∷ xs) w h = leads_once g x b c xs w.1 h

-- a label whose path is found
pub record Found (ls : List (Option Label)) (to : SystemId) (p : Path) : Type 0 where
  pub place : ℕ
  pub label : Label
  pub within : place < length ls
  pub here : label_at ls place ≡ Some label
  pub path_is : path_of label ≡ p
  pub ends : ends_at label.bridges.items to ≡ true

pub found_later : (o : Option Label) (ls : List (Option Label)) (to : SystemId) (p : Path) → Found ls to p → Found (o ∷ ls) to p
found_later o ls to p f = record { place = suc f.place; label = f.label; within = omega (arith, f.within); here = f.here; path_is = f.path_is; ends = f.ends }

-- what path_in finds is the path of a label that ends there
pub found : (ls : List (Option Label)) (to : SystemId) (p : Path) → path_in (paths_in ls) to ≡ Some p → Found ls to p
found [] to p h = absurd (none-some p h)
found (None ∷ ls) to p h = found_later None ls to p (found ls to p h)
found (Some l ∷ ls) to p h = by (ends_at l.bridges.items to) refl h (found ls to p)
  where
    by : (t : Bool) → ends_at l.bridges.items to ≡ t → (if t then Some (path_of l) else path_in (paths_in ls) to) ≡ Some p → (path_in (paths_in ls) to ≡ Some p → Found ls to p) → Found (Some l ∷ ls) to p
    by true e k ih = record { place = 0; label = l; within = omega arith; here = refl; path_is = same_Some (path_of l) p k; ends = e }
    by false e k ih = found_later (Some l) ls to p (ih k)

-- where path_in finds nothing, no label's path ends there
pub missed : (ls : List (Option Label)) (to : SystemId) (place : ℕ) (l : Label) → path_in (paths_in ls) to ≡ None → label_at ls place ≡ Some l → ends_at l.bridges.items to ≡ true → ⊥
missed [] to place l h e t = none-some l e
missed (None ∷ ls) to zero l h e t = none-some l e
missed (None ∷ ls) to (suc place) l h e t = missed ls to place l h e t
missed (Some k ∷ ls) to place l h e t = by (ends_at k.bridges.items to) refl h place e (λ m i f. missed ls to i l m f t)
  where
    by : (b : Bool) → ends_at k.bridges.items to ≡ b → (if b then Some (path_of k) else path_in (paths_in ls) to) ≡ None → (place : ℕ) → label_at (Some k ∷ ls) place ≡ Some l → (path_in (paths_in ls) to ≡ None → (i : ℕ) → label_at ls i ≡ Some l → ⊥) → ⊥
    by true b m place f ih = none-some (path_of k) (sym m)
    by false b m zero f ih = true≢false (sym (subst (λ r. ends_at r.bridges.items to ≡ true) (sym (same_Some k l f)) t) ∙ b)
    by false b m (suc place) f ih = ih m place f

-- the bridge at a place
pub stands : (g : Graph) (a : SystemId) (ls : List (Option Label)) (place : ℕ) → AreLabelsFrom g a ls → place < length ls → (x : SystemId) × IsBridgeAt g place x
stands g a ls place labels within =
    let long : length (systems_of g.bridges) ≡ length g.bridges = length-map g.bridges _ in
    let here = λ (d : SystemId). slice_get-get_or (systems_of g.bridges) place d (omega (arith, within, labels.places, long)) in
    (_, here a)

-- the map has the best path from the source to each system id that has one, and nothing else
pub paths_are_best : (g : Graph) (mask : ℕ) (a : SystemId) (ls : List (Option Label)) (to : SystemId) → IsValid g → AreBestFrom g mask a ls → path_in (paths_in ls) to ≡ best_path g mask a to
paths_are_best g mask a ls to valid best = by (path_in (paths_in ls) to) refl (best_of_cases g mask a to valid)
  where
    -- a path that is found leads to its end
    leads : (p : Path) → path_in (paths_in ls) to ≡ Some p → (f : Found ls to p) × IsBridgeAt g f.place to × IsLabelFrom g a to f.label
    leads p h =
        let f = found ls to p h in
        let x = stands g a ls f.place best.labels f.within in
        let label = best.labels.each f.place x.0 f.label x.1 f.here in
        let same : x.0 ≡ to = path_once g a x.0 to f.label.bridges.items label.path f.ends in
        (f, subst (IsBridgeAt g f.place) same x.1, subst (λ t. IsLabelFrom g a t f.label) same label)

    by : (o : Option Path) → path_in (paths_in ls) to ≡ o → (((p : List SystemId) → IsPath g a to p → ⊥) × (best_of g mask a to ≡ None)) ⊎ ((p : List SystemId) × (best_of g mask a to ≡ Some p) × IsBest g mask a to p) → path_in (paths_in ls) to ≡ best_path g mask a to
    by None h (inl n) = h ∙ sym (ap (option_map (λ p. record { cost = cost_of g p; bridges = p })) n.1)
    by (Some p) h (inl n) = let l = leads p h in absurd (n.0 l.0.label.bridges.items l.2.path)
    by None h (inr b) =
        let place : ℕ = place_in g.bridges to in
        absurd (lost (label_at ls place) place b.0 refl b.2.path (best.best to ∙ b.1))
      where
        lost : (o : Option Label) (place : ℕ) (p : List SystemId) → label_at ls place ≡ o → IsPath g a to p → option_map (λ (l : Label). l.bridges.items) o ≡ Some p → ⊥
        lost None place p e w k = none-some p k
        lost (Some l) place p e w k = missed ls to place l h e (subst (λ t. ends_at t to ≡ true) (sym (same_Some l.bridges.items p k)) (path_ends g a to p w))
    by (Some p) h (inr b) =
        let l = leads p h in
        let place : place_in g.bridges to ≡ l.0.place = place_is g l.0.place to valid l.1 in
        let here : label_at ls (place_in g.bridges to) ≡ Some l.0.label = ap (label_at ls) place ∙ l.0.here in
        let same : l.0.label.bridges.items ≡ b.0 = same_Some l.0.label.bridges.items b.0 (sym (ap (option_map (λ (t : Label). t.bridges.items)) here) ∙ (best.best to ∙ b.1)) in
        let cost : l.0.label.cost ≡ cost_of g b.0 = l.2.cost_is ∙ ap (cost_of g) same in
        let whole : path_of l.0.label ≡ record { cost = cost_of g b.0; bridges = b.0 } = λ i. record { cost = cost i; bridges = same i } in
        h ∙ (ap Some (sym l.0.path_is ∙ whole) ∙ sym (ap (option_map (λ p. record { cost = cost_of g p; bridges = p })) b.1))

-- a list that has a last element ends there alone
pub ends_at_last : (xs : List SystemId) (z x : SystemId) → slice_get xs (length xs - 1) ≡ Some z → ends_at xs x ≡ same_system z x
ends_at_last [] z x h = absurd (none-some z h)
ends_at_last (y ∷ []) z x h = ap (λ t. same_system t x) (same_Some y z h)
ends_at_last (y ∷ w ∷ ws) z x h =
    let n : length (y ∷ w ∷ ws) - 1 ≡ suc (length (w ∷ ws) - 1) = omega arith in
    ends_at_last (w ∷ ws) z x (subst (λ t. slice_get (y ∷ w ∷ ws) t ≡ Some z) n h)
