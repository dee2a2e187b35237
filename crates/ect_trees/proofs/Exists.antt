-- best_of looks at all node lists: it gives the best path, and nothing exactly where there is no path.
use Rattle.std.proofs.Common.{◌≡◌, ℕ, zero, suc, ◌≤◌, Bool, true, false, true≢false, not, ◌&&◌, ◌⊎◌, inl, inr, ◌↔◌, List, [], ◌∷◌, length, map, Some, None, is_some, if◌then◌else◌, refl, sym, ap, ◌∙◌, subst, arith, is_gt, Ordering, Less, Equal, Greater, Decides}
use Rattle.std.proofs.lemmas.Bool.Decides.{Decides-and, Decides-or, Decides-not}
use Rattle.spb_types.specs.Address.{same_system}
use Rattle.spb_types.specs.Graph.{IsAmong, IsDistinct, IsValid, systems_of, cost_between}
use Rattle.spb_types.specs.declared.address.SystemId.{SystemId}
use Rattle.spb_types.specs.declared.graph.Graph.{Graph}
use Rattle.ect_trees.specs.declared.key.PathKey.{PathKey}
use Rattle.ect_trees.specs.Path.{Leads, IsPath}
use Rattle.ect_trees.specs.Key.{key_of, key_cmp, IsBelow}
use Rattle.ect_trees.specs.Best.{IsBest, is_among, is_distinct, leads, is_path, lists_within, paths_of, lower_of, least_of, best_of}
use Rattle.ect_trees.specs.Laws.{IsLeast}
use Rattle.ect_trees.proofs.Among.{same_is, same_self}
use Rattle.ect_trees.proofs.Walks.{path_bridges, path_length}
use Rattle.ect_trees.proofs.Members.{Has, has_map, has_flat_map, has_filter, filter_has}
use Rattle.ect_trees.proofs.KeyOrder.{not_below_itself, not_below_both, below_trans, below_cases}
use Rattle.ect_trees.proofs.Least.{least_is_best, best_unique}

Decides-same : (x y : SystemId) → Decides (same_system x y) (x ≡ y)
Decides-same x y = (same_is x y, λ e. subst (λ t. same_system x t ≡ true) e (same_self x))

pub Decides-among : (x : SystemId) (ys : List SystemId) → Decides (is_among x ys) (IsAmong x ys)
Decides-among x [] = ((λ e. absurd (true≢false (sym e))), (λ h. absurd h))
Decides-among x (y ∷ ys) = Decides-or (same_system x y) (is_among x ys) (Decides-same x y) (Decides-among x ys)

pub Decides-distinct : (xs : List SystemId) → Decides (is_distinct xs) (IsDistinct xs)
Decides-distinct [] = ((λ e. tt), (λ h. refl))
Decides-distinct (x ∷ xs) = Decides-and (not (is_among x xs)) (is_distinct xs) (Decides-not (is_among x xs) (Decides-among x xs)) (Decides-distinct xs)

Decides-three : {P Q R : Type 0} (x y z : Bool) → Decides x P → Decides y Q → Decides z R → Decides (x && (y && z)) (P × Q × R)
Decides-three x y z p q r =
    let both = Decides-and x (y && z) p (Decides-and y z q r) in
    ((λ e. let h = both.0 e in (h.0, h.1.0, h.1.1)), (λ h. both.1 (h.0, (h.1, h.2))))

pub Decides-leads : (g : Graph) (a b : SystemId) (xs : List SystemId) → Decides (leads g a xs b) (Leads g a xs b)
Decides-leads g a b [] = Decides-and (is_among a (systems_of g.bridges)) (same_system a b) (Decides-among a (systems_of g.bridges)) (Decides-same a b)
Decides-leads g a b (x ∷ xs) =
    Decides-three (is_among a (systems_of g.bridges)) (is_some (cost_between g a x)) (leads g x xs b) (Decides-among a (systems_of g.bridges)) ((λ e. e), (λ e. e)) (Decides-leads g x b xs)

pub Decides-path : (g : Graph) (a b : SystemId) (p : List SystemId) → Decides (is_path g a b p) (IsPath g a b p)
Decides-path g a b [] = ((λ e. absurd (true≢false (sym e))), (λ h. absurd h))
Decides-path g a b (x ∷ xs) = Decides-three (same_system x a) (leads g x xs b) (is_distinct (x ∷ xs)) (Decides-same x a) (Decides-leads g x b xs) (Decides-distinct (x ∷ xs))

among_has : (x : SystemId) (ys : List SystemId) → IsAmong x ys → Has x ys
among_has x [] h = absurd h
among_has x (y ∷ ys) (inl e) = inl e
among_has x (y ∷ ys) (inr h) = inr (among_has x ys h)

-- every short list of these system ids is listed
pub listed_within : (n : ℕ) (xs p : List SystemId) → length p ≤ n → ((x : SystemId) → IsAmong x p → IsAmong x xs) → Has p (lists_within n xs)
listed_within zero xs [] h w = inl refl
listed_within zero xs (x ∷ p) h w = absurd (omega (arith, h))
listed_within (suc n) xs [] h w = inl refl
listed_within (suc n) xs (x ∷ p) h w =
    let rest : Has p (lists_within n xs) = listed_within n xs p (omega (arith, h)) (λ z i. w z (inr i)) in
    inr (has_flat_map (λ y. map (λ q. y ∷ q) (lists_within n xs)) x (x ∷ p) xs (among_has x xs (w x (inl refl))) (has_map (λ q. x ∷ q) p (lists_within n xs) rest))

-- every path is listed, and nothing else
pub path_listed : (g : Graph) (a b : SystemId) (p : List SystemId) → IsPath g a b p → Has p (paths_of g a b)
path_listed g a b p w =
    let short : length p ≤ length g.bridges = omega (arith, path_length g a b p w) in
    has_filter (is_path g a b) p (lists_within (length g.bridges) (systems_of g.bridges)) (listed_within (length g.bridges) (systems_of g.bridges) p short (λ x i. path_bridges g a b x p w i)) ((Decides-path g a b p).1 w)

pub listed_path : (g : Graph) (a b : SystemId) (p : List SystemId) → Has p (paths_of g a b) → IsPath g a b p
listed_path g a b p h = (Decides-path g a b p).0 (filter_has (is_path g a b) p (lists_within (length g.bridges) (systems_of g.bridges)) h)

-- p is one of the lists, and none of them is below it
record IsLowest (g : Graph) (mask : ℕ) (ps : List (List SystemId)) (p : List SystemId) : Type 0 where
  listed : Has p ps
  lowest : (q : List SystemId) → Has q ps → IsBelow (key_of g mask q) (key_of g mask p) → ⊥

gt_not_less : (o : Ordering) → is_gt o ≡ true → o ≡ Less → ⊥
gt_not_less o h e = true≢false (sym h ∙ ap is_gt e)

not_above : (o : Ordering) (k l : PathKey) → key_cmp k l ≡ o → is_gt o ≡ false → IsBelow l k → ⊥
not_above Less k l e h b = not_below_both k l e b
not_above Equal k l e h b = not_below_itself l (subst (λ t. IsBelow l t) (Rattle.ect_trees.proofs.KeyOrder.keys_tied k l e) b)
not_above Greater k l e h b = true≢false h

-- what is not above the second is not above what is above the second
under : (k l m : PathKey) → (IsBelow m l → ⊥) → (IsBelow l k → ⊥) → IsBelow m k → ⊥
under k l m n o b =
    elim (below_cases k l) [
      | inl c ↦ n (below_trans m k l b c)
      | inr (inl e) ↦ n (subst (λ t. IsBelow m t) e b)
      | inr (inr c) ↦ o c
    ]

lowest_of : (g : Graph) (mask : ℕ) (p r : List SystemId) (ps : List (List SystemId)) (t : Bool) → is_gt (key_cmp (key_of g mask p) (key_of g mask r)) ≡ t → IsLowest g mask ps r → IsLowest g mask (p ∷ ps) (if t then r else p)
lowest_of g mask p r ps true e h = record { listed = inr h.listed; lowest = at }
  where
    at : (q : List SystemId) → Has q (p ∷ ps) → IsBelow (key_of g mask q) (key_of g mask r) → ⊥
    at q (inl s) b = gt_not_less (key_cmp (key_of g mask p) (key_of g mask r)) e (subst (λ t. IsBelow (key_of g mask t) (key_of g mask r)) s b)
    at q (inr i) b = h.lowest q i b
lowest_of g mask p r ps false e h = record { listed = inl refl; lowest = at }
  where
    at : (q : List SystemId) → Has q (p ∷ ps) → IsBelow (key_of g mask q) (key_of g mask p) → ⊥
    at q (inl s) b = not_below_itself (key_of g mask p) (subst (λ t. IsBelow (key_of g mask t) (key_of g mask p)) s b)
    at q (inr i) b =
        under (key_of g mask p) (key_of g mask r) (key_of g mask q) (h.lowest q i) (not_above (key_cmp (key_of g mask p) (key_of g mask r)) (key_of g mask p) (key_of g mask r) refl e) b

-- the last list alone
lowest_last : (g : Graph) (mask : ℕ) (p : List SystemId) → IsLowest g mask (p ∷ []) p
lowest_last g mask p = record { listed = inl refl; lowest = at }
  where
    at : (q : List SystemId) → Has q (p ∷ []) → IsBelow (key_of g mask q) (key_of g mask p) → ⊥
    at q (inl s) b = not_below_itself (key_of g mask p) (subst (λ t. IsBelow (key_of g mask t) (key_of g mask p)) s b)
    at q (inr i) b = i

-- a list of lists is empty, or least_of gives a lowest one
least_of_lowest : (g : Graph) (mask : ℕ) (ps : List (List SystemId)) → ((ps ≡ []) × (least_of g mask ps ≡ None)) ⊎ ((p : List SystemId) × (least_of g mask ps ≡ Some p) × IsLowest g mask ps p)
least_of_lowest g mask [] = inl (refl, refl)
least_of_lowest g mask (p ∷ ps) = more (least_of_lowest g mask ps)
  where
    more : ((ps ≡ []) × (least_of g mask ps ≡ None)) ⊎ ((q : List SystemId) × (least_of g mask ps ≡ Some q) × IsLowest g mask ps q) → ((p ∷ ps ≡ []) × (least_of g mask (p ∷ ps) ≡ None)) ⊎ ((q : List SystemId) × (least_of g mask (p ∷ ps) ≡ Some q) × IsLowest g mask (p ∷ ps) q)
    more (inl h) = inr (p, ap (λ o. Some (lower_of g mask p o)) h.1, subst (λ t. IsLowest g mask (p ∷ t) p) (sym h.0) (lowest_last g mask p))
    more (inr h) =
        inr (lower_of g mask p (Some h.0), ap (λ o. Some (lower_of g mask p o)) h.1, lowest_of g mask p h.0 ps (is_gt (key_cmp (key_of g mask p) (key_of g mask h.0))) refl h.2)

-- there is no path and best_of gives none, or it gives the best one
pub best_of_cases : (g : Graph) (mask : ℕ) (a b : SystemId) → IsValid g → (((p : List SystemId) → IsPath g a b p → ⊥) × (best_of g mask a b ≡ None)) ⊎ ((p : List SystemId) × (best_of g mask a b ≡ Some p) × IsBest g mask a b p)
unfolding best_of
best_of_cases g mask a b valid = cases_at (least_of_lowest g mask (paths_of g a b))
  where
    cases_at : ((paths_of g a b ≡ []) × (least_of g mask (paths_of g a b) ≡ None)) ⊎ ((p : List SystemId) × (least_of g mask (paths_of g a b) ≡ Some p) × IsLowest g mask (paths_of g a b) p) → (((p : List SystemId) → IsPath g a b p → ⊥) × (best_of g mask a b ≡ None)) ⊎ ((p : List SystemId) × (best_of g mask a b ≡ Some p) × IsBest g mask a b p)
    cases_at (inl h) = inl ((λ p w. subst (λ t. Has p t) h.0 (path_listed g a b p w)), h.1)
    cases_at (inr h) =
        let least : IsLeast g mask a b h.0 = record { path = listed_path g a b h.0 h.2.listed; least = λ q w m. h.2.lowest q (path_listed g a b q w) m } in
        inr (h.0, h.1, least_is_best g mask a b h.0 valid least)

-- where there is a path, there is a best one
pub best_exists : (g : Graph) (mask : ℕ) (a b : SystemId) (p : List SystemId) → IsValid g → IsPath g a b p → (q : List SystemId) × IsBest g mask a b q
best_exists g mask a b p valid w =
    elim (best_of_cases g mask a b valid) [
      | inl h ↦ absurd (h.0 p w)
      | inr h ↦ (h.0, h.2)
    ]

pub best_of_none : (g : Graph) (mask : ℕ) (a b : SystemId) → IsValid g → (best_of g mask a b ≡ None) ↔ ((p : List SystemId) → IsPath g a b p → ⊥)
best_of_none g mask a b valid =
    elim (best_of_cases g mask a b valid) [
      | inl h ↦ ((λ e. h.0), (λ n. h.1))
      | inr h ↦ ((λ e. let t : None ≡ Some h.0 = sym e ∙ h.1 in absurd (cc)), (λ n. absurd (n h.0 h.2.path)))
    ]

pub best_of_some : (g : Graph) (mask : ℕ) (a b : SystemId) (p : List SystemId) → IsValid g → (best_of g mask a b ≡ Some p) ↔ IsBest g mask a b p
best_of_some g mask a b p valid =
    elim (best_of_cases g mask a b valid) [
      | inl h ↦ ((λ e. let t : None ≡ Some p = sym h.1 ∙ e in absurd (cc)), (λ k. absurd (h.0 p k.path)))
      | inr h ↦ ((λ e. let t : Some h.0 ≡ Some p = sym h.1 ∙ e in let s : h.0 ≡ p = cc in subst (λ q. IsBest g mask a b q) s h.2), (λ k. h.1 ∙ ap Some (best_unique g mask a b h.0 p h.2 k)))
    ]
