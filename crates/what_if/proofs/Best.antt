-- With the entries of the best paths no bridge fails.
use Rattle.std.proofs.Common.{◌≡◌, ℕ, zero, suc, ◌≤◌, List, [], ◌∷◌, ◌++◌, length, map, Bool, true, false, not, ◌&&◌, ◌||◌, true≢false, Option, Some, None, is_some, IsSome, if◌then◌else◌, inl, inr, ◌⊎◌, refl, sym, ap, subst, ◌∙◌, arith}
use Rattle.std.proofs.lemmas.List.{length-append}
use Rattle.std.specs.List.{AllByRecursion, list_any}
use Rattle.std.specs.Ordering.{is_lt}
use Rattle.std.specs.declared.cmp.Ordering.{Ordering}
use Rattle.std.specs.declared.cmp.Ordering.TheVariants.{Less, Equal, Greater}
use Rattle.spb_types.specs.Address.{same_system}
use Rattle.spb_types.specs.Graph.{IsAmong, IsBridge, IsValid, cost_between, systems_of}
use Rattle.spb_types.specs.declared.address.SystemId.{SystemId}
use Rattle.spb_types.specs.declared.graph.Graph.{Graph}
use Rattle.spb_types.specs.declared.graph.GraphBridge.{GraphBridge}
use Rattle.ect_trees.specs.Path.{IsPath}
use Rattle.ect_trees.specs.Key.{key_of, key_cmp}
use Rattle.ect_trees.specs.Best.{IsBest, best_of, is_among}
use Rattle.ect_trees.specs.Low.{LowAt, AreLow}
use Rattle.ect_trees.proofs.Among.{same_is, same_self}
use Rattle.ect_trees.proofs.Walks.{cost_comm, path_start, path_distinct, path_length}
use Rattle.ect_trees.proofs.Steps.{IsStep, best_step, distinct_end, joined_bridges}
use Rattle.ect_trees.proofs.Exists.{Decides-among, best_of_some, best_of_cases}
use Rattle.ect_trees.proofs.Low.{best_is_low}
use Rattle.what_if.specs.declared.entry.Entry.{Entry}
use Rattle.what_if.specs.declared.entry.Entry.TheVariants.{Before}
use Rattle.what_if.specs.Following.{entry_among, entry_for, way_within, way_of}
use Rattle.what_if.specs.Failing.{is_start, names_no_neighbour, leads_nowhere, is_better, gives_better, has_better, fails, NobodyFails}
use Rattle.what_if.specs.Entries.{before_last, named, entry_by, best_entry, best_entries}
use Rattle.what_if.specs.Laws.{BestPasses}
use Rattle.what_if.proofs.Ways.{way_start, way_on, way_is_path}
use Rattle.what_if.proofs.Passing.{before_last_is}

listed : (f : SystemId → Entry) (bs : List GraphBridge) (x : SystemId) → IsAmong x (systems_of bs) → entry_among bs (map f (systems_of bs)) x ≡ f x
listed f [] x i = absurd i
listed f (b ∷ bs) x i = by (λ j. listed f bs x j) (same_system b.id.system x) refl i
  where
    by : (IsAmong x (systems_of bs) → entry_among bs (map f (systems_of bs)) x ≡ f x) → (t : Bool) → same_system b.id.system x ≡ t → (x ≡ b.id.system) ⊎ IsAmong x (systems_of bs) → (if same_system b.id.system x then f b.id.system else entry_among bs (map f (systems_of bs)) x) ≡ f x
    by later true s j = rw s (ap f (same_is b.id.system x s))
    by later false s (inl e) = absurd (true≢false (sym (same_self b.id.system) ∙ (ap (same_system b.id.system) (sym e) ∙ s)))
    by later false s (inr j) = rw s (later j)

module _ (g : Graph) (mask : ℕ) (a : SystemId) (valid : IsValid g) (bridge : IsBridge g a) where
  abbrev pub es : List Entry
  es = best_entries g mask a

  entry_is : (x : SystemId) → IsBridge g x → entry_for g es x ≡ best_entry g mask a x
  entry_is x i = listed (best_entry g mask a) g.bridges x i

  named_before : (x y : SystemId) (p q : List SystemId) → IsBridge g x → same_system x a ≡ false → best_of g mask a x ≡ Some p → p ≡ q ++ x ∷ [] → IsPath g a y q → entry_for g es x ≡ Before y
  named_before x y p q i s at whole path = entry_is x i ∙ (other s ∙ (ap entry_by at ∙ ap named (ap before_last whole ∙ before_last_is g a y x q path)))
    where
      other : same_system x a ≡ false → best_entry g mask a x ≡ entry_by (best_of g mask a x)
      other t = rw t refl

  off_end : (x y : SystemId) (p q : List SystemId) → IsBest g mask a x p → IsPath g a y q → p ≡ q ++ x ∷ [] → same_system x a ≡ false
  off_end x y p q best path whole = by (same_system x a) refl
    where
      by : (b : Bool) → same_system x a ≡ b → same_system x a ≡ false
      by true s = absurd (distinct_end q x (path_distinct g a x (q ++ x ∷ []) (subst (λ t. IsPath g a x t) whole best.path)) (subst (λ z. IsAmong z q) (sym (same_is x a s)) (path_start g a y q path)))
      by false s = s

  not_empty : (y : SystemId) (q : List SystemId) → IsPath g a y q → 1 ≤ length q
  not_empty y [] path = absurd path
  not_empty y (z ∷ zs) path = omega arith

  step_on : (n : ℕ) (x y : SystemId) (p q : List SystemId) → IsBest g mask a x p → IsStep g mask a x p y q → way_within g es a n y ≡ Some q → way_within g es a (suc n) x ≡ Some p
  step_on n x y p q best s at =
      let joined : IsSome (cost_between g x y) = subst (λ (o : Option ℕ). IsSome o) (cost_comm g y x) s.joined in
      let off : same_system x a ≡ false = off_end x y p q best s.best.path s.whole in
      let entry = named_before x y p q (joined_bridges g x y valid joined).0 off ((best_of_some g mask a x p valid).1 best) s.whole s.best.path in
      way_on g es a n x y q off entry joined at ∙ ap Some (sym s.whole)

  -- a best path of at most n + 1 bridges is the way within n steps
  way_best : (n : ℕ) (x : SystemId) (p : List SystemId) → length p ≤ suc n → IsBest g mask a x p → way_within g es a n x ≡ Some p
  way_best zero x p short best = by (best_step g mask a x p valid best)
    where
      by : ((p ≡ a ∷ []) × (x ≡ a)) ⊎ ((y : SystemId) × (q : List SystemId) × IsStep g mask a x p y q) → way_within g es a zero x ≡ Some p
      by (inl e) = ap (way_within g es a zero) e.1 ∙ (way_start g es a zero ∙ ap Some (sym e.0))
      by (inr s) =
          let l : length p ≡ length (s.1 ++ x ∷ []) = ap length s.2.whole in
          let k = not_empty s.0 s.1 s.2.best.path in
          absurd (omega (arith, short, l, k, length-append s.1 (x ∷ [])))
  way_best (suc n) x p short best = by (λ y q h b. way_best n y q h b) (best_step g mask a x p valid best)
    where
      by : ((y : SystemId) (q : List SystemId) → length q ≤ suc n → IsBest g mask a y q → way_within g es a n y ≡ Some q) → ((p ≡ a ∷ []) × (x ≡ a)) ⊎ ((y : SystemId) × (q : List SystemId) × IsStep g mask a x p y q) → way_within g es a (suc n) x ≡ Some p
      by shorter (inl e) = ap (way_within g es a (suc n)) e.1 ∙ (way_start g es a (suc n) ∙ ap Some (sym e.0))
      by shorter (inr s) =
          let l : length p ≡ length (s.1 ++ x ∷ []) = ap length s.2.whole in
          step_on n x s.0 p s.1 best s.2 (shorter s.0 s.1 (omega (arith, short, l, length-append s.1 (x ∷ []))) s.2.best)

  ways : (x : SystemId) → way_of g es a x ≡ best_of g mask a x
  ways x =
      elim (best_of_cases g mask a x valid) [
        | inl h ↦ no_way h.0 (way_of g es a x) refl ∙ sym h.1
        | inr h ↦ way_best (length g.bridges) x h.0 (let l = path_length g a x h.0 h.2.path in omega (arith, l)) h.2 ∙ sym h.1
      ]
    where
      no_way : ((p : List SystemId) → IsPath g a x p → ⊥) → (o : Option (List SystemId)) → way_of g es a x ≡ o → way_of g es a x ≡ None
      no_way n None e = e
      no_way n (Some p) e = absurd (n p (way_is_path g es a (length g.bridges) x p valid bridge e))

  low : AreLow g mask a (λ x. best_of g mask a x)
  low = best_is_low g mask a valid bridge

  -- ---- no bridge fails

  none_any : (f : SystemId → Bool) (xs : List SystemId) → ((x : SystemId) → f x ≡ false) → list_any f xs ≡ false
  none_any f [] each = refl
  none_any f (x ∷ xs) each = rw (each x, none_any f xs each) refl

  is_less : (o : Ordering) → (o ≡ Less → ⊥) → is_lt o ≡ false
  is_less Less n = absurd (n refl)
  is_less Equal n = refl
  is_less Greater n = refl

  -- the entry of a bridge that isn't a, by its best path
  not_unreached : (x : SystemId) (q : List SystemId) → same_system x a ≡ false → best_of g mask a x ≡ Some q → (y : SystemId) × (entry_by (Some q) ≡ Before y) × IsSome (cost_between g x y)
  not_unreached x q s at = by (best_step g mask a x q valid ((best_of_some g mask a x q valid).0 at))
    where
      by : ((q ≡ a ∷ []) × (x ≡ a)) ⊎ ((y : SystemId) × (p : List SystemId) × IsStep g mask a x q y p) → (y : SystemId) × (entry_by (Some q) ≡ Before y) × IsSome (cost_between g x y)
      by (inl e) = absurd (true≢false (sym (ap (λ t. same_system t a) e.1 ∙ same_self a) ∙ s))
      by (inr t) = (t.0, ap named (ap before_last t.2.whole ∙ before_last_is g a t.0 x t.1 t.2.best.path), subst (λ (o : Option ℕ). IsSome o) (cost_comm g t.0 x) t.2.joined)

  module _ (x : SystemId) (s : same_system x a ≡ false) where
    abbrev e : Entry
    e = entry_by (best_of g mask a x)

    given_none : (u : SystemId) (p : List SystemId) → best_of g mask a u ≡ Some p → IsSome (cost_between g x u) → (not (is_among x p) && is_better g mask (best_of g mask a x) (p ++ x ∷ [])) ≡ false
    given_none u p at joined = by (is_among x p) refl
      where
        by : (b : Bool) → is_among x p ≡ b → (not b && is_better g mask (best_of g mask a x) (p ++ x ∷ [])) ≡ false
        by true i = refl
        by false i =
            let off : IsAmong x p → ⊥ = λ h. true≢false (sym ((Decides-among x p).1 h) ∙ i) in
            let back : IsSome (cost_between g u x) = subst (λ (o : Option ℕ). IsSome o) (cost_comm g x u) joined in
            let l : LowAt g mask (λ z. best_of g mask a z) x (p ++ x ∷ []) = low.low u x p at back off in
            ap (λ o. is_better g mask o (p ++ x ∷ [])) l.1 ∙ is_less (key_cmp (key_of g mask (p ++ x ∷ [])) (key_of g mask l.0)) l.2

    not_better : (u : SystemId) → (is_some (cost_between g x u) && gives_better g mask x (way_of g es a x) (way_of g es a u)) ≡ false
    not_better u = ap (λ o. is_some (cost_between g x u) && gives_better g mask x o (way_of g es a u)) (ways x) ∙ (ap (λ o. is_some (cost_between g x u) && gives_better g mask x (best_of g mask a x) o) (ways u) ∙ by (is_some (cost_between g x u)) refl (best_of g mask a u) refl)
      where
        by : (b : Bool) → is_some (cost_between g x u) ≡ b → (o : Option (List SystemId)) → best_of g mask a u ≡ o → (b && gives_better g mask x (best_of g mask a x) o) ≡ false
        by false j o at = refl
        by true j None at = refl
        by true j (Some p) at = given_none u p at j

    better_none : has_better g mask es a x ≡ false
    better_none = none_any (λ u. is_some (cost_between g x u) && gives_better g mask x (way_of g es a x) (way_of g es a u)) (systems_of g.bridges) not_better

    first_four : (o : Option (List SystemId)) → best_of g mask a x ≡ o → (is_start (entry_by o) || (names_no_neighbour g x (entry_by o) || leads_nowhere (entry_by o) o)) ≡ false
    first_four None at = refl
    first_four (Some q) at = let y = not_unreached x q s at in rw (y.1, y.2) refl

    passes_with : (i : entry_for g es x ≡ e) → fails g mask es a x ≡ false
    passes_with i = rw (s, i) (joined_tests (is_start e) (names_no_neighbour g x e) (leads_nowhere e (way_of g es a x)) (has_better g mask es a x) (ap (λ o. is_start e || (names_no_neighbour g x e || leads_nowhere e o)) (ways x) ∙ first_four (best_of g mask a x) refl) better_none)
      where
        joined_tests : (p q r t : Bool) → (p || (q || r)) ≡ false → t ≡ false → (p || (q || (r || t))) ≡ false
        joined_tests false false false t h k = k
        joined_tests false false true t h k = h
        joined_tests false true r t h k = h
        joined_tests true q r t h k = h

  passes_at : (x : SystemId) → IsAmong x (systems_of g.bridges) → fails g mask es a x ≡ false
  passes_at x i = by (same_system x a) refl
    where
      by : (b : Bool) → same_system x a ≡ b → fails g mask es a x ≡ false
      by true s = rw (entry_is x i, s) refl
      by false s = passes_with x s (entry_is x i ∙ other s)
        where
          other : same_system x a ≡ false → best_entry g mask a x ≡ entry_by (best_of g mask a x)
          other t = rw t refl

  each : (xs : List SystemId) → ((x : SystemId) → IsAmong x xs → fails g mask es a x ≡ false) → AllByRecursion (λ x. fails g mask es a x ≡ false) xs
  each [] all = tt
  each (x ∷ xs) all = (all x (inl refl), each xs (λ y i. all y (inr i)))

  pub nobody : NobodyFails g mask es a
  nobody = each (systems_of g.bridges) passes_at

pub best_passes : BestPasses
best_passes g mask a valid bridge = nobody g mask a valid bridge
