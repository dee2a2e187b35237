-- The labels over the changed edge are forgotten.
use Rattle.std.proofs.Common.{◌≡◌, ◌≢◌, ℕ, zero, suc, ◌+◌, ◌-◌, ◌<◌, ◌≤◌, Bool, true, false, true≢false, inl, inr, List, [], ◌∷◌, length, get_or, Option, Some, None, option_map, refl, sym, ap, ◌∙◌, subst, arith}
use Rattle.std.specs.Bool.{MatchBool}
use Rattle.std.specs.List.{slice_get}
use Rattle.std.proofs.Math.ListN.{set, length-set}
use Rattle.std.proofs.lemmas.List.{get_or_read, get_or-set_same, get_or-set_other}
use Rattle.std.proofs.lemmas.Option.{same_Some, none-some, slice_get_within, slice_get-get_or, get_or_from_slice_get}
use Rattle.spb_types.specs.declared.address.SystemId.{SystemId}
use Rattle.spb_types.specs.declared.graph.Graph.{Graph}
use Rattle.ect_trees.specs.declared.search.Label.{Label}
use Rattle.ect_trees.specs.Arcs.{place_in}
use Rattle.ect_trees.specs.Search.{label_at, way_in}
use Rattle.ect_trees.specs.Repair.{ArePair, Avoids, IsForgotten, TellsLost, AreForgotten}
use Rattle.ect_trees.proofs.Grouped.{same_or_not}

-- what a list of system ids is read as past its end
abbrev pub no_system : SystemId
no_system = record { mac = record { bytes = [] } }

-- what is told holds, or doesn't
pub is_told : (t : Bool) (P : Type 0) → t ≡ true → MatchBool t P (P → ⊥) → P
is_told true P e m = m
is_told false P e m = absurd (true≢false (sym e))

pub not_told : (t : Bool) (P : Type 0) → t ≡ false → MatchBool t P (P → ⊥) → P → ⊥
not_told true P e m = absurd (true≢false e)
not_told false P e m = m

-- the steps of the list that end before the place k aren't between a and b
abbrev pub AreOther : SystemId → SystemId → List SystemId → ℕ → Type 0
AreOther a b xs k = (i : ℕ) (x y : SystemId) → suc i < k → slice_get xs i ≡ Some x → slice_get xs (suc i) ≡ Some y → ArePair a b x y → ⊥

avoids_all : (a b : SystemId) (xs : List SystemId) → ((i : ℕ) (x y : SystemId) → slice_get xs i ≡ Some x → slice_get xs (suc i) ≡ Some y → ArePair a b x y → ⊥) → Avoids a b xs
avoids_all a b [] o = tt
avoids_all a b (x ∷ []) o = tt
avoids_all a b (x ∷ y ∷ ys) o = (o 0 x y refl refl, avoids_all a b (y ∷ ys) (λ i u v h k. o (suc i) u v h k))

-- none of all steps is
pub others_avoid : (a b : SystemId) (xs : List SystemId) (k : ℕ) → length xs ≤ k → AreOther a b xs k → Avoids a b xs
others_avoid a b xs k whole o = avoids_all a b xs (λ i x y h l. o i x y (let below = slice_get_within xs (suc i) y l in omega (arith, below, whole)) h l)

-- one of them is
pub avoids_at : (a b : SystemId) (xs : List SystemId) (i : ℕ) (x y : SystemId) → slice_get xs i ≡ Some x → slice_get xs (suc i) ≡ Some y → ArePair a b x y → Avoids a b xs → ⊥
avoids_at a b [] i x y h k p v = none-some x h
avoids_at a b (z ∷ []) zero x y h k p v = none-some y k
avoids_at a b (z ∷ []) (suc i) x y h k p v = none-some x h
avoids_at a b (z ∷ w ∷ ws) zero x y h k p v =
    v.0 (subst (λ t. ArePair a b t w) (sym (same_Some z x h)) (subst (λ t. ArePair a b x t) (sym (same_Some w y k)) p))
avoids_at a b (z ∷ w ∷ ws) (suc i) x y h k p v = avoids_at a b (w ∷ ws) i x y h k p v.1

-- the step that ends at the place k is
pub pair_there : (a b : SystemId) (xs : List SystemId) (k : ℕ) (d : SystemId) → 1 ≤ k → k < length xs → ArePair a b (get_or xs (k - 1) d) (get_or xs k d) → Avoids a b xs → ⊥
pair_there a b xs k d one within pair =
    let next : suc (k - 1) ≡ k = omega (arith, one) in
    avoids_at a b xs (k - 1) (get_or xs (k - 1) d) (get_or xs k d) (slice_get-get_or xs (k - 1) d (omega (arith, within))) (ap (slice_get xs) next ∙ slice_get-get_or xs k d within) pair

-- or isn't
pub other_more : (a b : SystemId) (xs : List SystemId) (k : ℕ) (d : SystemId) → AreOther a b xs k → (ArePair a b (get_or xs (k - 1) d) (get_or xs k d) → ⊥) → AreOther a b xs (k + 1)
other_more a b xs k d o apart i x y below h l p = elim (same_or_not (suc i) k) [
  | inl e ↦
      let place : k - 1 ≡ i = omega (arith, e) in
      let first : get_or xs (k - 1) d ≡ x = ap (λ t. get_or xs t d) place ∙ get_or_from_slice_get xs i x d h in
      let last : get_or xs k d ≡ y = ap (λ t. get_or xs t d) (sym e) ∙ get_or_from_slice_get xs (suc i) y d l in
      apart (subst (λ t. ArePair a b t (get_or xs k d)) (sym first) (subst (ArePair a b x) (sym last) p))
  | inr n ↦ o i x y (omega (arith, below, n)) h l p
]

-- so a label is lost or not
pub tells_lost : (a b : SystemId) (o : Option Label) (l : Label) (t : Bool) → o ≡ Some l → MatchBool t (Avoids a b l.bridges.items → ⊥) (Avoids a b l.bridges.items) → TellsLost a b o t
tells_lost a b o l true e m = (l, e, m)
tells_lost a b o l false e m = λ k f. subst (λ (t : Label). Avoids a b t.bridges.items) (same_Some l k (sym e ∙ f)) m

-- the label that is read at a place
pub lost_at : (a b : SystemId) (ls : List (Option Label)) (i : ℕ) (o : Option Label) (t u : Bool) → i < length ls → o ≡ get_or ls i o → t ≡ u → TellsLost a b o t → TellsLost a b (label_at ls i) u
lost_at a b ls i o t u within read e told = subst (λ k. TellsLost a b k u) (get_or_read ls i o within read None) (subst (TellsLost a b o) e told)

-- the labels before the place k are looked at
pub record Forgetting (a b : SystemId) (k : ℕ) (old now : List (Option Label)) : Type 0 where
  pub places : length now ≡ length old
  pub kept : (place : ℕ) (l : Label) → label_at old place ≡ Some l → Avoids a b l.bridges.items → label_at now place ≡ Some l
  pub was : (place : ℕ) (l : Label) → label_at now place ≡ Some l → (label_at old place ≡ Some l) × (place < k → Avoids a b l.bridges.items)

pub forgetting_none : (a b : SystemId) (ls : List (Option Label)) → Forgetting a b 0 ls ls
forgetting_none a b ls = record { places = refl; kept = λ place l h v. h; was = λ place l h. (h, λ below. absurd (omega (arith, below))) }

-- the next one stays
pub forgetting_keep : (a b : SystemId) (k : ℕ) (old now : List (Option Label)) → Forgetting a b k old now → TellsLost a b (label_at now k) false → Forgetting a b (k + 1) old now
forgetting_keep a b k old now f kept = record { places = f.places; kept = f.kept; was = was }
  where
    was : (place : ℕ) (l : Label) → label_at now place ≡ Some l → (label_at old place ≡ Some l) × (place < k + 1 → Avoids a b l.bridges.items)
    was place l h = (
      (f.was place l h).0,
      λ below. elim (same_or_not place k) [
        | inl e ↦ kept l (subst (λ t. label_at now t ≡ Some l) e h)
        | inr d ↦ (f.was place l h).1 (omega (arith, below, d))
      ],
    )

-- or goes
pub forgetting_drop : (a b : SystemId) (k : ℕ) (old now : List (Option Label)) → k < length now → Forgetting a b k old now → TellsLost a b (label_at now k) true → Forgetting a b (k + 1) old (set now k None)
forgetting_drop a b k old now within f lost = record { places = length-set now k None ∙ f.places; kept = kept; was = was }
  where
    other : (place : ℕ) → place ≢ k → label_at (set now k None) place ≡ label_at now place
    other place d = get_or-set_other now k place None None d

    kept : (place : ℕ) (l : Label) → label_at old place ≡ Some l → Avoids a b l.bridges.items → label_at (set now k None) place ≡ Some l
    kept place l h v = elim (same_or_not place k) [
      | inl e ↦
          let here : label_at now k ≡ Some l = subst (λ t. label_at now t ≡ Some l) e (f.kept place l h v) in
          let same : l ≡ lost.0 = same_Some l lost.0 (sym here ∙ lost.1) in
          absurd (lost.2 (subst (λ (t : Label). Avoids a b t.bridges.items) same v))
      | inr d ↦ other place d ∙ f.kept place l h v
    ]

    was : (place : ℕ) (l : Label) → label_at (set now k None) place ≡ Some l → (label_at old place ≡ Some l) × (place < k + 1 → Avoids a b l.bridges.items)
    was place l h = elim (same_or_not place k) [
      | inl e ↦ absurd (none-some l (sym (get_or-set_same now k None None within) ∙ subst (λ t. label_at (set now k None) t ≡ Some l) e h))
      | inr d ↦
          let w = f.was place l (sym (other place d) ∙ h) in
          (w.0, λ below. w.1 (omega (arith, below, d)))
    ]

label_within : (ls : List (Option Label)) (i : ℕ) (l : Label) → label_at ls i ≡ Some l → i < length ls
label_within [] i l e = absurd (none-some l e)
label_within (k ∷ ks) zero l e = omega arith
label_within (k ∷ ks) (suc i) l e = let below = label_within ks i l e in omega (arith, below)

-- all are looked at
pub forgotten_all : (a b : SystemId) (k : ℕ) (old now : List (Option Label)) → length now ≤ k → Forgetting a b k old now → AreForgotten a b old now
forgotten_all a b k old now whole f = record {
  places = f.places;
  kept = f.kept;
  was = λ place l h. let w = f.was place l h in let below = label_within now place l h in (w.0, w.1 (omega (arith, below, whole)));
}

-- so are their ways
pub ways_forgotten : (a b : SystemId) (g : Graph) (ls ls' : List (Option Label)) → AreForgotten a b ls ls' → IsForgotten a b (way_in g ls) (way_in g ls')
ways_forgotten a b g ls ls' f = record { kept = λ x p. kept (place_in g.bridges x) p; was = λ x p. was (place_in g.bridges x) p }
  where
    kept : (i : ℕ) (p : List SystemId) → option_map (λ (l : Label). l.bridges.items) (label_at ls i) ≡ Some p → Avoids a b p → option_map (λ (l : Label). l.bridges.items) (label_at ls' i) ≡ Some p
    kept i p h v = by (label_at ls i) refl h
      where
        by : (o : Option Label) → label_at ls i ≡ o → option_map (λ (l : Label). l.bridges.items) o ≡ Some p → option_map (λ (l : Label). l.bridges.items) (label_at ls' i) ≡ Some p
        by None e k = absurd (none-some p k)
        by (Some l) e k =
            let same : l.bridges.items ≡ p = same_Some l.bridges.items p k in
            ap (option_map (λ (t : Label). t.bridges.items)) (f.kept i l e (subst (Avoids a b) (sym same) v)) ∙ k

    was : (i : ℕ) (p : List SystemId) → option_map (λ (l : Label). l.bridges.items) (label_at ls' i) ≡ Some p → (option_map (λ (l : Label). l.bridges.items) (label_at ls i) ≡ Some p) × Avoids a b p
    was i p h = by (label_at ls' i) refl h
      where
        by : (o : Option Label) → label_at ls' i ≡ o → option_map (λ (l : Label). l.bridges.items) o ≡ Some p → (option_map (λ (l : Label). l.bridges.items) (label_at ls i) ≡ Some p) × Avoids a b p
        by None e k = absurd (none-some p k)
        by (Some l) e k =
            let w = f.was i l e in
            (ap (option_map (λ (t : Label). t.bridges.items)) w.0 ∙ k, subst (Avoids a b) (same_Some l.bridges.items p k) w.1)
