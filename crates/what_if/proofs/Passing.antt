-- Where no bridge fails, ways are low at every edge, and so they are the best paths.
use Rattle.std.proofs.Common.{◌≡◌, ℕ, zero, suc, List, [], ◌∷◌, ◌++◌, length, map, Bool, true, false, not, ◌&&◌, ◌||◌, true≢false, Option, Some, None, is_some, IsSome, if◌then◌else◌, inl, inr, refl, sym, ap, subst, ◌∙◌, arith}
use Rattle.std.specs.List.{AllByRecursion, list_any}
use Rattle.std.specs.Ordering.{is_lt}
use Rattle.spb_types.specs.Address.{same_system}
use Rattle.spb_types.specs.Graph.{IsAmong, IsDistinct, IsBridge, IsValid, cost_between, systems_of}
use Rattle.spb_types.specs.declared.address.SystemId.{SystemId}
use Rattle.spb_types.specs.declared.graph.Graph.{Graph}
use Rattle.spb_types.specs.declared.graph.GraphBridge.{GraphBridge}
use Rattle.ect_trees.specs.Path.{IsPath}
use Rattle.ect_trees.specs.Key.{key_of, key_cmp, IsBelow}
use Rattle.ect_trees.specs.Best.{best_of, is_among}
use Rattle.ect_trees.specs.Low.{LowAt, AreLow}
use Rattle.ect_trees.proofs.Among.{same_is, same_self}
use Rattle.ect_trees.proofs.Walks.{cost_comm, path_start}
use Rattle.ect_trees.proofs.Steps.{joined_bridges, front_and_last, path_ends}
use Rattle.ect_trees.proofs.Exists.{Decides-among}
use Rattle.ect_trees.proofs.Low.{low_is_best}
use Rattle.what_if.specs.declared.entry.Entry.{Entry}
use Rattle.what_if.specs.declared.entry.Entry.TheVariants.{Start, Before, Unreached}
use Rattle.what_if.specs.Following.{entry_among, entry_for, way_within, way_of}
use Rattle.what_if.specs.Failing.{is_start, names_no_neighbour, leads_nowhere, is_better, gives_better, has_better, fails, NobodyFails}
use Rattle.what_if.specs.Entries.{before_last, named, entry_by, best_entry, best_entries}
use Rattle.what_if.specs.Laws.{PassingIsBest}
use Rattle.what_if.proofs.Ways.{way_cases, way_zero, way_start, way_is_path}

-- ---- lists and tests

pub all_among : (P : SystemId → Type 0) (xs : List SystemId) (x : SystemId) → AllByRecursion P xs → IsAmong x xs → P x
all_among P [] x all h = absurd h
all_among P (y ∷ ys) x all (inl e) = subst P (sym e) all.0
all_among P (y ∷ ys) x all (inr i) = all_among P ys x all.1 i

or_left : (a b : Bool) → (a || b) ≡ false → a ≡ false
or_left true b h = h
or_left false b h = refl

or_right : (a b : Bool) → (a || b) ≡ false → b ≡ false
or_right true b h = absurd (true≢false h)
or_right false b h = h

and_right : (a b : Bool) → a ≡ true → (a && b) ≡ false → b ≡ false
and_right true b t h = h
and_right false b t h = absurd (true≢false (sym t))

not_false : (a : Bool) → not a ≡ false → a ≡ true
not_false true h = refl
not_false false h = absurd (true≢false h)

none_among : (f : SystemId → Bool) (xs : List SystemId) (x : SystemId) → list_any f xs ≡ false → IsAmong x xs → f x ≡ false
none_among f [] x h i = absurd i
none_among f (y ∷ ys) x h (inl e) = ap f e ∙ or_left (f y) (list_any f ys) h
none_among f (y ∷ ys) x h (inr i) = none_among f ys x (or_right (f y) (list_any f ys) h) i

pub not_among : (x : SystemId) (p : List SystemId) → (IsAmong x p → ⊥) → is_among x p ≡ false
not_among x p n = by (is_among x p) refl
  where
    by : (b : Bool) → is_among x p ≡ b → is_among x p ≡ false
    by true e = absurd (n ((Decides-among x p).0 e))
    by false e = e

-- ---- a bridge that passes

pub record Passes (g : Graph) (mask : ℕ) (es : List Entry) (a x : SystemId) (e : Entry) : Type 0 where
  pub start : is_start e ≡ false
  pub neighbour : names_no_neighbour g x e ≡ false
  pub leads : leads_nowhere e (way_of g es a x) ≡ false
  pub better : has_better g mask es a x ≡ false

pub passes : (g : Graph) (mask : ℕ) (es : List Entry) (a x : SystemId) → same_system x a ≡ false → fails g mask es a x ≡ false → Passes g mask es a x (entry_for g es x)
passes g mask es a x s h = by (same_system x a) s h
  where
    e : Entry
    e = entry_for g es x

    by : (b : Bool) → b ≡ false → (if b then not (is_start e) else is_start e || (names_no_neighbour g x e || (leads_nowhere e (way_of g es a x) || has_better g mask es a x))) ≡ false → Passes g mask es a x e
    by true t k = absurd (true≢false t)
    by false t k =
        let one = or_right (is_start e) _ k in
        let two = or_right (names_no_neighbour g x e) _ one in
        record { start = or_left (is_start e) _ k; neighbour = or_left (names_no_neighbour g x e) _ one; leads = or_left (leads_nowhere e (way_of g es a x)) _ two; better = or_right (leads_nowhere e (way_of g es a x)) _ two }

some_of : {A : Type 0} (o : Option A) → is_some o ≡ true → (x : A) × (o ≡ Some x)
some_of None h = absurd (true≢false (sym h))
some_of (Some x) h = (x, refl)

not_below : (g : Graph) (mask : ℕ) (p q : List SystemId) → is_lt (key_cmp (key_of g mask p) (key_of g mask q)) ≡ false → IsBelow (key_of g mask p) (key_of g mask q) → ⊥
not_below g mask p q h b = true≢false (sym (ap is_lt b) ∙ h)

module _ (g : Graph) (mask : ℕ) (es : List Entry) (a : SystemId) (valid : IsValid g) (bridge : IsBridge g a) (nobody : NobodyFails g mask es a) where
  abbrev pub way : SystemId → Option (List SystemId)
  way x = way_of g es a x

  has_way : (o : Option (List SystemId)) (r : List SystemId) → is_better g mask o r ≡ false → (q : List SystemId) × (o ≡ Some q)
  has_way None r h = absurd (true≢false h)
  has_way (Some q) r h = (q, refl)

  low_for : (x y : SystemId) (p : List SystemId) → way x ≡ Some p → IsSome (cost_between g x y) → (IsAmong y p → ⊥) → same_system y a ≡ false → LowAt g mask way y (p ++ y ∷ [])
  low_for x y p at joined off s =
      let ends = joined_bridges g x y valid joined in
      let e : Entry = entry_for g es y in
      let pass : Passes g mask es a y e = passes g mask es a y s (all_among (λ z. fails g mask es a z ≡ false) (systems_of g.bridges) y nobody ends.1) in
      let back : is_some (cost_between g y x) ≡ true = subst (λ (o : Option ℕ). is_some o ≡ true) (cost_comm g x y) joined in
      let none = and_right _ _ back (none_among (λ u. is_some (cost_between g y u) && gives_better g mask y (way y) (way u)) (systems_of g.bridges) x pass.better ends.0) in
      let given : gives_better g mask y (way y) (Some p) ≡ false = sym (ap (gives_better g mask y (way y)) at) ∙ none in
      let worse : is_better g mask (way y) (p ++ y ∷ []) ≡ false = and_right (not (is_among y p)) _ (ap not (not_among y p off)) given in
      let q = has_way (way y) (p ++ y ∷ []) worse in
      (q.0, q.1, not_below g mask (p ++ y ∷ []) q.0 (sym (ap (λ o. is_better g mask o (p ++ y ∷ [])) q.1) ∙ worse))

  low : (x y : SystemId) (p : List SystemId) → way x ≡ Some p → IsSome (cost_between g x y) → (IsAmong y p → ⊥) → LowAt g mask way y (p ++ y ∷ [])
  low x y p at joined off = by (same_system y a) refl
    where
      by : (b : Bool) → same_system y a ≡ b → LowAt g mask way y (p ++ y ∷ [])
      by true s = absurd (off (subst (λ z. IsAmong z p) (sym (same_is y a s)) (path_start g a x p (way_is_path g es a (length g.bridges) x p valid bridge at))))
      by false s = low_for x y p at joined off s

  pub ways_are_low : AreLow g mask a way
  ways_are_low = record { start = way_start g es a (length g.bridges); paths = λ x p at. way_is_path g es a (length g.bridges) x p valid bridge at; low = low }

  pub ways_are_best : (x : SystemId) → way x ≡ best_of g mask a x
  ways_are_best x = low_is_best g mask a way valid ways_are_low x

-- ---- the entries

pub before_last_snoc : (l : List SystemId) (z x : SystemId) → before_last ((l ++ z ∷ []) ++ x ∷ []) ≡ Some z
before_last_snoc [] z x = refl
before_last_snoc (w ∷ []) z x = refl
before_last_snoc (w ∷ v ∷ []) z x = before_last_snoc (v ∷ []) z x
before_last_snoc (w ∷ v ∷ u ∷ l) z x = before_last_snoc (v ∷ u ∷ l) z x

-- before its last bridge a path that was made longer has the bridge where it ended
pub before_last_is : (g : Graph) (a y x : SystemId) (q : List SystemId) → IsPath g a y q → before_last (q ++ x ∷ []) ≡ Some y
before_last_is g a y x [] path = absurd path
before_last_is g a y x (z ∷ zs) path =
    let l = front_and_last z zs in
    let ends : l.1 ≡ y = path_ends g a y l.1 l.0 (subst (λ t. IsPath g a y t) l.2 path) in
    ap (λ t. before_last (t ++ x ∷ [])) l.2 ∙ (before_last_snoc l.0 l.1 x ∙ ap Some ends)

map_among : (f h : SystemId → Entry) (xs : List SystemId) → ((x : SystemId) → IsAmong x xs → f x ≡ h x) → map f xs ≡ map h xs
map_among f h [] same = refl
map_among f h (x ∷ xs) same = cons (f x) (h x) (map f xs) (map h xs) (same x (inl refl)) (map_among f h xs (λ y i. same y (inr i)))
  where
    cons : (c d : Entry) (cs ds : List Entry) → c ≡ d → cs ≡ ds → (c ∷ cs) ≡ (d ∷ ds)
    cons c d cs ds p q = cc

differs : (x y : SystemId) → (x ≡ y → ⊥) → same_system x y ≡ false
differs x y n = by (same_system x y) refl
  where
    by : (b : Bool) → same_system x y ≡ b → same_system x y ≡ false
    by true s = absurd (n (same_is x y s))
    by false s = s

entries_listed : (bs : List GraphBridge) (es : List Entry) → IsDistinct (systems_of bs) → length es ≡ length bs → es ≡ map (λ x. entry_among bs es x) (systems_of bs)
entries_listed [] [] apart long = refl
entries_listed [] (e ∷ es) apart long = absurd (omega (arith, long))
entries_listed (b ∷ bs) [] apart long = absurd (omega (arith, long))
entries_listed (b ∷ bs) (e ∷ es) apart long =
    cons e (entry_among (b ∷ bs) (e ∷ es) b.id.system) es (map (λ x. entry_among (b ∷ bs) (e ∷ es) x) (systems_of bs))
    (rw (same_self b.id.system) refl)
    (entries_listed bs es apart.1 (omega (arith, long)) ∙ map_among (λ x. entry_among bs es x) (λ x. entry_among (b ∷ bs) (e ∷ es) x) (systems_of bs) (λ x i. sym (later x i)))
  where
    cons : (c d : Entry) (cs ds : List Entry) → c ≡ d → cs ≡ ds → (c ∷ cs) ≡ (d ∷ ds)
    cons c d cs ds p q = cc

    later : (x : SystemId) → IsAmong x (systems_of bs) → entry_among (b ∷ bs) (e ∷ es) x ≡ entry_among bs es x
    later x i = rw (differs b.id.system x (λ same. apart.0 (subst (λ z. IsAmong z (systems_of bs)) (sym same) i))) refl

pub before_is : (y z : SystemId) → Before y ≡ Before z → y ≡ z
before_is y z h = cc

module _ (g : Graph) (mask : ℕ) (es : List Entry) (a : SystemId) (valid : IsValid g) (bridge : IsBridge g a) (nobody : NobodyFails g mask es a) where
  best : (x : SystemId) → way_of g es a x ≡ best_of g mask a x
  best x = ways_are_best g mask es a valid bridge nobody x

  abbrev n : ℕ
  n = length g.bridges

  followed : (x : SystemId) (p : List SystemId) (m : ℕ) → same_system x a ≡ false → way_within g es a m x ≡ Some p → (y : SystemId) × (entry_for g es x ≡ Before y) × (before_last p ≡ Some y)
  followed x p zero s h = absurd (true≢false (sym (ap (λ t. same_system t a) (way_zero g es a x p h).0 ∙ same_self a) ∙ s))
  followed x p (suc m) s h =
      elim (way_cases g es a m x p h) [
        | inl z ↦ absurd (true≢false (sym (ap (λ t. same_system t a) z.0 ∙ same_self a) ∙ s))
        | inr f ↦ (f.1.y, f.1.entry, ap before_last f.1.whole ∙ before_last_is g a f.1.y x f.1.q (way_is_path g es a m f.1.y f.1.q valid bridge f.1.before))
      ]

  none_left : (x : SystemId) (o : Option (List SystemId)) → way_of g es a x ≡ o → same_system x a ≡ false → entry_for g es x ≡ Unreached → o ≡ None
  none_left x None at s e = refl
  none_left x (Some p) at s e = let f = followed x p n s at in absurd (clash f.0 (sym f.1 ∙ e))
    where
      clash : (y : SystemId) → Before y ≡ Unreached → ⊥
      clash y h = absurd cc

  other : (x : SystemId) (e : Entry) → entry_for g es x ≡ e → same_system x a ≡ false → Passes g mask es a x e → e ≡ entry_by (best_of g mask a x)
  other x Start at s pass = absurd (true≢false pass.start)
  other x Unreached at s pass = sym (ap entry_by (sym (best x) ∙ none_left x (way_of g es a x) refl s at))
  other x (Before y) at s pass =
      let p = some_of (way_of g es a x) (not_false (is_some (way_of g es a x)) pass.leads) in
      let f = followed x p.0 n s p.1 in
      let same : y ≡ f.0 = before_is y f.0 (sym at ∙ f.1) in
      sym (ap entry_by (sym (best x) ∙ p.1) ∙ (ap named f.2 ∙ ap Before (sym same)))

  entry_is : (x : SystemId) → IsAmong x (systems_of g.bridges) → entry_for g es x ≡ best_entry g mask a x
  entry_is x i = by (same_system x a) refl (all_among (λ z. fails g mask es a z ≡ false) (systems_of g.bridges) x nobody i)
    where
      started : (e : Entry) → not (is_start e) ≡ false → e ≡ Start
      started Start h = refl
      started (Before y) h = absurd (true≢false h)
      started Unreached h = absurd (true≢false h)

      at_start : (b : Bool) → b ≡ true → (if b then not (is_start (entry_for g es x)) else true) ≡ false → entry_for g es x ≡ Start
      at_start true t h = started (entry_for g es x) h
      at_start false t h = absurd (true≢false (sym t))

      by : (b : Bool) → same_system x a ≡ b → fails g mask es a x ≡ false → entry_for g es x ≡ best_entry g mask a x
      by true s h = started (entry_for g es x) (sym (first s) ∙ h) ∙ sym (second s)
        where
          first : same_system x a ≡ true → fails g mask es a x ≡ not (is_start (entry_for g es x))
          first t = rw t refl

          second : same_system x a ≡ true → best_entry g mask a x ≡ Start
          second t = rw t refl
      by false s h = other x (entry_for g es x) refl s (passes g mask es a x s h) ∙ sym (third s)
        where
          third : same_system x a ≡ false → best_entry g mask a x ≡ entry_by (best_of g mask a x)
          third t = rw t refl

  pub entries_are_best : length es ≡ length g.bridges → es ≡ best_entries g mask a
  entries_are_best long = entries_listed g.bridges es valid.apart long ∙ map_among (λ x. entry_for g es x) (best_entry g mask a) (systems_of g.bridges) entry_is

pub passing_is_best : PassingIsBest
passing_is_best g mask a es valid bridge long nobody = record {
  ways = ways_are_best g mask es a valid bridge nobody;
  entries = entries_are_best g mask es a valid bridge nobody long;
}
