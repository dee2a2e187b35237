-- The paths that a forest keeps.
use Rattle.std.proofs.Common.{◌≡◌, ◌≢◌, ℕ, zero, suc, Bool, true, false, eqb, eqb-true, List, [], ◌∷◌, ◌++◌, Option, Some, None, slice_get, slice_set, refl, sym, ap, ◌∙◌, subst, Bor}
use Rattle.std.specs.Prelude.{All, IfSome, is_some, option_copied, if◌then◌else◌}
use Rattle.std.specs.Global.{Vec}
use Rattle.std.specs.List.{find, position_or_len}
use Rattle.std.specs.Option.{option_and_then, option_or, unwrap_or}
use Rattle.std.proofs.lemmas.Bool.{eqb-false}
use Rattle.std.proofs.lemmas.List.Elements.{All-get_or}
use Rattle.std.proofs.lemmas.List.Folds.{find_at, find-append}
use Rattle.std.proofs.lemmas.Option.{slice_get_within, get_or_from_slice_get}
use Rattle.spb_types.specs.declared.graph.Graph.{Graph}
use Rattle.ect_trees.specs.declared.routes.Routes.{Routes}
use Rattle.ect_trees.specs.Routes.{AreRoutes, serve}
use Rattle.ect_trees.specs.Forest.{AreGrown, serving, kept}

-- ---- lists

got : {X : Type 0} (xs : List X) (i : ℕ) (y x : X) → slice_get xs i ≡ Some x → slice_get (slice_set xs i y) i ≡ Some y
got [] i y x at = absurd cc
got (z ∷ xs) zero y x at = refl
got (z ∷ xs) (suc i) y x at = got xs i y x at

got_other : {X : Type 0} (xs : List X) (i j : ℕ) (y : X) → j ≢ i → slice_get (slice_set xs i y) j ≡ slice_get xs j
got_other [] i j y other = refl
got_other (z ∷ xs) zero zero y other = absurd (other refl)
got_other (z ∷ xs) zero (suc j) y other = refl
got_other (z ∷ xs) (suc i) zero y other = refl
got_other (z ∷ xs) (suc i) (suc j) y other = got_other xs i j y (λ e. other (ap suc e))

all_at : {X : Type 0} (P : X → Type 0) (xs : List X) (i : ℕ) (x : X) → All P xs → slice_get xs i ≡ Some x → P x
all_at P xs i x all at = subst P (get_or_from_slice_get xs i x x at) (All-get_or P xs i x (slice_get_within xs i x at) all)

-- what is found is one of them, and passes
found_among : {X : Type 0} (P : X → Type 0) (p : X → Bool) (xs : List X) (x : X) → All P xs → find p xs ≡ Some x → P x
found_among P p xs x all found = all_at P xs (position_or_len p xs) x all (sym (find_at p xs) ∙ found)

found_passes : {X : Type 0} (p : X → Bool) (xs : List X) (x : X) → find p xs ≡ Some x → p x ≡ true
found_passes p [] x found = absurd cc
found_passes p (y ∷ ys) x found = by (p y) refl (found_passes p ys x) found
  where
    by : (b : Bool) → p y ≡ b → (find p ys ≡ Some x → p x ≡ true) → (if b then Some y else find p ys) ≡ Some x → p x ≡ true
    by true passes later is = subst (λ z. p z ≡ true) (ap (λ o. unwrap_or o y) is) passes
    by false passes later is = later is

-- ---- routes that are kept

pub kept_serve : (g : Graph) (rows : List (Vec Routes)) (from mask : ℕ) (t : Routes) → AreGrown g rows → kept rows from mask ≡ Some t → AreRoutes g t × (serve t from mask ≡ true)
kept_serve g rows from mask t grown is = by (slice_get rows from) refl is
  where
    by : (o : Option (Vec Routes)) → slice_get rows from ≡ o → option_and_then (λ row. serving row.items from mask) o ≡ Some t → AreRoutes g t × (serve t from mask ≡ true)
    by None at found = absurd cc
    by (Some row) at found = (
      found_among (AreRoutes g) (λ r. serve r from mask) row.items t (all_at (λ (r : Vec Routes). All (AreRoutes g) r.items) rows from row grown at) found,
      found_passes (λ r. serve r from mask) row.items t found,
    )

-- the same of what a look-up lends
pub kept_serves : (g : Graph) (rows : List (Vec Routes)) (from mask : ℕ) (r : Option (Bor Routes)) → AreGrown g rows → option_copied r ≡ kept rows from mask → IfSome r (λ t. AreRoutes g t.now) × IfSome r (λ t. serve t.now from mask ≡ true)
kept_serves g rows from mask None grown is = (tt, tt)
kept_serves g rows from mask (Some t) grown is = kept_serve g rows from mask t.now grown (sym is)

-- where nothing is kept
none_in : (o : Option (Vec Routes)) (from mask : ℕ) → ((row : Vec Routes) → o ≡ Some row → row.items ≡ []) → is_some (option_and_then (λ row. serving row.items from mask) o) ≡ false
none_in None from mask empty = refl
none_in (Some row) from mask empty = ap (λ items. is_some (serving items from mask)) (empty row refl)

pub none_kept : (rows : List (Vec Routes)) (from mask : ℕ) → All (λ row. row.items ≡ []) rows → is_some (kept rows from mask) ≡ false
none_kept rows from mask empty = none_in (slice_get rows from) from mask (λ row at. all_at (λ (r : Vec Routes). r.items ≡ []) rows from row empty at)

-- ---- one more is kept

some_first : {X : Type 0} (a b : Option X) → is_some a ≡ true → is_some (option_or a b) ≡ true
some_first None b is = absurd cc
some_first (Some x) b is = refl

some_second : {X : Type 0} (a b : Option X) → is_some b ≡ true → is_some (option_or a b) ≡ true
some_second None b is = is
some_second (Some x) b is = refl

serves_alone : (t : Routes) (from mask : ℕ) → serve t from mask ≡ true → is_some (serving (t ∷ []) from mask) ≡ true
serves_alone t from mask serves = ap (λ b. is_some (if b then Some t else None)) serves

module _ (rows : List (Vec Routes)) (place : ℕ) (row new : Vec Routes) (t : Routes) (at : slice_get rows place ≡ Some row) (items : new.items ≡ row.items ++ t ∷ []) where
  here : (m : ℕ) → kept (slice_set rows place new) place m ≡ option_or (serving row.items place m) (serving (t ∷ []) place m)
  here m =
      ap (option_and_then (λ (r : Vec Routes). serving r.items place m)) (got rows place new row at)
      ∙ (ap (λ list. serving list place m) items ∙ find-append (λ r. serve r place m) row.items (t ∷ []))

  pub keeps_new : (mask : ℕ) → serve t place mask ≡ true → is_some (kept (slice_set rows place new) place mask) ≡ true
  keeps_new mask serves = ap is_some (here mask) ∙ some_second (serving row.items place mask) (serving (t ∷ []) place mask) (serves_alone t place mask serves)

  pub keeps_old : (from mask : ℕ) → is_some (kept rows from mask) ≡ true → is_some (kept (slice_set rows place new) from mask) ≡ true
  keeps_old from mask was = by (eqb from place) refl
    where
      by : (b : Bool) → eqb from place ≡ b → is_some (kept (slice_set rows place new) from mask) ≡ true
      by true e =
          let same : from ≡ place = eqb-true from place e in
          let old : is_some (serving row.items place mask) ≡ true = sym (ap (λ o. is_some (option_and_then (λ (r : Vec Routes). serving r.items place mask) o)) at) ∙ subst (λ n. is_some (kept rows n mask) ≡ true) same was in
          subst (λ n. is_some (kept (slice_set rows place new) n mask) ≡ true) (sym same)
          (ap is_some (here mask) ∙ some_first (serving row.items place mask) (serving (t ∷ []) place mask) old)
      by false e = ap (λ o. is_some (option_and_then (λ (r : Vec Routes). serving r.items from mask) o)) (got_other rows place from new (eqb-false from place e)) ∙ was
