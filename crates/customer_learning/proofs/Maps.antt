-- Tables as the finite map that they are seen as.
use Rattle.std.proofs.Common.{◌≡◌, ℕ, zero, suc, ◌≤◌, ◌<◌, Bool, true, false, not, cond, ltb, List, [], ◌∷◌, ◌++◌, length, map, filter, get_or, set, Option, Some, None, refl, sym, ap, subst, ◌∙◌, arith}
use Rattle.std.specs.declared.cmp.Ordering.{Ordering}
use Rattle.std.specs.declared.cmp.Ordering.TheVariants.{Less, Equal, Greater}
use Rattle.std.specs.Ordering.{is_eq, eq_by_cmp}
use Rattle.std.specs.Cmp.{IsTotalOrder}
use Rattle.std.specs.FinMap.{IsAntisymmetric, nat_cmp-IsAntisymmetric, find, get, insert, remove, from_entries, get-insert, get-remove, get-from_entries, from_entries_push, same_map}
use Rattle.std.proofs.lemmas.Cmp.{nat_cmp_total, on_total, tied_itself}
use Rattle.std.proofs.lemmas.Bool.{false≢true}
use Rattle.std.proofs.Common.{eqb-true, eq-eqb}
use Rattle.std.specs.List.{position, position_or_len}
use Rattle.std.proofs.lemmas.Bool.Decides.{nat_tests}
use Rattle.std.proofs.lemmas.List.{map-append}
use Rattle.std.proofs.lemmas.List.Quantifiers.{position-Some}
use Rattle.spb_types.specs.declared.address.Mac.{Mac}
use Rattle.spb_types.specs.declared.service.Isid.{Isid}
use Rattle.customer_learning.specs.declared.place.Place.{Place}
use Rattle.customer_learning.specs.declared.table.Table.{Table}
use Rattle.std.specs.Option.{option_map}
use Rattle.customer_learning.specs.Known.{isid_cmp, Addresses, or_none, brought, without_local, with_learned, with_known, with_port_forgotten}
use Rattle.customer_learning.specs.Tables.{keyed, is_of, AreSized}

pub isids_total : IsTotalOrder isid_cmp
isids_total = on_total (λ (x : Isid). x.value) nat_cmp_total

pub isids_tied : IsAntisymmetric isid_cmp
isids_tied x y e = let value : x.value ≡ y.value = nat_cmp-IsAntisymmetric _ _ e in λ i. record { value = value i }

equal_from : (o : Ordering) → is_eq o ≡ true → o ≡ Equal
equal_from Less e = absurd cc
equal_from Equal e = refl
equal_from Greater e = absurd cc

-- two I-SIDs are tied exactly where they are one
pub tied_is : (x y : Isid) → eq_by_cmp isid_cmp x y ≡ true → x ≡ y
tied_is x y e = isids_tied x y (equal_from (isid_cmp x y) e)

pub tied : (x y : Isid) → x ≡ y → eq_by_cmp isid_cmp x y ≡ true
tied x y e = subst (λ (z : Isid). eq_by_cmp isid_cmp x z ≡ true) e (ap is_eq (tied_itself isids_total x))

pub of_is : (isid : Isid) (t : Table) → is_of isid t ≡ true → t.isid ≡ isid
of_is isid t e = let value : t.isid.value ≡ isid.value = eqb-true t.isid.value isid.value e in λ i. record { value = value i }

-- the test of a table is that of the map
tests_agree : (isid : Isid) (t : Table) → eq_by_cmp isid_cmp isid t.isid ≡ is_of isid t
tests_agree isid t = by_tests (eq_by_cmp isid_cmp isid t.isid) (is_of isid t) refl refl
  where
    by_tests : (a b : Bool) → eq_by_cmp isid_cmp isid t.isid ≡ a → is_of isid t ≡ b → eq_by_cmp isid_cmp isid t.isid ≡ is_of isid t
    by_tests true true p q = p ∙ sym q
    by_tests false false p q = p ∙ sym q
    by_tests true false p q = absurd (false≢true (sym q ∙ eq-eqb t.isid.value isid.value (ap (λ (x : Isid). x.value) (sym (tied_is isid t.isid p)))))
    by_tests false true p q = absurd (false≢true (sym p ∙ tied isid t.isid (sym (of_is isid t q))))

abbrev Known : Type 0
Known = List (Mac × Place)

-- what stands under an I-SID: what its first table has
pub found : (isid : Isid) (ts : List Table) (i : ℕ) (d : Table) → i < length ts → is_of isid (get_or ts i d) ≡ true → ((k : ℕ) → k < i → is_of isid (get_or ts k d) ≡ false)
    → find isid_cmp isid (map keyed ts) ≡ Some (get_or ts i d).addresses.entries
found isid [] i d within is before = absurd (omega arith)
found isid (t ∷ ts) zero d within is before = rw (tests_agree isid t, is) refl
found isid (t ∷ ts) (suc i) d within is before =
    let first : is_of isid t ≡ false = before 0 (omega arith) in
    let rest = found isid ts i d (omega arith) is (λ k h. before (suc k) (omega arith)) in
    rw (tests_agree isid t, first) rest

shadowed : (b : Bool) (x y z : Option Known) → cond b x z ≡ cond b x (cond b y z)
shadowed true x y z = refl
shadowed false x y z = refl

swapped : (a b : Bool) (x y z : Option Known) → (a ≡ true → b ≡ true → ⊥) → cond a x (cond b y z) ≡ cond b y (cond a x z)
swapped true true x y z apart = absurd (apart refl refl)
swapped true false x y z apart = refl
swapped false b x y z apart = refl

-- what stands under an I-SID once its first table is another
pub found_set : (isid : Isid) (ts : List Table) (i : ℕ) (d u : Table) → i < length ts → is_of isid (get_or ts i d) ≡ true → ((k : ℕ) → k < i → is_of isid (get_or ts k d) ≡ false)
    → u.isid ≡ isid → (q : Isid) → find isid_cmp q (map keyed (set ts i u)) ≡ cond (eq_by_cmp isid_cmp q isid) (Some u.addresses.entries) (find isid_cmp q (map keyed ts))
found_set isid [] i d u within is before same q = absurd (omega arith)
found_set isid (t ∷ ts) zero d u within is before same q =
    ap (λ (x : Isid). cond (eq_by_cmp isid_cmp q x) (Some u.addresses.entries) (find isid_cmp q (map keyed ts))) same
    ∙ shadowed (eq_by_cmp isid_cmp q isid) (Some u.addresses.entries) (Some t.addresses.entries) (find isid_cmp q (map keyed ts))
    ∙ ap (λ (x : Isid). cond (eq_by_cmp isid_cmp q isid) (Some u.addresses.entries) (cond (eq_by_cmp isid_cmp q x) (Some t.addresses.entries) (find isid_cmp q (map keyed ts)))) (sym (of_is isid t is))
found_set isid (t ∷ ts) (suc i) d u within is before same q =
    let first : is_of isid t ≡ false = before 0 (omega arith) in
    let rest = found_set isid ts i d u (omega arith) is (λ k h. before (suc k) (omega arith)) same q in
    ap (λ (o : Option Known). cond (eq_by_cmp isid_cmp q t.isid) (Some t.addresses.entries) o) rest
    ∙ swapped (eq_by_cmp isid_cmp q t.isid) (eq_by_cmp isid_cmp q isid) (Some t.addresses.entries) (Some u.addresses.entries) (find isid_cmp q (map keyed ts))
    (λ here there. false≢true (sym first ∙ (sym (tests_agree isid t) ∙ tied isid t.isid (sym (tied_is q isid there) ∙ tied_is q t.isid here))))

either : (b : Bool) (x : Option Known) → x ≡ cond b x x
either true x = refl
either false x = refl

-- and once its tables are gone
pub found_filter : (isid : Isid) (ts : List Table) (q : Isid) → find isid_cmp q (map keyed (filter (λ t. not (is_of isid t)) ts)) ≡ cond (eq_by_cmp isid_cmp q isid) None (find isid_cmp q (map keyed ts))
found_filter isid [] q = either (eq_by_cmp isid_cmp q isid) None
found_filter isid (t ∷ ts) q =
    let rest = found_filter isid ts q in
    (elim (is_of isid t) as (λ b. is_of isid t ≡ b → find isid_cmp q (map keyed (filter (λ s. not (is_of isid s)) (t ∷ ts))) ≡ cond (eq_by_cmp isid_cmp q isid) None (find isid_cmp q (map keyed (t ∷ ts)))) [
      | true ↦ λ is. rw is (rest
          ∙ shadowed (eq_by_cmp isid_cmp q isid) None (Some t.addresses.entries) (find isid_cmp q (map keyed ts))
          ∙ ap (λ (x : Isid). cond (eq_by_cmp isid_cmp q isid) None (cond (eq_by_cmp isid_cmp q x) (Some t.addresses.entries) (find isid_cmp q (map keyed ts)))) (sym (of_is isid t is)))
      | false ↦ λ first. rw first (ap (λ (o : Option Known). cond (eq_by_cmp isid_cmp q t.isid) (Some t.addresses.entries) o) rest
          ∙ swapped (eq_by_cmp isid_cmp q t.isid) (eq_by_cmp isid_cmp q isid) (Some t.addresses.entries) None (find isid_cmp q (map keyed ts))
          (λ here there. false≢true (sym first ∙ (sym (tests_agree isid t) ∙ tied isid t.isid (sym (tied_is q isid there) ∙ tied_is q t.isid here)))))
    ]) refl

-- what stands under no I-SID
none_found : (isid : Isid) (ts : List Table) → length ts ≤ position_or_len (is_of isid) ts → find isid_cmp isid (map keyed ts) ≡ None
none_found isid [] few = refl
none_found isid (t ∷ ts) few = (elim (is_of isid t) as (λ b. is_of isid t ≡ b → find isid_cmp isid (map keyed (t ∷ ts)) ≡ None) [
  | true ↦ λ is. absurd (let h = rw is at few in omega arith)
  | false ↦ λ first. rw (tests_agree isid t, first) (none_found isid ts (let h = rw first at few in omega arith))
]) refl

nowhere : (isid : Isid) (ts : List Table) → None ≡ position (is_of isid) ts → find isid_cmp isid (map keyed ts) ≡ None
nowhere isid ts none = (elim (ltb (position_or_len (is_of isid) ts) (length ts)) as (λ b. ltb (position_or_len (is_of isid) ts) (length ts) ≡ b → find isid_cmp isid (map keyed ts) ≡ None) [
  | true ↦ λ h. absurd (let e = rw h at none in cc)
  | false ↦ λ h. none_found isid ts (let few : length ts ≤ position_or_len (is_of isid) ts = grind (arith, nat_tests) in few)
]) refl

-- ---- the map that tables are seen as

pub known_at : (ts : List Table) (isid : Isid) (i : ℕ) (d : Table) (learned : Addresses) → from_entries (map keyed ts) ≡ learned → Some i ≡ position (is_of isid) ts
    → get learned isid ≡ Some (get_or ts i d).addresses.entries
known_at ts isid i d learned is at =
    let p = position-Some (is_of isid) ts i d (sym at) in
    ap (λ (m : Addresses). get m isid) (sym is) ∙ get-from_entries isids_total (map keyed ts) isid ∙ found isid ts i d p.0 p.1 p.2

pub unknown : (ts : List Table) (isid : Isid) (learned : Addresses) → from_entries (map keyed ts) ≡ learned → None ≡ position (is_of isid) ts → get learned isid ≡ None
unknown ts isid learned is none = ap (λ (m : Addresses). get m isid) (sym is) ∙ get-from_entries isids_total (map keyed ts) isid ∙ nowhere isid ts none

pub set_map : (ts : List Table) (isid : Isid) (i : ℕ) (d u : Table) (learned : Addresses) → from_entries (map keyed ts) ≡ learned → Some i ≡ position (is_of isid) ts
    → u.isid ≡ (get_or ts i d).isid → from_entries (map keyed (set ts i u)) ≡ insert learned isid u.addresses.entries
set_map ts isid i d u learned is at same =
    let p = position-Some (is_of isid) ts i d (sym at) in
    same_map isids_total isids_tied _ _ (λ q.
    get-from_entries isids_total (map keyed (set ts i u)) q
    ∙ found_set isid ts i d u p.0 p.1 p.2 (same ∙ of_is isid (get_or ts i d) p.1) q
    ∙ sym (get-insert isids_total learned isid u.addresses.entries q
    ∙ ap (λ (o : Option Known). cond (eq_by_cmp isid_cmp q isid) (Some u.addresses.entries) o) (ap (λ (m : Addresses). get m q) (sym is) ∙ get-from_entries isids_total (map keyed ts) q)))

pub push_map : (ts : List Table) (isid : Isid) (u : Table) (learned : Addresses) → from_entries (map keyed ts) ≡ learned → None ≡ position (is_of isid) ts
    → u.isid ≡ isid → from_entries (map keyed (ts ++ u ∷ [])) ≡ insert learned isid u.addresses.entries
push_map ts isid u learned is none same =
    ap (λ (es : List (Isid × Known)). from_entries {R = isid_cmp} es) (map-append keyed ts (u ∷ []))
    ∙ ap (λ (x : Isid). from_entries {R = isid_cmp} (map keyed ts ++ (x, u.addresses.entries) ∷ [])) same
    ∙ from_entries_push isids_total isids_tied (map keyed ts) isid u.addresses.entries (nowhere isid ts none)
    ∙ ap (λ (m : Addresses). insert m isid u.addresses.entries) is

pub filter_map : (ts : List Table) (isid : Isid) (learned : Addresses) → from_entries (map keyed ts) ≡ learned
    → from_entries (map keyed (filter (λ t. not (is_of isid t)) ts)) ≡ remove learned isid
filter_map ts isid learned is =
    same_map isids_total isids_tied _ _ (λ q.
    get-from_entries isids_total (map keyed (filter (λ t. not (is_of isid t)) ts)) q
    ∙ found_filter isid ts q
    ∙ sym (get-remove isids_total learned isid q
    ∙ ap (λ (o : Option Known). cond (eq_by_cmp isid_cmp q isid) None o) (ap (λ (m : Addresses). get m q) (sym is) ∙ get-from_entries isids_total (map keyed ts) q)))

pub sized_filter : (test : Table → Bool) (ts : List Table) → AreSized ts → AreSized (filter test ts)
sized_filter test [] sized = tt
sized_filter test (t ∷ ts) sized = (elim (test t) as (λ b. test t ≡ b → AreSized (filter test (t ∷ ts))) [
  | true ↦ λ h. rw h (sized.0, sized_filter test ts sized.1)
  | false ↦ λ h. rw h (sized_filter test ts sized.1)
]) refl

-- ---- what each call makes of it

pub place_known : (ts : List Table) (isid : Isid) (i : ℕ) (was : Table) (learned : Addresses) → from_entries (map keyed ts) ≡ learned → Some i ≡ position (is_of isid) ts
    → was ≡ get_or ts i was → get learned isid ≡ Some was.addresses.entries
place_known ts isid i was learned is at here = known_at ts isid i was learned is at ∙ ap (λ (t : Table). Some t.addresses.entries) (sym here)

pub learned_over : (ts : List Table) (isid : Isid) (i : ℕ) (was u : Table) (learned : Addresses) (mac : Mac) (place : Place) → from_entries (map keyed ts) ≡ learned → Some i ≡ position (is_of isid) ts
    → was ≡ get_or ts i was → u.isid ≡ was.isid → u.addresses.entries ≡ brought mac place was.addresses.entries
    → from_entries (map keyed (set ts i u)) ≡ with_learned learned isid mac place
learned_over ts isid i was u learned mac place is at here same new =
    set_map ts isid i was u learned is at (same ∙ ap (λ (t : Table). t.isid) here)
    ∙ ap (λ (known : Known). insert learned isid known) (new ∙ ap (λ (o : Option Known). brought mac place (or_none o)) (sym (place_known ts isid i was learned is at here)))

pub learned_new : (ts : List Table) (isid : Isid) (u : Table) (learned : Addresses) (mac : Mac) (place : Place) → from_entries (map keyed ts) ≡ learned → None ≡ position (is_of isid) ts
    → u.isid ≡ isid → u.addresses.entries ≡ brought mac place [] → from_entries (map keyed (ts ++ u ∷ [])) ≡ with_learned learned isid mac place
learned_new ts isid u learned mac place is none same new =
    push_map ts isid u learned is none same
    ∙ ap (λ (known : Known). insert learned isid known) (new ∙ ap (λ (o : Option Known). brought mac place (or_none o)) (sym (unknown ts isid learned is none)))

pub forgotten_over : (ts : List Table) (isid : Isid) (i : ℕ) (was u : Table) (learned : Addresses) (port : ℕ) → from_entries (map keyed ts) ≡ learned → Some i ≡ position (is_of isid) ts
    → was ≡ get_or ts i was → u.isid ≡ was.isid → u.addresses.entries ≡ without_local port was.addresses.entries
    → from_entries (map keyed (set ts i u)) ≡ with_port_forgotten learned isid port
forgotten_over ts isid i was u learned port is at here same new =
    set_map ts isid i was u learned is at (same ∙ ap (λ (t : Table). t.isid) here)
    ∙ ap (λ (known : Known). insert learned isid known) new
    ∙ ap (λ (o : Option Known). with_known learned isid (option_map (without_local port) o)) (sym (place_known ts isid i was learned is at here))

pub forgotten_none : (ts : List Table) (isid : Isid) (learned : Addresses) (port : ℕ) → from_entries (map keyed ts) ≡ learned → None ≡ position (is_of isid) ts
    → learned ≡ with_port_forgotten learned isid port
forgotten_none ts isid learned port is none =
    ap (λ (o : Option Known). with_known learned isid (option_map (without_local port) o)) (sym (unknown ts isid learned is none))
