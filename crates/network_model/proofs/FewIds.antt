-- Few ids are held where each is one that a declared bridge originates.
use Rattle.std.proofs.Common.{◌≡◌, ◌≤◌, ◌<◌, ℕ, zero, suc, ◌+◌, ◌-◌, ◌*◌, Bool, true, false, not, cond, List, [], ◌∷◌, length, refl, sym, ap, ◌∙◌, Some, slice_get, arith}
use Rattle.std.specs.Prelude.{◌&&◌}
use Rattle.std.proofs.lemmas.Bool.{true≢false, and_parts}
use Rattle.std.specs.FinMap.{is_sorted}
use Rattle.std.specs.FinMap.Entries.{below_all}
use Rattle.spb_types.specs.declared.address.SystemId.{SystemId}
use Rattle.spb_types.specs.declared.address.LspId.{LspId}
use Rattle.spb_types.specs.declared.limits.TheConstants.{MOST_LSPS}
use Rattle.lsdb.specs.Entry.{Entry}
use Rattle.lsdb.specs.Database.{id_cmp}
use Rattle.flooding.specs.Own.{own_numbers, is_own_number}
use Rattle.flooding.specs.Room.{others_among}
use Rattle.flooding.proofs.OwnNumbers.{number_is_own}
use Rattle.flooding.proofs.Room.{few_among}
use Rattle.spb_world.specs.declared.declaration.DeclaredBridge.{DeclaredBridge}
use Rattle.spb_world.specs.World.{Bridges, things_of}
use Rattle.network_model.specs.Counted.{IsOwnOf}

-- ---- what is left of a list in order without the own numbers of a system

others_below : (s : SystemId) (id : LspId) (es : List (LspId × Entry)) → below_all id_cmp id es ≡ true → below_all id_cmp id (others_among s es) ≡ true
others_below s id [] below = refl
others_below s id (e ∷ es) below = by (is_own_number s e.0) below (λ rest. others_below s id es rest)
  where
    by : (b : Bool) → below_all id_cmp id (e ∷ es) ≡ true → (below_all id_cmp id es ≡ true → below_all id_cmp id (others_among s es) ≡ true) → below_all id_cmp id (cond (not b) (e ∷ others_among s es) (others_among s es)) ≡ true
    by true below rest = rest (and_parts _ _ below).1
    by false below rest = let parts = and_parts _ (below_all id_cmp id es) below in ap (λ b. b && below_all id_cmp id (others_among s es)) parts.0 ∙ rest parts.1

others_sorted : (s : SystemId) (es : List (LspId × Entry)) → is_sorted id_cmp es ≡ true → is_sorted id_cmp (others_among s es) ≡ true
others_sorted s [] sorted = refl
others_sorted s (e ∷ es) sorted =
    let parts = and_parts (below_all id_cmp e.0 es) (is_sorted id_cmp es) sorted in
    by (is_own_number s e.0) (others_below s e.0 es parts.0) (others_sorted s es parts.1)
  where
    by : (b : Bool) → below_all id_cmp e.0 (others_among s es) ≡ true → is_sorted id_cmp (others_among s es) ≡ true → is_sorted id_cmp (cond (not b) (e ∷ others_among s es) (others_among s es)) ≡ true
    by true below sorted = sorted
    by false below sorted = ap (λ b. b && is_sorted id_cmp (others_among s es)) below ∙ sorted

-- an entry of what is left was there, and isn't an own number
record IsLeft (s : SystemId) (es : List (LspId × Entry)) (e : LspId × Entry) : Type 0 where
  place : ℕ
  at : slice_get es place ≡ Some e
  other : is_own_number s e.0 ≡ false

is_left : (s : SystemId) (es : List (LspId × Entry)) (k : ℕ) (e : LspId × Entry) → slice_get (others_among s es) k ≡ Some e → IsLeft s es e
is_left s [] k e at = absurd (cc)
is_left s (d ∷ es) k e at = by (is_own_number s d.0) refl k at (λ j there. is_left s es j e there)
  where
    later : IsLeft s es e → IsLeft s (d ∷ es) e
    later l = record { place = suc l.place; at = l.at; other = l.other }

    by : (b : Bool) → is_own_number s d.0 ≡ b → (k : ℕ) → slice_get (cond (not b) (d ∷ others_among s es) (others_among s es)) k ≡ Some e → ((j : ℕ) → slice_get (others_among s es) j ≡ Some e → IsLeft s es e) → IsLeft s (d ∷ es) e
    by true own k at rest = later (rest k at)
    by false other zero at rest =
        let same : d ≡ e = cc in
        record { place = 0; at = at; other = ap (λ (x : LspId × Entry). is_own_number s x.0) (sym same) ∙ other }
    by false other (suc k) at rest = later (rest k at)

-- ---- how many there are

owned_later : (b : List ℕ × DeclaredBridge) (bs : Bridges) (id : LspId) → is_own_number b.1.bridge.id.system id ≡ false → IsOwnOf (b ∷ bs) id → IsOwnOf bs id
owned_later b bs id other own = by own.place own.there
  where
    by : (place : ℕ) → slice_get (things_of (b ∷ bs)) place ≡ Some own.bridge → IsOwnOf bs id
    by zero there =
        let same : b.1 ≡ own.bridge = cc in
        let mine = number_is_own own.bridge.bridge.id.system id own.own in
        absurd (true≢false (sym mine ∙ (ap (λ d. is_own_number d.bridge.id.system id) (sym same) ∙ other)))
    by (suc place) there = record { place = place; bridge = own.bridge; there = there; own = own.own }

pub held_by_few : (bs : Bridges) (es : List (LspId × Entry)) → is_sorted id_cmp es ≡ true → ((k : ℕ) (e : LspId × Entry) → slice_get es k ≡ Some e → IsOwnOf bs e.0) → length es ≤ length bs * own_numbers
held_by_few [] [] sorted owned = omega arith
held_by_few [] (e ∷ es) sorted owned = let own = owned 0 e refl in let none = own.there in absurd (cc)
held_by_few (b ∷ bs) es sorted owned =
    let system = b.1.bridge.id.system in
    let few = few_among system es sorted in
    let rest = held_by_few bs (others_among system es) (others_sorted system es sorted) (λ k e at. let there = is_left system es k e at in owned_later b bs e.0 there.other (owned there.place e there.at)) in
    omega (arith, few, rest)

-- ---- how many a database has room for

few_by : (n k m : ℕ) → n + k ≡ m → n * own_numbers ≤ m * own_numbers
few_by zero k m is = omega arith
few_by (suc n) k zero is = omega (arith, is)
few_by (suc n) k (suc m) is = let less = few_by n k m (omega (arith, is)) in omega (arith, less)

pub few_times : (n : ℕ) → n ≤ 96 → n * own_numbers ≤ 96 * own_numbers
few_times n few = few_by n (96 - n) 96 (omega (arith, few))

-- 96 bridges can originate fewer LSPs than that, one bridge more included
pub room_for_all : 97 * own_numbers < MOST_LSPS
unfolding own_numbers
room_for_all = omega arith
