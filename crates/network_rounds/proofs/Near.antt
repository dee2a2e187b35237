-- No walk has to be longer than the bridges are many: what lies between two visits of one place is left out.
use Rattle.std.proofs.Common.{◌≡◌, ℕ, ◌-◌, ◌<◌, ◌≤◌, ◌||◌, Bool, true, false, List, [], ◌∷◌, length, refl, sym, subst, eqb, eqb-true, arith}
use Rattle.std.specs.List.{IsDistinct, list_any, AllByRecursion}
use Rattle.std.proofs.lemmas.Map.Steps.{length-le_from_distinct_below}
use Rattle.spb_types.specs.declared.link.Dir.{Dir}
use Rattle.spb_types.specs.declared.link.Dir.TheVariants.{Ab, Ba}
use Rattle.spb_world.specs.declared.declaration.DeclaredLink.{DeclaredLink}
use Rattle.spb_world.specs.Links.{near_end, far_end}
use Rattle.spb_world.specs.World.{IsLink}
use Rattle.network_model.specs.State.{State, links_of}
use Rattle.network_model.specs.Sound.{IsSoundState}
use Rattle.network_model.specs.Truth.{AreLinked, IsWalk}
use Rattle.network_model.proofs.FitsLemmas.{link_there}
use Rattle.network_rounds.specs.Near.{BridgesAreNear}

neither : (b c : Bool) → (b || c) ≡ false → (b ≡ false) × (c ≡ false)
neither true c e = absurd cc
neither false c e = (refl, e)

-- ---- places that differ

all_others : (x : ℕ) (xs : List ℕ) → list_any (eqb x) xs ≡ false → AllByRecursion (λ y. eqb x y ≡ false) xs
all_others x [] none = tt
all_others x (y ∷ ys) none = let parts = neither (eqb x y) (list_any (eqb x) ys) none in (parts.0, all_others x ys parts.1)

nowhere : (x : ℕ) (xs : List ℕ) → list_any (eqb x) xs ≡ false → IsDistinct eqb xs → IsDistinct eqb (x ∷ xs)
unfolding IsDistinct
nowhere x xs none apart = (all_others x xs none, apart)

tail : (x : ℕ) (xs : List ℕ) → IsDistinct eqb (x ∷ xs) → IsDistinct eqb xs
unfolding IsDistinct
tail x xs apart = apart.1

alone : (x : ℕ) → IsDistinct eqb (x ∷ [])
unfolding IsDistinct
alone x = (tt, tt)

module _ (links : List DeclaredLink) where
  -- a walk that comes to no place twice
  record IsShort (i j : ℕ) : Type 0 where
    js : List ℕ
    walk : IsWalk links i js j
    apart : IsDistinct eqb (i ∷ js)

  -- from where the place comes again
  found : (i k : ℕ) (js : List ℕ) (j : ℕ) → eqb i k ≡ true → IsWalk links k js j → IsDistinct eqb (k ∷ js) → IsShort i j
  found i k js j e walk apart =
      let is : i ≡ k = eqb-true i k e in
      record { js = js; walk = subst (λ (n : ℕ). IsWalk links n js j) (sym is) walk; apart = subst (λ (n : ℕ). IsDistinct eqb (n ∷ js)) (sym is) apart }

  cut : (i k : ℕ) (js : List ℕ) (j : ℕ) → IsWalk links k js j → IsDistinct eqb (k ∷ js) → list_any (eqb i) (k ∷ js) ≡ true → IsShort i j
  cut i k [] j walk apart again = by (eqb i k) refl again
    where
      by : (b : Bool) → eqb i k ≡ b → (b || false) ≡ true → IsShort i j
      by true e again = found i k [] j e walk apart
      by false e again = absurd cc
  cut i k (m ∷ js) j walk apart again = by (eqb i k) refl again (cut i m js j walk.1 (tail k (m ∷ js) apart))
    where
      by : (b : Bool) → eqb i k ≡ b → (b || list_any (eqb i) (m ∷ js)) ≡ true → (list_any (eqb i) (m ∷ js) ≡ true → IsShort i j) → IsShort i j
      by true e again more = found i k (m ∷ js) j e walk apart
      by false e again more = more again

  on : (i k j : ℕ) → AreLinked links i k → IsShort k j → IsShort i j
  on i k j link short = by (list_any (eqb i) (k ∷ short.js)) refl
    where
      by : (b : Bool) → list_any (eqb i) (k ∷ short.js) ≡ b → IsShort i j
      by true e = cut i k short.js j short.walk short.apart e
      by false e = record { js = k ∷ short.js; walk = (link, short.walk); apart = nowhere i (k ∷ short.js) e short.apart }

  shorten : (i : ℕ) (ks : List ℕ) (j : ℕ) → IsWalk links i ks j → IsShort i j
  shorten i [] j walk = record { js = []; walk = walk; apart = alone i }
  shorten i (k ∷ ks) j walk = on i k j walk.0 (shorten k ks j walk.1)

  module _ (n : ℕ) (within : (u v : ℕ) → AreLinked links u v → (u < n) × (v < n)) where
    low : (k : ℕ) (js : List ℕ) (j q : ℕ) → k < n → IsWalk links k js j → list_any (eqb q) (k ∷ js) ≡ true → q < n
    low k [] j q first walk among = by (eqb q k) refl among
      where
        by : (b : Bool) → eqb q k ≡ b → (b || false) ≡ true → q < n
        by true e among = let is : q ≡ k = eqb-true q k e in omega (arith, is, first)
        by false e among = absurd cc
    low k (m ∷ js) j q first walk among = by (eqb q k) refl among (low m js j q (within k m walk.0).1 walk.1)
      where
        by : (b : Bool) → eqb q k ≡ b → (b || list_any (eqb q) (m ∷ js)) ≡ true → (list_any (eqb q) (m ∷ js) ≡ true → q < n) → q < n
        by true e among more = let is : q ≡ k = eqb-true q k e in omega (arith, is, first)
        by false e among more = more among

    near_all : (i j : ℕ) (ks : List ℕ) → IsWalk links i ks j → (js : List ℕ) × IsWalk links i js j × (length js ≤ n - 1)
    near_all i j ks walk = by (shorten i ks j walk)
      where
        by : IsShort i j → (js : List ℕ) × IsWalk links i js j × (length js ≤ n - 1)
        by short = at short.js short.walk short.apart
          where
            at : (js : List ℕ) → IsWalk links i js j → IsDistinct eqb (i ∷ js) → (js : List ℕ) × IsWalk links i js j × (length js ≤ n - 1)
            at [] walk apart = ([], walk, omega arith)
            at (m ∷ js) walk apart =
                let few : length (i ∷ m ∷ js) ≤ n = length-le_from_distinct_below (i ∷ m ∷ js) n apart (λ q among. low i (m ∷ js) j q (within i m walk.0).0 walk among) in
                (m ∷ js, walk, omega (arith, few))

-- ---- links join declared bridges

ends_within : (n : ℕ) (dir : Dir) (l : DeclaredLink) → l.a.bridge < n → l.b.bridge < n → ((near_end dir l).bridge < n) × ((far_end dir l).bridge < n)
ends_within n Ab l a b = (a, b)
ends_within n Ba l a b = (b, a)

linked_within : (s : State) → IsSoundState s → (u v : ℕ) → AreLinked (links_of s) u v → (u < length s.views) × (v < length s.views)
linked_within s sound u v link =
    let ends : IsLink s.world.bridges link.link = link_there s link.place link.link sound.world link.there in
    let both = ends_within (length s.views) link.dir link.link (omega (arith, ends.a.bridge, sound.fits.bridges)) (omega (arith, ends.b.bridge, sound.fits.bridges)) in
    (omega (arith, both.0, link.near), omega (arith, both.1, link.far))

pub bridges_are_near : BridgesAreNear
bridges_are_near s sound i j ks walk = near_all (links_of s) (length s.views) (linked_within s sound) i j ks walk
