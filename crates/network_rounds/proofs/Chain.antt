-- Steady rounds, one after another, lead to agreement: what each bridge holds under each id, by the order of versions alone.
use Rattle.std.proofs.Common.{◌≡◌, ◌⊎◌, inl, inr, ℕ, zero, suc, ◌+◌, ◌-◌, ◌<◌, ◌≤◌, List, [], ◌∷◌, ◌++◌, length, refl, sym, ap, ◌∙◌, subst, arith}
use Rattle.spb_types.specs.declared.link.Dir.{Dir}
use Rattle.spb_types.specs.declared.link.Dir.TheVariants.{Ab, Ba}
use Rattle.spb_world.specs.declared.declaration.DeclaredLink.{DeclaredLink}
use Rattle.spb_world.specs.declared.declaration.LinkEnd.{LinkEnd}
use Rattle.spb_world.specs.Links.{near_end, far_end}
use Rattle.spb_world.proofs.SoundLaneIds.{turned, near-turned}
use Rattle.network_model.specs.Truth.{AreLinked, IsWalk}
use Rattle.network_model.proofs.QuietReadLinks.{walk_on}

-- ---- walks lead back

far_turned : (dir : Dir) (l : DeclaredLink) → far_end (turned dir) l ≡ near_end dir l
far_turned Ab l = refl
far_turned Ba l = refl

pub linked_back : (links : List DeclaredLink) (u v : ℕ) → AreLinked links u v → AreLinked links v u
linked_back links u v link = record {
  place = link.place;
  dir = turned link.dir;
  link = link.link;
  there = link.there;
  live = link.live;
  near = ap (λ (e : LinkEnd). e.bridge) (near-turned link.dir link.link) ∙ link.far;
  far = ap (λ (e : LinkEnd). e.bridge) (far_turned link.dir link.link) ∙ link.near;
}

-- ---- rounds

-- an order
pub record IsOrder {V : Type 0} (leq : V → V → Type 0) : Type 0 where
  pub itself : (a : V) → leq a a
  pub through : (a b c : V) → leq a b → leq b c → leq a c
  pub both : (a b : V) → leq a b → leq b a → a ≡ b

-- so many steady rounds: no version falls; each neighbour holds afterwards at least what one held; what comes is what a
-- neighbour held, but at the origin of the id; and where no neighbour is ahead, nothing changes
pub record IsSteady {V : Type 0} (leq : V → V → Type 0) (links : List DeclaredLink) {I : Type 0} (IsOrigin : ℕ → I → Type 0)
    (rounds : ℕ) (ver : ℕ → ℕ → I → V) : Type 0 where
  pub order : IsOrder leq
  pub one : (u v : ℕ) (x : I) → IsOrigin u x → IsOrigin v x → u ≡ v
  pub rises : (r u : ℕ) (x : I) → r < rounds → leq (ver r u x) (ver (suc r) u x)
  pub pushes : (r u v : ℕ) (x : I) → r < rounds → AreLinked links u v → leq (ver r u x) (ver (suc r) v x)
  pub comes : (r u : ℕ) (x : I) → r < rounds
      → (ver (suc r) u x ≡ ver r u x) ⊎ (((w : ℕ) × AreLinked links w u × (ver (suc r) u x ≡ ver r w x)) ⊎ IsOrigin u x)
  pub stands : (r u : ℕ) (x : I) → r < rounds → ((w : ℕ) → AreLinked links w u → leq (ver r w x) (ver r u x))
      → ver (suc r) u x ≡ ver r u x

-- whom a walk joins, a walk of at most so many links joins
abbrev pub IsNear : List DeclaredLink → ℕ → Type 0
IsNear links d = (i j : ℕ) (ks : List ℕ) → IsWalk links i ks j → (js : List ℕ) × IsWalk links i js j × (length js ≤ d)

module _ {V I : Type 0} (leq : V → V → Type 0) (links : List DeclaredLink) (IsOrigin : ℕ → I → Type 0) (rounds d : ℕ) (ver : ℕ → ℕ → I → V)
    (steady : IsSteady leq links IsOrigin rounds ver) (near : IsNear links d) where
  back : (i : ℕ) (ks : List ℕ) (j : ℕ) → IsWalk links i ks j → (js : List ℕ) × IsWalk links j js i
  back i [] j walk = ([], sym walk)
  back i (k ∷ ks) j walk = let more = back k ks j walk.1 in (more.0 ++ i ∷ [], walk_on links j more.0 k i more.1 (linked_back links i k walk.0))

  joined : (i : ℕ) (ks : List ℕ) (j : ℕ) (js : List ℕ) (k : ℕ) → IsWalk links i ks j → IsWalk links j js k → IsWalk links i (ks ++ js) k
  joined i [] j js k one two = subst (λ (n : ℕ). IsWalk links n js k) (sym one) two
  joined i (m ∷ ks) j js k one two = (one.0, joined m ks j js k one.1 two)

  same : (a b : V) → a ≡ b → leq a b
  same a b e = subst (leq a) e (steady.order.itself a)

  through : (a b c : V) → leq a b → leq b c → leq a c
  through a b c = steady.order.through a b c

  -- no version falls in any number of rounds
  rises_by : (k r u : ℕ) (x : I) → r + k ≤ rounds → leq (ver r u x) (ver (r + k) u x)
  rises_by zero r u x le = same (ver r u x) (ver (r + 0) u x) (ap (λ (n : ℕ). ver n u x) (omega arith))
  rises_by (suc k) r u x le =
      through (ver r u x) (ver (suc r) u x) (ver (r + suc k) u x) (steady.rises r u x (omega (arith, le)))
      (subst (λ (n : ℕ). leq (ver (suc r) u x) (ver n u x)) (omega arith) (rises_by k (suc r) u x (omega (arith, le))))

  rises_to : (r t u : ℕ) (x : I) → r ≤ t → t ≤ rounds → leq (ver r u x) (ver t u x)
  rises_to r t u x le within = subst (λ (n : ℕ). leq (ver r u x) (ver n u x)) (omega (arith, le)) (rises_by (t - r) r u x (omega (arith, le, within)))

  -- along a walk of k links it takes k rounds
  pub walks_to : (ks : List ℕ) (r u w : ℕ) (x : I) → IsWalk links u ks w → r + length ks ≤ rounds → leq (ver r u x) (ver (r + length ks) w x)
  walks_to [] r u w x walk le = subst (λ (n : ℕ). leq (ver r u x) (ver n w x)) (omega arith) (same (ver r u x) (ver r w x) (ap (λ (n : ℕ). ver r n x) walk))
  walks_to (k ∷ ks) r u w x walk le =
      through (ver r u x) (ver (suc r) k x) (ver (r + suc (length ks)) w x) (steady.pushes r u k x (omega (arith, le)) walk.0)
      (subst (λ (n : ℕ). leq (ver (suc r) k x) (ver n w x)) (omega arith) (walks_to ks (suc r) k w x walk.1 (omega (arith, le))))

  pub reaches : (r t u w : ℕ) (x : I) (ks : List ℕ) → IsWalk links u ks w → r + d ≤ t → t ≤ rounds → leq (ver r u x) (ver t w x)
  reaches r t u w x ks walk le within =
      let short = near u w ks walk in
      let few : length short.0 ≤ d = short.2 in
      through (ver r u x) (ver (r + length short.0) w x) (ver t w x) (walks_to short.0 r u w x short.1 (omega (arith, few, le, within)))
      (rises_to (r + length short.0) t w x (omega (arith, few, le)) within)

  -- where a version comes from: somebody held it at the start, or it is at most what its origin holds
  pub data From (r u : ℕ) (x : I) : Type 0 where
    is_old : (w : ℕ) (ks : List ℕ) → IsWalk links w ks u → ver r u x ≡ ver zero w x → From r u x
    is_own : (o : ℕ) (ks : List ℕ) → IsOrigin o x → IsWalk links o ks u → leq (ver r u x) (ver r o x) → From r u x

  on : (r u w : ℕ) (x : I) (ks : List ℕ) → suc r ≤ rounds → ver (suc r) u x ≡ ver r w x → IsWalk links w ks u → From r w x → From (suc r) u x
  on r u w x ks le is walk (is_old v js at held) = is_old v (js ++ ks) (joined v js w ks u at walk) (is ∙ held)
  on r u w x ks le is walk (is_own o js own at held) =
      is_own o (js ++ ks) own (joined o js w ks u at walk)
      (through (ver (suc r) u x) (ver r w x) (ver (suc r) o x) (same (ver (suc r) u x) (ver r w x) is) (through (ver r w x) (ver r o x) (ver (suc r) o x) held (steady.rises r o x (omega (arith, le)))))

  pub from_where : (r u : ℕ) (x : I) → r ≤ rounds → From r u x
  from_where zero u x le = is_old u [] refl refl
  from_where (suc r) u x le = by (steady.comes r u x (omega (arith, le))) (λ w. from_where r w x (omega (arith, le)))
    where
      by : (ver (suc r) u x ≡ ver r u x) ⊎ (((w : ℕ) × AreLinked links w u × (ver (suc r) u x ≡ ver r w x)) ⊎ IsOrigin u x) → ((w : ℕ) → From r w x) → From (suc r) u x
      by (inl stays) was = on r u u x [] le stays refl (was u)
      by (inr (inl came)) was = on r u came.0 x (u ∷ []) le came.2 (came.1, refl) (was came.0)
      by (inr (inr own)) was = is_own u [] own refl (steady.order.itself (ver (suc r) u x))

  -- from d rounds on, nobody whom a walk joins to the origin of an id is ahead of it
  pub ahead : (r o u : ℕ) (x : I) (ks : List ℕ) → d ≤ r → r ≤ rounds → IsOrigin o x → IsWalk links o ks u → leq (ver r u x) (ver r o x)
  ahead r o u x ks low within own walk = by (from_where r u x within)
    where
      by : From r u x → leq (ver r u x) (ver r o x)
      by (is_old w js at held) =
          let home = back o ks u walk in
          through (ver r u x) (ver zero w x) (ver r o x) (same (ver r u x) (ver zero w x) held)
          (reaches zero r w o x (js ++ home.0) (joined w js u home.0 o at home.1) (omega (arith, low)) within)
      by (is_own p js other at held) = subst (λ (n : ℕ). leq (ver r u x) (ver r n x)) (steady.one p o x other own) held

  -- and then the origin holds the same in each round
  stays_by : (k o : ℕ) (x : I) → d + k ≤ rounds → IsOrigin o x → ver (d + k) o x ≡ ver d o x
  stays_by zero o x le own = ap (λ (n : ℕ). ver n o x) (omega arith)
  stays_by (suc k) o x le own =
      ap (λ (n : ℕ). ver n o x) (omega arith)
      ∙ (steady.stands (d + k) o x (omega (arith, le)) (λ w link. ahead (d + k) o w x (w ∷ []) (omega arith) (omega (arith, le)) own (linked_back links w o link, refl))
      ∙ stays_by k o x (omega (arith, le)) own)

  pub stays_to : (r o : ℕ) (x : I) → d ≤ r → r ≤ rounds → IsOrigin o x → ver r o x ≡ ver d o x
  stays_to r o x low within own = ap (λ (n : ℕ). ver n o x) (omega (arith, low)) ∙ stays_by (r - d) o x (omega (arith, low, within)) own

  -- who is joined to the origin holds what it holds
  as_origin : (r o u : ℕ) (x : I) (ks : List ℕ) → d + d ≤ r → r ≤ rounds → IsOrigin o x → IsWalk links o ks u → ver r u x ≡ ver r o x
  as_origin r o u x ks low within own walk =
      steady.order.both (ver r u x) (ver r o x) (ahead r o u x ks (omega (arith, low)) within own walk)
      (through (ver r o x) (ver d o x) (ver r u x) (same (ver r o x) (ver d o x) (stays_to r o x (omega (arith, low)) within own))
      (reaches d r o u x ks walk low within))

  -- from 2d rounds on, whom a walk joins hold the same under each id
  pub agree : (r u w : ℕ) (x : I) (ks : List ℕ) → d + d ≤ r → r ≤ rounds → IsWalk links u ks w → ver r u x ≡ ver r w x
  agree r u w x ks low within walk = by (from_where r u x within) (from_where r w x within)
    where
      by : From r u x → From r w x → ver r u x ≡ ver r w x
      by (is_own o js own at held) other = as_origin r o u x js low within own at ∙ sym (as_origin r o w x (js ++ ks) low within own (joined o js u ks w at walk))
      by (is_old v js at held) (is_own o ls own there more) =
          let home = back u ks w walk in
          as_origin r o u x (ls ++ home.0) low within own (joined o ls w home.0 u there home.1) ∙ sym (as_origin r o w x ls low within own there)
      by (is_old v js at held) (is_old y ls there more) =
          let home = back u ks w walk in
          steady.order.both (ver r u x) (ver r w x)
          (through (ver r u x) (ver zero v x) (ver r w x) (same (ver r u x) (ver zero v x) held) (reaches zero r v w x (js ++ ks) (joined v js u ks w at walk) (omega (arith, low)) within))
          (through (ver r w x) (ver zero y x) (ver r u x) (same (ver r w x) (ver zero y x) more) (reaches zero r y u x (ls ++ home.0) (joined y ls w home.0 u there home.1) (omega (arith, low)) within))
