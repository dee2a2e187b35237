-- How many hellos are on their way to a bridge, while frames come and go.
use Rattle.std.proofs.Common.{◌≡◌, ◌≢◌, ◌⊎◌, inl, inr, ◌≤◌, ◌<◌, ◌+◌, ℕ, zero, suc, Bool, true, false, true≢false, List, [], ◌∷◌, ◌++◌, length, take, drop, refl, sym, ap, ◌∙◌, Option, Some, None, slice_get, arith}
use Rattle.std.specs.Prelude.{◌==◌, ◌&&◌, ◌||◌, insert, remove, nat_lt, if◌then◌else◌}
use Rattle.std.specs.List.{AllByRecursion, count_by}
use Rattle.std.proofs.lemmas.Bool.{cases_eq, eqb-true, eq-eqb}
use Rattle.std.proofs.lemmas.List.Sums.{sum_by-append}
use Rattle.spb_types.specs.declared.link.Dir.{Dir}
use Rattle.spb_types.specs.declared.link.Dir.TheVariants.{Ab, Ba}
use Rattle.link_model.specs.declared.lanes.LinkLanes.{LinkLanes}
use Rattle.link_model.specs.Lane.{Frame, has_room, pushed, after_lose, after_double}
use Rattle.link_model.specs.Lanes.{lane_in, lane_of, changed_lane, rest}
use Rattle.spb_types.specs.Places.{changed_at}
use Rattle.bridge_api.specs.Parsing.{is_hello}
use Rattle.spb_world.specs.declared.declaration.DeclaredLink.{DeclaredLink}
use Rattle.spb_world.specs.World.{is_between, AreApart, AllApart}
use Rattle.spb_world.specs.Links.{near_end, far_end}
use Rattle.bridge_api.specs.Step.{frames_at}
use Rattle.network_model.specs.DeliveryLaws.{pushed_all}
use Rattle.network_model.specs.Counted.{hellos_in, hellos_along, hellos_to}
use Rattle.spb_world.proofs.BoxLemmas.{All-get}

-- ---- in one lane

abbrev pub one : Frame → ℕ
one f = if is_hello f then 1 else 0

one_small : (b : Bool) → (if b then 1 else 0) ≤ 1
one_small true = omega arith
one_small false = omega arith

pub hellos-append : (fs gs : List Frame) → hellos_in (fs ++ gs) ≡ hellos_in fs + hellos_in gs
hellos-append [] gs = omega arith
hellos-append (f ∷ fs) gs = let more = hellos-append fs gs in omega (arith, more)

pub hellos_front : (fs : List Frame) (f : Frame) → slice_get fs 0 ≡ Some f → hellos_in fs ≡ one f + hellos_in (rest fs)
hellos_front [] f at = absurd cc
hellos_front (g ∷ fs) f at = let same : g ≡ f = cc in ap (λ (h : Frame). one h + hellos_in fs) same

pub hellos_rest : (fs : List Frame) → hellos_in (rest fs) ≤ hellos_in fs
hellos_rest [] = omega arith
hellos_rest (f ∷ fs) = omega arith

pushed_if : (b : Bool) (fs : List Frame) (f : Frame) → hellos_in (if b then fs ++ f ∷ [] else fs) ≤ hellos_in fs + one f
pushed_if true fs f = omega (arith, hellos-append fs (f ∷ []))
pushed_if false fs f = omega arith

pub hellos_pushed : (fs : List Frame) (f : Frame) → hellos_in (pushed fs f) ≤ hellos_in fs + one f
hellos_pushed fs f = pushed_if (has_room fs) fs f

pub hellos_pushed_all : (lane fs : List Frame) → hellos_in (pushed_all lane fs) ≤ hellos_in lane + hellos_in fs
hellos_pushed_all lane [] = omega arith
hellos_pushed_all lane (f ∷ fs) = let more = hellos_pushed_all (pushed lane f) fs in let first = hellos_pushed lane f in omega (arith, more, first)

take_fewer : (k : ℕ) (fs : List Frame) → hellos_in (take k fs) + hellos_in (drop k fs) ≡ hellos_in fs
take_fewer zero fs = omega arith
take_fewer (suc k) [] = omega arith
take_fewer (suc k) (f ∷ fs) = let more = take_fewer k fs in omega (arith, more)

drop_next : (k : ℕ) (fs : List Frame) → hellos_in (drop (suc k) fs) ≤ hellos_in (drop k fs)
drop_next zero [] = omega arith
drop_next zero (f ∷ fs) = omega arith
drop_next (suc k) [] = omega arith
drop_next (suc k) (f ∷ fs) = drop_next k fs

lost_if : (b : Bool) (k : ℕ) (fs : List Frame) → hellos_in (if b then remove fs k else fs) ≤ hellos_in fs
lost_if true k fs = omega (arith, hellos-append (take k fs) (drop (suc k) fs), take_fewer k fs, drop_next k fs)
lost_if false k fs = omega arith

pub hellos_lost : (k : ℕ) (fs : List Frame) → hellos_in (after_lose fs k) ≤ hellos_in fs
hellos_lost k fs = lost_if (nat_lt k (length fs)) k fs

doubled_if : (b : Bool) (k : ℕ) (x : Frame) (fs : List Frame) → hellos_in (if b then insert fs (k + 1) x else fs) ≤ hellos_in fs + 1
doubled_if true k x fs = omega (arith, hellos-append (take (k + 1) fs) (x ∷ drop (k + 1) fs), take_fewer (k + 1) fs, one_small (is_hello x))
doubled_if false k x fs = omega arith

doubled_by : (o : Option Frame) (k : ℕ) (fs : List Frame) → hellos_in (after_double fs k o) ≤ hellos_in fs + 1
doubled_by None k fs = omega arith
doubled_by (Some x) k fs = doubled_if (has_room fs) k x fs

pub hellos_doubled : (k : ℕ) (fs : List Frame) → hellos_in (after_double fs k (slice_get fs k)) ≤ hellos_in fs + 1
hellos_doubled k fs = doubled_by (slice_get fs k) k fs

-- those that are sent at a port
abbrev pub is_hello_at : ℕ → ℕ × Frame → Bool
is_hello_at p s = (s.0 == p) && is_hello s.1

sent_first : (at hello : Bool) (f : Frame) (fs : List Frame) (n : ℕ) → is_hello f ≡ hello → hellos_in fs ≤ n → hellos_in (if at then f ∷ fs else fs) ≤ (if at && hello then 1 else 0) + n
sent_first true true f fs n is more = let first : one f ≡ 1 = ap (λ (b : Bool). if b then 1 else 0) is in omega (arith, more, first)
sent_first true false f fs n is more = let first : one f ≡ 0 = ap (λ (b : Bool). if b then 1 else 0) is in omega (arith, more, first)
sent_first false hello f fs n is more = omega (arith, more)

pub hellos_at : (p : ℕ) (fs : List (ℕ × Frame)) → hellos_in (frames_at p fs) ≤ count_by (is_hello_at p) fs
hellos_at p [] = omega arith
hellos_at p (s ∷ fs) =
    let whole : count_by (is_hello_at p) (s ∷ fs) ≡ count_by (is_hello_at p) (s ∷ []) + count_by (is_hello_at p) fs = sum_by-append (λ (x : ℕ × Frame). if is_hello_at p x then 1 else 0) (s ∷ []) fs in
    let first : count_by (is_hello_at p) (s ∷ []) ≡ (if is_hello_at p s then 1 else 0) = omega arith in
    omega (arith, whole, first, sent_first (s.0 == p) (is_hello s.1) s.1 (frames_at p fs) (count_by (is_hello_at p) fs) refl (hellos_at p fs))

-- ---- over all links

along_within : (b : Bool) (m n c : ℕ) → (b ≡ true → m ≤ n + c) → (if b then m else 0) ≤ (if b then n else 0) + c
along_within true m n c within = within refl
along_within false m n c within = omega arith

along : (dir : Dir) (l : DeclaredLink) (x y : LinkLanes) (i c : ℕ) → ((far_end dir l).bridge ≡ i → hellos_in (lane_in dir y) ≤ hellos_in (lane_in dir x) + c) → hellos_along dir l y i ≤ hellos_along dir l x i + c
along dir l x y i c within = along_within ((far_end dir l).bridge == i) (hellos_in (lane_in dir y)) (hellos_in (lane_in dir x)) c (λ at. within (eqb-true (far_end dir l).bridge i at))

-- no lane towards a bridge has more of them than another list of lanes
abbrev pub AreFewer : List DeclaredLink → List LinkLanes → List LinkLanes → ℕ → Type 0
AreFewer links xs ys i = (k : ℕ) (dir : Dir) (l : DeclaredLink) → slice_get links k ≡ Some l → (far_end dir l).bridge ≡ i → hellos_in (lane_of ys k dir) ≤ hellos_in (lane_of xs k dir)

less : (m n : ℕ) → m ≤ n → m ≤ n + 0
less m n low = omega (arith, low)

pub hellos_fewer : (links : List DeclaredLink) (xs ys : List LinkLanes) (i : ℕ) → length ys ≡ length xs → AreFewer links xs ys i → hellos_to links ys i ≤ hellos_to links xs i
hellos_fewer [] xs ys i same fewer = omega arith
hellos_fewer (l ∷ links) [] [] i same fewer = omega arith
hellos_fewer (l ∷ links) [] (y ∷ ys) i same fewer = absurd (omega (arith, same))
hellos_fewer (l ∷ links) (x ∷ xs) [] i same fewer = absurd (omega (arith, same))
hellos_fewer (l ∷ links) (x ∷ xs) (y ∷ ys) i same fewer =
    let more = hellos_fewer links xs ys i (omega (arith, same)) (λ k dir m at. fewer (suc k) dir m at) in
    let ab = along Ab l x y i 0 (λ at. less (hellos_in y.ab) (hellos_in x.ab) (fewer zero Ab l refl at)) in
    let ba = along Ba l x y i 0 (λ at. less (hellos_in y.ba) (hellos_in x.ba) (fewer zero Ba l refl at)) in
    omega (arith, more, ab, ba)

-- ---- one lane is changed

pub hellos_changed : (g : List Frame → List Frame) (c : ℕ) → ((fs : List Frame) → hellos_in (g fs) ≤ hellos_in fs + c) → (links : List DeclaredLink) (xs : List LinkLanes) (k : ℕ) (dir : Dir) (i : ℕ) → hellos_to links (changed_at (changed_lane dir g) xs k) i ≤ hellos_to links xs i + c
hellos_changed g c few [] xs k dir i = omega arith
hellos_changed g c few (l ∷ links) [] k dir i = omega arith
hellos_changed g c few (l ∷ links) (x ∷ xs) zero Ab i =
    let here = along Ab l x (changed_lane Ab g x) i c (λ at. few x.ab) in omega (arith, here)
hellos_changed g c few (l ∷ links) (x ∷ xs) zero Ba i =
    let here = along Ba l x (changed_lane Ba g x) i c (λ at. few x.ba) in omega (arith, here)
hellos_changed g c few (l ∷ links) (x ∷ xs) (suc k) dir i =
    let more = hellos_changed g c few links xs k dir i in omega (arith, more)

along_less : (b : Bool) (m n c : ℕ) → b ≡ true → m + c ≤ n → (if b then m else 0) + c ≤ (if b then n else 0)
along_less true m n c is low = low
along_less false m n c is low = absurd cc

along_taken : (dir : Dir) (l : DeclaredLink) (x y : LinkLanes) (i c : ℕ) → (far_end dir l).bridge ≡ i → hellos_in (lane_in dir y) + c ≤ hellos_in (lane_in dir x) → hellos_along dir l y i + c ≤ hellos_along dir l x i
along_taken dir l x y i c at low = along_less ((far_end dir l).bridge == i) (hellos_in (lane_in dir y)) (hellos_in (lane_in dir x)) c (eq-eqb (far_end dir l).bridge i at) low

pub hellos_taken : (g : List Frame → List Frame) (c : ℕ) (links : List DeclaredLink) (xs : List LinkLanes) (k : ℕ) (dir : Dir) (i : ℕ) (l : DeclaredLink) → slice_get links k ≡ Some l → (far_end dir l).bridge ≡ i → k < length xs → hellos_in (g (lane_of xs k dir)) + c ≤ hellos_in (lane_of xs k dir) → hellos_to links (changed_at (changed_lane dir g) xs k) i + c ≤ hellos_to links xs i
hellos_taken g c [] xs k dir i l there far within low = absurd cc
hellos_taken g c (h ∷ links) [] k dir i l there far within low = absurd (omega (arith, within))
hellos_taken g c (h ∷ links) (x ∷ xs) zero Ab i l there far within low =
    let same : h ≡ l = cc in
    let here = along_taken Ab h x (changed_lane Ab g x) i c (ap (λ (m : DeclaredLink). (far_end Ab m).bridge) same ∙ far) low in omega (arith, here)
hellos_taken g c (h ∷ links) (x ∷ xs) zero Ba i l there far within low =
    let same : h ≡ l = cc in
    let here = along_taken Ba h x (changed_lane Ba g x) i c (ap (λ (m : DeclaredLink). (far_end Ba m).bridge) same ∙ far) low in omega (arith, here)
hellos_taken g c (h ∷ links) (x ∷ xs) (suc k) dir i l there far within low =
    let more = hellos_taken g c links xs k dir i l there far (omega (arith, within)) low in omega (arith, more)

-- ---- one bridge sends

-- each lane from the bridge at place j gains at most one hello, and no other lane does
pub record GainOne (links : List DeclaredLink) (xs ys : List LinkLanes) (i j : ℕ) : Type 0 where
  pub others : (k : ℕ) (dir : Dir) (l : DeclaredLink) → slice_get links k ≡ Some l → (near_end dir l).bridge ≢ j → hellos_in (lane_of ys k dir) ≤ hellos_in (lane_of xs k dir)
  pub its : (k : ℕ) (dir : Dir) (l : DeclaredLink) → slice_get links k ≡ Some l → (near_end dir l).bridge ≡ j → hellos_in (lane_of ys k dir) ≤ hellos_in (lane_of xs k dir) + 1

-- a direction of a link leads from the bridge at place j to that at place i
abbrev Joins : Dir → DeclaredLink → ℕ → ℕ → Type 0
Joins dir l j i = ((near_end dir l).bridge ≡ j) × ((far_end dir l).bridge ≡ i)

when_joined : (dir : Dir) (l : DeclaredLink) (j i : ℕ) → Joins dir l j i ⊎ ((far_end dir l).bridge ≡ i → (near_end dir l).bridge ≢ j)
when_joined dir l j i =
    elim (cases_eq (near_end dir l).bridge j) [
      | inl near ↦
          elim (cases_eq (far_end dir l).bridge i) [
            | inl far ↦ inl (near, far)
            | inr apart ↦ inr (λ far. absurd (apart far))
          ]
      | inr apart ↦ inr (λ far. apart)
    ]

is_between_same : (l m : DeclaredLink) → l.a.bridge ≡ m.a.bridge → l.b.bridge ≡ m.b.bridge → is_between l m.a.bridge m.b.bridge ≡ true
is_between_same l m a b = rw (eq-eqb l.a.bridge m.a.bridge a, eq-eqb l.b.bridge m.b.bridge b) refl

or_true : (b : Bool) → (b || true) ≡ true
or_true true = refl
or_true false = refl

is_between_turned : (l m : DeclaredLink) → l.a.bridge ≡ m.b.bridge → l.b.bridge ≡ m.a.bridge → is_between l m.a.bridge m.b.bridge ≡ true
is_between_turned l m a b =
    ap (λ (c : Bool). (l.a.bridge == m.a.bridge && l.b.bridge == m.b.bridge) || c) (rw (eq-eqb l.a.bridge m.b.bridge a, eq-eqb l.b.bridge m.a.bridge b) refl)
    ∙ or_true (l.a.bridge == m.a.bridge && l.b.bridge == m.b.bridge)

-- two links that are apart don't both join the two bridges
joined_twice : (d e : Dir) (l m : DeclaredLink) (j i : ℕ) → AreApart l m → Joins d l j i → Joins e m j i → ⊥
joined_twice Ab Ab l m j i apart at_l at_m = true≢false (sym (is_between_same l m (at_l.0 ∙ sym at_m.0) (at_l.1 ∙ sym at_m.1)) ∙ apart.bridges)
joined_twice Ab Ba l m j i apart at_l at_m = true≢false (sym (is_between_turned l m (at_l.0 ∙ sym at_m.0) (at_l.1 ∙ sym at_m.1)) ∙ apart.bridges)
joined_twice Ba Ab l m j i apart at_l at_m = true≢false (sym (is_between_turned l m (at_l.1 ∙ sym at_m.1) (at_l.0 ∙ sym at_m.0)) ∙ apart.bridges)
joined_twice Ba Ba l m j i apart at_l at_m = true≢false (sym (is_between_same l m (at_l.1 ∙ sym at_m.1) (at_l.0 ∙ sym at_m.0)) ∙ apart.bridges)

-- the links behind one that joins them
rest_fewer : (d : Dir) (h : DeclaredLink) (links : List DeclaredLink) (xs ys : List LinkLanes) (i j : ℕ) → AllByRecursion (AreApart h) links → Joins d h j i → GainOne links xs ys i j → AreFewer links xs ys i
rest_fewer d h links xs ys i j apart joins gain k dir l at far = gain.others k dir l at (λ near. joined_twice d dir h l j i (All-get (AreApart h) links k l apart at) joins (near, far))

behind : (h : DeclaredLink) (links : List DeclaredLink) (x y : LinkLanes) (xs ys : List LinkLanes) (i j : ℕ) → GainOne (h ∷ links) (x ∷ xs) (y ∷ ys) i j → GainOne links xs ys i j
behind h links x y xs ys i j gain = record { others = λ k dir l at. gain.others (suc k) dir l at; its = λ k dir l at. gain.its (suc k) dir l at }

pub hellos_gain : (links : List DeclaredLink) (xs ys : List LinkLanes) (i j : ℕ) → length ys ≡ length xs → AllApart links → ((k : ℕ) (l : DeclaredLink) → slice_get links k ≡ Some l → l.a.bridge ≢ l.b.bridge) → GainOne links xs ys i j → hellos_to links ys i ≤ hellos_to links xs i + 1
hellos_gain [] xs ys i j same apart ends gain = omega arith
hellos_gain (h ∷ links) [] [] i j same apart ends gain = omega arith
hellos_gain (h ∷ links) [] (y ∷ ys) i j same apart ends gain = absurd (omega (arith, same))
hellos_gain (h ∷ links) (x ∷ xs) [] i j same apart ends gain = absurd (omega (arith, same))
hellos_gain (h ∷ links) (x ∷ xs) (y ∷ ys) i j same apart ends gain =
    elim (when_joined Ab h j i) [
      | inl joins ↦
          let more = hellos_fewer links xs ys i (omega (arith, same)) (rest_fewer Ab h links xs ys i j apart.0 joins next) in
          let ab = along Ab h x y i 1 (λ far. gain.its zero Ab h refl joins.0) in
          let ba = along Ba h x y i 0 (λ far. absurd (ends zero h refl (far ∙ sym joins.1))) in
          omega (arith, more, ab, ba)
      | inr no_ab ↦
          elim (when_joined Ba h j i) [
            | inl joins ↦
                let more = hellos_fewer links xs ys i (omega (arith, same)) (rest_fewer Ba h links xs ys i j apart.0 joins next) in
                let ba = along Ba h x y i 1 (λ far. gain.its zero Ba h refl joins.0) in
                let ab = along Ab h x y i 0 (λ far. less (hellos_in y.ab) (hellos_in x.ab) (gain.others zero Ab h refl (no_ab far))) in
                omega (arith, more, ab, ba)
            | inr no_ba ↦
                let more = hellos_gain links xs ys i j (omega (arith, same)) apart.1 (λ k l at. ends (suc k) l at) next in
                let ab = along Ab h x y i 0 (λ far. less (hellos_in y.ab) (hellos_in x.ab) (gain.others zero Ab h refl (no_ab far))) in
                let ba = along Ba h x y i 0 (λ far. less (hellos_in y.ba) (hellos_in x.ba) (gain.others zero Ba h refl (no_ba far))) in
                omega (arith, more, ab, ba)
          ]
    ]
  where
    next : GainOne links xs ys i j
    next = behind h links x y xs ys i j gain

-- a bridge sends no hello to itself
pub hellos_itself : (links : List DeclaredLink) (xs ys : List LinkLanes) (i : ℕ) → length ys ≡ length xs → ((k : ℕ) (l : DeclaredLink) → slice_get links k ≡ Some l → l.a.bridge ≢ l.b.bridge) → GainOne links xs ys i i → hellos_to links ys i ≤ hellos_to links xs i
hellos_itself links xs ys i same ends gain = hellos_fewer links xs ys i same (λ k dir l at far. gain.others k dir l at (λ near. by k dir l at far near))
  where
    by : (k : ℕ) (dir : Dir) (l : DeclaredLink) → slice_get links k ≡ Some l → (far_end dir l).bridge ≡ i → (near_end dir l).bridge ≡ i → ⊥
    by k Ab l at far near = ends k l at (near ∙ sym far)
    by k Ba l at far near = ends k l at (far ∙ sym near)
