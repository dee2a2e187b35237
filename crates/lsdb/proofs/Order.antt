-- The order of versions, and the least upper bound.
use Rattle.std.specs.Prelude.{◌≡◌, ◌≢◌, ℕ, ◌<◌, ◌≤◌, Bool, true, false, ◌&&◌, ◌||◌, ◌==◌, nat_lt, nat_le, if◌then◌else◌}
use Rattle.std.proofs.Common.{refl, sym, ap, subst, ◌∙◌, arith, inl, inr, ⊎_elim}
use Rattle.std.proofs.lemmas.Bool.{cases_Bool, cases_lt, false≢true, true≢false, ltb-true, lt-ltb, leb-true, le-leb}
use Rattle.std.proofs.lemmas.Bool.Decides.{nat_tests}
use Rattle.lsdb.specs.declared.version.Version.{Version}
use Rattle.lsdb.specs.declared.version.Version.TheVariants.{Absent, Live, Dead}
use Rattle.lsdb.specs.declared.version.Relation.{Relation}
use Rattle.lsdb.specs.declared.version.Relation.TheVariants.{Older, Equal, Newer, Confused}
use Rattle.lsdb.specs.Version.{number_of, leq, IsAtMost, relation, join_of}
use Rattle.lsdb.specs.Laws.{AtMostItself, SameBothWays, AtMostThrough, AbsentIsLeast, JoinIsAbove, JoinIsLeast, OlderIsBelow, NewerIsAbove, EqualIsSame, ConfusedIsNeither, AreTwoLives, ConfusedAreLive, ConfusedJoinIsDead, NumbersFollow, GreaterNumberIsAbove, AtOneNumber, NotAtMost}

-- two live versions, by their numbers and sums
abbrev below : ℕ → ℕ → ℕ → ℕ → Bool
below n s m t = nat_lt n m || (n == m && s == t)

below_itself : (n s : ℕ) → below n s n s ≡ true
below_itself n s = grind (arith, nat_tests)

below_same : (n s m t : ℕ) → below n s m t ≡ true → below m t n s ≡ true → (n ≡ m) × (s ≡ t)
below_same n s m t h i = (grind (arith, nat_tests), grind (arith, nat_tests))

below_through : (n s m t k u : ℕ) → below n s m t ≡ true → below m t k u ≡ true → below n s k u ≡ true
below_through n s m t k u h i = grind (arith, nat_tests)

below_le : (n s m t : ℕ) → below n s m t ≡ true → n ≤ m
below_le n s m t h = grind (arith, nat_tests)

below_from_lt : (n s m t : ℕ) → n < m → below n s m t ≡ true
below_from_lt n s m t h = grind (arith, nat_tests)

not_below : (n s m t : ℕ) → below n s m t ≡ false → m ≤ n
not_below n s m t h = grind (arith, nat_tests)

apart_both : (n s m t : ℕ) → below n s m t ≡ false → below m t n s ≡ false → (n ≡ m) × (s ≢ t)
apart_both n s m t h i = (grind (arith, nat_tests), λ e. grind (arith, nat_tests))

apart_from : (n s t : ℕ) → s ≢ t → below n s n t ≡ false
apart_from n s t e = grind (arith, nat_tests)

le_from_below : (n s m t k : ℕ) → below n s m t ≡ true → m ≤ k → n ≤ k
le_from_below n s m t k h i = grind (arith, nat_tests)

lt_through : (n m k : ℕ) → nat_le n m ≡ true → nat_lt m k ≡ true → nat_lt n k ≡ true
lt_through n m k h i = grind (arith, nat_tests)

lt_below : (n m t k u : ℕ) → nat_lt n m ≡ true → below m t k u ≡ true → nat_lt n k ≡ true
lt_below n m t k u h i = grind (arith, nat_tests)

lt_le : (n m k : ℕ) → nat_lt n m ≡ true → nat_le m k ≡ true → nat_lt n k ≡ true
lt_le n m k h i = grind (arith, nat_tests)

pub itself : AtMostItself
unfolding leq
itself Absent = refl
itself (Live n s) = below_itself n s
itself (Dead n) = le-leb n n (omega arith)

pub both_ways : SameBothWays
unfolding leq
both_ways Absent Absent h i = refl
both_ways Absent (Live m t) h i = cc
both_ways Absent (Dead m) h i = cc
both_ways (Live n s) Absent h i = cc
both_ways (Live n s) (Live m t) h i = let e = below_same n s m t h i in λ j. Live (e.0 j) (e.1 j)
both_ways (Live n s) (Dead m) h i = let a : n ≤ m = leb-true n m h in let b : m < n = ltb-true m n i in absurd (omega arith)
both_ways (Dead n) Absent h i = cc
both_ways (Dead n) (Live m t) h i = let a : n < m = ltb-true n m h in let b : m ≤ n = leb-true m n i in absurd (omega arith)
both_ways (Dead n) (Dead m) h i = let a : n ≤ m = leb-true n m h in let b : m ≤ n = leb-true m n i in let e : n ≡ m = omega arith in ap (λ (k : ℕ). Dead k) e

pub through : AtMostThrough
unfolding leq
through Absent b c h i = refl
through (Live n s) Absent c h i = cc
through (Live n s) (Live m t) Absent h i = cc
through (Live n s) (Live m t) (Live k u) h i = below_through n s m t k u h i
through (Live n s) (Live m t) (Dead k) h i = le-leb n k (le_from_below n s m t k h (leb-true m k i))
through (Live n s) (Dead m) Absent h i = cc
through (Live n s) (Dead m) (Live k u) h i = below_from_lt n s k u (ltb-true n k (lt_through n m k h i))
through (Live n s) (Dead m) (Dead k) h i = let a = leb-true n m h in let b = leb-true m k i in le-leb n k (omega arith)
through (Dead n) Absent c h i = cc
through (Dead n) (Live m t) Absent h i = cc
through (Dead n) (Live m t) (Live k u) h i = lt_below n m t k u h i
through (Dead n) (Live m t) (Dead k) h i = let a = ltb-true n m h in let b = leb-true m k i in le-leb n k (omega arith)
through (Dead n) (Dead m) Absent h i = cc
through (Dead n) (Dead m) (Live k u) h i = lt_through n m k h i
through (Dead n) (Dead m) (Dead k) h i = let a = leb-true n m h in let b = leb-true m k i in le-leb n k (omega arith)

pub least : AbsentIsLeast
unfolding leq
least a = refl

-- neither is at most the other
pub apart : (a h : Version) → leq a h ≡ false → leq h a ≡ false → AreTwoLives a h
unfolding leq
apart Absent h e f = cc
apart (Live n s) Absent e f = cc
apart (Live n s) (Live m t) e f =
    let both = apart_both n s m t e f in
    record { number = n; sum = s; other_sum = t; apart = both.1; first = refl; second = λ j. Live (sym both.0 j) t }
apart (Live n s) (Dead m) e f = absurd (grind (arith, nat_tests))
apart (Dead n) Absent e f = cc
apart (Dead n) (Live m t) e f = absurd (grind (arith, nat_tests))
apart (Dead n) (Dead m) e f = absurd (grind (arith, nat_tests))

lives_apart : (n s t : ℕ) → s ≢ t → leq (Live n s) (Live n t) ≡ false
unfolding leq
lives_apart n s t e = apart_from n s t e

pub follow : NumbersFollow
unfolding leq
follow Absent h e = omega arith
follow (Live n s) Absent e = cc
follow (Live n s) (Live m t) e = below_le n s m t e
follow (Live n s) (Dead m) e = leb-true n m e
follow (Dead n) Absent e = cc
follow (Dead n) (Live m t) e = let a = ltb-true n m e in omega arith
follow (Dead n) (Dead m) e = leb-true n m e

pub greater : GreaterNumberIsAbove
unfolding leq
greater Absent h e = refl
greater (Live n s) Absent e = absurd (omega arith)
greater (Live n s) (Live m t) e = below_from_lt n s m t e
greater (Live n s) (Dead m) e = le-leb n m (omega arith)
greater (Dead n) Absent e = absurd (omega arith)
greater (Dead n) (Live m t) e = lt-ltb n m e
greater (Dead n) (Dead m) e = le-leb n m (omega arith)

live_same : (n s m t : ℕ) → n ≡ m → below n s m t ≡ true → s ≡ t
live_same n s m t e h = grind (arith, nat_tests)

same_version : (n s m t : ℕ) → n ≡ m → s ≡ t → Live n s ≡ Live m t
same_version n s m t e f = λ j. Live (e j) (f j)

pub one_number : AtOneNumber
unfolding leq
one_number Absent h e a = absurd (a refl)
one_number (Live n s) Absent e a = (λ i. cc, λ c. ⊎_elim (λ i. cc) (λ i. cc) c)
one_number (Live n s) (Live m t) e a =
    (λ i. inl (same_version n s m t e (live_same n s m t e i)), λ c. ⊎_elim (λ i. subst (λ (h : Version). IsAtMost (Live n s) h) i (below_itself n s)) (λ i. cc) c)
one_number (Live n s) (Dead m) e a =
    (λ i. inr (ap (λ (k : ℕ). Dead k) (sym e)), λ c. le-leb n m (omega arith))
one_number (Dead n) Absent e a = (λ i. cc, λ c. ⊎_elim (λ i. cc) (λ i. cc) c)
one_number (Dead n) (Live m t) e a = (λ i. let b = ltb-true n m i in absurd (omega arith), λ c. ⊎_elim (λ i. cc) (λ i. cc) c)
one_number (Dead n) (Dead m) e a = (λ i. inl (ap (λ (k : ℕ). Dead k) e), λ c. le-leb n m (omega arith))

pub not_at_most : NotAtMost
not_at_most a h e = (
  ⊎_elim (λ (low : number_of a < number_of h). let b = greater a h low in absurd (false≢true (sym e ∙ b))) (λ (high : number_of h ≤ number_of a). high) (cases_lt (number_of a) (number_of h)),
  λ same. false≢true (sym e ∙ subst (λ (b : Version). IsAtMost a b) same (itself a)),
)

-- the join and the relation, by the two tests
relation_by : Bool → Bool → Relation
relation_by below above = if below then (if above then Equal else Older) else (if above then Newer else Confused)

-- what each answer says of the two tests
pub older_tests : (b c : Bool) → (if b then (if c then Equal else Older) else (if c then Newer else Confused)) ≡ Older → (b ≡ true) × (c ≡ false)
older_tests true true e = cc
older_tests true false e = (refl, refl)
older_tests false true e = cc
older_tests false false e = cc

newer_tests : (b c : Bool) → (if b then (if c then Equal else Older) else (if c then Newer else Confused)) ≡ Newer → (b ≡ false) × (c ≡ true)
newer_tests true true e = cc
newer_tests true false e = cc
newer_tests false true e = (refl, refl)
newer_tests false false e = cc

equal_tests : (b c : Bool) → (if b then (if c then Equal else Older) else (if c then Newer else Confused)) ≡ Equal → (b ≡ true) × (c ≡ true)
equal_tests true true e = (refl, refl)
equal_tests true false e = cc
equal_tests false true e = cc
equal_tests false false e = cc

confused_tests : (b c : Bool) → (if b then (if c then Equal else Older) else (if c then Newer else Confused)) ≡ Confused → (b ≡ false) × (c ≡ false)
confused_tests true true e = cc
confused_tests true false e = cc
confused_tests false true e = cc
confused_tests false false e = (refl, refl)

pub older_is : (a h : Version) → relation a h ≡ Older → (leq a h ≡ true) × (leq h a ≡ false)
unfolding relation
older_is a h e = older_tests (leq a h) (leq h a) e

pub newer_is : (a h : Version) → relation a h ≡ Newer → (leq a h ≡ false) × (leq h a ≡ true)
unfolding relation
newer_is a h e = newer_tests (leq a h) (leq h a) e

pub equal_is : (a h : Version) → relation a h ≡ Equal → a ≡ h
unfolding relation
equal_is a h e = let both = equal_tests (leq a h) (leq h a) e in both_ways a h both.0 both.1

pub confused_is : (a h : Version) → relation a h ≡ Confused → (leq a h ≡ false) × (leq h a ≡ false)
unfolding relation
confused_is a h e = confused_tests (leq a h) (leq h a) e

-- and what the tests say of the answer
pub relation_from : (a h : Version) (b c : Bool) → leq a h ≡ b → leq h a ≡ c → relation a h ≡ (if b then (if c then Equal else Older) else (if c then Newer else Confused))
unfolding relation
relation_from a h b c e f = λ j. if e j then (if f j then Equal else Older) else (if f j then Newer else Confused)

pub join_from : (a h : Version) (b c : Bool) → leq a h ≡ b → leq h a ≡ c → join_of a h ≡ (if b then h else (if c then a else Dead (number_of a)))
unfolding join_of
join_from a h b c e f = λ j. if e j then h else (if f j then a else Dead (number_of a))

not_above : (a h : Version) → IsAtMost a h → a ≢ h → leq h a ≡ false
not_above a h e ne = ⊎_elim (λ i. absurd (ne (both_ways a h e i))) (λ i. i) (cases_Bool (leq h a))

pub older_is_below : OlderIsBelow
older_is_below a h = (
  λ e. let both = older_is a h e in (both.0, λ same. true≢false (sym (subst (λ (b : Version). IsAtMost b a) same (itself a)) ∙ both.1)),
  λ both. relation_from a h true false both.0 (not_above a h both.0 both.1),
)

pub newer_is_above : NewerIsAbove
newer_is_above a h = (
  λ e. let both = newer_is a h e in (both.1, λ same. true≢false (sym (subst (λ (b : Version). IsAtMost a b) same (itself a)) ∙ both.0)),
  λ both. relation_from a h false true (not_above h a both.0 (λ same. both.1 (sym same))) both.0,
)

pub equal_is_same : EqualIsSame
equal_is_same a h = (
  λ e. equal_is a h e,
  λ e. subst (λ (b : Version). relation a b ≡ Equal) e (relation_from a a true true (itself a) (itself a)),
)

pub confused_is_neither : ConfusedIsNeither
confused_is_neither a h = (λ e. confused_is a h e, λ both. relation_from a h false false both.0 both.1)

lives_confused : (n s t : ℕ) → s ≢ t → relation (Live n s) (Live n t) ≡ Confused
lives_confused n s t e = relation_from (Live n s) (Live n t) false false (lives_apart n s t e) (lives_apart n t s (λ f. e (sym f)))

pub confused_are_live : ConfusedAreLive
confused_are_live a h = (
  λ e. let both = confused_is a h e in apart a h both.0 both.1,
  λ two. subst (λ (b : Version). relation b h ≡ Confused) (sym two.first) (subst (λ (b : Version). relation (Live two.number two.sum) b ≡ Confused) (sym two.second) (lives_confused two.number two.sum two.other_sum two.apart)),
)

pub confused_join_is_dead : ConfusedJoinIsDead
confused_join_is_dead a h e = let both = confused_is a h e in join_from a h false false both.0 both.1

-- the join of two confused versions is above both
pub live_dead : (n s : ℕ) → IsAtMost (Live n s) (Dead n)
unfolding leq
live_dead n s = le-leb n n (omega arith)

apart_first : (a h : Version) → AreTwoLives a h → IsAtMost a (Dead (number_of a))
apart_first a h two = subst (λ (b : Version). IsAtMost b (Dead (number_of b))) (sym two.first) (live_dead two.number two.sum)

apart_second : (a h : Version) → AreTwoLives a h → IsAtMost h (Dead (number_of a))
apart_second a h two =
    subst (λ (b : Version). IsAtMost h (Dead (number_of b))) (sym two.first) (subst (λ (b : Version). IsAtMost b (Dead two.number)) (sym two.second) (live_dead two.number two.other_sum))

pub join_is_above : JoinIsAbove
join_is_above a h =
    ⊎_elim
    (λ below. subst (λ (b : Version). IsAtMost a b × IsAtMost h b) (sym (join_from a h true (leq h a) below refl)) (below, itself h))
    (λ not_below. ⊎_elim
    (λ above. subst (λ (b : Version). IsAtMost a b × IsAtMost h b) (sym (join_from a h false true not_below above)) (itself a, above))
    (λ not_above. subst (λ (b : Version). IsAtMost a b × IsAtMost h b) (sym (join_from a h false false not_below not_above)) (let two = apart a h not_below not_above in (apart_first a h two, apart_second a h two)))
    (cases_Bool (leq h a)))
    (cases_Bool (leq a h))

lives_least : (n s t : ℕ) (b : Version) → s ≢ t → IsAtMost (Live n s) b → IsAtMost (Live n t) b → IsAtMost (Dead n) b
unfolding leq
lives_least n s t Absent ne h i = cc
lives_least n s t (Live m u) ne h i = least_number n s t m u ne h i
  where
    least_number : (n s t m u : ℕ) → s ≢ t → below n s m u ≡ true → below n t m u ≡ true → nat_lt n m ≡ true
    least_number n s t m u ne h i = grind (arith, nat_tests)
lives_least n s t (Dead m) ne h i = h

apart_least : (a h b : Version) → AreTwoLives a h → IsAtMost a b → IsAtMost h b → IsAtMost (Dead (number_of a)) b
apart_least a h b two e f =
    subst (λ (c : Version). IsAtMost (Dead (number_of c)) b) (sym two.first)
    (lives_least two.number two.sum two.other_sum b two.apart (subst (λ (c : Version). IsAtMost c b) two.first e) (subst (λ (c : Version). IsAtMost c b) two.second f))

pub join_is_least : JoinIsLeast
join_is_least a h b e f =
    ⊎_elim
    (λ below. subst (λ (c : Version). IsAtMost c b) (sym (join_from a h true (leq h a) below refl)) f)
    (λ not_below. ⊎_elim
    (λ above. subst (λ (c : Version). IsAtMost c b) (sym (join_from a h false true not_below above)) e)
    (λ not_above. subst (λ (c : Version). IsAtMost c b) (sym (join_from a h false false not_below not_above)) (apart_least a h b (apart a h not_below not_above) e f))
    (cases_Bool (leq h a)))
    (cases_Bool (leq a h))
