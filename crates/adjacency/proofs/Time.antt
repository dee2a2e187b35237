-- A neighbour that falls silent is kept for its holding count, and no longer.
use Rattle.std.proofs.Common.{◌≡◌, ℕ, zero, suc, ◌+◌, ◌-◌, ◌≤◌, true, false, refl, ap, ◌∙◌, Some, None, arith}
use Rattle.std.specs.Prelude.{◌==◌, if◌then◌else◌}
use Rattle.std.proofs.lemmas.Bool.{eq-eqb, ne_eqb}
use Rattle.adjacency.specs.declared.state.AdjState.{AdjState}
use Rattle.adjacency.specs.declared.state.AdjState.TheVariants.{Down, Initializing, Up}
use Rattle.adjacency.specs.declared.port.Adjacency.{Adjacency}
use Rattle.adjacency.specs.Hearing.{End}
use Rattle.adjacency.specs.Adjacency.{down, kept_in, neighbour_of, is_down, after_second}
use Rattle.adjacency.specs.Time.{after_seconds, KeptWhileCounting, LostAfterCount, NobodyComes}

-- ---- one second

kept_in_state : (s : AdjState) (end n : End) → kept_in s end ≡ Some n → is_down s ≡ false
kept_in_state Down end n kept = absurd cc
kept_in_state Initializing end n kept = refl
kept_in_state Up end n kept = refl

-- with more than a second left
kept_second : (a : Adjacency) (n : End) (left : ℕ) → neighbour_of a ≡ Some n → a.hold ≡ left + 1 → 1 ≤ left → after_second a ≡ record a { hold = left }
kept_second a n left kept count some =
    let more : (a.hold == 1) ≡ false = ne_eqb a.hold 1 (λ e. omega arith) in
    ap (λ b. if b then a else (if a.hold == 1 then down a.carrier else record a { hold = a.hold - 1 })) (kept_in_state a.state (a.neighbour, a.circuit) n kept)
    ∙ (ap (λ b. if b then down a.carrier else record a { hold = a.hold - 1 }) more
    ∙ ap (λ (h : ℕ). record a { hold = h }) (omega (arith, count)))

-- in the last one
lost_second : (a : Adjacency) (n : End) → neighbour_of a ≡ Some n → a.hold ≡ 1 → after_second a ≡ down a.carrier
lost_second a n kept last =
    ap (λ b. if b then a else (if a.hold == 1 then down a.carrier else record a { hold = a.hold - 1 })) (kept_in_state a.state (a.neighbour, a.circuit) n kept)
    ∙ ap (λ b. if b then down a.carrier else record a { hold = a.hold - 1 }) (eq-eqb a.hold 1 last)

none_in_state : (s : AdjState) (end : End) → kept_in s end ≡ None → is_down s ≡ true
none_in_state Down end none = refl
none_in_state Initializing end none = absurd cc
none_in_state Up end none = absurd cc

-- and where nobody is kept
idle_second : (a : Adjacency) → neighbour_of a ≡ None → after_second a ≡ a
idle_second a none =
    ap (λ b. if b then a else (if a.hold == 1 then down a.carrier else record a { hold = a.hold - 1 })) (none_in_state a.state (a.neighbour, a.circuit) none)

-- ---- many seconds

pub kept_while_counting : KeptWhileCounting
unfolding after_seconds
kept_while_counting a n zero left kept count some = ap (λ (h : ℕ). record a { hold = h }) (omega (arith, count))
kept_while_counting a n (suc k) left kept count some =
    let before : after_seconds k a ≡ record a { hold = left + 1 } = kept_while_counting a n k (left + 1) kept (omega (arith, count)) (omega arith) in
    ap after_second before ∙ kept_second (record a { hold = left + 1 }) n left kept refl some

pub nobody_comes : NobodyComes
unfolding after_seconds
nobody_comes a zero none = refl
nobody_comes a (suc n) none = ap after_second (nobody_comes a n none) ∙ idle_second a none

-- one after another
pub more_seconds : (n k : ℕ) (a : Adjacency) → after_seconds (n + k) a ≡ after_seconds n (after_seconds k a)
unfolding after_seconds
more_seconds zero k a = let sum : zero + k ≡ k = omega arith in ap (λ (m : ℕ). after_seconds m a) sum
more_seconds (suc n) k a =
    let sum : suc n + k ≡ suc (n + k) = omega arith in
    ap (λ (m : ℕ). after_seconds m a) sum ∙ ap after_second (more_seconds n k a)

lost_at : (a : Adjacency) (n : End) (hold : ℕ) → neighbour_of a ≡ Some n → a.hold ≡ hold → 1 ≤ hold → after_seconds hold a ≡ down a.carrier
unfolding after_seconds
lost_at a n zero kept count some = absurd (omega arith)
lost_at a n (suc k) kept count some =
    let before : after_seconds k a ≡ record a { hold = 1 } = kept_while_counting a n k 1 kept (omega (arith, count)) (omega arith) in
    ap after_second before ∙ lost_second (record a { hold = 1 }) n kept refl

pub lost_after_count : LostAfterCount
lost_after_count a n more kept some =
    more_seconds more a.hold a ∙ (ap (after_seconds more) (lost_at a n a.hold kept refl some) ∙ nobody_comes (down a.carrier) more refl)
