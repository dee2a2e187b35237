use Rattle.std.specs.Prelude.{ℕ, zero, suc, ◌≡◌, ◌≢◌, ◌+◌, ◌-◌, ◌/◌, ◌≤◌, ◌<◌, ◌^◌, true, false, ◌&&◌, ◌==◌, nat_le, bit_and, if◌then◌else◌}
use Rattle.std.proofs.Common.{refl, sym, ap, ◌∙◌, arith, ⊎_elim}
use Rattle.std.proofs.lemmas.Bool.{cases_lt, cases_eq, eq-eqb, ne_eqb, and_parts, leb-true}
use Rattle.std.specs.Int.{bit_at, w32}
use Rattle.std.proofs.lemmas.Bool.Decides.{nat_tests}
use Rattle.std.proofs.lemmas.Nat.Bits.{shr_and_one, bit_at-zero, bit_at_set_same, bit_at_set_other, bit_at_clear_same, bit_at_clear_other, same_from_bits_below, bit_at-lt}
use Rattle.spb_types.specs.declared.ports.PortSet.{PortSet}
use Rattle.spb_types.specs.Ports.{has, no_ports, with_port, without_port}

within : (p : ℕ) → 1 ≤ p → p ≤ 32 → (nat_le 1 p && nat_le p 32) ≡ true
within p low high = grind (arith, nat_tests)

-- a port is in a set where its bit is 1
pub has_bit : (set : PortSet) (p : ℕ) → 1 ≤ p → p ≤ 32 → has set p ≡ (bit_and (set.bits / 2 ^ (p - 1)) 1 == 1)
unfolding has
has_bit set p low high = rw (within p low high, shr_and_one) refl

-- no number outside 1 to 32 is in a set
pub has_low : (set : PortSet) → has set 0 ≡ false
unfolding has
has_low set = refl

pub has_high : (set : PortSet) (q : ℕ) → 32 < q → has set q ≡ false
unfolding has
has_high set q h = grind (arith, nat_tests)

-- no port is in the empty set
pub has-no_ports : (q : ℕ) → has no_ports q ≡ false
unfolding has no_ports
has-no_ports q = rw (bit_at-zero (q - 1)) (grind (arith, nat_tests))

-- a port that was put in is there, and every other number is where it was
pub has-with_same : (set : PortSet) (p : ℕ) → 1 ≤ p → p ≤ 32 → has (with_port set p) p ≡ true
unfolding has with_port
has-with_same set p low high =
    let small : p - 1 < 32 = omega arith in
    rw (within p low high, bit_at_set_same w32 set.bits (p - 1) small) refl

pub has-with_other : (set : PortSet) (p q : ℕ) → 1 ≤ p → p ≤ 32 → q ≢ p → has (with_port set p) q ≡ has set q
unfolding has with_port
has-with_other set p zero low high apart = refl
has-with_other set p (suc q) low high apart =
    let small : p - 1 < 32 = omega arith in
    let other : suc q - 1 ≢ p - 1 = omega arith in
    rw (bit_at_set_other w32 set.bits (p - 1) small (suc q - 1) other) refl

-- a port that was taken out isn't there, and every other number is where it was
pub has-without_same : (set : PortSet) (p : ℕ) → 1 ≤ p → p ≤ 32 → has (without_port set p) p ≡ false
unfolding has without_port
has-without_same set p low high =
    let small : p - 1 < 32 = omega arith in
    rw (within p low high, bit_at_clear_same w32 set.bits (p - 1) small) refl

without_within : (set : PortSet) (p q : ℕ) → 1 ≤ p → p ≤ 32 → suc q ≤ 32 → suc q ≢ p → has (without_port set p) (suc q) ≡ has set (suc q)
unfolding has without_port
without_within set p q low high small apart =
    let k : p - 1 < 32 = omega arith in
    let i : suc q - 1 < 32 = omega arith in
    let other : suc q - 1 ≢ p - 1 = omega arith in
    rw (bit_at_clear_other w32 set.bits (p - 1) k (suc q - 1) i other) refl

pub has-without_other : (set : PortSet) (p q : ℕ) → 1 ≤ p → p ≤ 32 → q ≢ p → has (without_port set p) q ≡ has set q
has-without_other set p zero low high apart = has_low (without_port set p) ∙ sym (has_low set)
has-without_other set p (suc q) low high apart =
    ⊎_elim
    (λ above. has_high (without_port set p) (suc q) above ∙ sym (has_high set (suc q) above))
    (λ small. without_within set p q low high small apart)
    (cases_lt 32 (suc q))

-- the same in one equation each
pub has-with_port : (set : PortSet) (p q : ℕ) → 1 ≤ p → p ≤ 32 → has (with_port set p) q ≡ (if q == p then true else has set q)
has-with_port set p q low high =
    ⊎_elim
    (λ same. rw (eq-eqb q p same, same) (has-with_same set p low high))
    (λ apart. rw (ne_eqb q p apart) (has-with_other set p q low high apart))
    (cases_eq q p)

pub has-without_port : (set : PortSet) (p q : ℕ) → 1 ≤ p → p ≤ 32 → has (without_port set p) q ≡ (if q == p then false else has set q)
has-without_port set p q low high =
    ⊎_elim
    (λ same. rw (eq-eqb q p same, same) (has-without_same set p low high))
    (λ apart. rw (ne_eqb q p apart) (has-without_other set p q low high apart))
    (cases_eq q p)

-- what is in a set is a port, 1 to 32
pub has_port : (set : PortSet) (q : ℕ) → has set q ≡ true → (1 ≤ q) × (q ≤ 32)
unfolding has
has_port set q h =
    let both = and_parts (nat_le 1 q && nat_le q 32) _ h in
    let range = and_parts (nat_le 1 q) (nat_le q 32) both.0 in
    (leb-true 1 q range.0, leb-true q 32 range.1)

same_bit : (n m : ℕ) → n < 2 → m < 2 → (n == 1) ≡ (m == 1) → n ≡ m
same_bit n m f g e = grind (arith, nat_tests)

-- two sets of a program with the same ports are one
pub same_ports : (set other : PortSet) → set.bits < 2 ^ 32 → other.bits < 2 ^ 32 → ((q : ℕ) → has set q ≡ has other q) → set ≡ other
unfolding has
same_ports set other f g alike =
    let bits : set.bits ≡ other.bits = same_from_bits_below 32 set.bits other.bits f g (λ i small.
    let low : 1 ≤ i + 1 = omega arith in
    let high : i + 1 ≤ 32 = omega arith in
    let back : i + 1 - 1 ≡ i = omega arith in
    let here : (bit_at set.bits (i + 1 - 1) == 1) ≡ (bit_at other.bits (i + 1 - 1) == 1) = (rw (within (i + 1) low high) at (alike (i + 1))) in
    let both : (bit_at set.bits i == 1) ≡ (bit_at other.bits i == 1) = (rw back at here) in
    same_bit (bit_at set.bits i) (bit_at other.bits i) (bit_at-lt set.bits i) (bit_at-lt other.bits i) both) in
    ap (λ (b : ℕ). let r : PortSet = record { bits = b } in r) bits
