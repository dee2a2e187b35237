-- Sets of ports behind `me`: unions, and sets of one port.
use Rattle.std.specs.Prelude.{ℕ, ◌≡◌, ◌≢◌, ◌≤◌, ◌<◌, ◌+◌, ◌-◌, ◌==◌, Bool, true, false, ◌&&◌, ◌||◌, nat_le, List, length, take, Option, Some, None, max}
use Rattle.std.specs.Int.{bit_at}
use Rattle.std.proofs.Common.{refl, sym, ap, ◌∙◌, arith, ⊎_elim, true≢false, get_or}
use Rattle.std.proofs.lemmas.Bool.{cases_eq}
use Rattle.std.proofs.lemmas.Bool.Decides.{nat_tests}
use Rattle.std.proofs.lemmas.Nat.Bits.{bit_at_or, bit_at-lt}
use Rattle.std.proofs.lemmas.List.Folds.{list_any_more}
use Rattle.spb_types.specs.Ports.{has, no_ports}
use Rattle.spb_types.specs.declared.ports.PortSet.{PortSet}
use Rattle.spb_types.proofs.PortLemmas.{has-no_ports, has-with_same, has-with_other}
use Rattle.fdb_build.specs.Making.{union, port_set, set_at, is_towards}

both_bits : (a b : ℕ) → a < 2 → b < 2 → (max a b == 1) ≡ ((a == 1) || (b == 1))
both_bits a b f g = grind (arith, nat_tests)

in_range : (r a b : Bool) → (r && (a || b)) ≡ ((r && a) || (r && b))
in_range true a b = refl
in_range false a b = refl

-- a port is in a union where it is in either set
pub has_union : (s t : PortSet) (p : ℕ) → has (union s t) p ≡ (has s p || has t p)
unfolding has
has_union s t p =
    let r : Bool = nat_le 1 p && nat_le p 32 in
    ap (λ n. r && (n == 1)) (bit_at_or s.bits t.bits (p - 1))
    ∙ (ap (λ b. r && b) (both_bits (bit_at s.bits (p - 1)) (bit_at t.bits (p - 1)) (bit_at-lt s.bits (p - 1)) (bit_at-lt t.bits (p - 1)))
    ∙ in_range r (bit_at s.bits (p - 1) == 1) (bit_at t.bits (p - 1) == 1))

-- one place more
pub towards_more : (sets : List PortSet) (places : List ℕ) (old new one : PortSet) (i : ℕ) (d : ℕ) → i < length places
    → new ≡ union old one → one ≡ set_at sets (get_or places i d)
    → ((p : ℕ) → has old p ≡ is_towards sets (take i places) p) → (p : ℕ) → has new p ≡ is_towards sets (take (i + 1) places) p
towards_more sets places old new one i d low joined there before p =
    ap (λ (s : PortSet). has s p) joined
    ∙ (has_union old one p
    ∙ (ap (λ b. b || has one p) (before p)
    ∙ (ap (λ (s : PortSet). is_towards sets (take i places) p || has s p) there
    ∙ sym (list_any_more (λ place. has (set_at sets place) p) places i d low))))

-- the set of a port
pub has_set : (o : Option ℕ) (p : ℕ) → o ≡ Some p → 1 ≤ p → p ≤ 32 → has (port_set o) p ≡ true
has_set o p e low high = ap (λ q. has (port_set q) p) e ∙ has-with_same no_ports p low high

pub set_has : (o : Option ℕ) (p : ℕ) → ((q : ℕ) → o ≡ Some q → (1 ≤ q) × (q ≤ 32)) → has (port_set o) p ≡ true → o ≡ Some p
set_has None p range h = absurd (true≢false (sym h ∙ has-no_ports p))
set_has (Some q) p range h =
    ⊎_elim
    (λ (same : p ≡ q). ap Some (sym same))
    (λ (apart : p ≢ q). absurd (true≢false (sym h ∙ (has-with_other no_ports q p (range q refl).0 (range q refl).1 apart ∙ has-no_ports p))))
    (cases_eq p q)
