-- Sets of ports: those of a test, and sets without a port.
use Rattle.std.specs.Prelude.{ℕ, zero, suc, ◌≡◌, ◌≢◌, ◌⊎◌, ◌≤◌, ◌<◌, ◌^◌, Bool, true, false, if◌then◌else◌}
use Rattle.std.proofs.Common.{refl, sym, ap, ◌∙◌, arith, inl, inr, ⊎_elim, true≢false}
use Rattle.std.proofs.lemmas.Bool.{cases_eq}
use Rattle.std.proofs.lemmas.Nat.{or_of_32}
use Rattle.spb_types.specs.declared.ports.PortSet.{PortSet}
use Rattle.spb_types.specs.Ports.{has, bit_of, no_ports, with_port}
use Rattle.spb_types.proofs.PortLemmas.{has-no_ports, has-with_same, has-with_other, has_port, same_ports}
use Rattle.fdb_build.specs.Groups.{ports_to}

-- a set with one port more has 32 bits
pub small_none : no_ports.bits < 2 ^ 32
unfolding no_ports
small_none = omega arith

pub small_with : (s : PortSet) (p : ℕ) → s.bits < 2 ^ 32 → (with_port s p).bits < 2 ^ 32
unfolding with_port
small_with s p small = or_of_32 s.bits (bit_of p) small (omega arith)

-- a set without bits has no port
pub none_in_empty : (s : PortSet) (p : ℕ) → s.bits ≡ 0 → has s p ≡ false
unfolding no_ports
none_in_empty s p e =
    let same : s ≡ no_ports = λ i. record { bits = e i } in
    ap (λ (t : PortSet). has t p) same ∙ has-no_ports p

-- what is in the set of a test
pub record Passes (n : ℕ) (test : ℕ → Bool) (p : ℕ) : Type 0 where
  pub low : 1 ≤ p
  pub high : p ≤ n
  pub passes : test p ≡ true

passes_more : (n : ℕ) (test : ℕ → Bool) (p : ℕ) → Passes n test p → Passes (suc n) test p
passes_more n test p h = record { low = h.low; high = omega (arith, h.high); passes = h.passes }

pub has_to : (n : ℕ) (test : ℕ → Bool) (p : ℕ) → n ≤ 32 → has (ports_to n test) p ≡ true → Passes n test p
has_to zero test p few h = absurd (true≢false (sym h ∙ has-no_ports p))
has_to (suc n) test p few h = by (test (suc n)) refl h (has_to n test p (omega (arith, few)))
  where
    by : (b : Bool) → test (suc n) ≡ b → has (if b then with_port (ports_to n test) (suc n) else ports_to n test) p ≡ true
        → (has (ports_to n test) p ≡ true → Passes n test p) → Passes (suc n) test p
    by false e i r = passes_more n test p (r i)
    by true e i r =
        ⊎_elim
        (λ (same : p ≡ suc n). record { low = omega (arith, same); high = omega (arith, same); passes = ap test same ∙ e })
        (λ (apart : p ≢ suc n). passes_more n test p (r (sym (has-with_other (ports_to n test) (suc n) p (omega arith) few apart) ∙ i)))
        (cases_eq p (suc n))

pub to_has : (n : ℕ) (test : ℕ → Bool) (p : ℕ) → n ≤ 32 → Passes n test p → has (ports_to n test) p ≡ true
to_has zero test p few h = absurd (omega (arith, h.low, h.high))
to_has (suc n) test p few h = by (test (suc n)) refl (cases_eq p (suc n)) (λ (apart : p ≢ suc n). to_has n test p (omega (arith, few)) (record { low = h.low; high = omega (arith, h.high, apart); passes = h.passes }))
  where
    by : (b : Bool) → test (suc n) ≡ b → ((p ≡ suc n) ⊎ (p ≢ suc n)) → (p ≢ suc n → has (ports_to n test) p ≡ true)
        → has (if b then with_port (ports_to n test) (suc n) else ports_to n test) p ≡ true
    by false e (inl same) r = absurd (true≢false (sym h.passes ∙ (ap test same ∙ e)))
    by false e (inr apart) r = r apart
    by true e (inl same) r = ap (has (with_port (ports_to n test) (suc n))) same ∙ has-with_same (ports_to n test) (suc n) (omega arith) few
    by true e (inr apart) r = has-with_other (ports_to n test) (suc n) p (omega arith) few apart ∙ r apart

pub small_to : (n : ℕ) (test : ℕ → Bool) → (ports_to n test).bits < 2 ^ 32
small_to zero test = small_none
small_to (suc n) test = by (test (suc n)) (small_to n test)
  where
    by : (b : Bool) → (ports_to n test).bits < 2 ^ 32 → (if b then with_port (ports_to n test) (suc n) else ports_to n test).bits < 2 ^ 32
    by true s = small_with (ports_to n test) (suc n) s
    by false s = s

-- the set of a test is empty, or something passes
empty_or_not : (n : ℕ) (test : ℕ → Bool) → (ports_to n test ≡ no_ports) ⊎ ((p : ℕ) × (test p ≡ true))
empty_or_not zero test = inl refl
empty_or_not (suc n) test = by (test (suc n)) refl (empty_or_not n test)
  where
    by : (b : Bool) → test (suc n) ≡ b → ((ports_to n test ≡ no_ports) ⊎ ((p : ℕ) × (test p ≡ true)))
        → ((if b then with_port (ports_to n test) (suc n) else ports_to n test) ≡ no_ports) ⊎ ((p : ℕ) × (test p ≡ true))
    by true e r = inr (suc n, e)
    by false e r = r

pub same_truth : (b c : Bool) → (b ≡ true → c ≡ true) → (c ≡ true → b ≡ true) → b ≡ c
same_truth true c f g = sym (f refl)
same_truth false true f g = g refl
same_truth false false f g = refl

-- sets of 32 bits are equal where a port of one is one of the other
pub sets_same : (s t : PortSet) → s.bits < 2 ^ 32 → t.bits < 2 ^ 32 → ((p : ℕ) → has s p ≡ true → has t p ≡ true) → ((p : ℕ) → has t p ≡ true → has s p ≡ true) → s ≡ t
sets_same s t a b f g = same_ports s t a b (λ p. same_truth (has s p) (has t p) (f p) (g p))

-- a set of 32 bits has none, or it has a port
pub bits_or_port : (s : PortSet) → s.bits < 2 ^ 32 → (s.bits ≡ 0) ⊎ ((p : ℕ) × (has s p ≡ true))
unfolding no_ports
bits_or_port s small = by (empty_or_not 32 (has s))
  where
    itself : ports_to 32 (has s) ≡ s
    itself = sets_same (ports_to 32 (has s)) s (small_to 32 (has s)) small (λ p h. (has_to 32 (has s) p (omega arith) h).passes)
        (λ p h. to_has 32 (has s) p (omega arith) (record { low = (has_port s p h).0; high = (has_port s p h).1; passes = h }))

    by : ((ports_to 32 (has s) ≡ no_ports) ⊎ ((p : ℕ) × (has s p ≡ true))) → (s.bits ≡ 0) ⊎ ((p : ℕ) × (has s p ≡ true))
    by (inl e) = inl (ap (λ (t : PortSet). t.bits) (sym itself ∙ e))
    by (inr h) = inr h
