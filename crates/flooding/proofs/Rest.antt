-- Own LSPs brought up to date in code, one number at a time.
use Rattle.std.specs.Prelude.{◌≡◌, ℕ, suc, ◌+◌, ◌-◌, ◌<◌, ◌≤◌, List, Bool, true, false, ◌&&◌, not, nat_lt, slice_get, is_some, Option, None, if◌then◌else◌}
use Rattle.std.specs.Option.{option_and_then}
use Rattle.std.proofs.Common.{refl, sym, ap, subst, ◌∙◌, inl, inr, arith}
use Rattle.std.proofs.lemmas.Bool.{cases_eq, ltb-true, ltb-false}
use Rattle.spb_types.specs.declared.ports.PortSet.{PortSet}
use Rattle.lsdb.specs.Entry.{Entry}
use Rattle.flooding.specs.declared.own.Own.{Own}
use Rattle.flooding.specs.Own.{own_numbers, body_of_number, HaveBytes, HasFirstNumbers}
use Rattle.flooding.specs.Hearing.{Holding}
use Rattle.flooding.specs.Origination.{brought_up}
use Rattle.flooding.specs.Settling.{Test, own_held, says, is_new, is_old, stands, is_said, each_from, settled_by}
use Rattle.flooding.proofs.Brought.{bringing_leaves_own}
use Rattle.flooding.proofs.Settled.{settled_fresh}

-- what is left of the numbers from one on
abbrev pub rest_of : Test → PortSet → ℕ → Holding → Holding
rest_of test up k h = each_from (stands test) (brought_up up) (own_numbers - k) k h

left : (k : ℕ) → k < own_numbers → own_numbers - k ≡ suc (own_numbers - (k + 1))
left k below = omega (arith, below)

pub next_rest : (test : Test) (up : PortSet) (k : ℕ) (h : Holding) (b : Bool) → k < own_numbers → stands test h k ≡ b → rest_of test up k h ≡ rest_of test up (k + 1) (if b then h else brought_up up k h)
next_rest test up k h b below is =
    ap (λ n. each_from (stands test) (brought_up up) n k h) (left k below)
    ∙ ap (λ (t : Bool). each_from (stands test) (brought_up up) (own_numbers - (k + 1)) (k + 1) (if t then h else brought_up up k h)) is

pub no_rest : (test : Test) (up : PortSet) (k : ℕ) (h : Holding) → own_numbers ≤ k → rest_of test up k h ≡ h
no_rest test up k h past = ap (λ n. each_from (stands test) (brought_up up) n k h) (none k past)
  where
    none : (m : ℕ) → own_numbers ≤ m → own_numbers - m ≡ 0
    none m over = omega (arith, over)

pub settled_rest : (test : Test) (up : PortSet) (h : Holding) → h.own.spent ≡ false → settled_by test up h ≡ rest_of test up 0 h
settled_rest test up h fresh = settled_fresh test up h fresh ∙ ap (λ n. each_from (stands test) (brought_up up) n 0 h) (all own_numbers)
  where
    all : (m : ℕ) → m ≡ m - 0
    all m = omega arith

bodies_at : (own next : Own) → next.bodies ≡ own.bodies → (number : ℕ) → body_of_number next number ≡ body_of_number own number
bodies_at own next same number = ap (λ (bs : List (Option (List ℕ))). option_and_then (λ body. body) (slice_get bs number)) same

pub still_bytes : (up : PortSet) (number : ℕ) (h : Holding) → HaveBytes h.own → HaveBytes (brought_up up number h).own
still_bytes up number h bytes k body is = bytes k body (sym (bodies_at h.own (brought_up up number h).own (bringing_leaves_own up number h).1 k) ∙ is)

-- ---- nothing old

new_by : (body : Option (List ℕ)) (held : Option Entry) → says body held ≡ true → (is_some body && is_old held) ≡ false → is_new body held ≡ true
new_by body held said young = λ i. said i && not (young i)

pub young_stands : (h : Holding) (number : ℕ) → is_said h number ≡ true → (is_some (body_of_number h.own number) && is_old (own_held h number)) ≡ false → stands is_new h number ≡ true
young_stands h number said young = new_by (body_of_number h.own number) (own_held h number) said young

-- no number below this one has a body and is old
abbrev pub AreYoung : Holding → ℕ → Type 0
AreYoung h n = (number : ℕ) → number < n → (is_some (body_of_number h.own number) && is_old (own_held h number)) ≡ false

pub young_next : (h : Holding) (n : ℕ) → AreYoung h n → is_old (own_held h n) ≡ false → AreYoung h (n + 1)
young_next h n young here number below =
    elim (cases_eq number n) [
      | inl same ↦ subst (λ (m : ℕ). (is_some (body_of_number h.own m) && is_old (own_held h m)) ≡ false) (sym same) (both (is_some (body_of_number h.own n)))
      | inr apart ↦ young number (omega (arith, below, apart))
    ]
  where
    both : (b : Bool) → (b && is_old (own_held h n)) ≡ false
    both true = here
    both false = refl

-- and behind the first without a body none has one
pub young_past : (h : Holding) (n m : ℕ) → AreYoung h n → HasFirstNumbers h.own → body_of_number h.own n ≡ None → AreYoung h m
young_past h n m young first none number below = by (nat_lt number n) refl
  where
    by : (b : Bool) → nat_lt number n ≡ b → (is_some (body_of_number h.own number) && is_old (own_held h number)) ≡ false
    by true lower = young number (ltb-true number n lower)
    by false past = ap (λ (o : Option (List ℕ)). is_some o && is_old (own_held h number)) (first n number (ltb-false number n past) none)

pub not_true : (b : Bool) → not b ≡ true → b ≡ false
not_true true e = sym e
not_true false e = refl
