-- A chain of tests, each with the reason that holds where it fails: the reason of the first that fails.
use Rattle.std.proofs.Common.{◌≡◌, ℕ, ◌<◌, ◌≤◌, Bool, true, false, not, List, [], ◌∷◌, Option, Some, None, ◌⊎◌, inl, inr, ⊎_elim, refl, sym, ap, subst, arith}
use Rattle.std.specs.Prelude.{Decides, ⊤}
use Rattle.std.proofs.lemmas.Bool.Decides.{not_from_Decides}
use Rattle.scenario.specs.declared.command.Command.{Command}
use Rattle.spb_world.specs.declared.reason.Reason.{Reason}
use Rattle.spb_world.specs.declared.reason.Reason.TheVariants.{NoSuchName}
use Rattle.spb_world.specs.Reason.{reason_number, reason_unless, ◌or◌}
use Rattle.network_model.specs.State.{State}
use Rattle.network_model.specs.Refusing.{refusal_of}
use Rattle.network_model.specs.Holding.{Holds, IsFirst, IsRefusedForTheFirst}

-- the first of a reason and those of the tests that fail
abbrev pub after : Option Reason → List (Bool × Reason) → Option Reason
after o [] = o
after o (c ∷ cs) = after (o or reason_unless c.0 c.1) cs

abbrev pub chain : List (Bool × Reason) → Option Reason
chain cs = after None cs

after-some : (r : Reason) (cs : List (Bool × Reason)) → after (Some r) cs ≡ Some r
after-some r [] = refl
after-some r (c ∷ cs) = after-some r cs

-- the reason is one of the chain
abbrev pub In : Reason → List (Bool × Reason) → Type 0
In q [] = ⊥
In q (c ∷ cs) = (q ≡ c.1) ⊎ In q cs

-- each reason of the chain holds just where its test fails
abbrev pub Tests : (Reason → Type 0) → List (Bool × Reason) → Type 0
Tests H [] = ⊤
Tests H (c ∷ cs) = Decides (not c.0) (H c.1) × Tests H cs

-- the numbers are above n, and they rise
abbrev pub Rises : ℕ → List (Bool × Reason) → Type 0
Rises n [] = ⊤
Rises n (c ∷ cs) = (n < reason_number c.1) × Rises (reason_number c.1) cs

-- what is given is the first that holds, and the only one of its number; where none is given none holds
abbrev pub Said : (Reason → Type 0) → Option Reason → Type 0
Said H None = (q : Reason) → ¬ H q
Said H (Some r) = H r × ((q : Reason) → H q → (q ≡ r) ⊎ (reason_number r < reason_number q))

above : (n : ℕ) (q : Reason) (cs : List (Bool × Reason)) → Rises n cs → In q cs → n < reason_number q
above n q [] rises i = absurd i
above n q (c ∷ cs) rises (inl e) = subst (λ r. n < reason_number r) (sym e) rises.0
above n q (c ∷ cs) rises (inr i) = let more = above (reason_number c.1) q cs rises.1 i in let low = rises.0 in omega arith

step : (H : Reason → Type 0) (t : Bool) (r : Reason) (cs : List (Bool × Reason)) → Decides (not t) (H r) → Rises (reason_number r) cs → ((q : Reason) → H q → (q ≡ r) ⊎ In q cs) → (((q : Reason) → H q → In q cs) → Said H (chain cs)) → Said H (after (None or reason_unless t r) cs)
unfolding reason_unless
step H true r cs d rises covers rest =
    rest (λ q h. ⊎_elim (λ e. absurd (not_from_Decides false d refl (subst H e h))) (λ i. i) (covers q h))
step H false r cs d rises covers rest =
    subst (Said H) (sym (after-some r cs)) (d.0 refl, λ q h. ⊎_elim (λ e. inl e) (λ i. inr (above (reason_number r) q cs rises i)) (covers q h))

-- so it is of a chain that has every reason that may hold
pub chain_said : (H : Reason → Type 0) (n : ℕ) (cs : List (Bool × Reason)) → Tests H cs → Rises n cs → ((q : Reason) → H q → In q cs) → Said H (chain cs)
chain_said H n [] tests rises covers = covers
chain_said H n (c ∷ cs) tests rises covers = step H c.0 c.1 cs tests.0 rises.1 covers (λ more. chain_said H (reason_number c.1) cs tests.1 rises.1 more)

-- no reason has a lower number than this one
pub lowest : (q : Reason) → (q ≡ NoSuchName) ⊎ (reason_number NoSuchName < reason_number q)
lowest NoSuchName = inl refl
lowest _ = inr (omega arith)

first_of : (s : State) (c : Command) (r : Reason) → Said (Holds s c) (Some r) → IsFirst s c r
first_of s c r said = record {
  holds = said.0;
  first = λ q h. ⊎_elim (λ e. subst (λ p. reason_number r ≤ reason_number p) (sym e) (omega arith)) (λ below. omega (arith, below)) (said.1 q h);
}

is_given : (s : State) (c : Command) (o : Option Reason) (r : Reason) → Said (Holds s c) o → IsFirst s c r → o ≡ Some r
is_given s c None r said is = absurd (said r is.holds)
is_given s c (Some p) r said is =
    ⊎_elim (λ e. ap (λ q. Some q) (sym e)) (λ above. let low = is.first p said.0 in absurd (omega (arith, above, low))) (said.1 r is.holds)

is_accepted : (s : State) (c : Command) (o : Option Reason) → Said (Holds s c) o → ((r : Reason) → ¬ Holds s c r) → o ≡ None
is_accepted s c None said none = refl
is_accepted s c (Some p) said none = absurd (none p said.0)

-- what is said of a command's refusal is the law
pub refused_for_the_first : (s : State) (c : Command) → Said (Holds s c) (refusal_of s c) → IsRefusedForTheFirst s c
refused_for_the_first s c said = record {
  refused = λ r. (λ e. first_of s c r (subst (Said (Holds s c)) e said), λ is. is_given s c (refusal_of s c) r said is);
  accepted = (λ e. subst (Said (Holds s c)) e said, λ none. is_accepted s c (refusal_of s c) said none);
}
