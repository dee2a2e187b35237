-- What bringing own LSPs up to date changes.
use Rattle.std.specs.Prelude.{◌≡◌, ◌≢◌, ℕ, ◌+◌, ◌≤◌, ◌<◌, List, [], Bool, true, false, nat_lt, slice_get, Option, Some, None, if◌then◌else◌}
use Rattle.std.specs.Option.{option_and_then}
use Rattle.std.proofs.Common.{refl, sym, ap, subst, ◌∙◌, arith, inl, inr}
use Rattle.std.proofs.lemmas.Bool.{true≢false, le-ltb, lt-ltb}
use Rattle.std.proofs.lemmas.List.{append-nil}
use Rattle.std.specs.FinMap.{get, len}
use Rattle.spb_types.specs.declared.address.SystemId.{SystemId}
use Rattle.spb_types.specs.declared.address.LspId.{LspId}
use Rattle.spb_types.specs.declared.ports.PortSet.{PortSet}
use Rattle.spb_types.specs.Ports.{has}
use Rattle.spb_types.proofs.PortLemmas.{has-no_ports}
use Rattle.lsdb.specs.Version.{number_of}
use Rattle.lsdb.specs.Entry.{Entry, purged}
use Rattle.lsdb.specs.Database.{Lsps, version_in, version_at, ssn_in}
use Rattle.lsdb.specs.Certificate.{Claim, Certificate}
use Rattle.lsdb.proofs.Certified.{standing, steps_compose}
use Rattle.lsdb.proofs.LookupLemmas.{same_or_not}
use Rattle.flooding.specs.declared.own.Own.{Own}
use Rattle.flooding.specs.Own.{last_number, own_numbers, own_number, body_of_number, renewed}
use Rattle.flooding.specs.Hearing.{Holding}
use Rattle.flooding.specs.Origination.{next_entry, spent_entry, brought_up}
use Rattle.flooding.specs.Entries.{AllEntries, AreSendable, HaveFlagsAt}
use Rattle.flooding.specs.Settling.{Test, own_held, stands, each_from, settled_by}
use Rattle.flooding.specs.Laws.{control, HasBodies, IsOwnBody, stays, renews, ends}
use Rattle.flooding.specs.SettlingLaws.{SettlingIsCertified, SettlingStands, SettlingLeavesOthers, SettlingLeavesOwn, SettlingLeavesOwnBody, SettlingGoesOneFurther, SettlingDoesntSpend, SettlingBringsFew, SettlingKeepsSendable, SettlingKeepsFlags, SettlingKeepsSilence, SettlingRenews, SettlingSpends}
use Rattle.flooding.proofs.Owns.{SameOwn}
use Rattle.flooding.proofs.OwnNumbers.{other_than, other_number}
use Rattle.flooding.proofs.Folds.{folds_keep, folds_pass, folds_reach, folds_stand}
use Rattle.flooding.proofs.Brought.{next_of, brought_keeps, brought_is, next_stands, bringing, bringing_leaves_others, bringing_leaves_own, bringing_is_not_spent, bringing_leaves_own_body, brought_further, brought_few}
use Rattle.flooding.proofs.AllEntries.{inserted, all_changed}
use Rattle.flooding.proofs.SendableEntries.{bringing_keeps_sendable}
use Rattle.flooding.proofs.FlagEntries.{bringing_keeps_flags}

-- ---- what each number that is brought up keeps, settling keeps

unless_spent : (P : Holding → Type 0) (h g : Holding) (b : Bool) → h.own.spent ≡ b → P h → (h.own.spent ≡ false → P g) → P (if b then h else g)
unless_spent P h g true is same other = same
unless_spent P h g false is same other = other is

pub settling_keeps : (P : Holding → Type 0) (test : Test) (up : PortSet) (h : Holding) → ((number : ℕ) (g : Holding) → number < own_numbers → P g → P (brought_up up number g)) → P h → P (settled_by test up h)
unfolding settled_by
settling_keeps P test up h step same =
    unless_spent P h (each_from (stands test) (brought_up up) own_numbers 0 h) h.own.spent refl same
    (λ fresh. folds_keep Holding P (stands test) (brought_up up) own_numbers 0 h (λ number g low high. step number g (omega (arith, high))) same)

-- what is so before each number, and then before the next
pub settling_passes : (R : ℕ → Holding → Type 0) (test : Test) (up : PortSet) (h : Holding)
    → ((number : ℕ) (g : Holding) → number < own_numbers → R number g → R (number + 1) (if stands test g number then g else brought_up up number g))
    → R 0 h → (R own_numbers h) → R own_numbers (settled_by test up h)
unfolding settled_by
settling_passes R test up h step start end =
    unless_spent (R own_numbers) h (each_from (stands test) (brought_up up) own_numbers 0 h) h.own.spent refl end
    (λ fresh.
    let all : 0 + own_numbers ≡ own_numbers = omega arith in
    subst (λ m. R m (each_from (stands test) (brought_up up) own_numbers 0 h)) all
    (folds_pass Holding R (stands test) (brought_up up) own_numbers 0 h (λ number g low high. step number g (omega (arith, high))) start))

pub settling_is_certified : SettlingIsCertified
settling_is_certified test up port claims h =
    settling_keeps (λ g. Certificate port claims (control up h) (control up g)) test up h
    (λ number g below step. subst (λ (all : List Claim). Certificate port all (control up h) (control up (brought_up up number g))) (append-nil claims)
    (steps_compose port claims [] (control up h) (control up g) (control up (brought_up up number g)) step (bringing up port number [] g)))
    (standing port claims (control up h))

pub same_then : (own next last : Own) → SameOwn own next → SameOwn next last → SameOwn own last
same_then own next last first second = (second.0 ∙ first.0, second.1 ∙ first.1)

pub settling_leaves_own : SettlingLeavesOwn
settling_leaves_own test up h =
    settling_keeps (λ g. SameOwn h.own g.own) test up h (λ number g below same. same_then h.own g.own (brought_up up number g).own same (bringing_leaves_own up number g)) (refl, refl)

-- what leaves the system and its bodies, and more
abbrev Beside : (Holding → Type 0) → Holding → Holding → Type 0
Beside P h g = SameOwn h.own g.own × P g

pub settling_beside : (P : Holding → Type 0) (test : Test) (up : PortSet) (h : Holding) → ((number : ℕ) (g : Holding) → number < own_numbers → SameOwn h.own g.own → P g → P (brought_up up number g)) → P h → P (settled_by test up h)
settling_beside P test up h step same =
    (settling_keeps (Beside P h) test up h
    (λ number g below both. (same_then h.own g.own (brought_up up number g).own both.0 (bringing_leaves_own up number g), step number g below both.0 both.1))
    ((refl, refl), same)).1

pub settling_leaves_others : SettlingLeavesOthers
settling_leaves_others test up h id other =
    settling_beside (λ g. get g.db id ≡ get h.db id) test up h
    (λ number g below same before.
    bringing_leaves_others up number g id (subst (λ (s : SystemId). id ≢ own_number s number) (sym same.0) (other_than h.own.system id number below other)) ∙ before) refl

pub body_then : (own next : Own) (id : LspId) (a b c : Option Entry) → next.bodies ≡ own.bodies → IsOwnBody own id a b → IsOwnBody next id b c → IsOwnBody own id a c
body_then own next id a b c same (stays first) (stays second) = stays (second ∙ first)
body_then own next id a b c same (renews first) (stays second) = renews (first ∙ ap Some (sym second))
body_then own next id a b c same (ends first) (stays second) = ends (second ∙ first)
body_then own next id a b c same first (renews second) = renews (ap (λ (bs : List (Option (List ℕ))). option_and_then (λ body. body) (slice_get bs id.number)) (sym same) ∙ second)
body_then own next id a b c same first (ends second) = ends second

pub settling_leaves_own_body : SettlingLeavesOwnBody
settling_leaves_own_body test up h id mine =
    settling_beside (λ g. IsOwnBody h.own id (get h.db id) (get g.db id)) test up h
    (λ number g below same before. body_then h.own g.own id (get h.db id) (get g.db id) (get (brought_up up number g).db id) same.1 before (bringing_leaves_own_body up number g id))
    (stays refl)

pub bodies_of : (own next : Own) → next.bodies ≡ own.bodies → HasBodies own → HasBodies next
bodies_of own next same has number body is = has number body (ap (λ (bs : List (Option (List ℕ))). option_and_then (λ body. body) (slice_get bs number)) (sym same) ∙ is)

pub settling_keeps_sendable : SettlingKeepsSendable
settling_keeps_sendable test up h bodies all =
    settling_beside (λ g. AreSendable g.db) test up h (λ number g below same before. bringing_keeps_sendable up number g (bodies_of h.own g.own same.1 bodies) before) all

pub settling_keeps_flags : SettlingKeepsFlags
settling_keeps_flags test up h all = settling_keeps (λ g. HaveFlagsAt up g.db) test up h (λ number g below before. bringing_keeps_flags up number g before) all

-- ---- silence

ssn_off : (p : ℕ) (held : Option Entry) → ((e : Entry) → held ≡ Some e → has e.ssn p ≡ false) → has (ssn_in held) p ≡ false
ssn_off p None all = has-no_ports p
ssn_off p (Some e) all = all e refl

next_is_silent : (p seq : ℕ) (up : PortSet) (id : LspId) (body : List ℕ) (held : Option Entry) (b : Bool) → has (ssn_in held) p ≡ false
    → has (if b then renewed up id body (seq + 1) else spent_entry up seq held).ssn p ≡ false
next_is_silent p seq up id body held true off = has-no_ports p
next_is_silent p seq up id body held false off = off

abbrev IsSilent : ℕ → Lsps → Type 0
IsSilent p db = AllEntries (λ id e. has e.ssn p ≡ false) db

brought_silent : (p : ℕ) (up : PortSet) (number : ℕ) (h : Holding) → IsSilent p h.db → IsSilent p (brought_up up number h).db
brought_silent p up number h all =
    let id = own_number h.own.system number in
    let held = get h.db id in
    let seq = number_of (version_in held) in
    brought_keeps (λ g. IsSilent p g.db) up number h all
    (λ body fresh is. inserted (λ id e. has e.ssn p ≡ false) h.db id (next_entry up id body seq held) all (next_is_silent p seq up id body held (nat_lt seq last_number) (ssn_off p held (all id))))
    (λ seq sum live. all_changed (λ id e. has e.ssn p ≡ false) (purged seq up) h.db id all (λ e is. has-no_ports p))

pub settling_keeps_silence : SettlingKeepsSilence
settling_keeps_silence test up h p all = settling_keeps (λ g. IsSilent p g.db) test up h (λ number g below before. brought_silent p up number g before) all

-- ---- numbers

either : (P : Holding → Type 0) (b : Bool) (h g : Holding) → P h → P g → P (if b then h else g)
either P true h g same other = same
either P false h g same other = other

-- before a number: those from it on are as they were
abbrev Ahead : Holding → ℕ → Holding → Type 0
Ahead h j g = (i : ℕ) → j ≤ i → get g.db (own_number h.own.system i) ≡ get h.db (own_number h.own.system i)

brought_ahead : (up : PortSet) (h g : Holding) (j : ℕ) → g.own.system ≡ h.own.system → Ahead h j g → Ahead h (j + 1) (brought_up up j g)
brought_ahead up h g j same ahead i low =
    bringing_leaves_others up j g (own_number h.own.system i) (subst (λ (s : SystemId). own_number h.own.system i ≢ own_number s j) (sym same) (other_number h.own.system i j (λ e. absurd (omega (arith, low, e)))))
    ∙ ahead i (omega (arith, low))

-- each id is at most one number further
record Further (h : Holding) (j : ℕ) (g : Holding) : Type 0 where
  system : g.own.system ≡ h.own.system
  ahead : Ahead h j g
  further : (id : LspId) → number_of (version_at g.db id) ≤ number_of (version_at h.db id) + 1

brought_is_further : (up : PortSet) (h g : Holding) (j : ℕ) → Further h j g → Further h (j + 1) (brought_up up j g)
brought_is_further up h g j f = record {
  system = (bringing_leaves_own up j g).0 ∙ f.system;
  ahead = brought_ahead up h g j f.system f.ahead;
  further = λ id. elim (same_or_not id (own_number g.own.system j)) [
    | inl here ↦
        let was : get g.db id ≡ get h.db id =
        ap (λ (x : LspId). get g.db x) here ∙ subst (λ (s : SystemId). get g.db (own_number s j) ≡ get h.db (own_number s j)) (sym f.system) (f.ahead j (omega arith)) ∙ ap (λ (x : LspId). get h.db x) (sym here) in
        subst (λ (o : Option Entry). number_of (version_at (brought_up up j g).db id) ≤ number_of (version_in o) + 1) was (brought_further up j g id)
    | inr apart ↦ subst (λ (o : Option Entry). number_of (version_in o) ≤ number_of (version_at h.db id) + 1) (sym (bringing_leaves_others up j g id apart)) (f.further id)
  ];
}

still_further : (h g : Holding) (j : ℕ) → Further h j g → Further h (j + 1) g
still_further h g j f = record { system = f.system; ahead = λ i low. f.ahead i (omega (arith, low)); further = f.further }

unmoved : (h : Holding) (j : ℕ) → Further h j h
unmoved h j = record { system = refl; ahead = λ i low. refl; further = λ id. omega arith }

pub settling_goes_one_further : SettlingGoesOneFurther
settling_goes_one_further test up h id =
    (settling_passes (Further h) test up h
    (λ j g below f. either (Further h (j + 1)) (stands test g j) g (brought_up up j g) (still_further h g j f) (brought_is_further up h g j f))
    (unmoved h 0) (unmoved h own_numbers)).further id

-- nothing is spent before a number
record Unspent (h : Holding) (j : ℕ) (g : Holding) : Type 0 where
  own : g.own ≡ h.own
  ahead : Ahead h j g

still_unspent : (h g : Holding) (j : ℕ) → Unspent h j g → Unspent h (j + 1) g
still_unspent h g j u = record { own = u.own; ahead = λ i low. u.ahead i (omega (arith, low)) }

held_here : (h g : Holding) (j : ℕ) → Unspent h j g → own_held g j ≡ own_held h j
held_here h g j u = ap (λ (own : Own). get g.db (own_number own.system j)) u.own ∙ u.ahead j (omega arith)

brought_unspent : (up : PortSet) (h g : Holding) (j : ℕ) → number_of (version_in (own_held h j)) < last_number → Unspent h j g → Unspent h (j + 1) (brought_up up j g)
brought_unspent up h g j below u = record {
  own = bringing_is_not_spent up j g (subst (λ (o : Option Entry). number_of (version_in o) < last_number) (sym (held_here h g j u)) below) ∙ u.own;
  ahead = brought_ahead up h g j (ap (λ (own : Own). own.system) u.own) u.ahead;
}

unspent_step : (test : Test) (up : PortSet) (h g : Holding) (j : ℕ) → number_of (version_in (own_held h j)) < last_number → Unspent h j g → Unspent h (j + 1) (if stands test g j then g else brought_up up j g)
unspent_step test up h g j below u = either (Unspent h (j + 1)) (stands test g j) g (brought_up up j g) (still_unspent h g j u) (brought_unspent up h g j below u)

at_first : (h : Holding) (j : ℕ) → Unspent h j h
at_first h j = record { own = refl; ahead = λ i low. refl }

pub settling_doesnt_spend : SettlingDoesntSpend
settling_doesnt_spend test up h low =
    (settling_passes (Unspent h) test up h
    (λ j g below u. unspent_step test up h g j (low (own_number h.own.system j) (record { number = j; below = below; is = refl })) u)
    (at_first h 0) (at_first h own_numbers)).own

-- ---- ids

pub settling_brings_few : SettlingBringsFew
settling_brings_few test up h =
    settling_passes (λ j g. len g.db ≤ len h.db + j) test up h
    (λ j g below few. either (λ x. len x.db ≤ len h.db + (j + 1)) (stands test g j) g (brought_up up j g) (omega (arith, few)) (omega (arith, few, brought_few up j g)))
    (omega arith) (omega arith)

-- ---- by what the test says

stand_by : (test : Test) (up : PortSet) (h : Holding) (b : Bool) → h.own.spent ≡ b → (h.own.spent ≡ false → (number : ℕ) → number < own_numbers → stands test h number ≡ true)
    → (if b then h else each_from (stands test) (brought_up up) own_numbers 0 h) ≡ h
stand_by test up h true spent is = refl
stand_by test up h false spent is = folds_stand (stands test) (brought_up up) own_numbers 0 h (λ j low high. is spent j (omega (arith, high)))

pub settling_stands : SettlingStands
unfolding settled_by
settling_stands test up h is = stand_by test up h h.own.spent refl is

pub settled_fresh : (test : Test) (up : PortSet) (h : Holding) → h.own.spent ≡ false → settled_by test up h ≡ each_from (stands test) (brought_up up) own_numbers 0 h
unfolding settled_by
settled_fresh test up h fresh = ap (λ b. if b then h else each_from (stands test) (brought_up up) own_numbers 0 h) fresh

-- a number that doesn't stand, when its turn comes
turn_is : (test : Test) (up : PortSet) (h g : Holding) (number : ℕ) (body : List ℕ) → h.own.spent ≡ false → body_of_number h.own number ≡ Some body → stands test h number ≡ false → Unspent h number g
    → (if stands test g number then g else brought_up up number g) ≡ next_of up number body g
turn_is test up h g number body fresh has is u =
    let same : stands test g number ≡ false = (λ i. test (body_of_number (u.own i) number) (held_here h g number u i)) ∙ is in
    ap (λ b. if b then g else brought_up up number g) same
    ∙ brought_is up number g body (ap (λ (own : Own). own.spent) u.own ∙ fresh) (ap (λ (own : Own). body_of_number own number) u.own ∙ has)

-- what the number is from its turn on
abbrev IsDone : Holding → ℕ → Option Entry → Holding → Type 0
IsDone h number e g = (g.own.system ≡ h.own.system) × (get g.db (own_number h.own.system number) ≡ e)

next_done : (up : PortSet) (h g : Holding) (number : ℕ) (body : List ℕ) → Unspent h number g
    → IsDone h number (Some (next_entry up (own_number h.own.system number) body (number_of (version_in (own_held h number))) (own_held h number))) (next_of up number body g)
next_done up h g number body u =
    let s : g.own.system ≡ h.own.system = ap (λ (own : Own). own.system) u.own in
    let held = held_here h g number u in (
      next_system g.own (nat_lt (number_of (version_in (own_held g number))) last_number) ∙ s,
      ap (λ (x : SystemId). get (next_of up number body g).db (own_number x number)) (sym s) ∙ next_stands up number g body
          ∙ (λ i. Some (next_entry up (own_number (s i) number) body (number_of (version_in (held i))) (held i))),
    )
  where
    next_system : (own : Own) (b : Bool) → (if b then own else record own { spent = true }).system ≡ own.system
    next_system own true = refl
    next_system own false = refl

done_then : (up : PortSet) (h g : Holding) (number later : ℕ) (e : Option Entry) → number < later → IsDone h number e g → IsDone h number e (brought_up up later g)
done_then up h g number later e above done = (
  (bringing_leaves_own up later g).0 ∙ done.0,
  bringing_leaves_others up later g (own_number h.own.system number)
      (subst (λ (s : SystemId). own_number h.own.system number ≢ own_number s later) (sym done.0) (other_number h.own.system number later (λ e. absurd (omega (arith, above, e))))) ∙ done.1,
)

number_done : (test : Test) (up : PortSet) (h : Holding) (number : ℕ) (body : List ℕ) → number < own_numbers → h.own.spent ≡ false → body_of_number h.own number ≡ Some body → stands test h number ≡ false
    → ((lower : ℕ) → lower < number → number_of (version_in (own_held h lower)) < last_number)
    → IsDone h number (Some (next_entry up (own_number h.own.system number) body (number_of (version_in (own_held h number))) (own_held h number))) (settled_by test up h)
number_done test up h number body below fresh has is low =
    subst (IsDone h number (Some (next_entry up (own_number h.own.system number) body (number_of (version_in (own_held h number))) (own_held h number)))) (sym (settled_fresh test up h fresh))
    (folds_reach Holding (Unspent h) (IsDone h number (Some (next_entry up (own_number h.own.system number) body (number_of (version_in (own_held h number))) (own_held h number))))
    (stands test) (brought_up up) own_numbers 0 h number
    (λ i y lower u. unspent_step test up h y i (low i lower) u)
    (λ y u. subst (IsDone h number (Some (next_entry up (own_number h.own.system number) body (number_of (version_in (own_held h number))) (own_held h number)))) (sym (turn_is test up h y number body fresh has is u)) (next_done up h y number body u))
    (λ i y above high done. done_then up h y number i _ above done)
    (at_first h 0) (omega arith) (omega (arith, below)))

pub settling_renews : SettlingRenews
settling_renews test up h number body below fresh has is low =
    let id = own_number h.own.system number in
    let seq = number_of (version_in (own_held h number)) in
    (number_done test up h number body below fresh has is (λ lower under. low lower (omega (arith, under)))).1
    ∙ ap (λ b. Some (if b then renewed up id body (seq + 1) else spent_entry up seq (own_held h number))) (lt-ltb seq last_number (low number (omega arith)))

-- the system is spent from the number's turn on
spent_stays : (up : PortSet) (number : ℕ) (g : Holding) → g.own.spent ≡ true → (brought_up up number g).own.spent ≡ true
spent_stays up number g is = brought_keeps (λ x. x.own.spent ≡ true) up number g is (λ body fresh has. absurd (true≢false (sym is ∙ fresh))) (λ seq sum live. is)

turn_spends : (up : PortSet) (h g : Holding) (number : ℕ) (body : List ℕ) → Unspent h number g → last_number ≤ number_of (version_in (own_held h number)) → (next_of up number body g).own.spent ≡ true
turn_spends up h g number body u past =
    ap (λ b. (if b then g.own else record g.own { spent = true }).spent)
    (le-ltb (number_of (version_in (own_held g number))) last_number (subst (λ (o : Option Entry). last_number ≤ number_of (version_in o)) (sym (held_here h g number u)) past))

number_spends : (test : Test) (up : PortSet) (h : Holding) (number : ℕ) (body : List ℕ) → number < own_numbers → h.own.spent ≡ false → body_of_number h.own number ≡ Some body → stands test h number ≡ false
    → ((lower : ℕ) → lower < number → number_of (version_in (own_held h lower)) < last_number) → last_number ≤ number_of (version_in (own_held h number)) → (settled_by test up h).own.spent ≡ true
number_spends test up h number body below fresh has is low past =
    ap (λ (g : Holding). g.own.spent) (settled_fresh test up h fresh)
    ∙ folds_reach Holding (Unspent h) (λ g. g.own.spent ≡ true) (stands test) (brought_up up) own_numbers 0 h number
    (λ i y lower u. unspent_step test up h y i (low i lower) u)
    (λ y u. ap (λ (g : Holding). g.own.spent) (turn_is test up h y number body fresh has is u) ∙ turn_spends up h y number body u past)
    (λ i y above high done. spent_stays up i y done)
    (at_first h 0) (omega arith) (omega (arith, below))

pub settling_spends : SettlingSpends
settling_spends test up h number body below fresh has is low past =
    let id = own_number h.own.system number in
    let seq = number_of (version_in (own_held h number)) in (
      (number_done test up h number body below fresh has is low).1
          ∙ ap (λ b. Some (if b then renewed up id body (seq + 1) else spent_entry up seq (own_held h number))) (le-ltb seq last_number past),
      number_spends test up h number body below fresh has is low past,
    )
