-- What becomes of each own LSP where all are brought up to date, one number after another: one that stands is left; and
-- else it is originated in its turn, unless those before it spent the sequence numbers.
use Rattle.std.proofs.Common.{◌≡◌, ◌≢◌, ℕ, ◌+◌, ◌≤◌, ◌<◌, Bool, true, false, List, refl, sym, ap, ◌∙◌, subst, Option, Some, arith}
use Rattle.std.specs.Prelude.{nat_lt, slice_get, if◌then◌else◌}
use Rattle.std.specs.Option.{option_and_then}
use Rattle.std.specs.FinMap.{get}
use Rattle.std.proofs.lemmas.Bool.{lt-ltb, le-ltb, true≢false}
use Rattle.spb_types.specs.declared.address.SystemId.{SystemId}
use Rattle.spb_types.specs.declared.address.LspId.{LspId}
use Rattle.spb_types.specs.declared.ports.PortSet.{PortSet}
use Rattle.lsdb.specs.Version.{number_of}
use Rattle.lsdb.specs.Entry.{Entry}
use Rattle.lsdb.specs.Database.{version_in}
use Rattle.flooding.specs.declared.own.Own.{Own}
use Rattle.flooding.specs.Own.{last_number, own_numbers, own_number, body_of_number, renewed}
use Rattle.flooding.specs.Hearing.{Holding}
use Rattle.flooding.specs.Origination.{spent_entry, next_entry, brought_up}
use Rattle.flooding.specs.Settling.{Test, own_held, stands, settled_by}
use Rattle.flooding.proofs.Brought.{next_of, brought_keeps, brought_is, next_stands, bringing_leaves_others, bringing_leaves_own}
use Rattle.flooding.proofs.Folds.{folds_reach}
use Rattle.flooding.proofs.Owns.{SameOwn}
use Rattle.flooding.proofs.OwnNumbers.{other_number}
use Rattle.flooding.proofs.Settled.{same_then, settled_fresh, settling_passes}

either : (P : Holding → Type 0) (b : Bool) (x y : Holding) → (b ≡ true → P x) → (b ≡ false → P y) → P (if b then x else y)
either P true x y p q = p refl
either P false x y p q = q refl

next_fresh : (own : Own) (b : Bool) → b ≡ true → own.spent ≡ false → (if b then own else record own { spent = true }).spent ≡ false
next_fresh own true low fresh = fresh
next_fresh own false low fresh = absurd (true≢false (sym low))

next_spent : (own : Own) (b : Bool) → b ≡ false → (if b then own else record own { spent = true }).spent ≡ true
next_spent own true past = absurd (true≢false past)
next_spent own false past = refl

module _ (test : Test) (up : PortSet) (h : Holding) where
  abbrev id_of : ℕ → LspId
  id_of number = own_number h.own.system number

  -- those below a number that don't stand, and have a body, are below the last number
  abbrev pub AreLow : ℕ → Type 0
  AreLow end = (number : ℕ) (body : List ℕ) → number < end → body_of_number h.own number ≡ Some body → stands test h number ≡ false → number_of (version_in (own_held h number)) < last_number

  -- before the turn of a number
  record Before (number : ℕ) (g : Holding) : Type 0 where
    own : SameOwn h.own g.own
    ahead : (later : ℕ) → number ≤ later → get g.db (id_of later) ≡ get h.db (id_of later)
    fresh : AreLow number → h.own.spent ≡ false → g.own.spent ≡ false

  at_first : (number : ℕ) → Before number h
  at_first number = record { own = (refl, refl); ahead = λ later low. refl; fresh = λ low fresh. fresh }

  held_same : (number : ℕ) (g : Holding) → Before number g → own_held g number ≡ own_held h number
  held_same number g b = ap (λ (s : SystemId). get g.db (own_number s number)) b.own.0 ∙ b.ahead number (omega arith)

  body_same : (number : ℕ) (g : Holding) → SameOwn h.own g.own → body_of_number g.own number ≡ body_of_number h.own number
  body_same number g same = ap (λ (bs : List (Option (List ℕ))). option_and_then (λ body. body) (slice_get bs number)) same.1

  stands_same : (number : ℕ) (g : Holding) → Before number g → stands test g number ≡ stands test h number
  stands_same number g b = let body = body_same number g b.own in let held = held_same number g b in λ i. test (body i) (held i)

  other_at : (number i : ℕ) (g : Holding) → number ≢ i → SameOwn h.own g.own → get (brought_up up i g).db (id_of number) ≡ get g.db (id_of number)
  other_at number i g apart same =
      bringing_leaves_others up i g (id_of number) (subst (λ (s : SystemId). id_of number ≢ own_number s i) (sym same.0) (other_number h.own.system number i apart))

  own_then : (number : ℕ) (g : Holding) → SameOwn h.own g.own → SameOwn h.own (brought_up up number g).own
  own_then number g same = same_then h.own g.own (brought_up up number g).own same (bringing_leaves_own up number g)

  -- ---- a turn

  turn_fresh : (number : ℕ) (g : Holding) → Before number g → stands test g number ≡ false → AreLow (number + 1) → h.own.spent ≡ false → (brought_up up number g).own.spent ≡ false
  turn_fresh number g b stale low fresh =
      let before : g.own.spent ≡ false = b.fresh (λ i body below has is. low i body (omega (arith, below)) has is) fresh in
      let held = held_same number g b in
      brought_keeps (λ x. x.own.spent ≡ false) up number g before
      (λ body unspent has.
      let under = low number body (omega arith) (sym (body_same number g b.own) ∙ has) (sym (stands_same number g b) ∙ stale) in
      next_fresh g.own (nat_lt (number_of (version_in (own_held g number))) last_number)
      (lt-ltb (number_of (version_in (own_held g number))) last_number (subst (λ (o : Option Entry). number_of (version_in o) < last_number) (sym held) under)) before)
      (λ seq sum live. before)

  turn : (number : ℕ) (g : Holding) → Before number g → Before (number + 1) (if stands test g number then g else brought_up up number g)
  turn number g b =
      either (Before (number + 1)) (stands test g number) g (brought_up up number g)
      (λ said. record {
        own = b.own;
        ahead = λ later above. b.ahead later (omega (arith, above));
        fresh = λ low. b.fresh (λ i body below has is. low i body (omega (arith, below)) has is);
      })
      (λ stale. record {
        own = own_then number g b.own;
        ahead = λ later above. other_at later number g (λ e. absurd (omega (arith, above, e))) b.own ∙ b.ahead later (omega (arith, above));
        fresh = λ low fresh. turn_fresh number g b stale low fresh;
      })

  -- ---- the sequence numbers aren't spent

  pub unspent_after : AreLow own_numbers → h.own.spent ≡ false → (settled_by test up h).own.spent ≡ false
  unspent_after low fresh = (settling_passes Before test up h (λ number g below b. turn number g b) (at_first 0) (at_first own_numbers)).fresh low fresh

  -- ---- one number, from its turn on

  abbrev IsDone : ℕ → Option Entry → Holding → Type 0
  IsDone number e g = SameOwn h.own g.own × (get g.db (id_of number) ≡ e)

  done_then : (number later : ℕ) (e : Option Entry) (g : Holding) → number < later → IsDone number e g → IsDone number e (brought_up up later g)
  done_then number later e g above done = (own_then later g done.0, other_at number later g (λ same. absurd (omega (arith, above, same))) done.0 ∙ done.1)

  reached : (number : ℕ) (e : Option Entry) → number < own_numbers → ((g : Holding) → Before number g → IsDone number e (if stands test g number then g else brought_up up number g)) → h.own.spent ≡ false → get (settled_by test up h).db (id_of number) ≡ e
  reached number e below does fresh =
      ap (λ (g : Holding). get g.db (id_of number)) (settled_fresh test up h fresh)
      ∙ (folds_reach Holding Before (IsDone number e) (stands test) (brought_up up) own_numbers 0 h number (λ i g lower b. turn i g b) does (λ i g above high done. done_then number i e g above done)
      (at_first 0) (omega arith) (omega (arith, below))).1

  -- one that stands is left
  pub left_after : (number : ℕ) → number < own_numbers → stands test h number ≡ true → h.own.spent ≡ false → get (settled_by test up h).db (id_of number) ≡ get h.db (id_of number)
  left_after number below said fresh =
      reached number (get h.db (id_of number)) below
      (λ g b. either (IsDone number (get h.db (id_of number))) (stands test g number) g (brought_up up number g)
      (λ is. (b.own, b.ahead number (omega arith)))
      (λ is. absurd (true≢false (sym (stands_same number g b ∙ said) ∙ is)))) fresh

  -- one that doesn't goes on, if those below it can
  next_done : (number : ℕ) (body : List ℕ) (g : Holding) → Before number g → body_of_number h.own number ≡ Some body → g.own.spent ≡ false
      → get (brought_up up number g).db (id_of number) ≡ Some (next_entry up (id_of number) body (number_of (version_in (own_held h number))) (own_held h number))
  next_done number body g b has fresh =
      let held = held_same number g b in
      let system : g.own.system ≡ h.own.system = b.own.0 in
      ap (λ (x : Holding). get x.db (id_of number)) (brought_is up number g body fresh (body_same number g b.own ∙ has))
      ∙ (ap (λ (s : SystemId). get (next_of up number body g).db (own_number s number)) (sym system)
      ∙ (next_stands up number g body ∙ (λ i. Some (next_entry up (own_number (system i) number) body (number_of (version_in (held i))) (held i)))))

  pub next_after : (number : ℕ) (body : List ℕ) → number < own_numbers → body_of_number h.own number ≡ Some body → stands test h number ≡ false → AreLow number → h.own.spent ≡ false
      → get (settled_by test up h).db (id_of number) ≡ Some (next_entry up (id_of number) body (number_of (version_in (own_held h number))) (own_held h number))
  next_after number body below has stale low fresh =
      let new : Option Entry = Some (next_entry up (id_of number) body (number_of (version_in (own_held h number))) (own_held h number)) in
      reached number new below
      (λ g b. either (IsDone number new) (stands test g number) g (brought_up up number g)
      (λ is. absurd (true≢false (sym is ∙ (stands_same number g b ∙ stale))))
      (λ is. (own_then number g b.own, next_done number body g b has (b.fresh low fresh)))) fresh

  pub renewed_after : (number : ℕ) (body : List ℕ) → number < own_numbers → body_of_number h.own number ≡ Some body → stands test h number ≡ false → AreLow (number + 1) → h.own.spent ≡ false
      → get (settled_by test up h).db (id_of number) ≡ Some (renewed up (id_of number) body (number_of (version_in (own_held h number)) + 1))
  renewed_after number body below has stale low fresh =
      let seq : ℕ = number_of (version_in (own_held h number)) in
      next_after number body below has stale (λ i b under is not_said. low i b (omega (arith, under)) is not_said) fresh
      ∙ ap (λ b. Some (if b then renewed up (id_of number) body (seq + 1) else spent_entry up seq (own_held h number))) (lt-ltb seq last_number (low number body (omega arith) has stale))

  pub dead_after : (number : ℕ) (body : List ℕ) → number < own_numbers → body_of_number h.own number ≡ Some body → stands test h number ≡ false → AreLow number → last_number ≤ number_of (version_in (own_held h number)) → h.own.spent ≡ false
      → get (settled_by test up h).db (id_of number) ≡ Some (spent_entry up (number_of (version_in (own_held h number))) (own_held h number))
  dead_after number body below has stale low past fresh =
      let seq : ℕ = number_of (version_in (own_held h number)) in
      next_after number body below has stale low fresh ∙ ap (λ b. Some (if b then renewed up (id_of number) body (seq + 1) else spent_entry up seq (own_held h number))) (le-ltb seq last_number past)

  -- ---- and it spends the sequence numbers past the last one

  spent_stays : (number : ℕ) (g : Holding) → g.own.spent ≡ true → (brought_up up number g).own.spent ≡ true
  spent_stays number g is = brought_keeps (λ x. x.own.spent ≡ true) up number g is (λ body fresh has. absurd (true≢false (sym is ∙ fresh))) (λ seq sum live. is)

  turn_spends : (number : ℕ) (body : List ℕ) (g : Holding) (b : Bool) → g.own.spent ≡ b → Before number g → body_of_number h.own number ≡ Some body → last_number ≤ number_of (version_in (own_held h number)) → (brought_up up number g).own.spent ≡ true
  turn_spends number body g true spent before has past = spent_stays number g spent
  turn_spends number body g false fresh before has past =
      ap (λ (x : Holding). x.own.spent) (brought_is up number g body fresh (body_same number g before.own ∙ has))
      ∙ next_spent g.own (nat_lt (number_of (version_in (own_held g number))) last_number)
      (le-ltb (number_of (version_in (own_held g number))) last_number (subst (λ (o : Option Entry). last_number ≤ number_of (version_in o)) (sym (held_same number g before)) past))

  pub spent_after : (number : ℕ) (body : List ℕ) → number < own_numbers → body_of_number h.own number ≡ Some body → stands test h number ≡ false → last_number ≤ number_of (version_in (own_held h number)) → h.own.spent ≡ false
      → (settled_by test up h).own.spent ≡ true
  spent_after number body below has stale past fresh =
      ap (λ (g : Holding). g.own.spent) (settled_fresh test up h fresh)
      ∙ folds_reach Holding Before (λ g. g.own.spent ≡ true) (stands test) (brought_up up) own_numbers 0 h number (λ i g lower b. turn i g b)
      (λ g b. either (λ x. x.own.spent ≡ true) (stands test g number) g (brought_up up number g)
      (λ is. absurd (true≢false (sym is ∙ (stands_same number g b ∙ stale))))
      (λ is. turn_spends number body g g.own.spent refl b has past))
      (λ i g above high is. spent_stays i g is)
      (at_first 0) (omega arith) (omega (arith, below))
