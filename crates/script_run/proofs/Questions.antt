-- What comes true of the questions of a script that change nothing and aren't refused.
use Rattle.std.proofs.Common.{◌≡◌, ◌+◌, ℕ, List, [], ◌∷◌, refl, sym, ap, ◌∙◌, true≢false, ⊎_elim, Option, Some, None, IfSome, Result, Ok, Err, arith}
use Rattle.scenario.specs.declared.extra.Extra.{Extra}
use Rattle.scenario.specs.declared.extra.Extra.TheVariants.{WhatIf, Proof, Check, Settle}
use Rattle.scenario.specs.Extras.{extra_of}
use Rattle.scenario.specs.Grammar.{line_of}
use Rattle.bridge_api.specs.Shown.{Shown}
use Rattle.spb_world.specs.declared.reason.Reason.{Reason}
use Rattle.spb_world.specs.World.{World, Sound, AreDistinct}
use Rattle.extra_answers.specs.Refusing.{extra_refusal}
use Rattle.extra_answers.proofs.Checked.{yes_is_best}
use Rattle.extra_answers.proofs.Passed.{proofs_pass}
use Rattle.network_model.specs.State.{State}
use Rattle.network_model.proofs.Convergence.{counted_quiet_is_converged}
use Rattle.spb_network.specs.declared.network.NetworkOf.{NetworkOf}
use Rattle.spb_network.specs.Applying.{IsSoundNetwork}
use Rattle.spb_network.specs.Network.{state_of}
use Rattle.network_rounds.specs.Settling.{settle_refusal}
use Rattle.script_run.specs.declared.refusal.Refusal.{Refusal}
use Rattle.script_run.specs.Play.{judged, judged_extra, judged_as, judged_settle, judged_line}
use Rattle.script_run.specs.Questions.{IfAsks, Foretells, AllForetell, IsProven, AllAreProven}
use Rattle.script_run.specs.Replying.{IsNew}
use Rattle.script_run.specs.States.{IsTrusted}
use Rattle.script_run.specs.Text.{lines_played, IfAccepted, AllStates}
use Rattle.script_run.proofs.Convergence.{script_is_converged}
use Rattle.script_run.proofs.Foretold.{changes_are_foretold}

-- ---- lines that are accepted

holds_too : {P Q : Type 0} (o : Option Refusal) → (P → Q) → IfAccepted o P → IfAccepted o Q
holds_too None f holds = f holds
holds_too (Some why) f holds = tt

hold_both : (P Q R : Type 0) (o : Option Refusal) → (Q → R) → IfAccepted o P → IfAccepted o Q → IfAccepted o (P × R)
hold_both P Q R None f here later = (here, f later)
hold_both P Q R (Some why) f here later = tt

holds_anyway : {P : Type 0} (o : Option Refusal) → P → IfAccepted o P
holds_anyway None holds = holds
holds_anyway (Some why) holds = tt

all_states_too : (P Q : State → Type 0) → ((t : State) → P t → Q t) → (s : State) (number : ℕ) (ls : List (List ℕ)) → AllStates P s number ls → AllStates Q s number ls
all_states_too P Q f s number [] all = tt
all_states_too P Q f s number (line ∷ ls) all =
    holds_too (judged s number line).refused
    (λ both. (f (judged s number line).state both.0, all_states_too P Q f (judged s number line).state (number + 1) ls both.1)) all

-- ---- what changes would do

foretells : (s t : State) → IsTrusted s → IsTrusted t → (question : Extra) → Foretells s question t
foretells s t here there (WhatIf change) = changes_are_foretold s t change here there
foretells s t here there question = tt

asks : (P : Extra → Type 0) → ((question : Extra) → P question) → (r : Result (Option Extra) ℕ) → IfAsks r P
asks P each (Err column) = tt
asks P each (Ok None) = tt
asks P each (Ok (Some question)) = each question

all_foretell : (s : State) (number : ℕ) (ls : List (List ℕ)) → IsTrusted s → AllStates IsTrusted s number ls → AllForetell s number ls
all_foretell s number [] here all = tt
all_foretell s number (line ∷ ls) here all =
    let next : State = (judged s number line).state in
    holds_too (judged s number line).refused
    (λ both. (
      asks (λ question. AllStates (Foretells s question) next (number + 1) ls)
          (λ question. all_states_too IsTrusted (Foretells s question) (λ t there. foretells s t here there question) next (number + 1) ls both.1)
          (extra_of line),
      all_foretell next (number + 1) ls both.0 both.1,
    )) all

-- ---- proofs of paths

proven : (w : World) → Sound w → AreDistinct w → (question : Extra) → extra_refusal w question ≡ None → IsProven w question
proven w sound distinct (Proof from to vid) accepted = λ plan planned. proofs_pass w from to vid plan sound distinct accepted planned
proven w sound distinct (Check from to vid entries) accepted = λ plan planned right. yes_is_best w from to vid plan entries sound accepted planned right
proven w sound distinct question accepted = tt

module _ (s : State) (number : ℕ) (P : Extra → Type 0) (each : (question : Extra) → extra_refusal s.world question ≡ None → P question) where
  asked : (question : Extra) (o : Option Reason) → extra_refusal s.world question ≡ o → IfAccepted (judged_extra s number question o).refused (P question)
  asked question None is = each question is
  asked question (Some reason) is = tt

  asked_by : (line : List ℕ) (r : Result (Option Extra) ℕ) → IfAccepted (judged_line s number line r).refused (IfAsks r P)
  asked_by line (Err column) = tt
  asked_by line (Ok None) = holds_anyway (judged_as s number (line_of line)).refused tt
  asked_by line (Ok (Some Settle)) = holds_anyway (judged_settle s number (settle_refusal s)).refused (each Settle refl)
  asked_by line (Ok (Some question)) = asked question (extra_refusal s.world question) refl

  asked_in : (line : List ℕ) → IfAccepted (judged s number line).refused (IfAsks (extra_of line) P)
  unfolding judged
  asked_in line = asked_by line (extra_of line)

all_are_proven : (s : State) (number : ℕ) (ls : List (List ℕ)) → IsTrusted s → AllStates IsTrusted s number ls → AllAreProven s number ls
all_are_proven s number [] here all = tt
all_are_proven s number (line ∷ ls) here all =
    hold_both (IfAsks (extra_of line) (IsProven s.world))
    (IsTrusted (judged s number line).state × AllStates IsTrusted (judged s number line).state (number + 1) ls)
    (AllAreProven (judged s number line).state (number + 1) ls)
    (judged s number line).refused
    (λ both. all_are_proven (judged s number line).state (number + 1) ls both.0 both.1)
    (asked_in s number (IsProven s.world) (proven s.world here.sound.world here.sound.distinct) line) all

-- ---- the questions of a script

module _ {B : Type 0} (shown : B → Shown) (n : NetworkOf B) (new : IsNew shown n) where
  trusted : IsTrusted (state_of shown n)
  trusted =
      let s : State = state_of shown n in
      let sound : IsSoundNetwork shown n = ⊎_elim (λ h. absurd (true≢false (sym h ∙ new.alive.halted))) (λ m. m) new.alive.ready in
      let none : s.accepted ≡ 0 = ap (λ (t : State). t.accepted) new.opening in
      let counted = sound.counted (omega (arith, none)) in
      record { sound = sound.state; counted = counted; converged = counted_quiet_is_converged s sound.state counted }

  pub script_foretells : (left : Option (List ℕ)) → IfSome left (λ script. AllForetell (state_of shown n) 1 (lines_played script))
  script_foretells None = tt
  script_foretells (Some script) = all_foretell (state_of shown n) 1 (lines_played script) trusted (script_is_converged shown n new (Some script))

  pub script_is_proven : (left : Option (List ℕ)) → IfSome left (λ script. AllAreProven (state_of shown n) 1 (lines_played script))
  script_is_proven None = tt
  script_is_proven (Some script) = all_are_proven (state_of shown n) 1 (lines_played script) trusted (script_is_converged shown n new (Some script))
