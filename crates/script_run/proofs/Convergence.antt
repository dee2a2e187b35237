-- Every state that an accepted line leaves tells, where it is quiet.
use Rattle.std.proofs.Common.{◌≡◌, ◌≤◌, ◌+◌, ℕ, List, [], ◌∷◌, length, refl, sym, ap, ◌∙◌, true≢false, ⊎_elim, Option, Some, None, IfSome, Result, Ok, Err, arith}
use Rattle.scenario.specs.declared.command.Command.{Command}
use Rattle.scenario.specs.declared.extra.Extra.{Extra}
use Rattle.scenario.specs.declared.extra.Extra.TheVariants.{Settle}
use Rattle.scenario.specs.Extras.{extra_of}
use Rattle.scenario.specs.Grammar.{line_of}
use Rattle.extra_answers.specs.Refusing.{extra_refusal}
use Rattle.bridge_api.specs.Shown.{Shown}
use Rattle.spb_network.specs.declared.network.NetworkOf.{NetworkOf}
use Rattle.spb_world.specs.declared.reason.Reason.{Reason}
use Rattle.spb_network.specs.Applying.{IsSoundNetwork}
use Rattle.spb_network.specs.Network.{state_of}
use Rattle.network_model.specs.State.{State}
use Rattle.network_model.specs.Play.{next_state, played_all}
use Rattle.network_model.specs.Refusing.{refusal_of}
use Rattle.network_model.specs.SoundLaws.{AreAccepted}
use Rattle.network_model.specs.Sound.{IsSoundState}
use Rattle.network_model.specs.Counted.{IsCounted, most_commands}
use Rattle.network_model.proofs.SoundPlay.{commands_keep_sound}
use Rattle.network_rounds.specs.Settling.{settling, settle_refusal}
use Rattle.network_model.proofs.CountedStays.{stays_counted}
use Rattle.network_model.proofs.Convergence.{counted_quiet_is_converged}
use Rattle.script_run.specs.declared.refusal.Refusal.{Refusal}
use Rattle.script_run.specs.Play.{judged, judged_by, judged_as, judged_extra, judged_settle, judged_line}
use Rattle.script_run.specs.Replying.{IsNew}
use Rattle.script_run.specs.States.{IsTrusted}
use Rattle.script_run.specs.Text.{lines_played, IfAccepted, AllStates}
use Rattle.script_run.proofs.Counting.{HasRoomFor, room_behind, few_in_room}
use Rattle.script_run.proofs.SingleRounds.{settling_accepted}
use Rattle.script_run.proofs.Taking.{lines_few}

-- ---- what stays so

record IsKept (s : State) : Type 0 where
  sound : IsSoundState s
  counted : s.accepted ≤ most_commands → IsCounted s

kept_next : (s : State) (c : Command) → refusal_of s c ≡ None → IsKept s → IsKept (next_state s c)
kept_next s c none kept = record { sound = commands_keep_sound s c kept.sound none; counted = stays_counted s c kept.sound kept.counted none }

kept_all : (s : State) (cs : List Command) → AreAccepted s cs → IsKept s → IsKept (played_all s cs)
kept_all s [] accepted kept = kept
kept_all s (c ∷ cs) accepted kept = kept_all (next_state s c) cs accepted.1 (kept_next s c accepted.0 kept)

kept_by : (s : State) (number : ℕ) (c : Command) (o : Option Reason) → refusal_of s c ≡ o → IsKept s → IsKept (judged_by s number c o).state
kept_by s number c (Some reason) is kept = kept
kept_by s number c None is kept = kept_next s c is kept

kept_as : (s : State) (number : ℕ) (r : Result (Option Command) ℕ) → IsKept s → IsKept (judged_as s number r).state
kept_as s number (Err column) kept = kept
kept_as s number (Ok None) kept = kept
kept_as s number (Ok (Some c)) kept = kept_by s number c (refusal_of s c) refl kept

kept_extra : (s : State) (number : ℕ) (x : Extra) (o : Option Reason) → IsKept s → IsKept (judged_extra s number x o).state
kept_extra s number x (Some reason) kept = kept
kept_extra s number x None kept = kept

kept_settle : (s : State) (number : ℕ) (o : Option Reason) → settle_refusal s ≡ o → IsKept s → IsKept (judged_settle s number o).state
kept_settle s number (Some reason) is kept = kept
kept_settle s number None is kept = kept_all s (settling s) (settling_accepted s is) kept

kept_line : (s : State) (number : ℕ) (line : List ℕ) (r : Result (Option Extra) ℕ) → IsKept s → IsKept (judged_line s number line r).state
kept_line s number line (Err column) kept = kept
kept_line s number line (Ok (Some Settle)) kept = kept_settle s number (settle_refusal s) refl kept
kept_line s number line (Ok (Some x)) kept = kept_extra s number x (extra_refusal s.world x) kept
kept_line s number line (Ok None) kept = kept_as s number (line_of line) kept

line_kept : (s : State) (number : ℕ) (line : List ℕ) → IsKept s → IsKept (judged s number line).state
unfolding judged
line_kept s number line kept = kept_line s number line (extra_of line) kept

-- ---- the states of a script

if_accepted : {P : Type 0} (o : Option Refusal) → P → IfAccepted o P
if_accepted None holds = holds
if_accepted (Some why) holds = tt

trusted : (s : State) → IsKept s → s.accepted ≤ most_commands → IsTrusted s
trusted s kept few =
    let counted = kept.counted few in
    record { sound = kept.sound; counted = counted; converged = counted_quiet_is_converged s kept.sound counted }

all_tell : (s : State) (number : ℕ) (ls : List (List ℕ)) → IsKept s → HasRoomFor (length ls) s → AllStates IsTrusted s number ls
all_tell s number [] kept room = tt
all_tell s number (line ∷ ls) kept room =
    let next : State = (judged s number line).state in
    let later : IsKept next = line_kept s number line kept in
    let behind : HasRoomFor (length ls) next = room_behind (length ls) s number line room in
    if_accepted (judged s number line).refused (
      trusted next later (few_in_room (length ls) next behind),
      all_tell next (number + 1) ls later behind,
    )

module _ {B : Type 0} (shown : B → Shown) (n : NetworkOf B) (new : IsNew shown n) where
  kept : IsKept (state_of shown n)
  kept =
      let sound : IsSoundNetwork shown n = ⊎_elim (λ h. absurd (true≢false (sym h ∙ new.alive.halted))) (λ m. m) new.alive.ready in
      record { sound = sound.state; counted = sound.counted }

  lines_tell : (script : List ℕ) → AllStates IsTrusted (state_of shown n) 1 (lines_played script)
  lines_tell script =
      let none : (state_of shown n).accepted ≡ 0 = ap (λ (s : State). s.accepted) new.opening in
      let unplayed : (state_of shown n).rounds ≡ 0 = ap (λ (s : State). s.rounds) new.opening in
      all_tell (state_of shown n) 1 (lines_played script) kept (record { rounds = omega (arith, unplayed); commands = omega (arith, none, unplayed, lines_few script) })

  pub script_is_converged : (left : Option (List ℕ)) → IfSome left (λ script. AllStates IsTrusted (state_of shown n) 1 (lines_played script))
  script_is_converged None = tt
  script_is_converged (Some script) = lines_tell script
