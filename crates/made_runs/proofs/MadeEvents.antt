-- What happens in a script that is made is accepted, and so is the whole script.
use Rattle.std.proofs.Common.{◌≡◌, ℕ, suc, ◌+◌, ◌-◌, ◌*◌, ◌≤◌, ◌<◌, true, false, List, [], ◌∷◌, ◌++◌, Option, Some, None, refl, ap, ◌∙◌, subst, arith}
use Rattle.scenario.specs.declared.command.Command.{Command}
use Rattle.scenario.specs.declared.command.Command.TheVariants as command
use Rattle.scenario_maker.specs.Made.{bridge_name, ring_name, chord_count, frame_bytes, questions_of, questions, convergence, sent, traffic, declarations, after_failure, after_restart, events, made}
use Rattle.spb_world.specs.declared.reason.Reason.{Reason}
use Rattle.spb_world.specs.World.{World, place_of}
use Rattle.spb_world.specs.Declaring.{with_live}
use Rattle.spb_world.specs.Attaching.{is_sending}
use Rattle.network_model.specs.State.{State}
use Rattle.network_model.specs.Play.{next_state}
use Rattle.network_model.specs.Sound.{opening}
use Rattle.network_model.specs.SoundLaws.{AreAccepted}
use Rattle.network_model.proofs.SoundPlay.{opening_sound}
use Rattle.made_runs.proofs.StandingSteps.{frame_goes, show_goes, wiring_goes, round_goes, drain_goes, down_goes, restart_goes}
use Rattle.made_runs.specs.Applied.{applied, applied_by}
use Rattle.made_runs.specs.MadeLaws.{MadeIsAccepted, MadeIsApplied}
use Rattle.made_runs.proofs.MadeRuns.{Runs, runs_more}
use Rattle.made_runs.proofs.MadeBridges.{AreBridged, bridge_place}
use Rattle.made_runs.proofs.MadeLinks.{first_place}
use Rattle.made_runs.proofs.MadeServices.{new_frame}
use Rattle.made_runs.proofs.MadeDeclared.{Stays, IsWhole, IsNothing, runs_step, runs_all_numbered, runs_declarations}

-- what the events need of what is declared: the bridges, and their own member
pub record IsReady (n : ℕ) (w : World) : Type 0 where
  pub bridges : AreBridged (n + 1) w.bridges
  pub own : (p : ℕ) → p + 1 < n + 1 → is_sending w.attached p 1 ≡ true

ready : (n : ℕ) (w : World) → IsWhole n w → IsReady n w
ready n w so = record { bridges = so.bridges; own = so.attached.own }

-- worlds of a sort that are ready
abbrev pub AreReady : ℕ → (World → Type 0) → Type 0
AreReady n Q = (w : World) → Q w → IsReady n w

-- ---- questions

runs_questions_of : (Q : World → Type 0) (n m r d j : ℕ) → AreReady n Q → 1 ≤ j → j ≤ n → Runs (Stays m r d Q) (questions_of j) (Stays m r d Q)
runs_questions_of Q n m r d j are some high =
    runs_more (Stays m r d Q) (Stays m r d Q) (Stays m r d Q) (command.Show (bridge_name j) ∷ []) (command.Wiring (bridge_name j) ∷ [])
    (runs_step m r d m r d Q Q (command.Show (bridge_name j)) (λ w. w) (λ s stands so. (show_goes s (bridge_name j) (j - 1) m r d stands (at s.world so), so)))
    (runs_step m r d m r d Q Q (command.Wiring (bridge_name j)) (λ w. w) (λ s stands so. (wiring_goes s (bridge_name j) (j - 1) m r d stands (at s.world so), so)))
  where
    at : (w : World) → Q w → place_of (bridge_name j) w.bridges ≡ Some (j - 1)
    at w so = bridge_place w.bridges (n + 1) j (are w so).bridges some (omega arith) (j - 1) (omega arith)

runs_questions : (Q : World → Type 0) (n m r d : ℕ) → AreReady n Q → Runs (Stays m r d Q) (questions n) (Stays m r d Q)
runs_questions Q n m r d are = runs_all_numbered (λ j. Stays m r d Q) questions_of n (λ j some high. runs_questions_of Q n m r d j are some high)

runs_convergence : (Q : World → Type 0) (n m r d : ℕ) → AreReady n Q → r + (4 * n + 16) ≤ 20000 → Runs (Stays m r d Q) (convergence n) (Stays m (r + (4 * n + 16)) d Q)
runs_convergence Q n m r d are high =
    runs_more (Stays m r d Q) (Stays m (r + (4 * n + 16)) d Q) (Stays m (r + (4 * n + 16)) d Q) (command.Round (4 * n + 16) ∷ []) (questions n)
    (runs_step m r d m (r + (4 * n + 16)) d Q Q (command.Round (4 * n + 16)) (λ w. w) (λ s stands so. (round_goes s (4 * n + 16) m r d stands (omega arith) high, so)))
    (runs_questions Q n m (r + (4 * n + 16)) d are)

-- ---- frames

runs_sent : (Q : World → Type 0) (n m r d j : ℕ) → AreReady n Q → 1 ≤ j → j ≤ n → d + 100000 ≤ 100000000 → Runs (Stays m r d Q) (sent j) (Stays m r (d + 100000) Q)
runs_sent Q n m r d j are some high all =
    runs_more (Stays m r d Q) (Stays m r d Q) (Stays m r (d + 100000) Q) (command.Frame (bridge_name j) 1 (frame_bytes j) ∷ []) (command.Drain 100000 ∷ [])
    (runs_step m r d m r d Q Q (command.Frame (bridge_name j) 1 (frame_bytes j)) (λ w. w) (λ s stands so. (
      frame_goes s (bridge_name j) 1 (frame_bytes j) (j - 1) m r d stands
          (bridge_place s.world.bridges (n + 1) j (are s.world so).bridges some (omega arith) (j - 1) (omega arith))
          (new_frame s.world (j - 1) j ((are s.world so).own (j - 1) (omega arith))),
      so,
    )))
    (runs_step m r d m r (d + 100000) Q Q (command.Drain 100000) (λ w. w) (λ s stands so. (drain_goes s 100000 m r d stands (omega arith) (omega arith) all, so)))

runs_traffic : (Q : World → Type 0) (n m r d : ℕ) → AreReady n Q → d + n * 100000 ≤ 100000000 → Runs (Stays m r d Q) (traffic n) (Stays m r (d + n * 100000) Q)
runs_traffic Q n m r d are all =
    let begin : d + (1 - 1) * 100000 ≡ d = omega arith in
    let end : d + (n + 1 - 1) * 100000 ≡ d + n * 100000 = omega arith in
    subst (λ e. Runs (Stays m r e Q) (traffic n) (Stays m r (d + n * 100000) Q)) begin
    (subst (λ e. Runs (Stays m r (d + (1 - 1) * 100000) Q) (traffic n) (Stays m r e Q)) end
    (runs_all_numbered (λ j. Stays m r (d + (j - 1) * 100000) Q) sent n each))
  where
    each : (j : ℕ) → 1 ≤ j → j ≤ n → Runs (Stays m r (d + (j - 1) * 100000) Q) (sent j) (Stays m r (d + (j + 1 - 1) * 100000) Q)
    each j some high =
        let on : d + (j - 1) * 100000 + 100000 ≡ d + (j + 1 - 1) * 100000 = omega arith in
        subst (λ e. Runs (Stays m r (d + (j - 1) * 100000) Q) (sent j) (Stays m r e Q)) on (runs_sent Q n m r (d + (j - 1) * 100000) j are some high (omega arith))

-- ---- the link that goes down, and the bridge that restarts

still_ready : (n : ℕ) (w : World) → IsWhole n w → IsReady n (with_live false w 0)
unfolding with_live
still_ready n w so = record { bridges = so.bridges; own = so.attached.own }

runs_failure : (n m r d : ℕ) → 4 ≤ n → r + (4 * n + 16) ≤ 20000 → Runs (Stays m r d (IsWhole n)) (after_failure n) (Stays m (r + (4 * n + 16)) d (IsReady n))
runs_failure n m r d least high =
    runs_more (Stays m r d (IsWhole n)) (Stays m r d (IsReady n)) (Stays m (r + (4 * n + 16)) d (IsReady n)) (command.Down (ring_name 1) ∷ []) (convergence n)
    (runs_step m r d m r d (IsWhole n) (IsReady n) (command.Down (ring_name 1)) (λ w. with_live false w 0) (λ s stands so.
    let first = first_place s.world.links n (chord_count n + 1) least (omega arith) so.links in
    (down_goes s (ring_name 1) 0 m r d stands first.0 first.1, still_ready n s.world so)))
    (runs_convergence (IsReady n) n m r d (λ w so. so) high)

runs_restart : (n m r d : ℕ) → 4 ≤ n → r + (4 * n + 16) ≤ 20000 → d + n * 100000 ≤ 100000000
    → Runs (Stays (suc m) r d (IsReady n)) (after_restart n) (Stays m (r + (4 * n + 16)) (d + n * 100000) (IsReady n))
runs_restart n m r d least high all =
    runs_more (Stays (suc m) r d (IsReady n)) (Stays m r d (IsReady n)) (Stays m (r + (4 * n + 16)) (d + n * 100000) (IsReady n)) (command.Restart (bridge_name 2) ∷ []) (convergence n ++ traffic n)
    (runs_step (suc m) r d m r d (IsReady n) (IsReady n) (command.Restart (bridge_name 2)) (λ w. w) (λ s stands so.
    (restart_goes s (bridge_name 2) 1 m r d stands (bridge_place s.world.bridges (n + 1) 2 so.bridges (omega arith) (omega arith) 1 (omega arith)), so)))
    (runs_more (Stays m r d (IsReady n)) (Stays m (r + (4 * n + 16)) d (IsReady n)) (Stays m (r + (4 * n + 16)) (d + n * 100000) (IsReady n)) (convergence n) (traffic n)
    (runs_convergence (IsReady n) n m r d (λ w so. so) high) (runs_traffic (IsReady n) n m (r + (4 * n + 16)) d (λ w so. so) all))

-- ---- the whole script

runs_events : (n : ℕ) → 4 ≤ n → n ≤ 96 → Runs (Stays 1 0 0 (IsWhole n)) (events n) (Stays 0 (0 + (4 * n + 16) + (4 * n + 16) + (4 * n + 16)) (0 + n * 100000 + n * 100000) (IsReady n))
runs_events n least few =
    runs_more (Stays 1 0 0 (IsWhole n)) (Stays 1 (0 + (4 * n + 16) + (4 * n + 16)) (0 + n * 100000) (IsReady n)) (Stays 0 (0 + (4 * n + 16) + (4 * n + 16) + (4 * n + 16)) (0 + n * 100000 + n * 100000) (IsReady n)) (convergence n ++ traffic n ++ after_failure n) (after_restart n)
    (runs_more (Stays 1 0 0 (IsWhole n)) (Stays 1 (0 + (4 * n + 16)) (0 + n * 100000) (IsWhole n)) (Stays 1 (0 + (4 * n + 16) + (4 * n + 16)) (0 + n * 100000) (IsReady n)) (convergence n ++ traffic n) (after_failure n)
    (runs_more (Stays 1 0 0 (IsWhole n)) (Stays 1 (0 + (4 * n + 16)) 0 (IsWhole n)) (Stays 1 (0 + (4 * n + 16)) (0 + n * 100000) (IsWhole n)) (convergence n) (traffic n)
    (runs_convergence (IsWhole n) n 1 0 0 (ready n) (omega arith))
    (runs_traffic (IsWhole n) n 1 (0 + (4 * n + 16)) 0 (ready n) (omega arith)))
    (runs_failure n 1 (0 + (4 * n + 16)) (0 + n * 100000) least (omega arith)))
    (runs_restart n 0 (0 + (4 * n + 16) + (4 * n + 16)) (0 + n * 100000) least (omega arith) (omega arith))

runs_made : (n : ℕ) → 4 ≤ n → n ≤ 96 → Runs (Stays (n + 1) 0 0 IsNothing) (made n) (Stays 0 (0 + (4 * n + 16) + (4 * n + 16) + (4 * n + 16)) (0 + n * 100000 + n * 100000) (IsReady n))
runs_made n least few = runs_more (Stays (n + 1) 0 0 IsNothing) (Stays 1 0 0 (IsWhole n)) (Stays 0 (0 + (4 * n + 16) + (4 * n + 16) + (4 * n + 16)) (0 + n * 100000 + n * 100000) (IsReady n)) (declarations n) (events n) (runs_declarations n least few) (runs_events n least few)

pub made_is_accepted : MadeIsAccepted
made_is_accepted rule rack n least few boxes =
    (runs_made n least few (opening rule rack) (record { sound = opening_sound rule rack; boxes = boxes; rounds = refl; drained = refl }, refl)).0

-- where each command is accepted, none is refused
none_refused : (s : State) (number : ℕ) (cs : List Command) → AreAccepted s cs → (applied s number cs).refused ≡ None
none_refused s number [] accepted = refl
none_refused s number (c ∷ cs) accepted =
    ap (λ (o : Option Reason). (applied_by s number c o (applied (next_state s c) (number + 1) cs)).refused) accepted.0 ∙ none_refused (next_state s c) (number + 1) cs accepted.1

pub made_is_applied : MadeIsApplied
made_is_applied rule rack n least few boxes = none_refused (opening rule rack) 1 (made n) (made_is_accepted rule rack n least few boxes)
