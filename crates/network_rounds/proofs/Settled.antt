-- Settling ends in quiet, since single rounds are made until there is quiet, and enough of them are given.
use Rattle.std.proofs.Common.{◌≡◌, ℕ, zero, suc, ◌-◌, ◌≤◌, Bool, true, false, length, refl, sym, ap, ◌∙◌, subst, arith}
use Rattle.std.specs.Prelude.{replicate, if◌then◌else◌}
use Rattle.scenario.specs.declared.command.Command.{Command}
use Rattle.scenario.specs.declared.command.Command.TheVariants as command
use Rattle.network_model.specs.State.{State}
use Rattle.network_model.specs.Play.{next_state, played_all}
use Rattle.network_model.specs.Questions.{is_quiet}
use Rattle.network_model.specs.Sound.{IsSoundState}
use Rattle.network_model.specs.SoundLaws.{state_after, opening_of}
use Rattle.network_model.specs.Counted.{IsCounted, allowance_of, most_commands}
use Rattle.network_model.specs.Quiet.{IsQuiet, failing}
use Rattle.network_model.proofs.CountedPlay.{opening_counted, all_counted}
use Rattle.network_model.proofs.QuietLists.{nil_of, of_nil}
use Rattle.network_model.proofs.SoundPlay.{opening_sound, networks_are_sound}
use Rattle.network_rounds.specs.Premises.{is_ready}
use Rattle.network_rounds.specs.Rounds.{AreRounds}
use Rattle.network_rounds.specs.Settling.{most_settling, rounds_made, settled}
use Rattle.network_rounds.specs.Agreement.{IsReached}
use Rattle.network_rounds.specs.SettlingLaws.{RoundsSettle, enough_for, CommandsSettle, NetworksSettle, PlayedNetworksSettle}
use Rattle.network_rounds.proofs.Along.{commands_are_rounds, single_commands_are_rounds}
use Rattle.network_rounds.proofs.Near.{bridges_are_near}

-- ---- single rounds

abbrev after : ℕ → State → State
after k s = played_all s (replicate k (command.Round 1))

none_made : (m : ℕ) (s : State) → is_quiet s ≡ true → rounds_made m s ≡ 0
none_made zero s quiet = refl
none_made (suc m) s quiet = ap (λ (b : Bool). if b then 0 else suc (rounds_made m (next_state s (command.Round 1)))) quiet

one_made : (m : ℕ) (s : State) → is_quiet s ≡ false → rounds_made (suc m) s ≡ suc (rounds_made m (next_state s (command.Round 1)))
one_made m s busy = ap (λ (b : Bool). if b then 0 else suc (rounds_made m (next_state s (command.Round 1)))) busy

record IsMade (m j : ℕ) (s : State) : Type 0 where
  few : rounds_made m s ≤ j
  quiet : is_quiet (after (rounds_made m s) s) ≡ true

at_once : (m j : ℕ) (s : State) → is_quiet s ≡ true → IsMade m j s
at_once m j s quiet =
    let none : rounds_made m s ≡ 0 = none_made m s quiet in
    record { few = omega (arith, none); quiet = ap (λ (n : ℕ). is_quiet (after n s)) none ∙ quiet }

one_more : (m j : ℕ) (s : State) → is_quiet s ≡ false → IsMade m j (next_state s (command.Round 1)) → IsMade (suc m) (suc j) s
one_more m j s busy made =
    let one = one_made m s busy in
    record { few = omega (arith, one, made.few); quiet = ap (λ (n : ℕ). is_quiet (after n s)) one ∙ made.quiet }

-- where so many single rounds would make a network quiet, no more are made, and it becomes quiet
least : (m j : ℕ) (s : State) → j ≤ m → is_quiet (after j s) ≡ true → IsMade m j s
least m zero s le quiet = at_once m zero s quiet
least zero (suc j) s le quiet = absurd (omega (arith, le))
least (suc m) (suc j) s le quiet = by (is_quiet s) refl (least m j (next_state s (command.Round 1)) (omega (arith, le)) quiet)
  where
    by : (b : Bool) → is_quiet s ≡ b → IsMade m j (next_state s (command.Round 1)) → IsMade (suc m) (suc j) s
    by true now made = at_once (suc m) (suc j) s now
    by false busy made = one_more m j s busy made

-- ---- from what is counted

module _ (s : State) (sound : IsSoundState s) (counted : IsCounted s) (few : s.accepted ≤ most_commands) (ready : is_ready (most_settling s) s ≡ true) where
  few_bridges : length s.views ≤ 96
  few_bridges = omega (arith, sound.fits.bridges, sound.world.few)

  enough_given : enough_for s ≤ most_settling s
  enough_given = omega arith

  pub reached : (k : ℕ) (t : State) → AreRounds k s t → k ≤ most_settling s → IsReached (length s.views - 1) (most_settling s) k s t
  reached k t rounds within = record {
    ready = record {
      sound = sound;
      allowance = allowance_of s;
      counted = counted.by;
      room = omega (arith, counted.rounds, few, within, few_bridges);
      ready = ready;
      short = omega (arith, few_bridges);
    };
    near = bridges_are_near s sound;
    rounds = rounds;
    within = within;
  }

  module _ (settle : RoundsSettle) where
    quiet_after : (k : ℕ) (t : State) → AreRounds k s t → enough_for s ≤ k → k ≤ most_settling s → IsQuiet t
    quiet_after k t rounds enough within = settle (length s.views - 1) (most_settling s) k s t (reached k t rounds within) enough

    settles : (k : ℕ) → enough_for s ≤ k → k ≤ most_settling s → IsQuiet (next_state s (command.Round k))
    settles k enough within = quiet_after k (next_state s (command.Round k)) (commands_are_rounds k s) enough within

    settles_in_time : (rounds_made (most_settling s) s ≤ enough_for s) × IsQuiet (settled s)
    settles_in_time =
        let quiet = quiet_after (enough_for s) (after (enough_for s) s) (single_commands_are_rounds (enough_for s) s) (omega arith) enough_given in
        let made : IsMade (most_settling s) (enough_for s) s = least (most_settling s) (enough_for s) s enough_given (of_nil (failing (after (enough_for s) s)) quiet) in
        (made.few, nil_of (failing (settled s)) made.quiet)

pub commands_settle : RoundsSettle → CommandsSettle
commands_settle settle s c sound counted few k is enough within ready =
    subst (λ (c : Command). IsQuiet (next_state s c)) (sym is) (settles s sound counted few ready settle k enough within)

pub networks_settle : RoundsSettle → NetworksSettle
networks_settle settle s sound counted few ready = settles_in_time s sound counted few ready settle

pub played_networks_settle : RoundsSettle → PlayedNetworksSettle
played_networks_settle settle scene few =
    let all = all_counted (opening_of scene) scene.commands (opening_sound scene.rule scene.rack) (opening_counted scene.rule scene.rack) scene.accepted (omega (arith, few)) in
    networks_settle settle (state_after scene) (networks_are_sound scene) all.0 all.1
