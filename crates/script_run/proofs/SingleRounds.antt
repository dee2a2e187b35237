-- The single rounds that a line `settle` plays are accepted, and are counted as rounds.
use Rattle.std.proofs.Common.{◌≡◌, ℕ, zero, suc, ◌+◌, ◌≤◌, Bool, true, false, List, [], ◌∷◌, length, replicate, refl, None, nat_le, arith}
use Rattle.std.specs.Prelude.{if◌then◌else◌}
use Rattle.std.specs.List.{AllByRecursion}
use Rattle.spb_types.specs.declared.limits.TheConstants.{MOST_ROUNDS}
use Rattle.scenario.specs.declared.command.Command.{Command}
use Rattle.scenario.specs.declared.command.Command.TheVariants as command
use Rattle.std.proofs.lemmas.Bool.Decides.{nat_tests}
use Rattle.spb_world.specs.Reason.{reason_unless}
use Rattle.spb_world.proofs.RefusalLemmas.{reason_unless-none, le-true}
use Rattle.network_model.specs.Refusing.{refusal_of, round_refusal}
use Rattle.network_model.specs.Play.{next_state, played_all, with_rounds}
use Rattle.network_model.specs.Questions.{is_quiet}
use Rattle.network_model.specs.SoundLaws.{AreAccepted}
use Rattle.network_model.specs.State.{State}
use Rattle.network_rounds.specs.Settling.{rounds_made, most_settling, settling, settled, settle_refusal}
use Rattle.script_run.proofs.Octets.{HasOctets}

-- ---- one

one_counts : (s : State) → (next_state s (command.Round 1)).rounds ≡ s.rounds + 1
unfolding next_state with_rounds
one_counts s = refl

one_accepted : (s : State) → s.rounds + 1 ≤ MOST_ROUNDS → refusal_of s (command.Round 1) ≡ None
unfolding round_refusal reason_unless
one_accepted s room =
    let fits : nat_le (s.rounds + 1) MOST_ROUNDS ≡ true = grind (arith, nat_tests, room) in
    rw fits refl

-- ---- how many there are

quiet_or_more : (b : Bool) (k m : ℕ) → k ≤ m → (if b then 0 else suc k) ≤ suc m
quiet_or_more true k m few = omega arith
quiet_or_more false k m few = omega (arith, few)

made_within : (m : ℕ) (s : State) → rounds_made m s ≤ m
made_within zero s = omega arith
made_within (suc m) s = quiet_or_more (is_quiet s) (rounds_made m (next_state s (command.Round 1))) m (made_within m (next_state s (command.Round 1)))

-- where settling isn't refused, there is room for all that it may make
pub room_to_settle : (s : State) → settle_refusal s ≡ None → s.rounds + most_settling s ≤ MOST_ROUNDS
unfolding settle_refusal
room_to_settle s none = le-true (s.rounds + most_settling s) MOST_ROUNDS (reason_unless-none (nat_le (s.rounds + most_settling s) MOST_ROUNDS) _ none)

pub room_for_rounds : (s : State) → settle_refusal s ≡ None → s.rounds + rounds_made (most_settling s) s ≤ MOST_ROUNDS
room_for_rounds s none = omega (arith, room_to_settle s none, made_within (most_settling s) s)

-- ---- what they are

pub rounds_octets : (k : ℕ) → AllByRecursion HasOctets (replicate k (command.Round 1))
rounds_octets zero = tt
rounds_octets (suc k) = (tt, rounds_octets k)

rounds_accepted : (k : ℕ) (s : State) → s.rounds + k ≤ MOST_ROUNDS → AreAccepted s (replicate k (command.Round 1))
rounds_accepted zero s room = tt
rounds_accepted (suc k) s room =
    let next = one_counts s in
    (one_accepted s (omega (arith, room)), rounds_accepted k (next_state s (command.Round 1)) (omega (arith, room, next)))

pub settling_accepted : (s : State) → settle_refusal s ≡ None → AreAccepted s (settling s)
settling_accepted s none = rounds_accepted (rounds_made (most_settling s) s) s (room_for_rounds s none)

pub rounds_counted : (k : ℕ) (s : State) → (played_all s (replicate k (command.Round 1))).rounds ≡ s.rounds + k
rounds_counted zero s = omega arith
rounds_counted (suc k) s = omega (arith, one_counts s, rounds_counted k (next_state s (command.Round 1)))
