-- Rounds, one after another, keep what is sound and what is counted; what a state has counted plays no part in it.
use Rattle.std.proofs.Common.{◌≡◌, ℕ, zero, suc, ◌+◌, ◌*◌, ◌<◌, refl, sym, ◌∙◌, subst, arith}
use Rattle.scenario.specs.declared.command.Command.TheVariants as command
use Rattle.flooding.specs.Own.{last_number}
use Rattle.network_model.specs.State.{State}
use Rattle.network_model.specs.Events.{one_round, rounds}
use Rattle.network_model.specs.Play.{with_rounds, next_state}
use Rattle.network_model.specs.Sound.{IsSoundState}
use Rattle.network_model.specs.Counted.{IsCountedBy}
use Rattle.network_model.proofs.CountedRounds.{counted_more, Counted-one_round}
use Rattle.network_model.proofs.SoundEvents.{Sound-one_round}
use Rattle.network_rounds.specs.Rounds.{IsRoundOf, AreRounds}
use Rattle.network_rounds.specs.Along.{RoundsAreRounds, CommandsAreRounds, SingleCommandsAreRounds, RoundsStaySound, RoundsStayCounted, RoundsSplit, RoundsHaveLast}

-- two states that have the same declared, the same bridges and the same frames on their way
pub record AreSame (s t : State) : Type 0 where
  pub world : t.world ≡ s.world
  pub views : t.views ≡ s.views
  pub lanes : t.lanes ≡ s.lanes

-- the counts of one state with all else of another
abbrev like : State → State → State
like s t = record t { world = s.world; views = s.views; lanes = s.lanes }

is_like : (s t : State) → AreSame s t → like s t ≡ t
is_like s t same = λ j. record t { world = sym same.world j; views = sym same.views j; lanes = sym same.lanes j }

like_sound : (s t : State) → IsSoundState s → IsSoundState (like s t)
like_sound s t sound = record {
  world = sound.world;
  distinct = sound.distinct;
  fits = record { bridges = sound.fits.bridges; lanes = sound.fits.lanes; ports = sound.fits.ports };
  shown = sound.shown;
  views = sound.views;
  carriers = sound.carriers;
  metrics = sound.metrics;
  attached = sound.attached;
  short = sound.short;
  idle = sound.idle;
  agree = sound.agree;
}

pub same_sound : (s t : State) → AreSame s t → IsSoundState s → IsSoundState t
same_sound s t same sound = subst IsSoundState (is_like s t same) (like_sound s t sound)

like_counted : (n : ℕ) (s t : State) → IsCountedBy n s → IsCountedBy n (like s t)
like_counted n s t counted = record {
  fresh = counted.fresh;
  held = counted.held;
  said = counted.said;
  origins = counted.origins;
  bound = λ i v id at own. let within = counted.bound i v id at own in record { most = within.most; bound = within.bound; room = within.room };
}

pub same_counted : (n : ℕ) (s t : State) → AreSame s t → IsCountedBy n s → IsCountedBy n t
same_counted n s t same counted = subst (IsCountedBy n) (is_like s t same) (like_counted n s t counted)

-- ---- a round

pub as_round : (s t : State) → IsRoundOf s t → AreSame (one_round s) t
as_round s t is = record { world = is.world; views = is.views; lanes = is.lanes }

pub round_sound : (s t : State) → IsRoundOf s t → IsSoundState s → IsSoundState t
round_sound s t is sound = same_sound (one_round s) t (as_round s t is) (Sound-one_round s sound)

pub round_counted : (n : ℕ) (s t : State) → IsRoundOf s t → IsSoundState s → IsCountedBy n s → n + 128 < last_number → IsCountedBy (n + 128) t
round_counted n s t is sound counted low = same_counted (n + 128) (one_round s) t (as_round s t is) (Counted-one_round s n sound counted low)

-- and with another count behind it
pub round_same : (s t u : State) → IsRoundOf s t → AreSame t u → IsRoundOf s u
round_same s t u is same = record { world = same.world ∙ is.world; views = same.views ∙ is.views; lanes = same.lanes ∙ is.lanes }

-- ---- so many rounds

pub rounds_are_rounds : RoundsAreRounds
rounds_are_rounds zero s = (refl, refl, refl)
rounds_are_rounds (suc k) s = (one_round s, record { world = refl; views = refl; lanes = refl }, rounds_are_rounds k (one_round s))

pub rounds_same : (k : ℕ) (s t u : State) → AreRounds k s t → AreSame t u → AreRounds k s u
rounds_same zero s t u are same = (same.world ∙ are.0, same.views ∙ are.1, same.lanes ∙ are.2)
rounds_same (suc k) s t u are same = (are.0, are.1, rounds_same k are.0 t u are.2 same)

pub rounds_stay_sound : RoundsStaySound
rounds_stay_sound zero s t are sound = same_sound s t (record { world = are.0; views = are.1; lanes = are.2 }) sound
rounds_stay_sound (suc k) s t are sound = rounds_stay_sound k are.0 t are.2 (round_sound s are.0 are.1 sound)

pub rounds_stay_counted : RoundsStayCounted
rounds_stay_counted zero n s t are sound counted low =
    counted_more n (n + 128 * 0) t (omega arith) (same_counted n s t (record { world = are.0; views = are.1; lanes = are.2 }) counted)
rounds_stay_counted (suc k) n s t are sound counted low =
    counted_more (n + 128 + 128 * k) (n + 128 * suc k) t (omega arith)
    (rounds_stay_counted k (n + 128) are.0 t are.2 (round_sound s are.0 are.1 sound) (round_counted n s are.0 are.1 sound counted (omega (arith, low))) (omega (arith, low)))

-- some of them, and then the others
split_at : (n j k : ℕ) (s t : State) → n ≡ j + k → AreRounds n s t → (u : State) × AreRounds j s u × AreRounds k u t
split_at n zero k s t e are = (s, (refl, refl, refl), subst (λ (m : ℕ). AreRounds m s t) (omega (arith, e)) are)
split_at zero (suc j) k s t e are = absurd (omega (arith, e))
split_at (suc n) (suc j) k s t e are =
    let more = split_at n j k are.0 t (omega (arith, e)) are.2 in
    (more.0, (are.0, are.1, more.1), more.2)

pub rounds_split : RoundsSplit
rounds_split j k s t are = split_at (j + k) j k s t refl are

pub rounds_have_last : RoundsHaveLast
rounds_have_last k s t are = split_at (suc k) k 1 s t (omega arith) are

-- ---- commands

pub commands_are_rounds : CommandsAreRounds
unfolding next_state with_rounds
commands_are_rounds k s = rounds_same k s (rounds k s) (next_state s (command.Round k)) (rounds_are_rounds k s) (record { world = refl; views = refl; lanes = refl })

pub command_is_round : (s : State) → IsRoundOf s (next_state s (command.Round 1))
unfolding next_state with_rounds
command_is_round s = record { world = refl; views = refl; lanes = refl }

pub single_commands_are_rounds : SingleCommandsAreRounds
single_commands_are_rounds zero s = (refl, refl, refl)
single_commands_are_rounds (suc k) s = (next_state s (command.Round 1), command_is_round s, single_commands_are_rounds k (next_state s (command.Round 1)))
