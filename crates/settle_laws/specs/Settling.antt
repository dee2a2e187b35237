-- What settling answers, and what it leaves.
use Rattle.std.specs.Prelude.{◌≡◌, ◌↔◌, ℕ, ◌+◌, ◌≤◌, List, ◌++◌, replicate, Bool, true, false, if◌then◌else◌}
use Rattle.std.specs.Prelude.{Option, Some, None, Result, Ok, Err}
use Rattle.std.specs.List.{AllByRecursion}
use Rattle.scenario.specs.declared.command.Command.{Command}
use Rattle.scenario.specs.declared.command.Command.TheVariants as command
use Rattle.bridge_api.specs.Shown.{Shown}
use Rattle.network_model.specs.declared.answer.Out.{Out}
use Rattle.network_model.specs.State.{State}
use Rattle.network_model.specs.Questions.{is_quiet}
use Rattle.network_model.specs.Play.{next_state, answer_of, played_all}
use Rattle.network_model.specs.Isolation.{outs_in}
use Rattle.network_model.specs.declared.delivered.Delivered.{Delivered}
use Rattle.network_model.specs.Captured.{captured}
use Rattle.network_model.specs.Brief.{IsBrief}
use Rattle.network_model.specs.Counted.{most_commands}
use Rattle.network_model.specs.Quiet.{IsQuiet}
use Rattle.spb_network.specs.declared.network.NetworkOf.{NetworkOf}
use Rattle.spb_network.specs.declared.apply_error.ApplyError.{ApplyError}
use Rattle.spb_network.specs.declared.apply_error.ApplyError.TheVariants as error
use Rattle.spb_network.specs.Network.{state_of}
use Rattle.network_rounds.specs.Settling.{rounds_made, most_settling, settling, settled, outs_of, settle_refusal}
use Rattle.network_rounds.specs.SettlingLaws.{enough_for}
use Rattle.settle_laws.specs.declared.answers.Ready.{Ready}
use Rattle.settle_laws.specs.declared.answers.Ready.TheVariants.{Yes}
use Rattle.settle_laws.specs.declared.answers.Settled.{Settled}
use Rattle.settle_laws.specs.Premises.{ready_of}

-- ---- single rounds

abbrev pub one_round : Command
one_round = command.Round 1

-- so many of them
abbrev pub single_rounds : ℕ → List Command
single_rounds n = replicate n one_round

-- one of them: the customers' frames that leave in it follow upon those before. Where memory was missing none follows,
-- and either the network halted, or the round was made
abbrev pub PlaysRound : State → List Out → List Out → Result (Unit {0}) ApplyError → Bool → State → Type 0
PlaysRound s before after (Ok done) halted t =
    (t ≡ next_state s one_round) × (after ≡ before ++ outs_in (answer_of s one_round)) × (halted ≡ false)
PlaysRound s before after (Err error.NoMemory) halted t =
    (after ≡ before) × (halted ≡ false → t ≡ next_state s one_round)
PlaysRound s before after (Err e) halted t = ⊥

-- settling by at most m rounds ended early, since memory was missing: so many rounds were begun, and the customers'
-- frames of all of them were told, or of all but the last. Unless the network halted in the last, all of them were made
pub record IsCutShort (m : ℕ) (s : State) (before after : List Out) (halted : Bool) (t : State) : Type 0 where
  pub begun : ℕ
  pub told : ℕ
  pub few : begun ≤ rounds_made m s
  pub within : told ≤ begun
  pub near : begun ≤ told + 1
  pub outs : after ≡ before ++ outs_of s (single_rounds told)
  pub state : halted ≡ false → t ≡ played_all s (single_rounds begun)

-- at most m of them, until the network is quiet
abbrev pub PlaysRounds : ℕ → State → List Out → List Out → Result ℕ ApplyError → Bool → State → Type 0
PlaysRounds m s before after (Ok n) halted t = (n ≡ rounds_made m s) × (t ≡ played_all s (single_rounds n))
    × (after ≡ before ++ outs_of s (single_rounds n)) × (halted ≡ false)
PlaysRounds m s before after (Err error.NoMemory) halted t = IsCutShort m s before after halted t
PlaysRounds m s before after (Err e) halted t = ⊥

-- ---- deliveries

-- more deliveries follow upon those before them, if these are watched
abbrev pub with_seen : Option (List Delivered) → List Delivered → Option (List Delivered)
with_seen None more = None
with_seen (Some before) more = Some (before ++ more)

-- deliveries are noted behind those before them, if these are watched; each is of a frame that is no longer than a
-- bridge makes
pub record Notes (deliveries : List Delivered) (before after : Option (List Delivered)) : Type 0 where
  pub seen : after ≡ with_seen before deliveries
  pub brief : (watched : List Delivered) → before ≡ Some watched → AllByRecursion IsBrief deliveries

-- ---- settling

-- what is left of settling: quiet was reached, or else the first premise that failed before the first round
abbrev pub left_of : State → Ready
left_of s = if is_quiet (settled s) then Yes else ready_of s

-- a network was settled: after so many rounds, with this left
pub record IsSettled (s : State) (before after : List Out) (answer : Settled) (t : State) : Type 0 where
  pub accepted : settle_refusal s ≡ None
  pub rounds : answer.rounds ≡ rounds_made (most_settling s) s
  pub left : answer.left ≡ left_of s
  pub outs : after ≡ before ++ outs_of s (settling s)
  pub state : t ≡ settled s

module _ {B : Type 0} (shown : B → Shown) where
  -- what `settle` answers and leaves. It halts exactly where an earlier command found no memory; where it is refused,
  -- it changes nothing
  abbrev pub SettlesBy : NetworkOf B → List Out → List Out → Result Settled ApplyError → NetworkOf B → Type 0
  SettlesBy old before after (Ok answer) new = (old.halted ≡ false)
      × IsSettled (state_of shown old) before after answer (state_of shown new) × (new.halted ≡ false)
  SettlesBy old before after (Err (error.Refused reason)) new = (old.halted ≡ false)
      × (settle_refusal (state_of shown old) ≡ Some reason) × (new ≡ old) × (after ≡ before)
  SettlesBy old before after (Err error.NoMemory) new = (old.halted ≡ false)
      × (settle_refusal (state_of shown old) ≡ None)
      × IsCutShort (most_settling (state_of shown old)) (state_of shown old) before after new.halted
      (state_of shown new)
  SettlesBy old before after (Err error.Halted) new = (old.halted ≡ true) × (new ≡ old) × (after ≡ before)

  -- what `settle_watched` answers and leaves: it is `settle`, and where it answers, the deliveries of its rounds follow
  -- in order upon those that were seen before, each of a frame that is no longer than a bridge makes; else nothing more
  -- is seen
  pub record WatchesSettling (old : NetworkOf B) (before after : List Out) (seen_before seen_after : List Delivered)
      (result : Result Settled ApplyError) (new : NetworkOf B) : Type 0 where
    pub settles : SettlesBy old before after result new
    pub seen : (answer : Settled) → result ≡ Ok answer
        → seen_after ≡ seen_before ++ captured (state_of shown old) (settling (state_of shown old))
    pub brief : (answer : Settled) → result ≡ Ok answer
        → AllByRecursion IsBrief (captured (state_of shown old) (settling (state_of shown old)))
    pub kept : (error : ApplyError) → result ≡ Err error → seen_after ≡ seen_before

-- ---- what settling comes to while commands are counted

-- where no premise fails, the network is quiet, after no more rounds than are enough
abbrev pub EndsInTime : State → Settled → State → Type 0
EndsInTime s answer t = s.accepted ≤ most_commands → ready_of s ≡ Yes
    → (answer.left ≡ Yes) × (answer.rounds ≤ enough_for s) × IsQuiet t

-- no premise is left exactly where the network is quiet
abbrev pub LeftTells : State → Settled → State → Type 0
LeftTells s answer t = s.accepted ≤ most_commands → (answer.left ≡ Yes) ↔ IsQuiet t
