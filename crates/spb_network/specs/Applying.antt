-- What one application of a command answers, and what it leaves.
use Rattle.std.specs.Prelude.{◌≡◌, ◌⊎◌, ◌≤◌, [], Bool, true, false, Some, None, Result, Ok, Err}
use Rattle.scenario.specs.declared.command.Command.{Command}
use Rattle.scenario.specs.declared.command.Command.TheVariants as command
use Rattle.bridge_api.specs.Shown.{Shown}
use Rattle.network_model.specs.declared.answer.Answer.{Answer}
use Rattle.spb_network.specs.declared.network.NetworkOf.{NetworkOf}
use Rattle.network_model.specs.declared.conditions.Conditions.{Conditions}
use Rattle.spb_network.specs.declared.apply_error.ApplyError.{ApplyError}
use Rattle.spb_network.specs.declared.apply_error.ApplyError.TheVariants as error
use Rattle.network_model.specs.State.{State}
use Rattle.spb_network.specs.Network.{state_of, AreConfigured}
use Rattle.network_model.specs.Sound.{IsSoundState}
use Rattle.network_model.specs.Counted.{IsCounted, most_commands}
use Rattle.network_model.specs.Refusing.{refusal_of}
use Rattle.network_model.specs.Play.{next_state, answer_of}
use Rattle.network_model.specs.Quieting.{conditions_of}

-- a command was played: it isn't refused, and this is its answer and the state after it
pub record Plays (old : State) (c : Command) (answer : Answer) (new : State) : Type 0 where
  pub accepted : refusal_of old c ≡ None
  pub answer_is : answer ≡ answer_of old c
  pub state : new ≡ next_state old c

-- whether a command is about customer ports
abbrev pub is_of_customers : Command → Bool
is_of_customers (command.Attach name port isid mode) = true
is_of_customers (command.Detach name port) = true
is_of_customers (command.Frame name port bytes) = true
is_of_customers c = false

module _ {B : Type 0} (shown : B → Shown) where
  -- what is kept of the conditions of quiet is so
  abbrev pub KeepsConditions : NetworkOf B → Type 0
  KeepsConditions n = (kept : Conditions) → n.conditions ≡ Some kept → kept ≡ conditions_of (state_of shown n)

  -- a network at which no command ran out of memory: its boxes are made, its state is sound, its sequence numbers are
  -- counted while at most 120,000 commands were accepted, what left was answered, and what it keeps of quiet is so
  pub record IsSoundNetwork (n : NetworkOf B) : Type 0 where
    pub made : AreConfigured shown n.boxes.items
    pub state : IsSoundState (state_of shown n)
    pub counted : (state_of shown n).accepted ≤ most_commands → IsCounted (state_of shown n)
    pub outs : (state_of shown n).outs ≡ []
    pub kept : KeepsConditions n

  -- a network that halted, or is sound: so is every network that `new` gave, whatever was applied to it
  abbrev pub IsReady : NetworkOf B → Type 0
  IsReady n = (n.halted ≡ true) ⊎ IsSoundNetwork n

  -- what `apply` answers and leaves. It halts exactly where an earlier command found no memory; a command that is
  -- refused changes nothing, and one that is accepted is one step of play
  abbrev pub Applies : NetworkOf B → Command → Result Answer ApplyError → NetworkOf B → Type 0
  Applies old c (Ok answer) new =
      (old.halted ≡ false) × Plays (state_of shown old) c answer (state_of shown new) × (new.halted ≡ false)
  Applies old c (Err (error.Refused reason)) new =
      (old.halted ≡ false) × (refusal_of (state_of shown old) c ≡ Some reason) × (new ≡ old)
  Applies old c (Err error.NoMemory) new =
      (old.halted ≡ false) × (refusal_of (state_of shown old) c ≡ None) × (new.halted ≡ true)
  Applies old c (Err error.Halted) new = (old.halted ≡ true) × (new ≡ old)
