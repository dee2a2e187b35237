-- A network halts where a command runs out of memory, and nowhere else.
use Rattle.std.specs.Prelude.{◌≡◌, ◌↔◌, ◌⊎◌, false, List, [], ◌∷◌, ◌++◌, Result, Err, ⊤}
use Rattle.scenario.specs.declared.command.Command.{Command}
use Rattle.bridge_api.specs.Shown.{Shown}
use Rattle.network_model.specs.declared.answer.Answer.{Answer}
use Rattle.spb_network.specs.declared.network.NetworkOf.{NetworkOf}
use Rattle.spb_network.specs.declared.apply_error.ApplyError.{ApplyError}
use Rattle.spb_network.specs.declared.apply_error.ApplyError.TheVariants as error
use Rattle.spb_network.specs.Applying.{Applies}

-- a call of `apply` or `apply_watched`: the command, what was answered, and the network that was left
pub record Call (B : Type 0) : Type 0 where
  pub command : Command
  pub result : Result Answer ApplyError
  pub network : NetworkOf B

-- one of these calls ran out of memory
abbrev pub HasRunOut : {B : Type 0} → List (Call B) → Type 0
HasRunOut [] = ⊥
HasRunOut (call ∷ calls) = (call.result ≡ Err error.NoMemory) ⊎ HasRunOut calls

module _ {B : Type 0} (shown : B → Shown) where
  -- calls one after another, each on the network that the one before it left
  abbrev pub AreCalls : NetworkOf B → List (Call B) → Type 0
  AreCalls n [] = ⊤
  AreCalls n (call ∷ calls) = Applies shown n call.command call.result call.network × AreCalls call.network calls

  -- of calls on a network that hasn't halted, the last answers Halted exactly where one before it ran out of memory
  abbrev pub HaltsWithoutMemory : Type 0
  HaltsWithoutMemory = (n : NetworkOf B) (before : List (Call B)) (last : Call B) → n.halted ≡ false
      → AreCalls n (before ++ last ∷ []) → (last.result ≡ Err error.Halted) ↔ HasRunOut before
