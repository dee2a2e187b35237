-- The `round` lines of a script end in quiet, where they are enough.
use Rattle.std.proofs.Common.{◌≡◌, ◌≤◌, ◌+◌, ℕ, List, [], ◌∷◌, length, sym, ap, ◌∙◌, true≢false, ⊎_elim, Option, Some, None, IfSome, arith}
use Rattle.scenario.specs.declared.command.Command.{Command}
use Rattle.bridge_api.specs.Shown.{Shown}
use Rattle.spb_network.specs.declared.network.NetworkOf.{NetworkOf}
use Rattle.spb_network.specs.Applying.{IsSoundNetwork}
use Rattle.spb_network.specs.Network.{state_of}
use Rattle.network_model.specs.Counted.{IsCounted, most_commands}
use Rattle.network_model.specs.Play.{next_state}
use Rattle.network_model.specs.Sound.{IsSoundState}
use Rattle.network_model.specs.SoundLaws.{AreAccepted}
use Rattle.network_model.specs.State.{State}
use Rattle.network_model.proofs.CountedStays.{one_accepted, stays_counted}
use Rattle.network_model.proofs.SoundPlay.{commands_keep_sound}
use Rattle.network_rounds.specs.SettlingLaws.{CommandsSettle}
use Rattle.script_run.specs.Replying.{IsNew}
use Rattle.script_run.specs.Rounds.{AllRoundsSettle}
use Rattle.script_run.specs.Text.{lines_played, commands_in}
use Rattle.script_run.proofs.Commands.{lines_play_commands}
use Rattle.script_run.proofs.Counting.{commands_few}
use Rattle.script_run.proofs.Taking.{lines_few}

all_settle : CommandsSettle → (s : State) (cs : List Command) → IsSoundState s → (s.accepted ≤ most_commands → IsCounted s) → AreAccepted s cs
    → s.accepted + length cs ≤ most_commands → AllRoundsSettle s cs
all_settle settle s [] sound counted accepted few = tt
all_settle settle s (c ∷ cs) sound counted accepted few =
    let one : (next_state s c).accepted ≤ s.accepted + 1 = one_accepted s c in (
      settle s c sound (counted (omega (arith, few))) (omega (arith, few)),
      all_settle settle (next_state s c) cs (commands_keep_sound s c sound accepted.0) (stays_counted s c sound counted accepted.0) accepted.1 (omega (arith, few, one)),
    )

module _ {B : Type 0} (shown : B → Shown) (n : NetworkOf B) (new : IsNew shown n) (settle : CommandsSettle) where
  lines_settle : (script : List ℕ) → AllRoundsSettle (state_of shown n) (commands_in (state_of shown n) 1 (lines_played script))
  lines_settle script =
      let s : State = state_of shown n in
      let ls : List (List ℕ) = lines_played script in
      let sound : IsSoundNetwork shown n = ⊎_elim (λ h. absurd (true≢false (sym h ∙ new.alive.halted))) (λ m. m) new.alive.ready in
      let none : s.accepted ≡ 0 = ap (λ (t : State). t.accepted) new.opening in
      all_settle settle s (commands_in s 1 ls) sound.state sound.counted (lines_play_commands s 1 ls).accepted
      (omega (arith, none, commands_few s ls (ap (λ (t : State). t.rounds) new.opening) (lines_few script)))

  pub script_settles : (left : Option (List ℕ)) → IfSome left (λ script. AllRoundsSettle (state_of shown n) (commands_in (state_of shown n) 1 (lines_played script)))
  script_settles None = tt
  script_settles (Some script) = lines_settle script
