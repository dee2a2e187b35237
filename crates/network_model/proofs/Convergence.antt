-- Where a network whose sequence numbers are counted is quiet, it is converged.
use Rattle.std.proofs.Common.{◌≡◌, ◌≤◌, Option, None, ap, ◌∙◌}
use Rattle.bridge_api.specs.View.{BridgeView}
use Rattle.scenario.specs.declared.command.Command.{Command}
use Rattle.network_model.specs.State.{State}
use Rattle.network_model.specs.Refusing.{refusal_of}
use Rattle.network_model.specs.Play.{next_state}
use Rattle.network_model.specs.Sound.{IsSoundState}
use Rattle.network_model.specs.SoundLaws.{state_after}
use Rattle.network_model.specs.Counted.{IsCounted, most_commands}
use Rattle.network_model.specs.Truth.{IsAtRest}
use Rattle.std.specs.Option.{option_map_or}
use Rattle.bridge_api.specs.Graph.{own_tables}
use Rattle.network_model.specs.Quiet.{failing}
use Rattle.network_model.specs.Questions.{no_tables}
use Rattle.network_model.specs.Convergence.{QuietIsConverged, CountedQuietIsConverged, PlayedQuietIsConverged, ShowIsTrue}
use Rattle.network_model.proofs.QuietLists.{nil_of, of_nil}
use Rattle.network_model.proofs.Linked.{quiet_is_shared}
use Rattle.network_model.proofs.QuietTruth.{quiet_is_true}
use Rattle.network_model.proofs.QuietPaths.{frames_go_one_path}
use Rattle.network_model.proofs.AtRest.{at_rest}
use Rattle.network_model.proofs.OnceLaws.{leaves_once_at_rest}
use Rattle.network_model.proofs.CountedPlay.{networks_are_counted}
use Rattle.network_model.proofs.SoundPlay.{commands_keep_sound, networks_are_sound}
use Rattle.network_model.proofs.CountedStays.{stays_counted}

pub counted_quiet_is_converged : CountedQuietIsConverged
counted_quiet_is_converged s sound counted quiet =
    let rest : IsAtRest s = at_rest s sound counted quiet in
    record {
      wired = λ i v at. quiet_is_true s i v rest at;
      shared = λ v w joined. quiet_is_shared s v w sound rest.calm rest.bodies joined;
      paths = λ i j v w plan at_v at_w planned. frames_go_one_path s i j v w plan rest at_v at_w planned;
      once = λ none. leaves_once_at_rest s rest none;
    }

pub played_quiet_is_converged : PlayedQuietIsConverged
played_quiet_is_converged scene few =
    counted_quiet_is_converged (state_after scene) (networks_are_sound scene) (networks_are_counted scene few)

-- a command that isn't refused leaves a network that tells, while few commands were accepted
pub next_is_converged : (s : State) (c : Command) → IsSoundState s → (s.accepted ≤ most_commands → IsCounted s) → refusal_of s c ≡ None → (next_state s c).accepted ≤ most_commands → QuietIsConverged (next_state s c)
next_is_converged s c sound counted none few =
    counted_quiet_is_converged (next_state s c) (commands_keep_sound s c sound none) (stays_counted s c sound counted none few)

pub show_is_true : ShowIsTrue
show_is_true = record {
  says = λ s. (nil_of (failing s), of_nil (failing s));
  rows = λ s i v sound counted at quiet.
      ap (λ (o : Option BridgeView). option_map_or own_tables o no_tables) at
      ∙ ((counted_quiet_is_converged s sound counted (nil_of (failing s) quiet)).wired i v at).tables;
}
