-- Services stay apart in one command, and so through all of them.
use Rattle.std.proofs.Common.{◌≡◌, inl, inr, ℕ, List, [], ◌∷◌, ◌++◌, refl}
use Rattle.scenario.specs.declared.command.Command.{Command}
use Rattle.link_model.specs.Lanes.{lane_of}
use Rattle.spb_types.specs.declared.service.Isid.{Isid}
use Rattle.bridge_laws.specs.Apart.{CarriesEntered}
use Rattle.network_model.specs.declared.kind_rule.KindRule.{KindRule}
use Rattle.network_model.specs.State.{State, Spare}
use Rattle.network_model.specs.Play.{next_state, played_all}
use Rattle.network_model.specs.Sound.{IsSoundState, opening}
use Rattle.network_model.specs.SoundLaws.{AreAccepted, opening_of}
use Rattle.network_model.specs.Isolation.{HasEntered, HavePlaces, IsApart, IsThere, CommandsKeepApart, ServicesStayApart}
use Rattle.network_model.proofs.SoundLane.{All-from}
use Rattle.network_model.proofs.SoundPlay.{commands_keep_sound, opening_sound, networks_are_sound}
use Rattle.network_model.proofs.ApartPlay.{command_apart}

-- ---- one command

-- what is on its way carries what is on its way
there_apart : (s : State) (c : Command) → HavePlaces s.views → IsApart (IsThere s c) s
there_apart s c places = record {
  lanes = λ k dir. All-from (CarriesEntered (IsThere s c)) (lane_of s.lanes k dir) (λ bytes among to from vid isid f carried.
      inl (record { link = k; dir = dir; bytes = bytes; among = among; carried = record { to = to; from = from; vid = vid; carried = carried } }));
  places = places;
}

pub commands_keep_apart : CommandsKeepApart
commands_keep_apart s c sound accepted none places =
    let both = command_apart (IsThere s c) s sound none (there_apart s c places) c accepted (λ isid f enters. inr enters) in
    record { apart = both.0; left = both.1 }

-- ---- one after another

-- what entered by the first commands, or by the last ones, entered by all
entered_last : (s : State) (cs ds : List Command) (isid : Isid) (f : List ℕ) → HasEntered (played_all s cs) ds isid f → HasEntered s (cs ++ ds) isid f
entered_last s [] ds isid f entered = entered
entered_last s (c ∷ cs) ds isid f entered = inr (entered_last (next_state s c) cs ds isid f entered)

entered_first : (s : State) (cs ds : List Command) (isid : Isid) (f : List ℕ) → HasEntered s cs isid f → HasEntered s (cs ++ ds) isid f
entered_first s [] ds isid f entered = absurd entered
entered_first s (c ∷ cs) ds isid f (inl here) = inl here
entered_first s (c ∷ cs) ds isid f (inr later) = inr (entered_first (next_state s c) cs ds isid f later)

-- nothing waits to be answered
next_outs : (s : State) (c : Command) → (next_state s c).outs ≡ []
unfolding next_state
next_outs s c = refl

all_outs : (s : State) (cs : List Command) → s.outs ≡ [] → (played_all s cs).outs ≡ []
all_outs s [] none = none
all_outs s (c ∷ cs) none = all_outs (next_state s c) cs (next_outs s c)

all_apart : (Entered : Isid → List ℕ → Type 0) (s : State) (cs : List Command) → IsSoundState s → s.outs ≡ [] → AreAccepted s cs → IsApart Entered s → ((isid : Isid) (f : List ℕ) → HasEntered s cs isid f → Entered isid f) → IsApart Entered (played_all s cs)
all_apart Entered s [] sound none accepted apart entered = apart
all_apart Entered s (c ∷ cs) sound none accepted apart entered =
    all_apart Entered (next_state s c) cs (commands_keep_sound s c sound accepted.0) (next_outs s c) accepted.1
    (command_apart Entered s sound none apart c accepted.0 (λ isid f enters. entered isid f (inl enters))).0
    (λ isid f later. entered isid f (inr later))

-- ---- all of them

-- in a network in which nothing is declared nothing is on its way
opening_apart : (Entered : Isid → List ℕ → Type 0) (rule : KindRule) (rack : List Spare) → IsApart Entered (opening rule rack)
opening_apart Entered rule rack = record { lanes = λ k dir. tt; places = λ i v at. absurd cc }

pub services_stay_apart : ServicesStayApart
services_stay_apart scene c accepted =
    let s : State = opening_of scene in
    let cs : List Command = scene.commands in
    let before : IsApart (HasEntered s (cs ++ c ∷ [])) (played_all s cs) = all_apart (HasEntered s (cs ++ c ∷ [])) s cs (opening_sound scene.rule scene.rack) refl scene.accepted (opening_apart (HasEntered s (cs ++ c ∷ [])) scene.rule scene.rack) (entered_first s cs (c ∷ [])) in
    (command_apart (HasEntered s (cs ++ c ∷ [])) (played_all s cs) (networks_are_sound scene) (all_outs s cs refl) before c accepted (λ isid f enters. entered_last s cs (c ∷ []) isid f (inl enters))).1
