-- The commands of lines, what leaves by them, and what is delivered.
use Rattle.std.proofs.Common.{◌≡◌, ℕ, ◌+◌, ◌≤◌, List, [], ◌∷◌, ◌++◌, length, refl, sym, ap, ◌∙◌, subst, append_assoc, arith, Option, Some, None, IfSome, Result, Ok, Err}
use Rattle.std.specs.List.{AllByRecursion}
use Rattle.std.proofs.lemmas.List.{length-append}
use Rattle.scenario.specs.declared.command.Command.{Command}
use Rattle.scenario.specs.declared.command.Command.TheVariants as command
use Rattle.scenario.specs.declared.cutter.Stop.{Stop}
use Rattle.scenario.specs.declared.cutter.Stop.TheVariants as stop
use Rattle.scenario.specs.declared.extra.Extra.{Extra}
use Rattle.scenario.specs.declared.extra.Extra.TheVariants.{Settle}
use Rattle.scenario.specs.Extras.{extra_of}
use Rattle.scenario.specs.Grammar.{line_of}
use Rattle.extra_answers.specs.Refusing.{extra_refusal}
use Rattle.bridge_api.specs.Shown.{Shown}
use Rattle.spb_network.specs.declared.network.NetworkOf.{NetworkOf}
use Rattle.spb_world.specs.declared.reason.Reason.{Reason}
use Rattle.network_model.specs.Isolation.{LastLeavesEntered}
use Rattle.network_model.specs.Counted.{most_commands}
use Rattle.spb_network.specs.Network.{state_of}
use Rattle.network_model.specs.Once.{IsPassage, LeavesOnce}
use Rattle.network_model.specs.Play.{next_state, played_all}
use Rattle.network_model.specs.Quiet.{IsQuiet}
use Rattle.network_model.specs.Refusing.{refusal_of}
use Rattle.network_model.specs.Sound.{opening}
use Rattle.network_model.specs.SoundLaws.{AreAccepted, Scene, state_after}
use Rattle.network_model.specs.State.{State}
use Rattle.network_rounds.specs.Settling.{rounds_made, most_settling, settle_refusal}
use Rattle.network_model.proofs.ApartLaws.{services_stay_apart}
use Rattle.network_model.proofs.OnceLaws.{networks_deliver_once}
use Rattle.script_run.specs.declared.refusal.Refusal.{Refusal}
use Rattle.script_run.specs.Commands.{LinesPlayCommands, AllLeaveEntered, AllDeliverOnce}
use Rattle.script_run.specs.Play.{Judged, judged, judged_by, judged_as, judged_extra, judged_settle, judged_line}
use Rattle.script_run.specs.Replying.{IsNew}
use Rattle.script_run.specs.Text.{Played, joined, concluded, play, lines_played, commands_joined, commands_in}
use Rattle.script_run.proofs.Octets.{HasOctets, line_octets}
use Rattle.script_run.proofs.SingleRounds.{rounds_octets, settling_accepted}
use Rattle.script_run.proofs.Counting.{commands_few}
use Rattle.script_run.proofs.Taking.{lines_few}

-- ---- one line

-- the commands are accepted, their frames are octets, and lead from one state to the other
record Leads (s : State) (cs : List Command) (t : State) : Type 0 where
  octets : AllByRecursion HasOctets cs
  accepted : AreAccepted s cs
  state : t ≡ played_all s cs

leads_nothing : (s : State) → Leads s [] s
leads_nothing s = record { octets = tt; accepted = tt; state = refl }

leads_by : (s : State) (number : ℕ) (c : Command) (o : Option Reason) → refusal_of s c ≡ o → HasOctets c → Leads s (judged_by s number c o).commands (judged_by s number c o).state
leads_by s number c (Some reason) is octets = leads_nothing s
leads_by s number c None is octets = record { octets = (octets, tt); accepted = (is, tt); state = refl }

leads_as : (s : State) (number : ℕ) (r : Result (Option Command) ℕ) → ((c : Command) → r ≡ Ok (Some c) → HasOctets c) → Leads s (judged_as s number r).commands (judged_as s number r).state
leads_as s number (Err column) octets = leads_nothing s
leads_as s number (Ok None) octets = leads_nothing s
leads_as s number (Ok (Some c)) octets = leads_by s number c (refusal_of s c) refl (octets c refl)

leads_extra : (s : State) (number : ℕ) (x : Extra) (o : Option Reason) → Leads s (judged_extra s number x o).commands (judged_extra s number x o).state
leads_extra s number x (Some reason) = leads_nothing s
leads_extra s number x None = leads_nothing s

leads_settle : (s : State) (number : ℕ) (o : Option Reason) → settle_refusal s ≡ o → Leads s (judged_settle s number o).commands (judged_settle s number o).state
leads_settle s number (Some reason) is = leads_nothing s
leads_settle s number None is = record { octets = rounds_octets (rounds_made (most_settling s) s); accepted = settling_accepted s is; state = refl }

leads_line : (s : State) (number : ℕ) (line : List ℕ) (r : Result (Option Extra) ℕ) → Leads s (judged_line s number line r).commands (judged_line s number line r).state
leads_line s number line (Err column) = leads_nothing s
leads_line s number line (Ok (Some Settle)) = leads_settle s number (settle_refusal s) refl
leads_line s number line (Ok (Some x)) = leads_extra s number x (extra_refusal s.world x)
leads_line s number line (Ok None) = leads_as s number (line_of line) (line_octets line)

line_leads : (s : State) (number : ℕ) (line : List ℕ) → Leads s (judged s number line).commands (judged s number line).state
unfolding judged
line_leads s number line = leads_line s number line (extra_of line)

-- ---- lines

all_more : (cs ds : List Command) → AllByRecursion HasOctets cs → AllByRecursion HasOctets ds → AllByRecursion HasOctets (cs ++ ds)
all_more [] ds here later = later
all_more (c ∷ cs) ds here later = (here.0, all_more cs ds here.1 later)

accepted_more : (s : State) (cs ds : List Command) → AreAccepted s cs → AreAccepted (played_all s cs) ds → AreAccepted s (cs ++ ds)
accepted_more s [] ds here later = later
accepted_more s (c ∷ cs) ds here later = (here.0, accepted_more (next_state s c) cs ds here.1 later)

played_more : (s : State) (cs ds : List Command) → played_all s (cs ++ ds) ≡ played_all (played_all s cs) ds
played_more s [] ds = refl
played_more s (c ∷ cs) ds = played_more (next_state s c) cs ds

leads_more : (s t u : State) (cs ds : List Command) → Leads s cs t → Leads t ds u → Leads s (cs ++ ds) u
leads_more s t u cs ds here later =
    let there : Leads (played_all s cs) ds u = subst (λ (v : State). Leads v ds u) here.state later in
    record {
      octets = all_more cs ds here.octets there.octets;
      accepted = accepted_more s cs ds here.accepted there.accepted;
      state = there.state ∙ sym (played_more s cs ds);
    }

leads_joined : (s : State) (number : ℕ) (j : Judged) (o : Option Refusal) (p : Played) (ds : List Command) → Leads s j.commands j.state → Leads j.state ds p.state → Leads s (commands_joined j.commands o ds) (joined number j o p).state
leads_joined s number j None p ds here later = leads_more s j.state p.state j.commands ds here later
leads_joined s number j (Some why) p ds here later = here

leads_concluded : (s : State) (number : ℕ) (end : Option Stop) → Leads s [] (concluded s number end).state
leads_concluded s number None = leads_nothing s
leads_concluded s number (Some stop.Long) = leads_nothing s
leads_concluded s number (Some stop.Over) = leads_nothing s

lines_lead : (s : State) (number : ℕ) (ls : List (List ℕ)) (end : Option Stop) → Leads s (commands_in s number ls) (play s number ls end).state
lines_lead s number [] end = leads_concluded s number end
lines_lead s number (line ∷ ls) end =
    leads_joined s number (judged s number line) (judged s number line).refused
    (play (judged s number line).state (number + 1) ls end) (commands_in (judged s number line).state (number + 1) ls)
    (line_leads s number line) (lines_lead (judged s number line).state (number + 1) ls end)

pub lines_play_commands : LinesPlayCommands
lines_play_commands s number ls = record { accepted = (lines_lead s number ls None).accepted; state = λ end. (lines_lead s number ls end).state }

-- ---- fronts and backs

all_back : (cs ds : List Command) → AllByRecursion HasOctets (cs ++ ds) → AllByRecursion HasOctets ds
all_back [] ds all = all
all_back (c ∷ cs) ds all = all_back cs ds all.1

accepted_front : (s : State) (cs ds : List Command) → AreAccepted s (cs ++ ds) → AreAccepted s cs
accepted_front s [] ds all = tt
accepted_front s (c ∷ cs) ds all = (all.0, accepted_front (next_state s c) cs ds all.1)

accepted_back : (s : State) (cs ds : List Command) → AreAccepted s (cs ++ ds) → AreAccepted (played_all s cs) ds
accepted_back s [] ds all = all
accepted_back s (c ∷ cs) ds all = accepted_back (next_state s c) cs ds all.1

-- ---- what leaves

-- each of the commands is accepted after those before it
all_leave_entered : (s : State) (cs : List Command) → s ≡ opening s.rule s.rack → AreAccepted s cs → AllLeaveEntered s cs
all_leave_entered s cs new accepted before c later split =
    let taken : AreAccepted s (before ++ c ∷ later) = subst (AreAccepted s) split accepted in
    let first : AreAccepted s before = accepted_front s before (c ∷ later) taken in
    let last : refusal_of (played_all s before) c ≡ None = (accepted_back s before (c ∷ later) taken).0 in
    let scene : Scene = record { rule = s.rule; rack = s.rack; commands = before; accepted = subst (λ (t : State). AreAccepted t before) new first } in
    subst (λ (t : State). LastLeavesEntered t before c) (sym new)
    (services_stay_apart scene c (subst (λ (t : State). refusal_of (played_all t before) c ≡ None) new last))

-- ---- what is delivered

-- the commands before the frame lead to the quiet network; it and those behind it are a passage
all_deliver_once : (s : State) (cs : List Command) → s ≡ opening s.rule s.rack → AllByRecursion HasOctets cs → AreAccepted s cs → length cs ≤ most_commands
    → AllDeliverOnce s cs
all_deliver_once s cs new bytes accepted few before onward later name b p f split quiet group onwards empty named =
    let enters : Command = command.Frame name p f in
    let rest : List Command = (enters ∷ onward) ++ later in
    let whole : cs ≡ before ++ rest = split ∙ append_assoc before (enters ∷ onward) later in
    let all : AllByRecursion HasOctets (before ++ rest) = subst (AllByRecursion HasOctets) whole bytes in
    let taken : AreAccepted s (before ++ rest) = subst (AreAccepted s) whole accepted in
    let short : length before ≤ most_commands = omega (arith, few, ap length whole, length-append before rest) in
    let first : AreAccepted s before = accepted_front s before rest taken in
    let next : AreAccepted (played_all s before) (enters ∷ onward) =
    accepted_front (played_all s before) (enters ∷ onward) later (accepted_back s before rest taken) in
    let passes : IsPassage (played_all s before) name p f onward = record {
      octets = (all_back before rest all).0;
      group = group;
      onward = onwards;
      accepted = next;
      delivered = empty;
    } in
    let scene : Scene = record { rule = s.rule; rack = s.rack; commands = before; accepted = subst (λ (t : State). AreAccepted t before) new first } in
    let once : LeavesOnce (state_after scene) = networks_deliver_once scene short (subst (λ (t : State). IsQuiet (played_all t before)) new quiet) in
    subst (λ (t : State). LeavesOnce (played_all t before)) (sym new) once name b p f onward named passes

module _ {B : Type 0} (shown : B → Shown) (n : NetworkOf B) (new : IsNew shown n) where
  lines_apart : (ls : List (List ℕ)) → AllLeaveEntered (state_of shown n) (commands_in (state_of shown n) 1 ls)
  lines_apart ls =
      let s : State = state_of shown n in
      let all = lines_lead s 1 ls None in
      all_leave_entered s (commands_in s 1 ls) new.opening all.accepted

  pub script_apart : (left : Option (List ℕ)) → IfSome left (λ script. AllLeaveEntered (state_of shown n) (commands_in (state_of shown n) 1 (lines_played script)))
  script_apart None = tt
  script_apart (Some script) = lines_apart (lines_played script)

  script_delivers : (script : List ℕ) → AllDeliverOnce (state_of shown n) (commands_in (state_of shown n) 1 (lines_played script))
  script_delivers script =
      let s : State = state_of shown n in
      let all = lines_lead s 1 (lines_played script) None in
      all_deliver_once s (commands_in s 1 (lines_played script)) new.opening all.octets all.accepted
      (commands_few s (lines_played script) (ap (λ (t : State). t.rounds) new.opening) (lines_few script))

  pub script_once : (left : Option (List ℕ)) → IfSome left (λ script. AllDeliverOnce (state_of shown n) (commands_in (state_of shown n) 1 (lines_played script)))
  script_once None = tt
  script_once (Some script) = script_delivers script
