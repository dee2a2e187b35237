-- How many commands the lines of a script play: one each at most, and settling none but its rounds, which are counted as
-- rounds, and of which there are 20,000 at most.
use Rattle.std.proofs.Common.{◌≡◌, ◌≤◌, ◌+◌, ℕ, zero, suc, List, [], ◌∷◌, ◌++◌, length, replicate, Option, Some, None, Result, Ok, Err, refl, ap, arith}
use Rattle.std.proofs.lemmas.List.{length-append}
use Rattle.spb_types.specs.declared.limits.TheConstants.{MOST_ROUNDS}
use Rattle.scenario.specs.declared.command.Command.{Command}
use Rattle.scenario.specs.declared.command.Command.TheVariants as command
use Rattle.scenario.specs.declared.cutter.Stop.{Stop}
use Rattle.scenario.specs.declared.cutter.Stop.TheVariants as stop
use Rattle.scenario.specs.declared.extra.Extra.{Extra}
use Rattle.scenario.specs.declared.extra.Extra.TheVariants.{Settle}
use Rattle.scenario.specs.Cutting.{most_lines}
use Rattle.scenario.specs.Extras.{extra_of}
use Rattle.scenario.specs.Grammar.{line_of}
use Rattle.extra_answers.specs.Refusing.{extra_refusal}
use Rattle.spb_world.specs.declared.reason.Reason.{Reason}
use Rattle.spb_world.specs.Declaring.{bridge_of, link_of}
use Rattle.spb_world.specs.World.{place_of}
use Rattle.network_model.specs.Counted.{most_commands}
use Rattle.network_model.specs.State.{State}
use Rattle.network_model.specs.Events.{ticked, delivered, lost, doubled, with_metric_changed, port_attached, port_detached, frame_entered, switched_off, switched_on, drained}
use Rattle.network_model.specs.Play.{declared, link_between_found, named_link, at_place, at_bridge, at_link, with_vid_more, with_service_more, with_rounds, with_drain, played, next_state, played_all}
use Rattle.network_model.specs.Refusing.{box_for, refusal_of}
use Rattle.network_model.specs.Restarting.{restarted}
use Rattle.network_model.proofs.CountedStays.{one_accepted}
use Rattle.network_model.proofs.CountsKept.{counts, counts-ticked, counts-delivered, counts-metric, counts-attached, counts-detached, counts-entered, counts-off, counts-on, counts-drained, counts-boxed, counts-linked}
use Rattle.network_model.proofs.RestartCounted.{counts-restarted}
use Rattle.network_model.proofs.StateRefusals.{round_refusal_none}
use Rattle.network_rounds.specs.Settling.{rounds_made, most_settling, settling, settled, settle_refusal}
use Rattle.script_run.specs.declared.refusal.Refusal.{Refusal}
use Rattle.script_run.specs.Play.{Judged, judged, judged_by, judged_as, judged_extra, judged_settle, judged_line}
use Rattle.script_run.specs.Text.{Played, joined, concluded, play, commands_joined, commands_in}
use Rattle.script_run.proofs.SingleRounds.{room_for_rounds, rounds_counted}

-- ---- what commands count among the rounds

rounds_of : (s t : State) → counts t ≡ counts s → t.rounds ≡ s.rounds
rounds_of s t same = ap (λ (c : ℕ × ℕ). c.0) same

at_found : (event : State → ℕ → State) (s : State) (o : Option ℕ) → ((k : ℕ) → (event s k).rounds ≡ s.rounds) → (at_place event s o).rounds ≡ s.rounds
at_found event s None each = refl
at_found event s (Some k) each = each k

of_bridge : (event : State → ℕ → State) (s : State) (name : List ℕ) → ((k : ℕ) → (event s k).rounds ≡ s.rounds) → (at_bridge event s name).rounds ≡ s.rounds
unfolding at_bridge
of_bridge event s name each = at_found event s (place_of name s.world.bridges) each

of_link : (event : State → ℕ → State) (s : State) (name : List ℕ) → ((k : ℕ) → (event s k).rounds ≡ s.rounds) → (at_link event s name).rounds ≡ s.rounds
unfolding at_link
of_link event s name each = at_found event s (place_of name s.world.links) each

between : (s : State) (name : List ℕ) (a b : Option ℕ) (port_a port_b cost : ℕ) → (link_between_found s name a port_a b port_b cost).rounds ≡ s.rounds
between s name None b port_a port_b cost = refl
between s name (Some i) None port_a port_b cost = refl
between s name (Some i) (Some j) port_a port_b cost = ap (λ (c : ℕ × ℕ). c.0) (counts-linked s name (link_of i port_a j port_b cost))

-- where it counts none
none_more : (a b : ℕ) → a ≡ b → a ≡ b + 0
none_more a b same = omega (arith, same)

abbrev rounds_in : Command → ℕ
rounds_in (command.Round n) = n
rounds_in c = 0

rounds_played : (s : State) (c : Command) → (played s c).rounds ≡ s.rounds + rounds_in c
unfolding declared named_link with_vid_more with_service_more with_rounds with_drain
rounds_played s (command.Bridge name priority system source ports) = none_more _ s.rounds (ap (λ (c : ℕ × ℕ). c.0) (counts-boxed s name (bridge_of priority system source ports) (box_for s)))
rounds_played s (command.Link name a port_a b port_b cost) = none_more _ s.rounds (between s name (place_of a s.world.bridges) (place_of b s.world.bridges) port_a port_b cost)
rounds_played s (command.Attach name port isid mode) = none_more _ s.rounds (of_bridge (λ t i. port_attached t i port isid mode) s name (λ i. rounds_of s (port_attached s i port isid mode) (counts-attached s i port isid mode)))
rounds_played s (command.Detach name port) = none_more _ s.rounds (of_bridge (λ t i. port_detached t i port) s name (λ i. rounds_of s (port_detached s i port) (counts-detached s i port)))
rounds_played s (command.Frame name port bytes) = none_more _ s.rounds (of_bridge (λ t i. frame_entered t i port bytes) s name (λ i. rounds_of s (frame_entered s i port bytes) (counts-entered s i port bytes)))
rounds_played s (command.Metric name side m) = none_more _ s.rounds (of_link (λ t k. with_metric_changed t k side m) s name (λ k. rounds_of s (with_metric_changed s k side m) (counts-metric s k side m)))
rounds_played s (command.Down name) = none_more _ s.rounds (of_link switched_off s name (λ k. rounds_of s (switched_off s k) (counts-off s k)))
rounds_played s (command.Up name) = none_more _ s.rounds (of_link switched_on s name (λ k. rounds_of s (switched_on s k) (counts-on s k)))
rounds_played s (command.Restart name) = none_more _ s.rounds (of_bridge restarted s name (λ k. rounds_of s (restarted s k) (counts-restarted s k)))
rounds_played s (command.Tick name) = none_more _ s.rounds (of_bridge ticked s name (λ k. rounds_of s (ticked s k) (counts-ticked s k)))
rounds_played s (command.Deliver name dir) = none_more _ s.rounds (of_link (λ t k. delivered t k dir) s name (λ k. rounds_of s (delivered s k dir) (counts-delivered s k dir)))
rounds_played s (command.Lose name dir place) = none_more _ s.rounds (of_link (λ t k. lost t k dir place) s name (λ k. refl))
rounds_played s (command.Double name dir place) = none_more _ s.rounds (of_link (λ t k. doubled t k dir place) s name (λ k. refl))
rounds_played s (command.Round n) = refl
rounds_played s (command.Drain n) = none_more _ s.rounds (rounds_of s (drained n s) (counts-drained n s))
rounds_played s _ = none_more _ s.rounds refl

rounds_next : (s : State) (c : Command) → (next_state s c).rounds ≡ s.rounds + rounds_in c
unfolding next_state
rounds_next s c = rounds_played s c

-- the rounds of a command that is accepted are within the limit
rounds_few : (s : State) (c : Command) (b : ℕ) → refusal_of s c ≡ None → MOST_ROUNDS ≤ b → s.rounds ≤ b → s.rounds + rounds_in c ≤ b
rounds_few s (command.Round n) b none most before = omega (arith, (round_refusal_none s n none).1, most)
rounds_few s _ b none most before = omega (arith, before)

-- ---- what is counted of commands

-- from one state to another: the accepted commands, and the commands of a list, are no more than n and the rounds
-- between them; and no bound on rounds is passed, but for the limit
record Counts (n : ℕ) (s : State) (cs : List Command) (t : State) : Type 0 where
  accepted : t.accepted + s.rounds ≤ s.accepted + n + t.rounds
  commands : length cs + s.rounds ≤ n + t.rounds
  within : (b : ℕ) → MOST_ROUNDS ≤ b → s.rounds ≤ b → t.rounds ≤ b

counts_none : (n : ℕ) (s : State) → Counts n s [] s
counts_none n s = record { accepted = omega arith; commands = omega arith; within = λ b most before. before }

counts_one : (s : State) (c : Command) → refusal_of s c ≡ None → Counts 1 s (c ∷ []) (next_state s c)
counts_one s c none =
    let one = one_accepted s c in
    let more = rounds_next s c in
    record {
      accepted = omega (arith, one, more);
      commands = omega (arith, more);
      within = λ b most before. let few = rounds_few s c b none most before in omega (arith, few, more);
    }

counts_more : (n : ℕ) (s t u : State) (cs ds : List Command) → Counts 1 s cs t → Counts n t ds u → Counts (suc n) s (cs ++ ds) u
counts_more n s t u cs ds here later = record {
  accepted = let first = here.accepted in let next = later.accepted in omega (arith, first, next);
  commands = let first = here.commands in let next = later.commands in let all = length-append cs ds in omega (arith, first, next, all);
  within = λ b most before. later.within b most (here.within b most before);
}

-- single rounds count as rounds alone
rounds_accept : (k : ℕ) (s : State) → (played_all s (replicate k (command.Round 1))).accepted ≤ s.accepted + k
rounds_accept zero s = omega arith
rounds_accept (suc k) s = omega (arith, one_accepted s (command.Round 1), rounds_accept k (next_state s (command.Round 1)))

rounds_many : (k : ℕ) → length (replicate k (command.Round 1)) ≡ k
rounds_many zero = refl
rounds_many (suc k) = ap suc (rounds_many k)

counts_rounds : (s : State) → settle_refusal s ≡ None → Counts 1 s (settling s) (settled s)
counts_rounds s none =
    let k : ℕ = rounds_made (most_settling s) s in
    let more : (settled s).rounds ≡ s.rounds + k = rounds_counted k s in
    record {
      accepted = omega (arith, rounds_accept k s, more);
      commands = omega (arith, rounds_many k, more);
      within = λ b most before. omega (arith, room_for_rounds s none, more, most);
    }

-- ---- of a line

counts_by : (s : State) (number : ℕ) (c : Command) (o : Option Reason) → refusal_of s c ≡ o → Counts 1 s (judged_by s number c o).commands (judged_by s number c o).state
counts_by s number c (Some reason) is = counts_none 1 s
counts_by s number c None is = counts_one s c is

counts_as : (s : State) (number : ℕ) (r : Result (Option Command) ℕ) → Counts 1 s (judged_as s number r).commands (judged_as s number r).state
counts_as s number (Err column) = counts_none 1 s
counts_as s number (Ok None) = counts_none 1 s
counts_as s number (Ok (Some c)) = counts_by s number c (refusal_of s c) refl

counts_extra : (s : State) (number : ℕ) (x : Extra) (o : Option Reason) → Counts 1 s (judged_extra s number x o).commands (judged_extra s number x o).state
counts_extra s number x (Some reason) = counts_none 1 s
counts_extra s number x None = counts_none 1 s

counts_settle : (s : State) (number : ℕ) (o : Option Reason) → settle_refusal s ≡ o → Counts 1 s (judged_settle s number o).commands (judged_settle s number o).state
counts_settle s number (Some reason) is = counts_none 1 s
counts_settle s number None is = counts_rounds s is

counts_line : (s : State) (number : ℕ) (line : List ℕ) (r : Result (Option Extra) ℕ) → Counts 1 s (judged_line s number line r).commands (judged_line s number line r).state
counts_line s number line (Err column) = counts_none 1 s
counts_line s number line (Ok (Some Settle)) = counts_settle s number (settle_refusal s) refl
counts_line s number line (Ok (Some x)) = counts_extra s number x (extra_refusal s.world x)
counts_line s number line (Ok None) = counts_as s number (line_of line)

line_counts : (s : State) (number : ℕ) (line : List ℕ) → Counts 1 s (judged s number line).commands (judged s number line).state
unfolding judged
line_counts s number line = counts_line s number line (extra_of line)

-- ---- of lines

counts_longer : (n : ℕ) (s t : State) (cs : List Command) → Counts 1 s cs t → Counts (suc n) s cs t
counts_longer n s t cs here = record {
  accepted = let first = here.accepted in omega (arith, first);
  commands = let first = here.commands in omega (arith, first);
  within = here.within;
}

counts_joined : (n : ℕ) (s : State) (number : ℕ) (j : Judged) (o : Option Refusal) (p : Played) (ds : List Command) → Counts 1 s j.commands j.state → Counts n j.state ds p.state
    → Counts (suc n) s (commands_joined j.commands o ds) (joined number j o p).state
counts_joined n s number j None p ds here later = counts_more n s j.state p.state j.commands ds here later
counts_joined n s number j (Some why) p ds here later = counts_longer n s j.state j.commands here

counts_concluded : (s : State) (number : ℕ) (end : Option Stop) → Counts 0 s [] (concluded s number end).state
counts_concluded s number None = counts_none 0 s
counts_concluded s number (Some stop.Long) = counts_none 0 s
counts_concluded s number (Some stop.Over) = counts_none 0 s

lines_count : (s : State) (number : ℕ) (ls : List (List ℕ)) (end : Option Stop) → Counts (length ls) s (commands_in s number ls) (play s number ls end).state
lines_count s number [] end = counts_concluded s number end
lines_count s number (line ∷ ls) end =
    let next : State = (judged s number line).state in
    counts_joined (length ls) s number (judged s number line) (judged s number line).refused (play next (number + 1) ls end) (commands_in next (number + 1) ls)
    (line_counts s number line) (lines_count next (number + 1) ls end)

-- no more commands are accepted than there are lines and rounds
pub play_few : (s : State) (number : ℕ) (ls : List (List ℕ)) (end : Option Stop) → (play s number ls end).state.accepted ≤ s.accepted + length ls + MOST_ROUNDS
play_few s number ls end =
    let all : Counts (length ls) s (commands_in s number ls) (play s number ls end).state = lines_count s number ls end in
    let few = all.accepted in
    let within = all.within (s.rounds + MOST_ROUNDS) (omega arith) (omega arith) in
    omega (arith, few, within)

pub commands_few : (s : State) (ls : List (List ℕ)) → s.rounds ≡ 0 → length ls ≤ most_lines → length (commands_in s 1 ls) ≤ most_commands
commands_few s ls none lines =
    let all : Counts (length ls) s (commands_in s 1 ls) (play s 1 ls None).state = lines_count s 1 ls None in
    let few = all.commands in
    let within = all.within MOST_ROUNDS (omega arith) (omega (arith, none)) in
    omega (arith, few, within, lines)

-- ---- room for lines

-- so many lines more are within the limit on commands, if no more than all rounds are made
pub record HasRoomFor (n : ℕ) (s : State) : Type 0 where
  pub rounds : s.rounds ≤ MOST_ROUNDS
  pub commands : s.accepted + n + MOST_ROUNDS ≤ most_commands + s.rounds

pub room_behind : (n : ℕ) (s : State) (number : ℕ) (line : List ℕ) → HasRoomFor (suc n) s → HasRoomFor n (judged s number line).state
room_behind n s number line room =
    let here : Counts 1 s (judged s number line).commands (judged s number line).state = line_counts s number line in
    let few = here.accepted in
    let before = room.commands in
    record { rounds = here.within MOST_ROUNDS (omega arith) room.rounds; commands = omega (arith, few, before) }

pub few_in_room : (n : ℕ) (s : State) → HasRoomFor n s → s.accepted ≤ most_commands
few_in_room n s room = let before = room.commands in let rounds = room.rounds in omega (arith, before, rounds)
