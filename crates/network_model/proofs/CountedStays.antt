-- A network stays counted while so many commands are accepted as a script can have.
use Rattle.std.proofs.Common.{◌≡◌, inl, inr, ◌≤◌, ◌<◌, ◌+◌, ℕ, List, refl, ap, Option, Some, None, arith}
use Rattle.std.proofs.Math.Nat.{min-eq_left, min-eq_right, min-le_left}
use Rattle.std.proofs.lemmas.Bool.{cases_lt}
use Rattle.scenario.specs.declared.command.Command.{Command}
use Rattle.scenario.specs.declared.command.Command.TheVariants as command
use Rattle.network_model.specs.declared.kind_rule.KindRule.{KindRule}
use Rattle.spb_world.specs.World.{place_of}
use Rattle.spb_world.specs.Declaring.{bridge_of, link_of}
use Rattle.network_model.specs.State.{State}
use Rattle.network_model.specs.Events.{ticked, delivered, lost, doubled, with_metric_changed, port_attached, port_detached, frame_entered, switched_off, switched_on, rounds, drained}
use Rattle.network_model.specs.Restarting.{restarted}
use Rattle.network_model.specs.Refusing.{box_for, refusal_of}
use Rattle.network_model.specs.Play.{declared, link_between_found, named_link, at_place, at_bridge, at_link, with_vid_more, with_service_more, with_rounds, with_drain, played, next_count, next_state}
use Rattle.network_model.specs.Sound.{IsSoundState}
use Rattle.network_model.specs.Counted.{IsCounted, most_commands}
use Rattle.network_model.proofs.CountsKept.{counts, counts-ticked, counts-delivered, counts-metric, counts-attached, counts-detached, counts-entered, counts-off, counts-on, counts-rounds, counts-drained, counts-boxed, counts-linked}
use Rattle.network_model.proofs.RestartCounted.{counts-restarted}
use Rattle.network_model.proofs.CountedPlay.{commands_keep_counted}

-- what a command makes doesn't count it
commands_of : (s t : State) → counts t ≡ counts s → t.accepted ≡ s.accepted
commands_of s t same = ap (λ (c : ℕ × ℕ). c.1) same

at_found : (event : State → ℕ → State) (s : State) (o : Option ℕ) → ((k : ℕ) → (event s k).accepted ≡ s.accepted) → (at_place event s o).accepted ≡ s.accepted
at_found event s None each = refl
at_found event s (Some k) each = each k

of_bridge : (event : State → ℕ → State) (s : State) (name : List ℕ) → ((k : ℕ) → (event s k).accepted ≡ s.accepted) → (at_bridge event s name).accepted ≡ s.accepted
unfolding at_bridge
of_bridge event s name each = at_found event s (place_of name s.world.bridges) each

of_link : (event : State → ℕ → State) (s : State) (name : List ℕ) → ((k : ℕ) → (event s k).accepted ≡ s.accepted) → (at_link event s name).accepted ≡ s.accepted
unfolding at_link
of_link event s name each = at_found event s (place_of name s.world.links) each

between : (s : State) (name : List ℕ) (a b : Option ℕ) (port_a port_b cost : ℕ) → (link_between_found s name a port_a b port_b cost).accepted ≡ s.accepted
between s name None b port_a port_b cost = refl
between s name (Some i) None port_a port_b cost = refl
between s name (Some i) (Some j) port_a port_b cost = ap (λ (c : ℕ × ℕ). c.1) (counts-linked s name (link_of i port_a j port_b cost))

accepted_played : (s : State) (c : Command) → (played s c).accepted ≡ s.accepted
unfolding declared named_link with_vid_more with_service_more with_rounds with_drain
accepted_played s (command.Vid vid ect) = refl
accepted_played s (command.Bridge name priority system source ports) = ap (λ (c : ℕ × ℕ). c.1) (counts-boxed s name (bridge_of priority system source ports) (box_for s))
accepted_played s (command.Link name a port_a b port_b cost) = between s name (place_of a s.world.bridges) (place_of b s.world.bridges) port_a port_b cost
accepted_played s (command.Isid isid vid) = refl
accepted_played s (command.Attach name port isid mode) = of_bridge (λ t i. port_attached t i port isid mode) s name (λ i. commands_of s (port_attached s i port isid mode) (counts-attached s i port isid mode))
accepted_played s (command.Detach name port) = of_bridge (λ t i. port_detached t i port) s name (λ i. commands_of s (port_detached s i port) (counts-detached s i port))
accepted_played s (command.Frame name port bytes) = of_bridge (λ t i. frame_entered t i port bytes) s name (λ i. commands_of s (frame_entered s i port bytes) (counts-entered s i port bytes))
accepted_played s (command.Metric name side m) = of_link (λ t k. with_metric_changed t k side m) s name (λ k. commands_of s (with_metric_changed s k side m) (counts-metric s k side m))
accepted_played s (command.Down name) = of_link switched_off s name (λ k. commands_of s (switched_off s k) (counts-off s k))
accepted_played s (command.Up name) = of_link switched_on s name (λ k. commands_of s (switched_on s k) (counts-on s k))
accepted_played s (command.Restart name) = of_bridge restarted s name (λ k. commands_of s (restarted s k) (counts-restarted s k))
accepted_played s (command.Tick name) = of_bridge ticked s name (λ k. commands_of s (ticked s k) (counts-ticked s k))
accepted_played s (command.Deliver name dir) = of_link (λ t k. delivered t k dir) s name (λ k. commands_of s (delivered s k dir) (counts-delivered s k dir))
accepted_played s (command.Lose name dir place) = of_link (λ t k. lost t k dir place) s name (λ k. refl)
accepted_played s (command.Double name dir place) = of_link (λ t k. doubled t k dir place) s name (λ k. refl)
accepted_played s (command.Round n) = commands_of s (rounds n s) (counts-rounds n s)
accepted_played s (command.Drain n) = commands_of s (drained n s) (counts-drained n s)
accepted_played s _ = refl

-- each command counts at most once
pub one_accepted : (s : State) (c : Command) → (next_state s c).accepted ≤ s.accepted + 1
unfolding next_state
one_accepted s c =
    let same = accepted_played s c in
    let least = min-le_left ((played s c).accepted + 1) 18446744073709551615 in
    omega (arith, same, least)

below_next : (a : ℕ) → next_count a ≤ most_commands → a < most_commands
below_next a few =
    elim (cases_lt a 18446744073709551615) [
      | inl low ↦ let is : next_count a ≡ a + 1 = min-eq_left (omega (arith, low)) in omega (arith, few, is)
      | inr high ↦ let is : next_count a ≡ 18446744073709551615 = min-eq_right (omega (arith, high)) in absurd (omega (arith, few, is))
    ]

-- a network that is counted while few commands were accepted stays so
pub stays_counted : (s : State) (c : Command) → IsSoundState s → (s.accepted ≤ most_commands → IsCounted s) → refusal_of s c ≡ None → (next_state s c).accepted ≤ most_commands → IsCounted (next_state s c)
unfolding next_state
stays_counted s c sound counted none few =
    let next : next_count (played s c).accepted ≡ next_count s.accepted = ap next_count (accepted_played s c) in
    let room : s.accepted < most_commands = below_next s.accepted (omega (arith, few, next)) in
    commands_keep_counted s c sound (counted (omega (arith, room))) room none

-- by which rule bridges take boxes doesn't matter
pub counted_rule : (s : State) (rule : KindRule) → IsCounted s → IsCounted (record s { rule = rule })
counted_rule s rule counted = record {
  rounds = counted.rounds;
  by = record {
    fresh = counted.by.fresh;
    held = counted.by.held;
    said = counted.by.said;
    origins = counted.by.origins;
    bound = λ i v id at own. let within = counted.by.bound i v id at own in record { most = within.most; bound = within.bound; room = within.room };
  };
}
