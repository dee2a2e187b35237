-- What an accepted command makes of a network, and what it answers.
use Rattle.std.specs.Prelude.{ℕ, ◌+◌, List, [], ◌∷◌, ◌++◌, length, Bool, true, false, if◌then◌else◌, remove, Option, Some, None}
use Rattle.scenario.specs.declared.command.Command.{Command}
use Rattle.scenario.specs.declared.command.Command.TheVariants as command
use Rattle.bridge_api.specs.Config.{configured}
pub use Rattle.bridge_api.specs.Drops.{next_count}
use Rattle.network_model.specs.declared.answer.Answer.{Answer}
use Rattle.network_model.specs.declared.answer.Answer.TheVariants.{Silent, Outs}
use Rattle.network_model.specs.declared.answer.Answer.TheVariants as answers
use Rattle.spb_world.specs.declared.declaration.DeclaredBridge.{DeclaredBridge}
use Rattle.spb_world.specs.declared.declaration.DeclaredLink.{DeclaredLink}
use Rattle.spb_world.specs.World.{place_of}
use Rattle.spb_world.specs.Declaring.{plan_of, bridge_of, link_of, with_vid, with_bridge, with_link, config_of}
use Rattle.spb_world.specs.Services.{service_of, with_service}
use Rattle.link_model.specs.Lanes.{no_frames}
use Rattle.network_model.specs.State.{State}
use Rattle.network_model.specs.Events.{ticked, delivered, lost, doubled, with_metrics_over, with_metric_changed, port_attached, port_detached, frame_entered, switched_on, switched_off, rounds, drained}
use Rattle.network_model.specs.Questions.{Question, question_of, answer_at, asks_network}
use Rattle.network_model.specs.Quiet.{failing}
use Rattle.network_model.specs.Refusing.{box_for}
use Rattle.network_model.specs.Restarting.{restarted}

-- a bridge more, in the box at a place of the rack
abbrev pub boxed : State → List ℕ → DeclaredBridge → Option ℕ → State
boxed s name b None = s
boxed s name b (Some place) = record s {
  rack = remove s.rack place;
  world = with_bridge s.world name b;
  views = s.views ++ configured (config_of s.world b) ∷ [];
  ticks = s.ticks ++ 0 ∷ [];
}

unfoldable pub declared : State → List ℕ → DeclaredBridge → State
declared s name b = boxed s name b (box_for s)

-- a link more: its ends get their metrics, and it comes up at once
unfoldable pub linked : State → List ℕ → DeclaredLink → State
linked s name l = switched_on (with_metrics_over
    (record s { world = with_link s.world name l; lanes = s.lanes ++ no_frames ∷ [] }) l) (length s.lanes)

-- a link more between two bridges, by the places that were found for their names
abbrev pub link_between_found : State → List ℕ → Option ℕ → ℕ → Option ℕ → ℕ → ℕ → State
link_between_found s name None port_a b port_b cost = s
link_between_found s name (Some i) port_a None port_b cost = s
link_between_found s name (Some i) port_a (Some j) port_b cost = linked s name (link_of i port_a j port_b cost)

unfoldable pub named_link : State → List ℕ → List ℕ → ℕ → List ℕ → ℕ → ℕ → State
named_link s name a port_a b port_b cost =
    link_between_found s name (place_of a s.world.bridges) port_a (place_of b s.world.bridges) port_b cost

-- what becomes of a network at the place that was found for a name
abbrev pub at_place : (State → ℕ → State) → State → Option ℕ → State
at_place event s None = s
at_place event s (Some k) = event s k

-- what comes to a bridge, or to a link, of this name
unfoldable pub at_bridge : (State → ℕ → State) → State → List ℕ → State
at_bridge event s name = at_place event s (place_of name s.world.bridges)

unfoldable pub at_link : (State → ℕ → State) → State → List ℕ → State
at_link event s name = at_place event s (place_of name s.world.links)

-- a base VID more
unfoldable pub with_vid_more : State → ℕ → ℕ → State
with_vid_more s vid ect = record s { world = with_vid s.world (plan_of vid ect) }

-- a service more
unfoldable pub with_service_more : State → ℕ → ℕ → State
with_service_more s isid vid = record s { world = with_service s.world (service_of isid vid) }

-- so many rounds, and at most so many deliveries
unfoldable pub with_rounds : ℕ → State → State
with_rounds n s = record (rounds n s) { rounds = s.rounds + n }

unfoldable pub with_drain : ℕ → State → State
with_drain n s = record (drained n s) { drained = s.drained + n }

-- what a command makes
abbrev pub played : State → Command → State
played s (command.Vid vid ect) = with_vid_more s vid ect
played s (command.Bridge name priority system source ports) = declared s name (bridge_of priority system source ports)
played s (command.Link name a port_a b port_b cost) = named_link s name a port_a b port_b cost
played s (command.Isid isid vid) = with_service_more s isid vid
played s (command.Attach name port isid mode) = at_bridge (λ t i. port_attached t i port isid mode) s name
played s (command.Detach name port) = at_bridge (λ t i. port_detached t i port) s name
played s (command.Metric name side m) = at_link (λ t k. with_metric_changed t k side m) s name
played s (command.Down name) = at_link switched_off s name
played s (command.Up name) = at_link switched_on s name
played s (command.Restart name) = at_bridge restarted s name
played s (command.Tick name) = at_bridge ticked s name
played s (command.Deliver name dir) = at_link (λ t k. delivered t k dir) s name
played s (command.Lose name dir place) = at_link (λ t k. lost t k dir place) s name
played s (command.Double name dir place) = at_link (λ t k. doubled t k dir place) s name
played s (command.Frame name port bytes) = at_bridge (λ t i. frame_entered t i port bytes) s name
played s (command.Round n) = with_rounds n s
played s (command.Drain n) = with_drain n s
played s _ = s

-- one accepted command more, and what left in it is answered
abbrev pub accepted_once : State → State
accepted_once s = record s { accepted = next_count s.accepted; outs = [] }

-- the state after an accepted command
unfoldable pub next_state : State → Command → State
next_state s c = accepted_once (played s c)

-- the answer by the place that was found for the name of the bridge
abbrev pub answer_at_found : State → Option Question → Option ℕ → Answer
answer_at_found s question None = Silent
answer_at_found s question (Some i) = answer_at s i question

-- the answer to a question about a bridge; nothing to what is none
abbrev pub answer_to : State → Option Question → Answer
answer_to s None = Silent
answer_to s (Some q) = answer_at_found s (Some q) (place_of q.bridge s.world.bridges)

-- whether something comes to pass on the network: customers' frames may leave
abbrev pub is_event : Command → Bool
is_event (command.Metric name side m) = true
is_event (command.Down name) = true
is_event (command.Up name) = true
is_event (command.Restart name) = true
is_event (command.Tick name) = true
is_event (command.Deliver name dir) = true
is_event (command.Lose name dir place) = true
is_event (command.Double name dir place) = true
is_event (command.Round n) = true
is_event (command.Drain n) = true
is_event (command.Frame name port bytes) = true
is_event _ = false

-- the answer to a command that is no event
abbrev pub answer_to_asked : State → Command → Answer
answer_to_asked s c = if asks_network c then answers.State (failing s) else answer_to s (question_of c)

-- the answer to an accepted command
abbrev pub answer_of : State → Command → Answer
answer_of s c = if is_event c then Outs (played s c).outs else answer_to_asked s c

-- the state after commands, one after another
abbrev pub played_all : State → List Command → State
played_all s [] = s
played_all s (c ∷ cs) = played_all (next_state s c) cs
