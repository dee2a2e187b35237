-- Why a command is refused: the first of its reasons, in order of number, whose test fails.
use Rattle.std.specs.Prelude.{ℕ, ◌+◌, List, length, ◌&&◌, nat_lt, nat_le, Option, Some, None, is_some}
use Rattle.spb_types.specs.declared.address.Mac.{Mac}
use Rattle.spb_types.specs.declared.service.SourceId.{SourceId}
use Rattle.scenario.specs.declared.command.Command.{Command}
use Rattle.scenario.specs.declared.command.Command.TheVariants as command
use Rattle.spb_types.specs.declared.link.Dir.{Dir}
use Rattle.spb_world.specs.declared.reason.Reason.{Reason}
use Rattle.spb_world.specs.declared.reason.Reason.TheVariants.{Range, TooMany, NoFrame, RackSpent}
use Rattle.spb_world.specs.Reason.{reason_unless, ◌or◌}
use Rattle.spb_world.specs.World.{World, place_of}
use Rattle.spb_world.specs.Declaring.{vid_refusal, bridge_refusal}
use Rattle.spb_world.specs.Services.{isid_refusal}
use Rattle.network_model.specs.Questions.{Question, question_of}
use Rattle.network_model.specs.State.{State, lane_at, kind_at, next_box}
use Rattle.network_model.specs.Restarting.{box_at}
use Rattle.spb_types.specs.declared.limits.TheConstants.{MOST_DELIVERIES, MOST_DELIVERIES_TOGETHER, MOST_ROUNDS}
use Rattle.spb_world.specs.Naming.{named_link_refusal, unnamed_refusal, refusal_at_found, linked_refusal, down_refusal, up_refusal, metric_refusal, named_attach_refusal, named_detach_refusal, named_entry_refusal, path_refusal}

-- the box that the next declared bridge takes, by place in the rack
abbrev pub box_for : State → Option ℕ
box_for s = next_box (kind_at s.rule (length s.world.bridges)) s.rack

-- of a bridge
unfoldable pub declared_refusal : State → List ℕ → ℕ → Mac → SourceId → ℕ → Option Reason
declared_refusal s name priority system source ports =
    bridge_refusal s.world name priority system source ports or reason_unless (is_some (box_for s)) RackSpent

-- a frame stands at this place of a lane
unfoldable pub frame_refusal : State → List ℕ → Dir → ℕ → Option Reason
frame_refusal s name dir place =
    linked_refusal s.world (λ k. reason_unless (nat_lt place (length (lane_at s k dir))) NoFrame) name

-- so many rounds: 1 to 20,000, and together no more
unfoldable pub round_refusal : State → ℕ → Option Reason
round_refusal s n = reason_unless (nat_le 1 n && nat_le n MOST_ROUNDS) Range
    or reason_unless (nat_le (s.rounds + n) MOST_ROUNDS) TooMany

-- so many deliveries: 1 to 1,000,000, and together at most 100,000,000
unfoldable pub drain_refusal : State → ℕ → Option Reason
drain_refusal s n = reason_unless (nat_le 1 n && nat_le n MOST_DELIVERIES) Range
    or reason_unless (nat_le (s.drained + n) MOST_DELIVERIES_TOGETHER) TooMany

-- the bridge restarts: there is one of this name, and a box for it
unfoldable pub restart_refusal : State → List ℕ → Option Reason
restart_refusal s name =
    refusal_at_found (λ i. reason_unless (is_some (box_at s i)) RackSpent) (place_of name s.world.bridges)

-- of what may be a question about a bridge
abbrev pub asked_refusal : World → Option Question → Option Reason
asked_refusal w None = None
asked_refusal w (Some q) = unnamed_refusal w q.bridge

-- of a command; what is neither named here nor a question about a bridge is never refused
abbrev pub refusal_of : State → Command → Option Reason
refusal_of s (command.Vid vid ect) = vid_refusal s.world vid ect
refusal_of s (command.Bridge name priority system source ports) = declared_refusal s name priority system source ports
refusal_of s (command.Link name a port_a b port_b cost) = named_link_refusal s.world name a port_a b port_b cost
refusal_of s (command.Isid isid vid) = isid_refusal s.world isid vid
refusal_of s (command.Attach name port isid mode) = named_attach_refusal s.world name port isid
refusal_of s (command.Detach name port) = named_detach_refusal s.world name port
refusal_of s (command.Metric name side m) = metric_refusal s.world name m
refusal_of s (command.Down name) = down_refusal s.world name
refusal_of s (command.Up name) = up_refusal s.world name
refusal_of s (command.Restart name) = restart_refusal s name
refusal_of s (command.Tick name) = unnamed_refusal s.world name
refusal_of s (command.Deliver name dir) = frame_refusal s name dir 0
refusal_of s (command.Lose name dir place) = frame_refusal s name dir place
refusal_of s (command.Double name dir place) = frame_refusal s name dir place
refusal_of s (command.Frame name port bytes) = named_entry_refusal s.world name port bytes
refusal_of s (command.Round n) = round_refusal s n
refusal_of s (command.Drain n) = drain_refusal s n
refusal_of s (command.Path from to vid) = path_refusal s.world from to vid
refusal_of s c = asked_refusal s.world (question_of c)
