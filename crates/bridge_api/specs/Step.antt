-- One call of a bridge: what comes to it, the bridge afterwards, and what it sends.
use Rattle.std.specs.Prelude.{◌≡◌, ◌==◌, ℕ, List, [], ◌∷◌, ◌++◌, take, Bool, if◌then◌else◌}
use Rattle.spb_types.specs.declared.service.Attachment.{Attachment}
use Rattle.forwarding.specs.declared.moved.Moved.{Moved}
use Rattle.bridge_api.specs.declared.outbox.Outbox.{Outbox}
use Rattle.bridge_api.specs.View.{BridgeView}
use Rattle.bridge_api.specs.Customers.{after_entry, moved_by_entry, moved_by_receive}
use Rattle.bridge_api.specs.Hearing.{after_receive, with_carrier, with_metric}
use Rattle.bridge_api.specs.Services.{with_attachment, without_attachment}
use Rattle.bridge_api.specs.Ticking.{after_tick, sent_in_tick}

-- what comes to a bridge: a second; a frame, a change of carrier or the metric of the link, at a backbone port; a
-- customer port that is attached to a service or detached; or a customer's frame at such a port
pub data Input : Type 0 where
  second : Input
  frame : ℕ → List ℕ → Input
  carrier : ℕ → Bool → Input
  metric : ℕ → ℕ → Input
  attach : Attachment → Input
  detach : ℕ → Input
  customer : ℕ → List ℕ → Input

abbrev pub step : Input → BridgeView → BridgeView
step second v = after_tick v
step (frame p bytes) v = after_receive p bytes v
step (carrier p on) v = with_carrier p on v
step (metric p m) v = with_metric p m v
step (attach a) v = with_attachment a v
step (detach p) v = without_attachment p v
step (customer p bytes) v = after_entry p bytes v

-- the frames that it sends, each with the number of its backbone port
abbrev pub sent : Input → BridgeView → List (ℕ × List ℕ)
sent second v = sent_in_tick v
sent (frame p bytes) v = (moved_by_receive p bytes v).wire
sent (carrier p on) v = []
sent (metric p m) v = []
sent (attach a) v = []
sent (detach p) v = []
sent (customer p bytes) v = (moved_by_entry p bytes v).wire

-- those of the frames that are sent at a port, in order
abbrev pub frames_at : ℕ → List (ℕ × List ℕ) → List (List ℕ)
frames_at p [] = []
frames_at p (s ∷ ss) = if s.0 == p then s.1 ∷ frames_at p ss else frames_at p ss

-- the customers' frames that leave, each with the number of its customer port
abbrev pub left_by : Input → BridgeView → List (ℕ × List ℕ)
left_by second v = []
left_by (frame p bytes) v = (moved_by_receive p bytes v).left
left_by (carrier p on) v = []
left_by (metric p m) v = []
left_by (attach a) v = []
left_by (detach p) v = []
left_by (customer p bytes) v = (moved_by_entry p bytes v).left

-- an outbox with these frames behind the others that go to the backbone
abbrev pub with_wire : List (ℕ × List ℕ) → Outbox → Outbox
with_wire frames outbox = record outbox { wire = outbox.wire ++ frames }

-- and with what a frame made the bridge send
abbrev pub with_moved : Moved → Outbox → Outbox
with_moved m outbox = record outbox { wire = outbox.wire ++ m.wire; left = outbox.left ++ m.left }

-- an outbox that gained some of these frames, the first ones in order
pub record Gains (frames : List (ℕ × List ℕ)) (old new : Outbox) : Type 0 where
  pub count : ℕ
  pub gained : new ≡ with_wire (take count frames) old

pub record GainsMoved (m : Moved) (old new : Outbox) : Type 0 where
  pub wire : ℕ
  pub left : ℕ
  pub gained : new ≡ with_moved (record m { wire = take wire m.wire; left = take left m.left }) old
