-- Bridges in a list, of which one makes a step.
use Rattle.std.specs.Prelude.{ℕ, List, [], Option, Some, None, slice_get, slice_set}
use Rattle.bridge_api.specs.View.{BridgeView}
use Rattle.bridge_api.specs.Step.{Input, step, sent}

abbrev pub with_step : Input → ℕ → Option BridgeView → List BridgeView → List BridgeView
with_step input i None views = views
with_step input i (Some v) views = slice_set views i (step input v)

-- the bridges after something came to the one at this place
abbrev pub stepped_at : Input → ℕ → List BridgeView → List BridgeView
stepped_at input i views = with_step input i (slice_get views i) views

abbrev pub sent_of : Input → Option BridgeView → List (ℕ × List ℕ)
sent_of input None = []
sent_of input (Some v) = sent input v

-- what that one sends
abbrev pub sent_from_place : Input → ℕ → List BridgeView → List (ℕ × List ℕ)
sent_from_place input i views = sent_of input (slice_get views i)
