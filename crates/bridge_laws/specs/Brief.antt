-- How long the frames are that a bridge sends.
use Rattle.std.specs.Prelude.{◌≡◌, ◌⊎◌, ℕ, ◌≤◌, List, length}
use Rattle.bridge_api.specs.View.{BridgeView}
use Rattle.bridge_api.specs.Step.{Input, second, frame, carrier, metric, attach, detach, customer, sent}
use Rattle.bridge_api.specs.Laws.{IsInput, IsSoundView, IsSent}

-- the most bytes of a frame that a bridge makes: a customer's frame of 2,000 bytes, and in front of it two addresses, a
-- B-TAG and an I-TAG, which are 22 (IEEE 802.1ah, 9.7). No frame of IS-IS is longer than 1,514
abbrev pub most_frame_bytes : ℕ
most_frame_bytes = 2022

-- the frame is the one that came in at a backbone port
abbrev pub IsFrameThatCame : Input → List ℕ → Type 0
IsFrameThatCame second bytes = ⊥
IsFrameThatCame (frame p came) bytes = bytes ≡ came
IsFrameThatCame (carrier p on) bytes = ⊥
IsFrameThatCame (metric p m) bytes = ⊥
IsFrameThatCame (attach a) bytes = ⊥
IsFrameThatCame (detach p) bytes = ⊥
IsFrameThatCame (customer p came) bytes = ⊥

-- each frame that a bridge sends has no more bytes, or is the one that came in, which it relays
abbrev pub SentIsBrief : Type 0
SentIsBrief = (input : Input) (v : BridgeView) (p : ℕ) (bytes : List ℕ) → IsInput v input → IsSoundView v
    → IsSent (sent input v) p bytes → (length bytes ≤ most_frame_bytes) ⊎ IsFrameThatCame input bytes
