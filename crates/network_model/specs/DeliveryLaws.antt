-- The law of a delivery: what becomes of the frame, of the bridges and of the lanes.
use Rattle.std.specs.Prelude.{◌≡◌, ◌≢◌, ℕ, List, [], ◌∷◌, ◌++◌, true, ◌==◌, if◌then◌else◌, Some, None, slice_get}
use Rattle.link_model.specs.Lane.{Frame, pushed}
use Rattle.scenario.specs.declared.command.Command.TheVariants as command
use Rattle.spb_types.specs.declared.link.Dir.{Dir}
use Rattle.bridge_api.specs.View.{BridgeView}
use Rattle.bridge_api.specs.Step.{Input, frame, step, sent, left_by, frames_at}
use Rattle.spb_world.specs.declared.declaration.DeclaredLink.{DeclaredLink}
use Rattle.spb_world.specs.World.{place_of, names_of}
use Rattle.network_model.specs.State.{State, links_of, lane_at}
use Rattle.spb_world.specs.Links.{near_end, far_end}
use Rattle.network_model.specs.Events.{outs_at, delivered}
use Rattle.network_model.specs.Refusing.{refusal_of}
use Rattle.network_model.specs.Play.{played}
use Rattle.network_model.specs.Sound.{IsSoundState}

-- a lane into which frames went, one behind the other; each for which there was no room is lost
abbrev pub pushed_all : List Frame → List Frame → List Frame
pushed_all lane [] = lane
pushed_all lane (f ∷ fs) = pushed_all (pushed lane f) fs

-- something comes to the bridge at place i: it makes one step, and each other bridge is as it was
pub record IsOneStep (s t : State) (i : ℕ) (input : Input) (v : BridgeView) : Type 0 where
  pub before : slice_get s.views i ≡ Some v
  pub after : slice_get t.views i ≡ Some (step input v)
  pub others : (j : ℕ) → j ≢ i → slice_get t.views j ≡ slice_get s.views j

-- each lane that leads from the bridge at place i gained the frames that were sent at its port, if its link is up
abbrev pub AreSent : State → State → ℕ → List (ℕ × Frame) → Type 0
AreSent s t i fs = (k : ℕ) (dir : Dir) (l : DeclaredLink)
    → slice_get (links_of s) k ≡ Some l → (near_end dir l).bridge ≡ i
    → lane_at t k dir ≡ pushed_all (lane_at s k dir) (if l.live then frames_at (near_end dir l).port fs else [])

-- each lane that leads from another bridge is as it was, but for the one in direction dir of the link at place k
abbrev pub AreLeft : State → State → ℕ → ℕ → Dir → Type 0
AreLeft s t i k dir = (j : ℕ) (d : Dir) (l : DeclaredLink)
    → slice_get (links_of s) j ≡ Some l → (near_end d l).bridge ≢ i → ((j ≡ k) × (d ≡ dir) → ⊥)
    → lane_at t j d ≡ lane_at s j d

-- the frame at the front of the lane in direction dir of the link at place k, which is up, is taken from there, and the
-- bridge at the far end makes one step by it, at its port; what it sends goes into the lanes that lead from it, and the
-- customers' frames that leave it have left, under its name. Nothing else is changed
pub record IsDelivery (s t : State) (k : ℕ) (dir : Dir) (bytes : Frame) (behind : List Frame) : Type 0 where
  pub link : DeclaredLink
  pub there : slice_get (links_of s) k ≡ Some link
  pub live : link.live ≡ true
  pub front : lane_at s k dir ≡ bytes ∷ behind
  pub taken : lane_at t k dir ≡ behind
  pub view : BridgeView
  pub heard : IsOneStep s t (far_end dir link).bridge (frame (far_end dir link).port bytes) view
  pub answers : AreSent s t (far_end dir link).bridge (sent (frame (far_end dir link).port bytes) view)
  pub others : AreLeft s t (far_end dir link).bridge k dir
  pub left : t.outs ≡ s.outs ++ outs_at (slice_get (names_of s.world.bridges) (far_end dir link).bridge)
      (left_by (frame (far_end dir link).port bytes) view)
  pub rest : t ≡ record s { views = t.views; lanes = t.lanes; outs = t.outs }

-- in a sound network, a delivery from a lane with a frame is such a one
abbrev pub FramesAreDelivered : Type 0
FramesAreDelivered = (s : State) (k : ℕ) (dir : Dir) (bytes : Frame) (behind : List Frame)
    → IsSoundState s → lane_at s k dir ≡ bytes ∷ behind → IsDelivery s (delivered s k dir) k dir bytes behind

-- the link of the name, and the delivery from its lane
pub record IsDeliveryOf (s t : State) (name : List ℕ) (dir : Dir) : Type 0 where
  pub place : ℕ
  pub named : place_of name s.world.links ≡ Some place
  pub bytes : Frame
  pub behind : List Frame
  pub delivery : IsDelivery s t place dir bytes behind

-- and so is what an accepted `deliver` makes
abbrev pub DeliverDelivers : Type 0
DeliverDelivers = (s : State) (name : List ℕ) (dir : Dir)
    → IsSoundState s → refusal_of s (command.Deliver name dir) ≡ None
    → IsDeliveryOf s (played s (command.Deliver name dir)) name dir
