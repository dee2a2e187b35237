-- The lanes of a network: two for each link, in order of declaration.
use Rattle.std.specs.Prelude.{◌≡◌, ℕ, ◌+◌, ◌<◌, List, [], ◌∷◌, length, nat_lt, Option, Some, None, slice_get, if◌then◌else◌}
use Rattle.std.specs.Option.{option_map_or, option_and_then, option_or}
use Rattle.spb_types.specs.declared.link.Dir.{Dir}
use Rattle.spb_types.specs.declared.link.Dir.TheVariants.{Ab, Ba}
use Rattle.spb_types.specs.Places.{changed_at}
use Rattle.link_model.specs.declared.lanes.LaneId.{LaneId}
use Rattle.link_model.specs.declared.lanes.LinkLanes.{LinkLanes}
use Rattle.link_model.specs.Lane.{Frame}

-- the frames on their way in a direction of a link
abbrev pub lane_in : Dir → LinkLanes → List Frame
lane_in Ab lanes = lanes.ab
lane_in Ba lanes = lanes.ba

-- other frames in a direction
abbrev pub with_lane : Dir → List Frame → LinkLanes → LinkLanes
with_lane Ab frames lanes = record lanes { ab = frames }
with_lane Ba frames lanes = record lanes { ba = frames }

-- the frames in a direction changed
abbrev pub changed_lane : Dir → (List Frame → List Frame) → LinkLanes → LinkLanes
changed_lane dir f lanes = with_lane dir (f (lane_in dir lanes)) lanes

-- no frame is on its way
abbrev pub no_frames : LinkLanes
no_frames = record { ab = []; ba = [] }

-- the frames behind the front
abbrev pub rest : List Frame → List Frame
rest [] = []
rest (frame ∷ frames) = frames

-- the frames on their way in a direction of the link at place k; none past the last link
abbrev pub lane_of : List LinkLanes → ℕ → Dir → List Frame
lane_of lanes k dir = option_map_or (lane_in dir) (slice_get lanes k) []

-- the frames in that lane changed
abbrev pub changed_frames : (List Frame → List Frame) → List LinkLanes → ℕ → Dir → List LinkLanes
changed_frames f lanes k dir = changed_at (changed_lane dir f) lanes k

-- the lane of the link at place k that isn't empty, if there is one, ab before ba
abbrev pub full_in : ℕ → LinkLanes → Option LaneId
full_in k lanes =
    if nat_lt 0 (length lanes.ab) then Some (record { link = k; dir = Ab })
    else (if nat_lt 0 (length lanes.ba) then Some (record { link = k; dir = Ba }) else None)

abbrev pub full_at : List LinkLanes → ℕ → Option LaneId
full_at lanes k = option_and_then (full_in k) (slice_get lanes k)

-- the first lane that isn't empty, over the links from place k on
abbrev pub first_full_from : ℕ → List LinkLanes → Option LaneId
first_full_from k [] = None
first_full_from k (lanes ∷ more) = option_or (full_in k lanes) (first_full_from (k + 1) more)

-- the lanes of the links before place n are empty
abbrev pub AreIdle : ℕ → List LinkLanes → Type 0
AreIdle n lanes = (k : ℕ) → k < n → full_at lanes k ≡ None
