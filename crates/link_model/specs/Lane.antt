use Rattle.std.specs.Prelude.{◌≡◌, ◌⊎◌, ℕ, ◌+◌, List, [], ◌∷◌, ◌++◌, length, nat_lt, insert, remove, Option, Some, None, if◌then◌else◌, Bool}
use Rattle.spb_types.specs.declared.limits.TheConstants.{MOST_FRAMES}

-- a frame, as its bytes
abbrev pub Frame : Type 0
Frame = List ℕ

-- a frame is one of a lane's
abbrev pub IsIn : Frame → List Frame → Type 0
IsIn f [] = ⊥
IsIn f (g ∷ gs) = (f ≡ g) ⊎ IsIn f gs

-- whether a lane with these frames has room for one more
abbrev pub has_room : List Frame → Bool
has_room frames = nat_lt (length frames) MOST_FRAMES

-- the frames with one more behind them; where there is no room it is lost
abbrev pub pushed : List Frame → Frame → List Frame
pushed frames frame = if has_room frames then frames ++ frame ∷ [] else frames

-- the frames with a copy of this one, which stands at place k, right behind it; where there is no room the copy is lost
abbrev pub doubled : List Frame → ℕ → Frame → List Frame
doubled frames k frame = if has_room frames then insert frames (k + 1) frame else frames

-- the frames after `lose` and `double` at place k
abbrev pub after_lose : List Frame → ℕ → List Frame
after_lose frames k = if nat_lt k (length frames) then remove frames k else frames

abbrev pub after_double : List Frame → ℕ → Option Frame → List Frame
after_double frames k None = frames
after_double frames k (Some frame) = doubled frames k frame
