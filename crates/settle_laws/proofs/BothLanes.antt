-- The lanes of a link, one after the other.
use Rattle.std.proofs.Common.{◌≡◌, Bool, true, ◌&&◌, [], Option, Some, None, refl}
use Rattle.std.specs.List.{list_all}
use Rattle.std.specs.Option.{option_map_or}
use Rattle.spb_types.specs.declared.link.Dir.TheVariants.{Ab, Ba}
use Rattle.link_model.specs.declared.lanes.LinkLanes.{LinkLanes}
use Rattle.link_model.specs.Lane.{Frame}
use Rattle.link_model.specs.Lanes.{lane_in}

-- each frame in both lanes passes a test
abbrev pub both_pass : (Frame → Bool) → LinkLanes → Bool
both_pass test x = list_all test x.ab && list_all test x.ba

pub both_lanes : (test : Frame → Bool) (o : Option LinkLanes)
    → (list_all test (option_map_or (lane_in Ab) o []) && list_all test (option_map_or (lane_in Ba) o [])) ≡ option_map_or (both_pass test) o true
both_lanes test None = refl
both_lanes test (Some x) = refl
