-- What stands in a network, as it is looked up by number: what its bridges hold, and the frames in its lanes.
use Rattle.std.specs.Prelude.{ℕ, List, ◌==◌, ◌/◌, ◌%◌, Option, slice_get, if◌then◌else◌}
use Rattle.std.specs.Option.{option_and_then}
use Rattle.spb_types.specs.declared.address.LspId.{LspId}
use Rattle.spb_types.specs.declared.link.Dir.{Dir}
use Rattle.spb_types.specs.declared.link.Dir.TheVariants.{Ab, Ba}
use Rattle.link_model.specs.Lane.{Frame}
use Rattle.lsdb.specs.Entry.{Entry}
use Rattle.bridge_api.specs.View.{BridgeView, entry_at}
use Rattle.network_model.specs.State.{State, lane_at}

-- what a bridge holds at a place, in order of id
abbrev pub entry_held : List BridgeView → ℕ → ℕ → Option (LspId × Entry)
entry_held views bridge place = option_and_then (λ v. entry_at v place) (slice_get views bridge)

-- the direction of the lane of a number: those of the link at place j have the numbers 2j and 2j + 1, ab before ba
abbrev pub dir_of : ℕ → Dir
dir_of lane = if lane % 2 == 0 then Ab else Ba

-- the frames in that lane
abbrev pub frames_of : State → ℕ → List Frame
frames_of s lane = lane_at s (lane / 2) (dir_of lane)
