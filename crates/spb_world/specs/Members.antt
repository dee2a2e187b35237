-- The members of services, made of a list of what is attached for each bridge.
use Rattle.std.specs.Prelude.{ℕ, List, [], flat_map}
use Rattle.std.specs.List.{range_with_len, slice_index_or}
use Rattle.spb_types.specs.declared.graph.Member.{Member}
use Rattle.spb_types.specs.declared.service.Attachment.{Attachment}
use Rattle.spb_world.specs.World.{Bridges, system_at, bridge_members}

-- the members that the bridge at a place is by the list that has its place
abbrev pub members_in : Bridges → List (List Attachment) → ℕ → List Member
members_in bridges lists i = bridge_members (system_at bridges i) (slice_index_or lists i [])

-- those of the first n bridges
abbrev pub members_up_to : Bridges → List (List Attachment) → ℕ → List Member
members_up_to bridges lists n = flat_map (members_in bridges lists) (range_with_len 0 n)
