-- The links as they were declared: their ends, the lanes that lead from them, and the metrics there.
use Rattle.std.specs.Prelude.{ℕ, zero, suc, ◌+◌, List, [], ◌∷◌, Bool, false, ◌&&◌, ◌||◌, ◌==◌, Option, Some, None, slice_get, if◌then◌else◌}
use Rattle.std.specs.Option.{option_map, option_map_or, option_or}
use Rattle.spb_types.specs.declared.link.Dir.{Dir}
use Rattle.spb_types.specs.declared.link.Dir.TheVariants.{Ab, Ba}
use Rattle.link_model.specs.declared.lanes.LaneId.{LaneId}
use Rattle.spb_world.specs.declared.declaration.DeclaredLink.{DeclaredLink}
use Rattle.spb_world.specs.declared.declaration.LinkEnd.{LinkEnd}

-- whether the link at a place is up
abbrev pub is_live : List DeclaredLink → ℕ → Bool
is_live links k = option_map_or (λ l. l.live) (slice_get links k) false

-- the end of a link that a direction leads to
abbrev pub far_end : Dir → DeclaredLink → LinkEnd
far_end Ab l = l.b
far_end Ba l = l.a

-- the end of a link that a direction leads from
abbrev pub near_end : Dir → DeclaredLink → LinkEnd
near_end Ab l = l.a
near_end Ba l = l.b

-- whether this is the port of a link's end
abbrev pub is_at : LinkEnd → ℕ → ℕ → Bool
is_at e i port = (e.bridge == i) && (e.port == port)

-- the direction in which a link leads away from a port of the bridge at place i, if it ends there
abbrev pub direction : DeclaredLink → ℕ → ℕ → Option Dir
direction l i port = if is_at l.a i port then Some Ab else (if is_at l.b i port then Some Ba else None)

-- the lane of the link at place k that leads out of a port, if it ends there
abbrev pub lane_of_link : ℕ → DeclaredLink → ℕ → ℕ → Option LaneId
lane_of_link k l i port = option_map (λ dir. record { link = k; dir = dir }) (direction l i port)

-- the lane out of a port, over the links from place k on
abbrev pub lane_out_from : ℕ → List DeclaredLink → ℕ → ℕ → Option LaneId
lane_out_from k [] i port = None
lane_out_from k (l ∷ ls) i port = option_or (lane_of_link k l i port) (lane_out_from (k + 1) ls i port)

-- the lane out of a port of the bridge at place i, if a link ends there
unfoldable pub lane_out : List DeclaredLink → ℕ → ℕ → Option LaneId
lane_out links i port = lane_out_from 0 links i port

-- and if that link is up
abbrev pub live_lane : List DeclaredLink → Option LaneId → Option LaneId
live_lane links None = None
live_lane links (Some lane) = if is_live links lane.link then Some lane else None

-- the metric of the end of a link that a lane leads from; 1 where there is no lane
abbrev pub metric_over : List DeclaredLink → Option LaneId → ℕ
metric_over links None = 1
metric_over links (Some lane) = option_map_or (λ l. (near_end lane.dir l).metric) (slice_get links lane.link) 1

-- the metric at a port of the bridge at place i: that of the end of the link there, whether the link is up or not, and
-- 1 where no link ends
abbrev pub port_metric : List DeclaredLink → ℕ → ℕ → ℕ
port_metric links i port = metric_over links (lane_out links i port)

-- the metrics at so many ports, from number p on
abbrev pub port_metrics : List DeclaredLink → ℕ → ℕ → ℕ → List ℕ
port_metrics links i zero p = []
port_metrics links i (suc n) p = port_metric links i p ∷ port_metrics links i n (p + 1)

-- whether this is a link of the bridge at place i that is up
abbrev pub ends_here : DeclaredLink → ℕ → Bool
ends_here l i = l.live && ((l.a.bridge == i) || (l.b.bridge == i))

-- its end at that bridge, and its other end
abbrev pub end_here : DeclaredLink → ℕ → LinkEnd
end_here l i = if l.a.bridge == i then l.a else l.b

abbrev pub end_away : DeclaredLink → ℕ → LinkEnd
end_away l i = if l.a.bridge == i then l.b else l.a
