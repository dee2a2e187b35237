-- What commands deliver in a sound network is brief.
use Rattle.std.proofs.Common.{◌≡◌, ◌+◌, ℕ, zero, suc, List, length, refl, Option, Some, None, slice_get}
use Rattle.std.specs.List.{AllByRecursion}
use Rattle.scenario.specs.declared.command.Command.TheVariants as command
use Rattle.spb_types.specs.declared.link.Dir.{Dir}
use Rattle.spb_types.specs.declared.link.Dir.TheVariants.{Ab, Ba}
use Rattle.link_model.specs.Lane.{Frame}
use Rattle.link_model.specs.Lanes.{lane_of, first_full_from}
use Rattle.link_model.specs.declared.lanes.LaneId.{LaneId}
use Rattle.spb_content.proofs.Members.{all_append}
use Rattle.spb_world.specs.declared.declaration.DeclaredLink.{DeclaredLink}
use Rattle.spb_world.specs.World.{place_of}
use Rattle.network_model.specs.State.{State, links_of, lane_at}
use Rattle.network_model.specs.Events.{delivered, lane_served, link_served, all_ticked, one_round, delivered_first}
use Rattle.network_model.specs.Captured.{seen_over, seen_front, seen_at, seen_times, seen_lane, seen_link, seen_from, seen_round, seen_rounds, seen_over_lane, seen_first, seen_drained, seen_at_found, seen_at_link}
use Rattle.network_model.specs.Brief.{IsBrief, SeenIsBrief}
use Rattle.network_model.specs.Sound.{IsSoundState}
use Rattle.network_model.proofs.SoundMoves.{on_way_brief}
use Rattle.network_model.proofs.SoundSteps.{in_got}
use Rattle.network_model.proofs.SoundEvents.{core_of, Sound-delivered, Sound-lane_served, Sound-ticked_from, Sound-one_round, Sound-delivered_first}

-- ---- one delivery

over_brief : (s : State) (k : ℕ) (dir : Dir) (bytes : Frame) (o : Option DeclaredLink) → IsSoundState s → slice_get (lane_at s k dir) 0 ≡ Some bytes → slice_get (links_of s) k ≡ o → AllByRecursion IsBrief (seen_over s dir bytes o)
over_brief s k dir bytes None sound front at = tt
over_brief s k dir bytes (Some l) sound front at = (on_way_brief s k dir l bytes (core_of s sound) at (in_got bytes (lane_of s.lanes k dir) 0 front), tt)

front_brief : (s : State) (k : ℕ) (dir : Dir) (o : Option Frame) → IsSoundState s → slice_get (lane_at s k dir) 0 ≡ o → AllByRecursion IsBrief (seen_front s k dir o)
front_brief s k dir None sound front = tt
front_brief s k dir (Some bytes) sound front = over_brief s k dir bytes (slice_get (links_of s) k) sound front refl

at_brief : (s : State) (k : ℕ) (dir : Dir) → IsSoundState s → AllByRecursion IsBrief (seen_at s k dir)
unfolding seen_at
at_brief s k dir sound = front_brief s k dir (slice_get (lane_at s k dir) 0) sound refl

-- ---- many

times_brief : (n k : ℕ) (dir : Dir) (s : State) → IsSoundState s → AllByRecursion IsBrief (seen_times n k dir s)
times_brief zero k dir s sound = tt
times_brief (suc n) k dir s sound = all_append IsBrief (seen_at s k dir) (seen_times n k dir (delivered s k dir)) (at_brief s k dir sound) (times_brief n k dir (delivered s k dir) (Sound-delivered s k dir sound))

lane_brief : (s : State) (k : ℕ) (dir : Dir) → IsSoundState s → AllByRecursion IsBrief (seen_lane s k dir)
unfolding seen_lane
lane_brief s k dir sound = times_brief (length (lane_at s k dir)) k dir s sound

from_brief : (n k : ℕ) (s : State) → IsSoundState s → AllByRecursion IsBrief (seen_from n k s)
from_brief zero k s sound = tt
from_brief (suc n) k s sound =
    let t : State = lane_served s k Ab in
    let sound_t : IsSoundState t = Sound-lane_served s k Ab sound in
    all_append IsBrief (seen_link s k) (seen_from n (k + 1) (link_served s k))
    (all_append IsBrief (seen_lane s k Ab) (seen_lane t k Ba) (lane_brief s k Ab sound) (lane_brief t k Ba sound_t))
    (from_brief n (k + 1) (link_served s k) (Sound-lane_served t k Ba sound_t))

round_brief : (s : State) → IsSoundState s → AllByRecursion IsBrief (seen_round s)
unfolding seen_round
round_brief s sound = from_brief (length (all_ticked s).lanes) 0 (all_ticked s) (Sound-ticked_from (length s.views) 0 s sound)

rounds_brief : (n : ℕ) (s : State) → IsSoundState s → AllByRecursion IsBrief (seen_rounds n s)
rounds_brief zero s sound = tt
rounds_brief (suc n) s sound = all_append IsBrief (seen_round s) (seen_rounds n (one_round s)) (round_brief s sound) (rounds_brief n (one_round s) (Sound-one_round s sound))

over_lane_brief : (s : State) (o : Option LaneId) → IsSoundState s → AllByRecursion IsBrief (seen_over_lane s o)
over_lane_brief s None sound = tt
over_lane_brief s (Some lane) sound = at_brief s lane.link lane.dir sound

first_brief : (s : State) → IsSoundState s → AllByRecursion IsBrief (seen_first s)
unfolding seen_first
first_brief s sound = over_lane_brief s (first_full_from 0 s.lanes) sound

drained_brief : (n : ℕ) (s : State) → IsSoundState s → AllByRecursion IsBrief (seen_drained n s)
drained_brief zero s sound = tt
drained_brief (suc n) s sound = all_append IsBrief (seen_first s) (seen_drained n (delivered_first s)) (first_brief s sound) (drained_brief n (delivered_first s) (Sound-delivered_first s sound))

found_brief : (s : State) (dir : Dir) (o : Option ℕ) → IsSoundState s → AllByRecursion IsBrief (seen_at_found s dir o)
found_brief s dir None sound = tt
found_brief s dir (Some k) sound = at_brief s k dir sound

link_brief : (s : State) (name : List ℕ) (dir : Dir) → IsSoundState s → AllByRecursion IsBrief (seen_at_link s name dir)
unfolding seen_at_link
link_brief s name dir sound = found_brief s dir (place_of name s.world.links) sound

-- ---- a command

pub seen_is_brief : SeenIsBrief
seen_is_brief s (command.Deliver name dir) sound = link_brief s name dir sound
seen_is_brief s (command.Round n) sound = rounds_brief n s sound
seen_is_brief s (command.Drain n) sound = drained_brief n s sound
seen_is_brief s (command.Vid vid ect) sound = tt
seen_is_brief s (command.Bridge name priority system source ports) sound = tt
seen_is_brief s (command.Link name a port_a b port_b cost) sound = tt
seen_is_brief s (command.Isid isid vid) sound = tt
seen_is_brief s (command.Attach name port isid mode) sound = tt
seen_is_brief s (command.Detach name port) sound = tt
seen_is_brief s (command.Metric name side m) sound = tt
seen_is_brief s (command.Down name) sound = tt
seen_is_brief s (command.Up name) sound = tt
seen_is_brief s (command.Restart name) sound = tt
seen_is_brief s (command.Tick name) sound = tt
seen_is_brief s (command.Lose name dir place) sound = tt
seen_is_brief s (command.Double name dir place) sound = tt
seen_is_brief s (command.Frame name port bytes) sound = tt
seen_is_brief s command.State sound = tt
seen_is_brief s (command.Show name) sound = tt
seen_is_brief s (command.Wiring name) sound = tt
seen_is_brief s (command.Db name) sound = tt
seen_is_brief s (command.Adj name) sound = tt
seen_is_brief s (command.Drops name) sound = tt
seen_is_brief s (command.Path from to vid) sound = tt
