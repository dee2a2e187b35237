-- Rounds of a network in which no customer's frame is on its way: what comes to each bridge in a round.
use Rattle.std.specs.Prelude.{◌≡◌, ℕ, zero, suc, ◌+◌, ◌≤◌, List, [], ◌++◌, length, map, true, false, ◌==◌, Option, Some, None, slice_get, if◌then◌else◌}
use Rattle.std.specs.List.{AllByRecursion}
use Rattle.std.specs.Option.{option_map}
use Rattle.spb_types.specs.declared.limits.TheConstants.{MOST_FRAMES}
use Rattle.spb_types.specs.declared.link.Dir.{Dir}
use Rattle.spb_types.specs.declared.link.Dir.TheVariants.{Ab, Ba}
use Rattle.link_model.specs.declared.lanes.LinkLanes.{LinkLanes}
use Rattle.link_model.specs.Lane.{Frame}
use Rattle.link_model.specs.Lanes.{lane_of}
use Rattle.bridge_api.specs.View.{BridgeView}
use Rattle.bridge_api.specs.Parsing.{parsed, is_carrying}
use Rattle.bridge_api.specs.Step.{second, sent, frames_at}
use Rattle.bridge_rounds.specs.Inbox.{Inbox, after_round}
use Rattle.spb_world.specs.declared.declaration.DeclaredLink.{DeclaredLink}
use Rattle.spb_world.specs.Links.{near_end, far_end}
use Rattle.network_model.specs.State.{State, links_of, lane_at}
use Rattle.network_model.specs.Events.{all_ticked, one_round}
use Rattle.network_model.specs.Sound.{IsSoundState}

-- the frames that come to the bridge at place i in a direction of a link, each with the port at which it comes
abbrev pub coming : Dir → DeclaredLink → List Frame → ℕ → Inbox
coming dir l frames i = if (far_end dir l).bridge == i then map (λ f. ((far_end dir l).port, f)) frames else []

-- over a link, ab before ba
abbrev pub coming_over : Option DeclaredLink → List LinkLanes → ℕ → ℕ → Inbox
coming_over None lanes k i = []
coming_over (Some l) lanes k i = coming Ab l (lane_of lanes k Ab) i ++ coming Ba l (lane_of lanes k Ba) i

-- over so many links, from place k on
abbrev pub inbox_from : ℕ → ℕ → List DeclaredLink → List LinkLanes → ℕ → Inbox
inbox_from zero k links lanes i = []
inbox_from (suc m) k links lanes i = coming_over (slice_get links k) lanes k i ++ inbox_from m (k + 1) links lanes i

-- over all links, in order
abbrev pub inbox : List DeclaredLink → List LinkLanes → ℕ → Inbox
inbox links lanes i = inbox_from (length lanes) 0 links lanes i

-- no frame on its way carries a customer's
abbrev pub HasNoCustomers : List LinkLanes → Type 0
HasNoCustomers lanes = (k : ℕ) (dir : Dir)
    → AllByRecursion (λ bytes. is_carrying (parsed bytes) ≡ false) (lane_of lanes k dir)

-- after a round of such a network all lanes are empty, and each bridge is what a second, and then what comes to it,
-- make of it
pub record IsHeardRound (s t : State) : Type 0 where
  pub world : t.world ≡ s.world
  pub lanes : (k : ℕ) (dir : Dir) → lane_at t k dir ≡ []
  pub views : (i : ℕ) → slice_get t.views i
      ≡ option_map (after_round (inbox (links_of s) (all_ticked s).lanes i)) (slice_get s.views i)

abbrev pub RoundsAreHeard : Type 0
RoundsAreHeard = (s : State) → IsSoundState s → HasNoCustomers s.lanes → IsHeardRound s (one_round s)

-- at a port comes what is on its way over the link there, and nothing else
abbrev pub InboxAtPort : Type 0
InboxAtPort = (s : State) (lanes : List LinkLanes) (k : ℕ) (dir : Dir) (l : DeclaredLink) → IsSoundState s
    → length s.lanes ≡ length lanes → slice_get (links_of s) k ≡ Some l
    → frames_at (far_end dir l).port (inbox (links_of s) lanes (far_end dir l).bridge) ≡ lane_of lanes k dir

-- where all lanes were empty and no bridge sends more at a port than a lane has room for, a lane holds what is sent
abbrev pub LanesHoldWhatIsSent : Type 0
LanesHoldWhatIsSent = (s : State) (k : ℕ) (dir : Dir) (l : DeclaredLink) (v : BridgeView) → IsSoundState s
    → ((j : ℕ) (e : Dir) → lane_at s j e ≡ []) → slice_get (links_of s) k ≡ Some l → l.live ≡ true
    → slice_get s.views (near_end dir l).bridge ≡ Some v
    → length (frames_at (near_end dir l).port (sent second v)) ≤ MOST_FRAMES
    → lane_at (all_ticked s) k dir ≡ frames_at (near_end dir l).port (sent second v)

-- a round, whatever else of the state was counted
pub record IsRoundOf (s t : State) : Type 0 where
  pub world : t.world ≡ (one_round s).world
  pub views : t.views ≡ (one_round s).views
  pub lanes : t.lanes ≡ (one_round s).lanes

-- so many of them, one after another
abbrev pub AreRounds : ℕ → State → State → Type 0
AreRounds zero s t = (t.world ≡ s.world) × (t.views ≡ s.views) × (t.lanes ≡ s.lanes)
AreRounds (suc m) s t = (u : State) × IsRoundOf s u × AreRounds m u t
