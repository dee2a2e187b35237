-- What holds after each round of a network that was ready for it: nothing is lost, what is live lasts, all links come
-- up, and then each round is a steady one, in which bridges only tell each other what they hold.
use Rattle.std.specs.Prelude.{◌≡◌, ℕ, ◌+◌, ◌-◌, ◌*◌, ◌≤◌, ◌<◌, List, length, true, false, Some, slice_get}
use Rattle.std.specs.List.{AllByRecursion}
use Rattle.spb_types.specs.declared.address.LspId.{LspId}
use Rattle.spb_types.specs.declared.link.Dir.{Dir}
use Rattle.spb_tlvs.specs.RoundTrip.{IsNamed}
use Rattle.flooding.specs.Own.{last_number}
use Rattle.adjacency.specs.declared.port.Adjacency.{Adjacency}
use Rattle.adjacency.specs.declared.state.AdjState.TheVariants.{Up}
use Rattle.adjacency.specs.Hearing.{End}
use Rattle.bridge_api.specs.View.{BridgeView, adjacency_at, neighbour_at, is_up_at, is_csnp_due_at}
use Rattle.bridge_api.specs.Own.{body_at}
use Rattle.bridge_api.specs.Calm.{HasLifeLeft}
use Rattle.bridge_api.specs.Ticking.{readied}
use Rattle.bridge_api.specs.Step.{second, step, sent, frames_at}
use Rattle.bridge_rounds.specs.FlagLaws.{HasNoCsnp}
use Rattle.bridge_rounds.specs.Inbox.{Inbox, after_round, StaysUp, SaysTheSameOn, IsMail, HoldsWithin}
use Rattle.bridge_rounds.specs.Seconds.{IsCalmSecond}
use Rattle.spb_world.specs.declared.declaration.DeclaredLink.{DeclaredLink}
use Rattle.spb_world.specs.Links.{near_end, far_end}
use Rattle.network_model.specs.State.{State, links_of}
use Rattle.network_model.specs.Events.{all_ticked}
use Rattle.network_model.specs.Sound.{IsSoundState, end_at}
use Rattle.network_model.specs.Counted.{IsCountedBy}
use Rattle.network_model.specs.Quiet.{AreEmpty}
use Rattle.network_rounds.specs.Premises.{ids_held, different_ids, most_ids, is_ready}
use Rattle.network_rounds.specs.Rounds.{inbox, IsRoundOf, AreRounds}

-- ---- the start

-- a sound network that is ready for m rounds, with sequence numbers that have room for k rounds; and m isn't so great
-- that an LSP which is originated anew could run out
pub record IsReadyFor (m k : ℕ) (s : State) : Type 0 where
  pub sound : IsSoundState s
  pub allowance : ℕ
  pub counted : IsCountedBy allowance s
  pub room : allowance + 128 * k < last_number
  pub ready : is_ready m s ≡ true
  pub short : m ≤ 899

-- the ids that are held at the start
abbrev pub known_ids : State → List LspId
known_ids s = different_ids (ids_held s.views)

-- ---- nothing is lost

-- every bridge holds LSPs of these ids alone
abbrev pub HoldOnly : List LspId → State → Type 0
HoldOnly ids s = (i : ℕ) (v : BridgeView) → slice_get s.views i ≡ Some v → HoldsWithin ids v

-- what comes to the bridge at place i in the next round
abbrev pub inbox_of : State → ℕ → Inbox
inbox_of s i = inbox (links_of s) (all_ticked s).lanes i

-- in the next round each end of a link that is up gets all that the other end sends
abbrev pub HearAll : State → Type 0
HearAll s = (k : ℕ) (dir : Dir) (l : DeclaredLink) (v : BridgeView) → slice_get (links_of s) k ≡ Some l → l.live ≡ true
    → slice_get s.views (near_end dir l).bridge ≡ Some v
    → frames_at (far_end dir l).port (inbox_of s (far_end dir l).bridge)
    ≡ frames_at (near_end dir l).port (sent second v)

-- all lanes are empty, and in the next round nothing is lost
pub record LosesNothing (s : State) : Type 0 where
  pub empty : AreEmpty s
  pub hear : HearAll s

-- whatever was on its way at the start, no ids come to be held but those that were, and from the end of the first round
-- on nothing is lost
abbrev pub NothingIsLost : Type 0
NothingIsLost = (m k : ℕ) (s t : State) → IsReadyFor m k s → AreRounds k s t
    → HoldOnly (known_ids s) t × (length (known_ids s) ≤ most_ids) × (1 ≤ k → LosesNothing t)

-- ---- what is live lasts

-- at each bridge more than so many seconds are left of each live LSP, and 300 more of an own one
abbrev pub HaveLifeLeft : ℕ → State → Type 0
HaveLifeLeft m s = (i : ℕ) (v : BridgeView) → slice_get s.views i ≡ Some v → HasLifeLeft m v

-- so it is for as many rounds as the network was ready for: no LSP runs out, and none is originated anew for its age
abbrev pub LifetimesLast : Type 0
LifetimesLast = (m k : ℕ) (s t : State) → IsReadyFor m k s → k ≤ m → AreRounds k s t → HaveLifeLeft (m - k) t

-- ---- links come up

-- a port is Up with an end, which it keeps for three seconds
pub record IsKeptUp (v : BridgeView) (p : ℕ) (end : End) : Type 0 where
  pub adjacency : Adjacency
  pub there : adjacency_at v p ≡ Some adjacency
  pub up : adjacency.state ≡ Up
  pub hold : adjacency.hold ≡ 3
  pub neighbour : neighbour_at v p ≡ Some end

-- so is each end of a link that is up with the other end (RFC 5303, 3.2)
abbrev pub AreUp : State → Type 0
AreUp s = (k : ℕ) (dir : Dir) (l : DeclaredLink) (v w : BridgeView) → slice_get (links_of s) k ≡ Some l → l.live ≡ true
    → slice_get s.views (near_end dir l).bridge ≡ Some v → slice_get s.views (far_end dir l).bridge ≡ Some w
    → IsKeptUp v (near_end dir l).port (end_at w (far_end dir l).port)

-- CSNPs are due nowhere
abbrev pub HaveNoneDue : State → Type 0
HaveNoneDue s = (i : ℕ) (v : BridgeView) (p : ℕ) → slice_get s.views i ≡ Some v → is_csnp_due_at v p ≡ false

-- a network before a steady round: it is sound, no lane holds a frame and no bridge has spent its numbers; all bridges
-- together hold few ids; what is live lasts for so many seconds; and all links that are up are Up at both ends
pub record IsSteadyState (ids : List LspId) (m : ℕ) (s : State) : Type 0 where
  pub sound : IsSoundState s
  pub loses : LosesNothing s
  pub fresh : AllByRecursion (λ v. v.spent ≡ false) s.views
  pub few : length ids ≤ most_ids
  pub held : HoldOnly ids s
  pub lasts : HaveLifeLeft m s
  pub up : AreUp s

-- it is one after each number of rounds from 4 on for which it was ready, and from 5 on CSNPs are due nowhere
abbrev pub LinksComeUp : Type 0
LinksComeUp = (m k : ℕ) (s t : State) → IsReadyFor m k s → AreRounds k s t → 4 ≤ k → k ≤ m
    → IsSteadyState (known_ids s) (m - k) t × (5 ≤ k → HaveNoneDue t)

-- ---- a steady round

-- what it is for the bridge at place i: a second that changes lifetimes alone, and then mail of few ids, by which it
-- comes to have nothing else to say
pub record IsSteadyFor (ids : List LspId) (s t : State) (i : ℕ) (v : BridgeView) : Type 0 where
  pub after : slice_get t.views i ≡ Some (after_round (inbox_of s i) v)
  pub calm : IsCalmSecond v
  pub within : HoldsWithin ids (step second v)
  pub mail : IsMail ids (step second v) (inbox_of s i)
  pub says : SaysTheSameOn (inbox_of s i) (step second v)
  pub bodies : (number : ℕ) → body_at (after_round (inbox_of s i) v) number ≡ body_at v number

-- and over a direction of a link that is up, from v to w: both ends are Up with each other throughout, v can name w in
-- its hello, and w gets no CSNP where none are due at v
pub record IsSteadyOver (s : State) (dir : Dir) (l : DeclaredLink) (v w : BridgeView) : Type 0 where
  pub sends : is_up_at (readied v) (near_end dir l).port ≡ true
  pub named : IsNamed (neighbour_at (step second v) (near_end dir l).port)
  pub hears : StaysUp (far_end dir l).port (end_at v (near_end dir l).port) (inbox_of s (far_end dir l).bridge)
      (step second w)
  pub summaries : is_csnp_due_at v (near_end dir l).port ≡ false
      → HasNoCsnp (far_end dir l).port (inbox_of s (far_end dir l).bridge)

pub record IsSteadyRound (ids : List LspId) (s t : State) : Type 0 where
  pub bridges : (i : ℕ) (v : BridgeView) → slice_get s.views i ≡ Some v → IsSteadyFor ids s t i v
  pub links : (k : ℕ) (dir : Dir) (l : DeclaredLink) (v w : BridgeView) → slice_get (links_of s) k ≡ Some l
      → l.live ≡ true → slice_get s.views (near_end dir l).bridge ≡ Some v
      → slice_get s.views (far_end dir l).bridge ≡ Some w → IsSteadyOver s dir l v w

-- each round from such a state on in which some time is left is steady
abbrev pub RoundsAreSteady : Type 0
RoundsAreSteady = (ids : List LspId) (m : ℕ) (s t : State) → IsSteadyState ids m s → 1 ≤ m → IsRoundOf s t
    → IsSteadyRound ids s t
