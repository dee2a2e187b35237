-- What the versions that bridges hold do in a steady round: six facts, each proved in a file of its own; and what they
-- all rest on.
use Rattle.std.proofs.Common.{◌≡◌, ◌⊎◌, inl, inr, ℕ, Bool, true, false, List, [], refl, sym, ap, ◌∙◌, subst, Option, Some, None, slice_get, arith}
use Rattle.std.specs.Prelude.{if◌then◌else◌}
use Rattle.std.specs.Option.{option_map, option_map_or}
use Rattle.std.proofs.lemmas.Option.{same_Some}
use Rattle.spb_types.specs.declared.address.LspId.{LspId}
use Rattle.spb_types.specs.declared.link.Dir.{Dir}
use Rattle.spb_tlvs.specs.RoundTrip.{IsNamed}
use Rattle.link_model.specs.Lane.{Frame, IsIn}
use Rattle.link_model.specs.Lanes.{lane_of}
use Rattle.lsdb.specs.declared.version.Version.{Version}
use Rattle.lsdb.specs.declared.version.Version.TheVariants.{Absent}
use Rattle.lsdb.specs.Version.{IsAtMost}
use Rattle.lsdb.specs.Database.{version_in, version_at}
use Rattle.adjacency.specs.declared.port.Adjacency.{Adjacency}
use Rattle.adjacency.specs.declared.state.AdjState.TheVariants.{Up}
use Rattle.adjacency.specs.Adjacency.{is_up}
use Rattle.adjacency.specs.Hearing.{End}
use Rattle.bridge_api.specs.declared.port.BridgePort.{BridgePort}
use Rattle.bridge_api.specs.View.{BridgeView, port_at, adjacency_at, neighbour_at, is_up_in, is_up_at}
use Rattle.bridge_api.specs.Step.{second, step, sent, frames_at}
use Rattle.bridge_api.specs.Laws.{IsSoundView, IsSent, IsHeldAt}
use Rattle.bridge_rounds.specs.Inbox.{heard_all, after_round}
use Rattle.bridge_rounds.specs.Versions.{IsClaimedIn}
use Rattle.bridge_rounds.proofs.Folds.{Claims, claim_comes}
use Rattle.bridge_rounds.proofs.LinkFrames.{calm_stands}
use Rattle.spb_world.specs.declared.declaration.DeclaredBridge.{DeclaredBridge}
use Rattle.spb_world.specs.declared.declaration.DeclaredLink.{DeclaredLink}
use Rattle.spb_world.specs.World.{World, things_of}
use Rattle.spb_world.specs.Links.{near_end, far_end}
use Rattle.spb_world.proofs.BoxLemmas.{All-get}
use Rattle.network_model.specs.State.{State, links_of}
use Rattle.network_model.specs.Events.{all_ticked}
use Rattle.network_model.specs.DeliveryLaws.{pushed_all}
use Rattle.network_model.specs.Counted.{IsCountedBy}
use Rattle.network_model.specs.Truth.{AreLinked}
use Rattle.network_model.proofs.BridgeLaws.{sent_is_sound}
use Rattle.network_model.proofs.FitsLemmas.{far_is_port}
use Rattle.network_model.proofs.SoundLane.{named}
use Rattle.network_rounds.specs.Rounds.{IsHeardRound}
use Rattle.network_rounds.specs.Steady.{inbox_of, IsKeptUp, IsSteadyState, IsSteadyRound}
use Rattle.network_rounds.proofs.Coming.{ComesOver, each_comes, of_each, in_ticked}
use Rattle.network_rounds.proofs.Lanes.{lane_ticked}
use Rattle.network_rounds.proofs.Passing.{near_view}

-- ---- the facts

-- the version that is held at a place under an id; where there is no bridge, none is
abbrev pub held_at : State → ℕ → LspId → Version
held_at s i id = option_map_or (λ v. version_at v.database id) (slice_get s.views i) Absent

-- the bridge that is declared at a place originates an id
pub record IsOriginAt (w : World) (i : ℕ) (id : LspId) : Type 0 where
  pub bridge : DeclaredBridge
  pub there : slice_get (things_of w.bridges) i ≡ Some bridge
  pub system : id.system ≡ bridge.bridge.id.system

-- a version is held at a place that a link which is up joins with this one
pub record IsHeldBeside (s : State) (i : ℕ) (id : LspId) (a : Version) : Type 0 where
  pub place : ℕ
  pub link : AreLinked (links_of s) place i
  pub is : a ≡ held_at s place id

-- no version falls; what is held at one end of a link is at most what is held at the other afterwards; a version that
-- comes was held beside, or is of an own id; and where none beside is ahead, nothing changes
pub record HasFacts (s t : State) : Type 0 where
  pub rises : (i : ℕ) (id : LspId) → IsAtMost (held_at s i id) (held_at t i id)
  pub pushes : (i j : ℕ) (id : LspId) → AreLinked (links_of s) i j → IsAtMost (held_at s i id) (held_at t j id)
  pub comes : (i : ℕ) (id : LspId) → (held_at t i id ≡ held_at s i id) ⊎ (IsHeldBeside s i id (held_at t i id) ⊎ IsOriginAt s.world i id)
  pub stands : (i : ℕ) (id : LspId) → ((j : ℕ) → AreLinked (links_of s) j i → IsAtMost (held_at s j id) (held_at s i id)) → held_at t i id ≡ held_at s i id

-- a steady round, from a state whose sequence numbers are within an allowance
pub record IsSteadyStep (ids : List LspId) (m allowance : ℕ) (s t : State) : Type 0 where
  pub state : IsSteadyState ids m s
  pub round : IsSteadyRound ids s t
  pub heard : IsHeardRound s t
  pub counted : IsCountedBy allowance s

-- ---- a port that is Up

kept_up_in : (o : Option BridgePort) (a : Adjacency) → option_map (λ port. port.adjacency) o ≡ Some a → a.state ≡ Up → is_up_in o ≡ true
kept_up_in None a at up = absurd cc
kept_up_in (Some port) a at up = ap (λ (x : Adjacency). is_up x.state) (same_Some port.adjacency a at) ∙ ap is_up up

pub kept_up : (v : BridgeView) (p : ℕ) (end : End) → IsKeptUp v p end → is_up_at v p ≡ true
unfolding is_up_at adjacency_at
kept_up v p end is = kept_up_in (port_at v p) is.adjacency is.there is.up

-- ---- what a bridge holds under an id

version_held : (w : BridgeView) (id : LspId) (a : Version) → IsHeldAt w id a → a ≡ version_at w.database id
version_held w id a held = held.2 ∙ ap version_in (sym held.1)

module _ (ids : List LspId) (m allowance : ℕ) (s t : State) (one : IsSteadyStep ids m allowance s t) where
  -- ---- before and after

  pub sound_at : (i : ℕ) (v : BridgeView) → slice_get s.views i ≡ Some v → IsSoundView v
  sound_at i v at = All-get IsSoundView s.views i v one.state.sound.views at

  pub held_before : (i : ℕ) (v : BridgeView) (id : LspId) → slice_get s.views i ≡ Some v → held_at s i id ≡ version_at v.database id
  held_before i v id at = ap (λ (o : Option BridgeView). option_map_or (λ v. version_at v.database id) o Absent) at

  pub held_second : (i : ℕ) (v : BridgeView) (id : LspId) → slice_get s.views i ≡ Some v → version_at (step second v).database id ≡ held_at s i id
  held_second i v id at = (calm_stands v id (sound_at i v at) (one.round.bridges i v at).calm).version ∙ sym (held_before i v id at)

  pub held_after : (i : ℕ) (v : BridgeView) (id : LspId) → slice_get s.views i ≡ Some v → held_at t i id ≡ version_at (heard_all (inbox_of s i) (step second v)).database id
  held_after i v id at = ap (λ (o : Option BridgeView). option_map_or (λ v. version_at v.database id) o Absent) (one.round.bridges i v at).after

  -- where there is no bridge
  pub none_before : (i : ℕ) (id : LspId) → slice_get s.views i ≡ None → held_at s i id ≡ Absent
  none_before i id at = ap (λ (o : Option BridgeView). option_map_or (λ v. version_at v.database id) o Absent) at

  pub none_after : (i : ℕ) (id : LspId) → slice_get s.views i ≡ None → held_at t i id ≡ Absent
  none_after i id at = ap (λ (o : Option BridgeView). option_map_or (λ v. version_at v.database id) o Absent) (one.heard.views i ∙ ap (option_map (after_round (inbox_of s i))) at)

  -- ---- what comes over a link

  pub sender_named : (k : ℕ) (dir : Dir) (l : DeclaredLink) (u w : BridgeView) → slice_get (links_of s) k ≡ Some l → l.live ≡ true → slice_get s.views (near_end dir l).bridge ≡ Some u → slice_get s.views (far_end dir l).bridge ≡ Some w
      → IsNamed (neighbour_at (step second u) (near_end dir l).port)
  sender_named k dir l u w there live at_u at_w =
      let q : ℕ = (near_end dir l).port in
      let up : is_up_at u q ≡ true = kept_up u q _ (one.state.up k dir l u w there live at_u at_w) in
      let port = far_is_port s k l dir one.state.sound.world one.state.sound.fits there w at_w in
      let sound : IsSoundView w = sound_at (far_end dir l).bridge w at_w in
      named (neighbour_at (step second u) q) w (far_end dir l).port sound (omega (arith, port.high, sound.few))
      (λ n kept. (one.state.sound.agree k dir l u w there at_u at_w).keeps n (sym ((one.round.bridges (near_end dir l).bridge u at_u).calm.neighbours q up) ∙ kept))

  live_there : (k : ℕ) (dir : Dir) (l : DeclaredLink) (u : BridgeView) (f : Frame) → slice_get (links_of s) k ≡ Some l → slice_get s.views (near_end dir l).bridge ≡ Some u → IsIn f (lane_of (all_ticked s).lanes k dir) → l.live ≡ true
  live_there k dir l u f there at among = by l.live refl
    where
      by : (b : Bool) → l.live ≡ b → l.live ≡ true
      by true e = e
      by false e =
          let fs : List Frame = frames_at (near_end dir l).port (sent second u) in
          absurd (subst (IsIn f) (lane_ticked s k dir l u one.state.sound there at ∙ (λ j. pushed_all (one.state.loses.empty k dir j) (if e j then fs else []))) among)

  sent_there : (k : ℕ) (dir : Dir) (l : DeclaredLink) (u : BridgeView) (f : Frame) → slice_get (links_of s) k ≡ Some l → slice_get s.views (near_end dir l).bridge ≡ Some u → IsIn f (lane_of (all_ticked s).lanes k dir) → IsSent (sent second u) (near_end dir l).port f
  sent_there k dir l u f there at among =
      elim (in_ticked s k dir l u f one.state.sound there at among) [
        | inl old ↦ absurd (subst (IsIn f) (one.state.loses.empty k dir) old)
        | inr new ↦ new
      ]

  -- what is claimed is what a bridge beside holds
  pub claim_is_held : (i : ℕ) (v : BridgeView) (id : LspId) (a : Version) → slice_get s.views i ≡ Some v → IsClaimedIn (inbox_of s i) id a → IsHeldBeside s i id a
  claim_is_held i v id a at claimed =
      let p : ℕ = claimed.0 in
      let found : Claims (inbox_of s i) p id a = claim_comes (inbox_of s i) p id a claimed.1 in
      let c : ComesOver (links_of s) (all_ticked s).lanes i (p, found.bytes) = of_each (ComesOver (links_of s) (all_ticked s).lanes i) (inbox_of s i) p found.bytes (each_comes (links_of s) (all_ticked s).lanes i) found.sent in
      let near = near_view s c.place c.dir c.link one.state.sound c.there in
      let u : BridgeView = near.0 in
      let place : ℕ = (near_end c.dir c.link).bridge in
      let live : c.link.live ≡ true = live_there c.place c.dir c.link u found.bytes c.there near.1 c.among in
      let can = sender_named c.place c.dir c.link u v c.there live near.1 (ap (slice_get s.views) c.bridge ∙ at) in
      let was : IsSent (sent second u) (near_end c.dir c.link).port found.bytes = sent_there c.place c.dir c.link u found.bytes c.there near.1 c.among in
      let held : IsHeldAt (step second u) id a = (sent_is_sound second u (near_end c.dir c.link).port found.bytes tt (sound_at place u near.1) can was).claims id a found.claimed in
      record {
        place = place;
        link = record { place = c.place; dir = c.dir; link = c.link; there = c.there; live = live; near = refl; far = c.bridge };
        is = version_held (step second u) id a held ∙ held_second place u id near.1;
      }
