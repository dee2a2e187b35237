-- A network that was ready is quiet after 2d + 6 rounds: between bridges that agree, the last three of them leave no
-- flag.
use Rattle.std.proofs.Common.{◌≡◌, ◌≢◌, ℕ, zero, suc, ◌+◌, ◌-◌, ◌*◌, ◌≤◌, Bool, true, false, true≢false, List, [], ◌∷◌, length, refl, sym, ap, ◌∙◌, subst, Option, Some, slice_get, arith}
use Rattle.std.specs.Option.{option_map_or}
use Rattle.spb_types.specs.declared.address.LspId.{LspId}
use Rattle.spb_types.specs.declared.link.Dir.{Dir}
use Rattle.spb_types.specs.declared.link.Dir.TheVariants.{Ab, Ba}
use Rattle.lsdb.specs.declared.version.Version.TheVariants.{Absent}
use Rattle.lsdb.specs.Version.{IsAtMost}
use Rattle.lsdb.specs.Database.{version_at}
use Rattle.lsdb.proofs.Order.{itself}
use Rattle.bridge_api.specs.View.{BridgeView, is_up_at, has_carrier_at}
use Rattle.bridge_api.specs.Step.{second}
use Rattle.bridge_api.specs.Laws.{IsSoundView}
use Rattle.bridge_api.proofs.Sound.{steps_stay_sound}
use Rattle.bridge_rounds.specs.LinkFrames.{ComesOver}
use Rattle.bridge_rounds.proofs.FlagSteps.{IsUpPort, up_port}
use Rattle.spb_world.specs.declared.declaration.DeclaredLink.{DeclaredLink}
use Rattle.spb_world.specs.World.{World, things_of}
use Rattle.spb_world.specs.Links.{near_end, far_end}
use Rattle.spb_world.proofs.BoxLemmas.{All-get}
use Rattle.network_model.specs.State.{State, links_of}
use Rattle.network_model.specs.Sound.{IsSoundState, end_at, ends_live_link}
use Rattle.network_model.specs.Counted.{IsCountedBy}
use Rattle.network_model.specs.Quiet.{IsQuiet, IsCalm, IsUpTowards, HaveMet}
use Rattle.network_model.specs.Truth.{AreLinked, IsWalk, AreJoined}
use Rattle.network_model.proofs.FitsLemmas.{link_there}
use Rattle.network_model.proofs.Linked.{far_view}
use Rattle.network_model.proofs.QuietLaws.{quiet_says}
use Rattle.network_model.proofs.SoundLaws.{without_carrier}
use Rattle.network_rounds.specs.Rounds.{IsHeardRound, IsRoundOf, AreRounds}
use Rattle.network_rounds.specs.Near.{AreNear}
use Rattle.network_rounds.specs.Steady.{IsReadyFor, known_ids, inbox_of, HaveNoneDue, IsSteadyState, IsSteadyFor, IsSteadyOver, IsSteadyRound}
use Rattle.network_rounds.specs.Agreement.{IsReached, OriginsAreAhead, BridgesAgree}
use Rattle.network_rounds.specs.Flags.{NeighboursAgree, NeighboursAreBehind, AllHearOfFew, VersionsStand, IsWholeRound, FallSilent, FlagsFall}
use Rattle.network_rounds.specs.SettlingLaws.{RoundsSettle}
use Rattle.network_rounds.proofs.Agreed.{world_on, origins_are_ahead, bridges_agree}
use Rattle.network_rounds.proofs.Along.{AreSame, rounds_have_last, rounds_stay_counted, round_same}
use Rattle.network_rounds.proofs.Chain.{linked_back}
use Rattle.network_rounds.proofs.Facts.{held_at, kept_up}
use Rattle.network_rounds.proofs.FactsStand.{stands}
use Rattle.network_rounds.proofs.Flagged.{is_port}
use Rattle.network_rounds.proofs.Passing.{Passes, near_view, heard_round, passes_all, starts_passing, second_only, mail_of}
use Rattle.network_rounds.proofs.Start.{starts_few}
use Rattle.network_rounds.proofs.SteadyRounds.{links_come_up, rounds_are_steady}

-- ---- the last round

same_of : (s t : State) → AreRounds zero s t → AreSame s t
same_of s t are = record { world = are.0; views = are.1; lanes = are.2 }

is_round : (s t : State) → AreRounds 1 s t → IsRoundOf s t
is_round s t are = round_same s are.0 t are.1 (same_of are.0 t are.2)

-- the state before it
record IsReachedBy (d m k : ℕ) (s t : State) : Type 0 where
  before : State
  reached : IsReached d m k s before
  round : IsRoundOf before t

fewer : (m k j : ℕ) (s : State) → j ≤ k → IsReadyFor m k s → IsReadyFor m j s
fewer m k j s le is = record { sound = is.sound; allowance = is.allowance; counted = is.counted; room = omega (arith, is.room, le); ready = is.ready; short = is.short }

last_of : (d m k : ℕ) (s t : State) → IsReached d m (suc k) s t → IsReachedBy d m k s t
last_of d m k s t is =
    let last = rounds_have_last k s t is.rounds in
    record {
      before = last.0;
      reached = record { ready = fewer m (suc k) k s (omega arith) is.ready; near = is.near; rounds = last.1; within = omega (arith, is.within) };
      round = is_round last.0 t last.2;
    }

-- ---- links

link_of : (s : State) (k : ℕ) (dir : Dir) (l : DeclaredLink) → slice_get (links_of s) k ≡ Some l → l.live ≡ true → AreLinked (links_of s) (near_end dir l).bridge (far_end dir l).bridge
link_of s k dir l at live = record { place = k; dir = dir; link = l; there = at; live = live; near = refl; far = refl }

apart_ends : (dir : Dir) (l : DeclaredLink) → l.a.bridge ≢ l.b.bridge → (near_end dir l).bridge ≢ (far_end dir l).bridge
apart_ends Ab l apart = apart
apart_ends Ba l apart = λ same. apart (sym same)

far_walk : (links : List DeclaredLink) (i j : ℕ) (js : List ℕ) → i ≢ j → IsWalk links i js j → 1 ≤ length js
far_walk links i j [] apart walk = absurd (apart walk)
far_walk links i j (x ∷ js) apart walk = omega arith

-- where a link is up, some bridges are a link apart
one_apart : (d : ℕ) (s : State) (k : ℕ) (dir : Dir) (l : DeclaredLink) → IsSoundState s → AreNear d s → slice_get (links_of s) k ≡ Some l → l.live ≡ true → 1 ≤ d
one_apart d s k dir l sound near at live =
    let i = (near_end dir l).bridge in
    let j = (far_end dir l).bridge in
    let walk = near i j (j ∷ []) (link_of s k dir l at live, refl) in
    let long : 1 ≤ length walk.0 = far_walk (links_of s) i j walk.0 (apart_ends dir l (link_there s k l sound.world at).apart) walk.1 in
    omega (arith, long, walk.2)

joined : (s : State) (i j : ℕ) (v w : BridgeView) → AreLinked (links_of s) i j → slice_get s.views i ≡ Some v → slice_get s.views j ≡ Some w → AreJoined s v w
joined s i j v w link here there = record { from = i; to = j; here = here; there = there; walk = j ∷ []; leads = (link, refl) }

-- ---- what holds after each round

origins_ahead : OriginsAreAhead
origins_ahead = origins_are_ahead links_come_up rounds_are_steady

agreed : BridgesAgree
agreed = bridges_agree links_come_up rounds_are_steady

-- ---- one round

module _ (d m k : ℕ) (s u : State) (is : IsReached d m k s u) where
  abbrev ids : List LspId
  ids = known_ids s

  passes : Passes ids u
  passes = (passes_all ids k s u is.rounds (starts_passing m k s is.ready)).0

  sound : IsSoundState u
  sound = passes.sound

  -- a link that is up is one at the start
  apart_there : (place : ℕ) (dir : Dir) (l : DeclaredLink) → slice_get (links_of u) place ≡ Some l → l.live ≡ true → 1 ≤ d
  apart_there place dir l at live =
      let world : u.world ≡ s.world = world_on ids k s u is.rounds (starts_passing m k s is.ready) in
      one_apart d s place dir l is.ready.sound is.near (ap (λ (w : World). slice_get (things_of w.links) place) (sym world) ∙ at) live

  behind : 4 + d ≤ k → NeighboursAreBehind u
  behind low place dir l v w at live near far id system =
      let i = (near_end dir l).bridge in
      let j = (far_end dir l).bridge in
      origins_ahead d m k s u w v id is low (joined u j i w v (linked_back (links_of u) i j (link_of u place dir l at live)) far near) system

  agree : 4 + 2 * d ≤ k → NeighboursAgree u
  agree low place dir l v w at live near far id =
      let i = (near_end dir l).bridge in
      let j = (far_end dir l).bridge in
      agreed d m k s u v w id is low (joined u i j v w (link_of u place dir l at live) near far)

  module _ (t : State) (round : IsRoundOf u t) where
    heard : IsHeardRound u t
    heard = heard_round u t sound passes.plain round

    few : AllHearOfFew u
    few i v at = record {
      ids = ids;
      few = starts_few m s is.ready.ready;
      within = second_only u sound ids passes.plain passes.only i v at;
      mail = mail_of u sound ids passes.plain passes.only i v at;
    }

    module _ (low : 4 ≤ k) (more : suc k ≤ m) where
      state : IsSteadyState ids (m - k) u
      state = (links_come_up m k s u is.ready is.rounds low is.within).0

      calm_round : IsSteadyRound ids u t
      calm_round = rounds_are_steady ids (m - k) u t state (omega (arith, more)) round

      comes : 5 ≤ k → (place : ℕ) (dir : Dir) (l : DeclaredLink) (v w : BridgeView) → slice_get (links_of u) place ≡ Some l → l.live ≡ true → slice_get u.views (near_end dir l).bridge ≡ Some v → slice_get u.views (far_end dir l).bridge ≡ Some w
          → ComesOver v (near_end dir l).port w (far_end dir l).port (inbox_of u (far_end dir l).bridge)
      comes late place dir l v w at live near far =
          let i = (near_end dir l).bridge in
          let j = (far_end dir l).bridge in
          let q = (near_end dir l).port in
          let over : IsSteadyOver u dir l v w = calm_round.links place dir l v w at live near far in
          let here : IsSteadyFor ids u t i v = calm_round.bridges i v near in
          let there : IsSteadyFor ids u t j w = calm_round.bridges j w far in
          let sender : IsSoundView v = All-get IsSoundView u.views i v sound.views near in
          let receiver : IsSoundView w = All-get IsSoundView u.views j w sound.views far in
          let undue : HaveNoneDue u = (links_come_up m k s u is.ready is.rounds low is.within).1 late in
          record {
            sender = sender;
            named = over.named;
            up = kept_up v q _ (state.up place dir l v w at live near far);
            calm = here.calm;
            receiver = receiver;
            calm_there = there.calm;
            neighbour = end_at v q;
            hears = record { sound = steps_stay_sound second w tt receiver; up = over.hears; says = there.says };
            frames = state.loses.hear place dir l v at live near;
            no_csnp = over.summaries (undue i v q near);
          }

      counted : IsCountedBy (is.ready.allowance + 128 * k) u
      counted = rounds_stay_counted k is.ready.allowance s u is.rounds is.ready.sound is.ready.counted is.ready.room

      stand : 4 + 2 * d ≤ k → VersionsStand u t
      stand late i v w id at at_next =
          let held : held_at u i id ≡ version_at v.database id = ap (λ (o : Option BridgeView). option_map_or (λ v. version_at v.database id) o Absent) at in
          sym (ap (λ (o : Option BridgeView). option_map_or (λ v. version_at v.database id) o Absent) at_next)
          ∙ (stands ids (m - k) (is.ready.allowance + 128 * k) u t (record { state = state; round = calm_round; heard = heard; counted = counted }) i id
          (λ j link. beside j link held)
          ∙ held)
        where
          beside : (j : ℕ) → AreLinked (links_of u) j i → held_at u i id ≡ version_at v.database id → IsAtMost (held_at u j id) (held_at u i id)
          beside j link held =
              let near = near_view u link.place link.dir link.link sound link.there in
              let there : slice_get u.views j ≡ Some near.0 = ap (slice_get u.views) (sym link.near) ∙ near.1 in
              let held_there : held_at u j id ≡ version_at near.0.database id = ap (λ (o : Option BridgeView). option_map_or (λ v. version_at v.database id) o Absent) there in
              let same : version_at near.0.database id ≡ version_at v.database id = agreed d m k s u near.0 v id is late (joined u j i near.0 v link there at) in
              subst (IsAtMost (held_at u j id)) (held_there ∙ (same ∙ sym held)) (itself (held_at u j id))

    whole : 3 + 2 * d ≤ k → suc k ≤ m → IsWholeRound u t
    whole low more = record {
      sound = sound;
      heard = heard;
      comes = λ place dir l v w at live near far.
          let one : 1 ≤ d = apart_there place dir l at live in
          comes (omega (arith, low, one)) more (omega (arith, low, one)) place dir l v w at live near far;
    }

  -- ---- quiet

  module _ (low : 4 ≤ k) where
    settled_state : IsSteadyState ids (m - k) u
    settled_state = (links_come_up m k s u is.ready is.rounds low is.within).0

    only_linked : (i : ℕ) (v : BridgeView) (p : ℕ) → slice_get u.views i ≡ Some v → is_up_at v p ≡ true → ends_live_link (links_of u) i p ≡ true
    only_linked i v p at on = by (ends_live_link (links_of u) i p) refl
      where
        by : (b : Bool) → ends_live_link (links_of u) i p ≡ b → ends_live_link (links_of u) i p ≡ true
        by true e = e
        by false e =
            let view : IsSoundView v = All-get IsSoundView u.views i v sound.views at in
            let port : IsUpPort v p = up_port v p on in
            let off : has_carrier_at v p ≡ false = sound.carriers i v p at (is_port v p port.port port.there) ∙ e in
            absurd (true≢false (sym on ∙ (without_carrier v p view off).1))

    towards : (place : ℕ) (dir : Dir) (l : DeclaredLink) → slice_get (links_of u) place ≡ Some l → l.live ≡ true → IsUpTowards u.views (near_end dir l) (far_end dir l)
    towards place dir l at live =
        let near = near_view u place dir l sound at in
        let far = far_view u place dir l sound at in
        let kept = settled_state.up place dir l near.0 far.0 at live near.1 far.1 in
        record { v = near.0; w = far.0; here = near.1; there = far.1; up = kept_up near.0 (near_end dir l).port _ kept; neighbour = kept.neighbour }

    met : HaveMet u
    met = record { met = towards; others = only_linked }

-- ---- three rounds

module _ (fall : FlagsFall) where
  last_three : (d m k : ℕ) (s t : State) → IsReached d m (suc (suc (suc k))) s t → 3 + 2 * d ≤ k → IsQuiet t
  last_three d m k s t is low =
      let one = last_of d m (suc (suc k)) s t is in
      let two = last_of d m (suc k) s one.before one.reached in
      let three = last_of d m k s two.before two.reached in
      let all : suc (suc (suc k)) ≤ m = is.within in
      let late : 4 ≤ suc (suc (suc k)) = omega (arith, low) in
      let undue : HaveNoneDue t = (links_come_up m (suc (suc (suc k))) s t is.ready is.rounds late all).1 (omega (arith, low)) in
      let silent : FallSilent three.before two.before one.before t = record {
        first = whole d m k s three.before three.reached two.before three.round low (omega (arith, all));
        next = whole d m (suc k) s two.before two.reached one.before two.round (omega (arith, low)) (omega (arith, all));
        last = whole d m (suc (suc k)) s one.before one.reached t one.round (omega (arith, low)) all;
        sound = sound d m (suc (suc (suc k))) s t is;
        few = few d m k s three.before three.reached two.before three.round;
        behind = λ place dir l v w at live near far id system.
            let some : 1 ≤ d = apart_there d m k s three.before three.reached place dir l at live in
            behind d m k s three.before three.reached (omega (arith, low, some)) place dir l v w at live near far id system;
        agree = agree d m (suc k) s two.before two.reached (omega (arith, low));
        stand = stand d m (suc k) s two.before two.reached one.before two.round (omega (arith, low)) (omega (arith, all)) (omega (arith, low));
        stand_still = stand d m (suc (suc k)) s one.before one.reached t one.round (omega (arith, low)) all (omega (arith, low));
        undue = undue;
      } in
      let state = settled_state d m (suc (suc (suc k))) s t is late in
      let calm : IsCalm t = record { met = met d m (suc (suc (suc k))) s t is late; empty = state.loses.empty; flags = fall three.before two.before one.before t silent } in
      (quiet_says t).quiet.1 calm

  pub rounds_settle : RoundsSettle
  rounds_settle d m k s t is low =
      let three : k ≡ suc (suc (suc (k - 3))) = omega (arith, low) in
      last_three d m (k - 3) s t (subst (λ (n : ℕ). IsReached d m n s t) three is) (omega (arith, low))
