-- What follows of a network whose numbers are within what is allowed.
use Rattle.std.proofs.Common.{◌≡◌, ◌≤◌, ◌<◌, ◌*◌, ℕ, false, not, length, refl, sym, ap, subst, Option, Some, None, slice_get, arith}
use Rattle.std.specs.FinMap.{get, entries, entries_sorted, len-entries}
use Rattle.spb_types.specs.declared.address.LspId.{LspId}
use Rattle.spb_types.specs.declared.link.Dir.{Dir}
use Rattle.link_model.specs.Lane.{Frame, IsIn}
use Rattle.link_model.specs.Lanes.{lane_of}
use Rattle.lsdb.specs.declared.version.Version.{Version}
use Rattle.lsdb.specs.Entry.{Entry}
use Rattle.lsdb.specs.Version.{number_of}
use Rattle.lsdb.specs.Database.{version_in}
use Rattle.lsdb.proofs.LookupLemmas.{true_from_T, get_place}
use Rattle.flooding.specs.Own.{last_number, own_numbers}
use Rattle.flooding.specs.Hearing.{Holding, lacks_place, is_full}
use Rattle.flooding.proofs.Few.{room_below}
use Rattle.bridge_api.specs.View.{BridgeView}
use Rattle.bridge_api.specs.Own.{holding_of}
use Rattle.bridge_api.specs.Step.{frame}
use Rattle.spb_world.specs.declared.declaration.DeclaredLink.{DeclaredLink}
use Rattle.spb_world.specs.declared.declaration.LinkEnd.{LinkEnd}
use Rattle.network_model.specs.State.{State, links_of}
use Rattle.spb_world.specs.Links.{far_end, lane_out}
use Rattle.network_model.specs.Sound.{IsSoundState}
use Rattle.network_model.specs.Copies.{text_held}
use Rattle.network_model.specs.Counted.{IsCopy, is_held, is_said, IsOwnOf, IsCounted, allowance_of, most_commands}
use Rattle.network_model.specs.SoundLaws.{opening_of, state_after, SomeNetworkIsBusy}
use Rattle.network_model.specs.CountedLaws.{NumbersStayLow, BridgesStayFar, NothingIsFull, OriginsGiveOneBody, SomeCountedIsBusy}
use Rattle.network_model.proofs.FitsLemmas.{link_there}
use Rattle.network_model.proofs.SoundMoves.{Comes}
use Rattle.spb_world.proofs.SoundLaneIds.{turned, near-turned, lane_of_end}
use Rattle.network_model.proofs.SoundEvents.{core_of, turned-turned}
use Rattle.network_model.proofs.SoundPlay.{opening_sound, networks_are_sound}
use Rattle.network_model.proofs.SoundWitness.{busy, few_commands}
use Rattle.network_model.proofs.FewIds.{held_by_few, few_times, room_for_all}
use Rattle.network_model.proofs.CountedPlay.{opening_counted, all_counted}
use Rattle.network_model.proofs.CountedSteps.{view_of_own, weak_bound, own_from, weak_from, far_from_last}

-- ---- no number goes far

owned_low : (s : State) (id : LspId) (a : Version) → IsSoundState s → IsCounted s → s.accepted ≤ most_commands → IsOwnOf s.world.bridges id → IsCopy s.views s.lanes id a → number_of a ≤ 2800000
owned_low s id a sound counted few owner copy =
    let view = view_of_own s id (core_of s sound) owner in
    let within = counted.by.bound owner.place view.0 id view.1 view.2 in
    let high = weak_bound s.views s.lanes view.0 id within.most within.bound a copy in
    omega (arith, high, within.room, counted.rounds, few)

held_low : (s : State) (i : ℕ) (v : BridgeView) (id : LspId) (a : Version) (o : Option Entry) → IsSoundState s → IsCounted s → s.accepted ≤ most_commands → slice_get s.views i ≡ Some v → get v.database id ≡ o → version_in o ≡ a → IsCopy s.views s.lanes id a → number_of a ≤ 2800000
held_low s i v id a None sound counted few at held is copy = let none = ap number_of is in omega (arith, none)
held_low s i v id a (Some e) sound counted few at held is copy = owned_low s id a sound counted few (counted.by.held i v id e at held) copy

pub numbers_stay_low : NumbersStayLow
numbers_stay_low s id a sound counted few (is_held i v at is) = held_low s i v id a (get v.database id) sound counted few at refl is (is_held i v at is)
numbers_stay_low s id a sound counted few (is_said k dir f among claimed) = owned_low s id a sound counted few (counted.by.said k dir f id a among claimed) (is_said k dir f among claimed)

-- ---- no bridge comes near the last number

-- a frame on its way comes to the far end of its link
comes_there : (s : State) (k : ℕ) (dir : Dir) (l : DeclaredLink) (bytes : Frame) → IsSoundState s → slice_get (links_of s) k ≡ Some l → IsIn bytes (lane_of s.lanes k dir) → (p : ℕ) (f : Frame) → frame (far_end dir l).port bytes ≡ frame p f → Comes (links_of s) s.lanes (far_end dir l).bridge p f
comes_there s k dir l bytes sound at among p f is =
    let port : (far_end dir l).port ≡ p = cc in
    let same : bytes ≡ f = cc in
    let out : lane_out (links_of s) (far_end dir l).bridge (far_end dir l).port ≡ Some (record { link = k; dir = turned dir }) =
    subst (λ (e : LinkEnd). lane_out (links_of s) e.bridge e.port ≡ Some (record { link = k; dir = turned dir })) (near-turned dir l) (lane_of_end (links_of s) k l (turned dir) sound.world.links_apart (link_there s k l sound.world at).apart at) in
    record {
      lane = record { link = k; dir = turned dir };
      out = subst (λ (q : ℕ). lane_out (links_of s) (far_end dir l).bridge q ≡ Some (record { link = k; dir = turned dir })) port out;
      among = subst (λ (d : Dir). IsIn f (lane_of s.lanes k d)) (sym (turned-turned dir)) (subst (λ (g : Frame). IsIn g (lane_of s.lanes k dir)) same among);
    }

pub bridges_stay_far : BridgesStayFar
bridges_stay_far s k dir l v bytes sound counted few at among at_v =
    let low : allowance_of s < last_number = omega (arith, counted.rounds, few) in
    far_from_last s (λ j. allowance_of s) (core_of s sound) (own_from (allowance_of s) s counted.by) (weak_from (allowance_of s) s counted.by) (λ i u at_u. low) (far_end dir l).bridge v (frame (far_end dir l).port bytes) at_v (comes_there s k dir l bytes sound at among)

-- ---- nothing is full

-- a bridge holds few LSPs
pub few_held : (s : State) (i : ℕ) (v : BridgeView) → IsSoundState s → IsCounted s → slice_get s.views i ≡ Some v → length (entries v.database) ≤ 96 * own_numbers
few_held s i v sound counted at =
    let held = held_by_few s.world.bridges (entries v.database) (true_from_T _ (entries_sorted v.database)) (λ k e there. counted.by.held i v e.0 e.1 at (get_place v.database k e there)) in
    let bridges = few_times (length s.world.bridges) sound.world.few in
    omega (arith, held, bridges)

has_place : (h : Holding) (id : LspId) (o : Option Entry) → length (entries h.db) ≤ 96 * own_numbers → lacks_place h id o ≡ false
has_place h id None few = refl
has_place h id (Some e) few = ap not (room_below h.own.system h.db id (omega (arith, few, len-entries h.db, room_for_all)))

pub nothing_is_full : NothingIsFull
unfolding is_full
nothing_is_full s i v rule up c sound counted at = has_place (holding_of v) c.id _ (few_held s i v sound counted at)

-- ---- what is held live under one id has one body

pub origins_give_one_body : OriginsGiveOneBody
origins_give_one_body s sound counted i j v w id d e seq sum at_v at_w held_d held_e live_d live_e =
    let owner = counted.by.held i v id d at_v held_d in
    let view = view_of_own s id (core_of s sound) owner in
    (counted.by.origins owner.place view.0 id view.1 view.2).bodies seq sum sum d.body e.body (text_held i v d at_v held_d live_d refl) (text_held j w e at_w held_e live_e refl)

-- ---- some network is counted

some_from : (w : SomeNetworkIsBusy) → length w.scene.commands ≤ most_commands → SomeCountedIsBusy
some_from w few =
    let all = all_counted (opening_of w.scene) w.scene.commands (opening_sound w.scene.rule w.scene.rack) (opening_counted w.scene.rule w.scene.rack) w.scene.accepted (omega (arith, few)) in
    record {
      state = state_after w.scene;
      sound = networks_are_sound w.scene;
      counted = all.0;
      few = all.1;
      busy = w.busy;
    }

pub some_counted_is_busy : SomeCountedIsBusy
some_counted_is_busy = some_from busy few_commands
