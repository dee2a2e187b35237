-- Rounds, and deliveries in any number.
use Rattle.std.proofs.Common.{◌≤◌, ◌<◌, ◌+◌, ◌*◌, ℕ, zero, suc, length, subst, Option, Some, None, arith}
use Rattle.spb_types.specs.declared.link.Dir.{Dir}
use Rattle.spb_types.specs.declared.link.Dir.TheVariants.{Ab, Ba}
use Rattle.link_model.specs.declared.lanes.LaneId.{LaneId}
use Rattle.link_model.specs.Lanes.{first_full_from}
use Rattle.flooding.specs.Own.{last_number}
use Rattle.bridge_api.specs.Step.{second}
use Rattle.network_model.specs.State.{State, lane_at}
use Rattle.network_model.specs.Events.{ticked, delivered, ticked_from, delivered_times, lane_served, served_from, all_ticked, one_round, rounds, delivered_over, delivered_first, drained}
use Rattle.network_model.specs.Sound.{IsSoundState}
use Rattle.network_model.specs.Counted.{IsCountedBy}
use Rattle.network_model.proofs.SoundEvents.{core_of, Sound-ticked, Sound-delivered, Sound-ticked_from, Sound-lane_served, Sound-one_round, Sound-delivered_first}
use Rattle.network_model.proofs.CountedGains.{gain_at, hello_at}
use Rattle.network_model.proofs.CountedEvents.{tick_weak, one_each, Counted-delivered}
use Rattle.network_model.proofs.CountedLinks.{IsTracked, tracked_from, tracked_more, counted_tracked}

-- more is allowed
pub counted_more : (n m : ℕ) (s : State) → n ≤ m → IsCountedBy n s → IsCountedBy m s
counted_more n m s more counted = record {
  fresh = counted.fresh;
  held = counted.held;
  said = counted.said;
  origins = counted.origins;
  bound = λ i v id at own.
      let within = counted.bound i v id at own in
      record { most = within.most; bound = within.bound; room = omega (arith, within.room, more) };
}

-- ---- all tick

tracked_ticked : (s : State) (n i : ℕ) → IsSoundState s → IsTracked (λ j. n) s → n < last_number → IsTracked (λ j. n + 1) (ticked s i)
tracked_ticked s n i sound tracked low =
    let next = tick_weak s (λ j. n) i tracked.core tracked.own tracked.weak (λ j v at. low) in
    tracked_more (λ j. n + gain_at i second j + hello_at i j) (λ j. n + 1) (ticked s i) (λ j. let one = one_each i j in omega (arith, one)) (record { core = core_of (ticked s i) (Sound-ticked s i sound); own = next.0; weak = next.1 })

tracked_ticks : (k i n : ℕ) (s : State) → IsSoundState s → IsTracked (λ j. n) s → n + k < last_number → IsTracked (λ j. n + k) (ticked_from k i s)
tracked_ticks zero i n s sound tracked low = tracked_more (λ j. n) (λ j. n + 0) s (λ j. omega arith) tracked
tracked_ticks (suc k) i n s sound tracked low =
    tracked_more (λ j. n + 1 + k) (λ j. n + suc k) (ticked_from k (i + 1) (ticked s i)) (λ j. omega arith)
    (tracked_ticks k (i + 1) (n + 1) (ticked s i) (Sound-ticked s i sound) (tracked_ticked s n i sound tracked (omega (arith, low))) (omega (arith, low)))

-- ---- all is delivered

one_delivered : (s : State) (n k : ℕ) (dir : Dir) → IsSoundState s → IsCountedBy n s → n < last_number → IsCountedBy n (delivered s k dir)
one_delivered s n k dir sound counted low = subst (λ (m : ℕ). IsCountedBy m (delivered s k dir)) (omega arith) (Counted-delivered s n k dir (core_of s sound) counted low)

times_counted : (c k : ℕ) (dir : Dir) (n : ℕ) (s : State) → IsSoundState s → IsCountedBy n s → n < last_number → IsCountedBy n (delivered_times c k dir s)
times_counted zero k dir n s sound counted low = counted
times_counted (suc c) k dir n s sound counted low = times_counted c k dir n (delivered s k dir) (Sound-delivered s k dir sound) (one_delivered s n k dir sound counted low) low

lane_counted : (s : State) (k : ℕ) (dir : Dir) (n : ℕ) → IsSoundState s → IsCountedBy n s → n < last_number → IsCountedBy n (lane_served s k dir)
unfolding lane_served
lane_counted s k dir n sound counted low = times_counted (length (lane_at s k dir)) k dir n s sound counted low

served_counted : (c k n : ℕ) (s : State) → IsSoundState s → IsCountedBy n s → n < last_number → IsCountedBy n (served_from c k s)
served_counted zero k n s sound counted low = counted
served_counted (suc c) k n s sound counted low =
    let t : State = lane_served s k Ab in
    let sound_t : IsSoundState t = Sound-lane_served s k Ab sound in
    served_counted c (k + 1) n (lane_served t k Ba) (Sound-lane_served t k Ba sound_t) (lane_counted t k Ba n sound_t (lane_counted s k Ab n sound counted low) low) low

-- ---- rounds

pub Counted-all_ticked : (s : State) (n : ℕ) → IsSoundState s → IsCountedBy n s → n + 128 < last_number → IsCountedBy (n + 128) (all_ticked s)
Counted-all_ticked s n sound counted low =
    let c : ℕ = length s.views in
    let few : c ≤ 96 = omega (arith, sound.fits.bridges, sound.world.few) in
    let after : IsTracked (λ j. n + c) (all_ticked s) = tracked_ticks c 0 n s sound (tracked_from n s (core_of s sound) counted) (omega (arith, low, few)) in
    counted_tracked (λ j. n + c) (n + 128) (all_ticked s) after (λ j. omega (arith, few))

pub Counted-one_round : (s : State) (n : ℕ) → IsSoundState s → IsCountedBy n s → n + 128 < last_number → IsCountedBy (n + 128) (one_round s)
unfolding one_round
Counted-one_round s n sound counted low =
    let t : State = all_ticked s in
    served_counted (length t.lanes) 0 (n + 128) t (Sound-ticked_from (length s.views) 0 s sound) (Counted-all_ticked s n sound counted low) (omega (arith, low))

pub Counted-rounds : (c n : ℕ) (s : State) → IsSoundState s → IsCountedBy n s → n + 128 * c < last_number → IsCountedBy (n + 128 * c) (rounds c s)
Counted-rounds zero n s sound counted low = counted_more n (n + 128 * 0) s (omega arith) counted
Counted-rounds (suc c) n s sound counted low =
    counted_more (n + 128 + 128 * c) (n + 128 * suc c) (rounds c (one_round s)) (omega arith)
    (Counted-rounds c (n + 128) (one_round s) (Sound-one_round s sound) (Counted-one_round s n sound counted (omega (arith, low))) (omega (arith, low)))

-- ---- drains

over_counted : (s : State) (n : ℕ) (o : Option LaneId) → IsSoundState s → IsCountedBy n s → n < last_number → IsCountedBy n (delivered_over s o)
over_counted s n None sound counted low = counted
over_counted s n (Some lane) sound counted low = one_delivered s n lane.link lane.dir sound counted low

first_counted : (s : State) (n : ℕ) → IsSoundState s → IsCountedBy n s → n < last_number → IsCountedBy n (delivered_first s)
unfolding delivered_first
first_counted s n sound counted low = over_counted s n (first_full_from 0 s.lanes) sound counted low

pub Counted-drained : (c n : ℕ) (s : State) → IsSoundState s → IsCountedBy n s → n < last_number → IsCountedBy n (drained c s)
Counted-drained zero n s sound counted low = counted
Counted-drained (suc c) n s sound counted low = Counted-drained c n (delivered_first s) (Sound-delivered_first s sound) (first_counted s n sound counted low) low
