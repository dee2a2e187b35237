-- Many events, one after another.
use Rattle.std.proofs.Common.{◌≡◌, ℕ, zero, suc, ◌+◌, ◌-◌, ◌<◌, length, Some, None, refl, ap, ◌∙◌, arith}
use Rattle.spb_types.specs.declared.link.Dir.{Dir}
use Rattle.link_model.specs.declared.lanes.LaneId.{LaneId}
use Rattle.network_model.specs.State.{State, lane_at}
use Rattle.link_model.specs.Lanes.{first_full_from}
use Rattle.network_model.specs.Events.{ticked, ticked_from, all_ticked, delivered, delivered_times, link_served, served_from, all_served, delivered_first, delivered_over, drained}

suc-less : (e i : ℕ) → i < e → e - i ≡ suc (e - (i + 1))
suc-less e i h = omega arith

none-less : (n m : ℕ) → n ≡ m → n - 0 ≡ m
none-less n m e = omega (arith, e)

pub ticked-init : (s : State) (n : ℕ) → n ≡ length s.views → ticked_from (n - 0) 0 s ≡ all_ticked s
ticked-init s n e = ap (λ m. ticked_from m 0 s) (none-less n (length s.views) e)

pub ticked-step : (s : State) (e i : ℕ) → i < e → ticked_from (e - i) i s ≡ ticked_from (e - (i + 1)) (i + 1) (ticked s i)
ticked-step s e i h = ap (λ m. ticked_from m i s) (suc-less e i h)

pub delivered-init : (s : State) (k : ℕ) (dir : Dir) (n : ℕ) → n ≡ length (lane_at s k dir) → delivered_times (n - 0) k dir s ≡ delivered_times (length (lane_at s k dir)) k dir s
delivered-init s k dir n e = ap (λ m. delivered_times m k dir s) (none-less n (length (lane_at s k dir)) e)

pub delivered-step : (s : State) (k : ℕ) (dir : Dir) (e i : ℕ) → i < e → delivered_times (e - i) k dir s ≡ delivered_times (e - (i + 1)) k dir (delivered s k dir)
delivered-step s k dir e i h = ap (λ m. delivered_times m k dir s) (suc-less e i h)

pub served-init : (s : State) (n : ℕ) → n ≡ length s.lanes → served_from (n - 0) 0 s ≡ all_served s
served-init s n e = ap (λ m. served_from m 0 s) (none-less n (length s.lanes) e)

pub served-step : (s : State) (e k : ℕ) → k < e → served_from (e - k) k s ≡ served_from (e - (k + 1)) (k + 1) (link_served s k)
served-step s e k h = ap (λ m. served_from m k s) (suc-less e k h)

pub drained-init : (s : State) (n : ℕ) → drained (n - 0) s ≡ drained n s
drained-init s n = ap (λ m. drained m s) (none-less n n refl)

pub drained-step : (s : State) (e i : ℕ) → i < e → drained (e - i) s ≡ drained (e - (i + 1)) (delivered_first s)
drained-step s e i h = ap (λ m. drained m s) (suc-less e i h)

idle-first : (s : State) → first_full_from 0 s.lanes ≡ None → delivered_first s ≡ s
unfolding delivered_first
idle-first s h = ap (delivered_over s) h

-- a delivery from the lane that was found
pub drained-found : (s : State) (e i : ℕ) (w : LaneId) → i < e → first_full_from 0 s.lanes ≡ Some w → drained (e - i) s ≡ drained (e - (i + 1)) (delivered s w.link w.dir)
unfolding delivered_first
drained-found s e i w h f = drained-step s e i h ∙ ap (λ o. drained (e - (i + 1)) (delivered_over s o)) f

-- where all lanes are empty, nothing is left to deliver
pub drained-idle : (n : ℕ) (s : State) → first_full_from 0 s.lanes ≡ None → drained n s ≡ s
drained-idle zero s h = refl
drained-idle (suc n) s h = ap (drained n) (idle-first s h) ∙ drained-idle n s h
