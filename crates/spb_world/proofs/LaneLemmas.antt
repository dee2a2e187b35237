-- The way out of a port.
use Rattle.std.proofs.Common.{◌≡◌, ℕ, zero, suc, ◌+◌, ◌<◌, ◌≤◌, List, [], ◌∷◌, length, drop, Some, None, slice_get, refl, sym, ap, ◌∙◌, arith}
use Rattle.std.specs.Option.{option_and_then, option_or}
use Rattle.spb_world.specs.declared.declaration.DeclaredLink.{DeclaredLink}
use Rattle.link_model.specs.declared.lanes.LaneId.{LaneId}
use Rattle.spb_world.specs.Links.{lane_of_link, lane_out_from}

lane-step : (k : ℕ) (ls : List DeclaredLink) (n i port : ℕ) → n < length ls → lane_out_from k (drop n ls) i port ≡ option_or (option_and_then (λ l. lane_of_link k l i port) (slice_get ls n)) (lane_out_from (k + 1) (drop (suc n) ls) i port)
lane-step k [] n i port h = absurd (omega arith)
lane-step k (l ∷ ls) zero i port h = refl
lane-step k (l ∷ ls) (suc n) i port h = lane-step k ls n i port (omega arith)

pub lane-found : (ls : List DeclaredLink) (k i port : ℕ) (w : LaneId) → k < length ls → Some w ≡ option_and_then (λ l. lane_of_link k l i port) (slice_get ls k) → lane_out_from k (drop k ls) i port ≡ Some w
lane-found ls k i port w h e = lane-step k ls k i port h ∙ ap (λ o. option_or o (lane_out_from (k + 1) (drop (suc k) ls) i port)) (sym e)

suc-is : (k : ℕ) → suc k ≡ k + 1
suc-is k = omega arith

pub lane-passed : (ls : List DeclaredLink) (k i port : ℕ) → k < length ls → None ≡ option_and_then (λ l. lane_of_link k l i port) (slice_get ls k) → lane_out_from k (drop k ls) i port ≡ lane_out_from (k + 1) (drop (k + 1) ls) i port
lane-passed ls k i port h e = lane-step k ls k i port h ∙ ap (λ o. option_or o (lane_out_from (k + 1) (drop (suc k) ls) i port)) (sym e) ∙ ap (λ m. lane_out_from (k + 1) (drop m ls) i port) (suc-is k)

drop-length : {X : Type 0} (xs : List X) (n : ℕ) → length xs ≤ n → drop n xs ≡ []
drop-length [] zero h = refl
drop-length [] (suc n) h = refl
drop-length (x ∷ xs) zero h = absurd (omega arith)
drop-length (x ∷ xs) (suc n) h = drop-length xs n (omega arith)

pub lane-past : (ls : List DeclaredLink) (k i port : ℕ) → length ls ≤ k → lane_out_from k (drop k ls) i port ≡ None
lane-past ls k i port h = ap (λ l. lane_out_from k l i port) (drop-length ls k h)
