-- What the lanes hold after all bridges ticked.
use Rattle.std.proofs.Common.{◌≡◌, ◌≢◌, ℕ, zero, suc, ◌+◌, ◌<◌, ◌≤◌, ◌==◌, ◌⊎◌, inl, inr, Bool, true, false, List, [], ◌∷◌, ◌++◌, length, refl, sym, ap, ◌∙◌, Some, slice_get, if◌then◌else◌, eqb-true, append-nil, append_assoc, arith}
use Rattle.std.proofs.lemmas.Bool.{eqb-false, lt-ltb}
use Rattle.link_model.specs.Lane.{Frame, pushed}
use Rattle.link_model.specs.Lanes.{lane_of}
use Rattle.spb_types.specs.declared.limits.TheConstants.{MOST_FRAMES}
use Rattle.spb_types.specs.declared.link.Dir.{Dir}
use Rattle.bridge_api.specs.View.{BridgeView}
use Rattle.bridge_api.specs.Step.{second, sent, frames_at}
use Rattle.spb_world.specs.declared.declaration.DeclaredLink.{DeclaredLink}
use Rattle.spb_world.specs.Links.{near_end}
use Rattle.spb_world.specs.World.{World, things_of}
use Rattle.spb_world.proofs.ListLemmas.{length-push, length-things}
use Rattle.network_model.specs.DeliveryLaws.{pushed_all}
use Rattle.network_model.specs.Events.{ticked, ticked_from, all_ticked}
use Rattle.network_model.specs.Sound.{IsSoundState}
use Rattle.network_model.specs.State.{State, links_of}
use Rattle.network_model.proofs.CountedMoves.{is_within}
use Rattle.network_model.proofs.FitsLemmas.{link_there}
use Rattle.network_model.proofs.SentLanes.{changed_beside, stepped_here, stepped_beside}
use Rattle.network_model.proofs.SoundEvents.{stepped_world, stepped_views, Sound-ticked}
use Rattle.network_rounds.specs.Rounds.{LanesHoldWhatIsSent}

-- frames for which there is room go in
pushed_fits : (lane fs : List Frame) → length lane + length fs ≤ MOST_FRAMES → pushed_all lane fs ≡ lane ++ fs
pushed_fits lane [] room = sym (append-nil lane)
pushed_fits lane (f ∷ fs) room =
    let one : pushed lane f ≡ lane ++ f ∷ [] = ap (λ (b : Bool). if b then lane ++ f ∷ [] else lane) (lt-ltb (length lane) MOST_FRAMES (omega (arith, room))) in
    ap (λ (l : List Frame). pushed_all l fs) one
    ∙ (pushed_fits (lane ++ f ∷ []) fs (omega (arith, room, length-push lane f)) ∙ append_assoc lane (f ∷ []) fs)

module _ (k : ℕ) (dir : Dir) (l : DeclaredLink) (v : BridgeView) where
  abbrev b : ℕ
  b = (near_end dir l).bridge

  there_after : (s : State) (i : ℕ) → slice_get (links_of s) k ≡ Some l → slice_get (links_of (ticked s i)) k ≡ Some l
  there_after s i there = ap (λ (w : World). slice_get (things_of w.links) k) (stepped_world second s i) ∙ there

  -- ticks of other bridges
  ticks_beside : (n i : ℕ) (s : State) → slice_get (links_of s) k ≡ Some l → (b < i) ⊎ (i + n ≤ b) → lane_of (ticked_from n i s).lanes k dir ≡ lane_of s.lanes k dir
  ticks_beside zero i s there away = refl
  ticks_beside (suc n) i s there away =
      ticks_beside n (i + 1) (ticked s i) (there_after s i there) (next away) ∙ stepped_beside second s i k dir l there (apart away)
    where
      apart : (b < i) ⊎ (i + suc n ≤ b) → b ≢ i
      apart (inl lt) = λ e. absurd (omega (arith, lt, e))
      apart (inr le) = λ e. absurd (omega (arith, le, e))

      next : (b < i) ⊎ (i + suc n ≤ b) → (b < i + 1) ⊎ (i + 1 + n ≤ b)
      next (inl lt) = inl (omega (arith, lt))
      next (inr le) = inr (omega (arith, le))

  -- and of this one
  abbrev HoldsSent : State → State → Type 0
  HoldsSent s t = lane_of t.lanes k dir ≡ pushed_all (lane_of s.lanes k dir) (if l.live then frames_at (near_end dir l).port (sent second v) else [])

  tick_here : (s : State) (i : ℕ) → IsSoundState s → slice_get (links_of s) k ≡ Some l → slice_get s.views i ≡ Some v → b ≡ i → HoldsSent s (ticked s i)
  tick_here s i sound there at near =
      let less : k < length (links_of s) = is_within (links_of s) k l there in
      stepped_here second s i v k dir l at there sound.world.links_apart (link_there s k l sound.world there).apart near (omega (arith, less, length-things s.world.links, sound.fits.lanes))

  ticks_over : (n i : ℕ) (s : State) → IsSoundState s → slice_get (links_of s) k ≡ Some l → slice_get s.views b ≡ Some v → i ≤ b → b < i + n → HoldsSent s (ticked_from n i s)
  ticks_over zero i s sound there at low high = absurd (omega (arith, low, high))
  ticks_over (suc n) i s sound there at low high = by (i == b) refl (ticks_over n (i + 1) (ticked s i) (Sound-ticked s i sound) (there_after s i there))
    where
      by : (same : Bool) → (i == b) ≡ same → (slice_get (ticked s i).views b ≡ Some v → i + 1 ≤ b → b < i + 1 + n → HoldsSent (ticked s i) (ticked_from n (i + 1) (ticked s i))) → HoldsSent s (ticked_from n (i + 1) (ticked s i))
      by true e more =
          let is : i ≡ b = eqb-true i b e in
          ticks_beside n (i + 1) (ticked s i) (there_after s i there) (inl (omega (arith, is)))
          ∙ tick_here s i sound there (ap (slice_get s.views) is ∙ at) (sym is)
      by false e more =
          let apart : i ≢ b = eqb-false i b e in
          let stays : slice_get (ticked s i).views b ≡ Some v = ap (λ (views : List BridgeView). slice_get views b) (stepped_views second s i) ∙ (changed_beside _ s.views i b (λ same. apart (sym same)) ∙ at) in
          more stays (omega (arith, low, apart)) (omega (arith, high))
          ∙ ap (λ (lane : List Frame). pushed_all lane (if l.live then frames_at (near_end dir l).port (sent second v) else [])) (stepped_beside second s i k dir l there (λ same. apart (sym same)))

pub lanes_hold_what_is_sent : LanesHoldWhatIsSent
lanes_hold_what_is_sent s k dir l v sound none there live at room =
    let within : (near_end dir l).bridge < length s.views = is_within s.views (near_end dir l).bridge v at in
    let frames : List Frame = frames_at (near_end dir l).port (sent second v) in
    ticks_over k dir l v (length s.views) 0 s sound there at (omega arith) (omega (arith, within))
    ∙ (ap (λ (lane : List Frame). pushed_all lane (if l.live then frames else [])) (none k dir)
    ∙ (ap (λ (b : Bool). pushed_all [] (if b then frames else [])) live
    ∙ pushed_fits [] frames (omega (arith, room))))

-- what a lane holds after all ticks: what it held, and then what the bridge at its near end sent
pub lane_ticked : (s : State) (k : ℕ) (dir : Dir) (l : DeclaredLink) (v : BridgeView) → IsSoundState s → slice_get (links_of s) k ≡ Some l → slice_get s.views (near_end dir l).bridge ≡ Some v
    → lane_of (all_ticked s).lanes k dir ≡ pushed_all (lane_of s.lanes k dir) (if l.live then frames_at (near_end dir l).port (sent second v) else [])
lane_ticked s k dir l v sound there at =
    let within : (near_end dir l).bridge < length s.views = is_within s.views (near_end dir l).bridge v at in
    ticks_over k dir l v (length s.views) 0 s sound there at (omega arith) (omega (arith, within))
