-- What a delivery does.
use Rattle.std.proofs.Common.{◌≡◌, ◌≢◌, ◌<◌, ℕ, zero, suc, Bool, true, false, List, [], ◌∷◌, length, refl, sym, ap, ◌∙◌, subst, Option, Some, None, slice_get, nat_lt, if◌then◌else◌, arith}
use Rattle.std.specs.Option.{option_map_or}
use Rattle.std.proofs.lemmas.Option.{slice_get_within}
use Rattle.std.proofs.lemmas.List.{length-map}
use Rattle.link_model.specs.Lane.{Frame}
use Rattle.spb_types.specs.declared.link.Dir.{Dir}
use Rattle.spb_types.specs.declared.link.Dir.TheVariants.{Ab, Ba}
use Rattle.bridge_api.specs.View.{BridgeView}
use Rattle.bridge_api.specs.Step.{Input, frame, sent, frames_at}
use Rattle.spb_world.specs.declared.declaration.DeclaredLink.{DeclaredLink}
use Rattle.spb_world.specs.declared.reason.Reason.{Reason}
use Rattle.spb_world.specs.declared.reason.Reason.TheVariants.{NoFrame}
use Rattle.spb_world.specs.Reason.{reason_unless}
use Rattle.spb_world.specs.World.{place_of, IsLink}
use Rattle.link_model.specs.Lanes.{changed_lane, rest}
use Rattle.network_model.specs.State.{State, links_of, lane_at, with_frames}
use Rattle.spb_world.specs.Links.{near_end, far_end}
use Rattle.network_model.specs.Events.{stepped, heard_over, delivered_front, delivered}
use Rattle.spb_world.specs.Naming.{refusal_at_found}
use Rattle.network_model.specs.Refusing.{frame_refusal}
use Rattle.network_model.specs.Play.{at_place, at_link}
use Rattle.network_model.specs.Sound.{IsSoundState}
use Rattle.network_model.specs.DeliveryLaws.{pushed_all, IsOneStep, AreSent, IsDelivery, FramesAreDelivered, IsDeliveryOf, DeliverDelivers}
use Rattle.network_model.proofs.FitsLemmas.{length-changed, link_there}
use Rattle.network_model.proofs.SoundLane.{some-is}
use Rattle.network_model.proofs.SentLanes.{lane_here, lane_beside, stepped_once, stepped_here, stepped_beside, stepped_rest, stepped_outs}

-- the ends of a link lie at different bridges
apart_ends : (dir : Dir) (l : DeclaredLink) → l.a.bridge ≢ l.b.bridge → (near_end dir l).bridge ≢ (far_end dir l).bridge
apart_ends Ab l apart = apart
apart_ends Ba l apart = λ e. apart (sym e)

-- what stands at a place that is there
got_within : {X : Type 0} (xs : List X) (i : ℕ) → i < length xs → (x : X) × (slice_get xs i ≡ Some x)
got_within [] i within = absurd (omega arith)
got_within (x ∷ xs) zero within = (x, refl)
got_within (x ∷ xs) (suc i) within = got_within xs i (omega arith)

far_within : (dir : Dir) (s : State) (l : DeclaredLink) → IsSoundState s → IsLink s.world.bridges l → (far_end dir l).bridge < length s.views
far_within Ab s l sound link = omega (arith, link.b.bridge, sound.fits.bridges)
far_within Ba s l sound link = omega (arith, link.a.bridge, sound.fits.bridges)

lane_within : (s : State) (k : ℕ) (l : DeclaredLink) → IsSoundState s → slice_get (links_of s) k ≡ Some l → k < length s.lanes
lane_within s k l sound at = omega (arith, slice_get_within (links_of s) k l at, length-map s.world.links (λ e. e.1), sound.fits.lanes)

none_front : (bytes : Frame) (behind : List Frame) → [] ≡ bytes ∷ behind → ⊥
none_front bytes behind e = cc

module _ (s : State) (k : ℕ) (dir : Dir) (bytes : Frame) (behind : List Frame) (sound : IsSoundState s) (front : lane_at s k dir ≡ bytes ∷ behind) where
  -- the frame comes over a link that is up
  comes : (l : DeclaredLink) (v : BridgeView) → slice_get (links_of s) k ≡ Some l → l.live ≡ true → slice_get s.views (far_end dir l).bridge ≡ Some v
      → IsDelivery s (stepped (frame (far_end dir l).port bytes) (with_frames rest s k dir) (far_end dir l).bridge) k dir bytes behind
  comes l v there live at =
      let x : Input = frame (far_end dir l).port bytes in
      let i : ℕ = (far_end dir l).bridge in
      let next : State = with_frames rest s k dir in
      let near : (near_end dir l).bridge ≢ i = apart_ends dir l (link_there s k l sound.world there).apart in
      let once : IsOneStep next (stepped x next i) i x v = stepped_once x next i v at in
      record {
        link = l;
        there = there;
        live = live;
        front = front;
        taken = stepped_beside x next i k dir l there near ∙ (lane_here rest s.lanes k dir (lane_within s k l sound there) ∙ ap rest front);
        view = v;
        heard = record { before = at; after = once.after; others = once.others };
        answers = λ j d m there_m from. answers l v there at near j d m there_m from;
        others = λ j d m there_m away other. stepped_beside x next i j d m there_m away ∙ lane_beside rest s.lanes k dir j d (λ same. other (sym same.0, sym same.1));
        left = stepped_outs x next i v at;
        rest = stepped_rest x next i;
      }
    where
      answers : (l : DeclaredLink) (v : BridgeView) → slice_get (links_of s) k ≡ Some l → slice_get s.views (far_end dir l).bridge ≡ Some v → (near_end dir l).bridge ≢ (far_end dir l).bridge
          → AreSent s (stepped (frame (far_end dir l).port bytes) (with_frames rest s k dir) (far_end dir l).bridge) (far_end dir l).bridge (sent (frame (far_end dir l).port bytes) v)
      answers l v there at near j d m there_m from =
          let x : Input = frame (far_end dir l).port bytes in
          let next : State = with_frames rest s k dir in
          let other : (k ≡ j) × (dir ≡ d) → ⊥ = λ same.
          let link : l ≡ m = some-is l m (sym there ∙ (ap (slice_get (links_of s)) same.0 ∙ there_m)) in
          near ((λ n. (near_end (same.1 n) (link n)).bridge) ∙ from) in
          stepped_here x next (far_end dir l).bridge v j d m at there_m sound.world.links_apart (link_there s j m sound.world there_m).apart from
          (subst (λ (n : ℕ). j < n) (sym (length-changed (changed_lane dir rest) s.lanes k)) (lane_within s j m sound there_m))
          ∙ ap (λ (lane : List Frame). pushed_all lane (if m.live then frames_at (near_end d m).port (sent x v) else [])) (lane_beside rest s.lanes k dir j d other)

  -- a link is there, and it is up: else no frame would be on its way over it
  over : (o : Option DeclaredLink) → slice_get (links_of s) k ≡ o → IsDelivery s (heard_over (with_frames rest s k dir) dir bytes o) k dir bytes behind
  over None there = absurd (none_front bytes behind (sym (sound.idle k dir (ap (λ (o : Option DeclaredLink). option_map_or (λ l. l.live) o false) there)) ∙ front))
  over (Some l) there = by l.live refl
    where
      by : (live : Bool) → l.live ≡ live → IsDelivery s (stepped (frame (far_end dir l).port bytes) (with_frames rest s k dir) (far_end dir l).bridge) k dir bytes behind
      by true live = let v = got_within s.views (far_end dir l).bridge (far_within dir s l sound (link_there s k l sound.world there)) in comes l v.0 there live v.1
      by false dead = absurd (none_front bytes behind (sym (sound.idle k dir (ap (λ (o : Option DeclaredLink). option_map_or (λ l. l.live) o false) there ∙ dead)) ∙ front))

  pub is_delivered : IsDelivery s (delivered s k dir) k dir bytes behind
  unfolding delivered
  is_delivered =
      subst (λ (o : Option Frame). IsDelivery s (delivered_front s k dir o) k dir bytes behind) (sym (ap (λ (lane : List Frame). slice_get lane 0) front)) (over (slice_get (links_of s) k) refl)

pub frames_are_delivered : FramesAreDelivered
frames_are_delivered s k dir bytes behind sound front = is_delivered s k dir bytes behind sound front

-- ---- the command

passed : (b : Bool) (r : Reason) → reason_unless b r ≡ None → b ≡ true
unfolding reason_unless
passed true r none = refl
passed false r none = cc

named : (s : State) (name : List ℕ) (dir : Dir) (k : ℕ) (lane : List Frame) → IsSoundState s → place_of name s.world.links ≡ Some k → lane_at s k dir ≡ lane → nat_lt 0 (length lane) ≡ true → IsDeliveryOf s (delivered s k dir) name dir
named s name dir k [] sound at is some = absurd cc
named s name dir k (bytes ∷ behind) sound at is some = record { place = k; named = at; bytes = bytes; behind = behind; delivery = is_delivered s k dir bytes behind sound is }

delivered_at_found : (s : State) (name : List ℕ) (dir : Dir) (o : Option ℕ) → IsSoundState s → place_of name s.world.links ≡ o → refusal_at_found (λ k. reason_unless (nat_lt 0 (length (lane_at s k dir))) NoFrame) o ≡ None → IsDeliveryOf s (at_place (λ t k. delivered t k dir) s o) name dir
delivered_at_found s name dir None sound at none = absurd cc
delivered_at_found s name dir (Some k) sound at none = named s name dir k (lane_at s k dir) sound at refl (passed (nat_lt 0 (length (lane_at s k dir))) NoFrame none)

pub deliver_delivers : DeliverDelivers
unfolding frame_refusal at_link
deliver_delivers s name dir sound none = delivered_at_found s name dir (place_of name s.world.links) sound refl none
