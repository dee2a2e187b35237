-- Where the frames of a round come from: each stood in a lane that leads to the bridge, and was on its way before the round
-- or was sent in its second.
use Rattle.std.proofs.Common.{◌≡◌, ◌⊎◌, inl, inr, ℕ, zero, suc, ◌+◌, Bool, true, false, List, [], ◌∷◌, ◌++◌, length, map, refl, sym, ◌∙◌, subst, Option, Some, None, slice_get, if◌then◌else◌, ◌==◌, nat_lt, eqb-true, eq-eqb, arith}
use Rattle.std.specs.Prelude.{Contains}
use Rattle.std.proofs.lemmas.Bool.{true≢false}
use Rattle.std.specs.List.{AllByRecursion}
use Rattle.link_model.specs.Lane.{Frame, pushed, IsIn}
use Rattle.link_model.specs.Lanes.{lane_of}
use Rattle.link_model.specs.declared.lanes.LinkLanes.{LinkLanes}
use Rattle.spb_types.specs.declared.link.Dir.{Dir}
use Rattle.spb_types.specs.declared.link.Dir.TheVariants.{Ab, Ba}
use Rattle.spb_types.specs.declared.limits.TheConstants.{MOST_FRAMES}
use Rattle.spb_content.proofs.Members.{all_append}
use Rattle.bridge_api.specs.View.{BridgeView}
use Rattle.bridge_api.specs.Laws.{IsSent}
use Rattle.bridge_api.specs.Step.{second, sent, frames_at}
use Rattle.bridge_rounds.specs.Inbox.{Inbox}
use Rattle.spb_world.specs.declared.declaration.DeclaredLink.{DeclaredLink}
use Rattle.spb_world.specs.Links.{near_end, far_end}
use Rattle.network_model.specs.State.{State, links_of}
use Rattle.network_model.specs.Events.{all_ticked}
use Rattle.network_model.specs.DeliveryLaws.{pushed_all}
use Rattle.network_model.specs.Sound.{IsSoundState}
use Rattle.network_model.proofs.SoundSteps.{in_append}
use Rattle.network_rounds.specs.Rounds.{coming, coming_over, inbox_from, inbox}
use Rattle.network_rounds.proofs.Lanes.{lane_ticked}

-- a frame that comes to the bridge at place i at a port stood in a lane that leads there
pub record ComesOver (links : List DeclaredLink) (lanes : List LinkLanes) (i : ℕ) (f : ℕ × Frame) : Type 0 where
  pub place : ℕ
  pub dir : Dir
  pub link : DeclaredLink
  pub there : slice_get links place ≡ Some link
  pub bridge : (far_end dir link).bridge ≡ i
  pub port : (far_end dir link).port ≡ f.0
  pub among : IsIn f.1 (lane_of lanes place dir)

module _ (links : List DeclaredLink) (lanes : List LinkLanes) (i : ℕ) where
  abbrev Each : Inbox → Type 0
  Each fs = AllByRecursion (ComesOver links lanes i) fs

  each_at : (dir : Dir) (l : DeclaredLink) (frames : List Frame) → ((f : Frame) → IsIn f frames → ComesOver links lanes i ((far_end dir l).port, f)) → Each (map (λ f. ((far_end dir l).port, f)) frames)
  each_at dir l [] all = tt
  each_at dir l (f ∷ frames) all = (all f (inl refl), each_at dir l frames (λ g among. all g (inr among)))

  each_coming : (k : ℕ) (dir : Dir) (l : DeclaredLink) → slice_get links k ≡ Some l → Each (coming dir l (lane_of lanes k dir) i)
  each_coming k dir l at = by ((far_end dir l).bridge == i) refl
    where
      by : (b : Bool) → ((far_end dir l).bridge == i) ≡ b → Each (if b then map (λ f. ((far_end dir l).port, f)) (lane_of lanes k dir) else [])
      by true e = each_at dir l (lane_of lanes k dir) (λ f among. record { place = k; dir = dir; link = l; there = at; bridge = eqb-true (far_end dir l).bridge i e; port = refl; among = among })
      by false e = tt

  each_over : (k : ℕ) (o : Option DeclaredLink) → slice_get links k ≡ o → Each (coming_over o lanes k i)
  each_over k None at = tt
  each_over k (Some l) at = all_append (ComesOver links lanes i) (coming Ab l (lane_of lanes k Ab) i) (coming Ba l (lane_of lanes k Ba) i) (each_coming k Ab l at) (each_coming k Ba l at)

  each_from : (n k : ℕ) → Each (inbox_from n k links lanes i)
  each_from zero k = tt
  each_from (suc n) k = all_append (ComesOver links lanes i) (coming_over (slice_get links k) lanes k i) (inbox_from n (k + 1) links lanes i) (each_over k (slice_get links k) refl) (each_from n (k + 1))

  pub each_comes : AllByRecursion (ComesOver links lanes i) (inbox links lanes i)
  each_comes = each_from (length lanes) 0

-- what holds of each frame holds of those that are at a port
pub of_each : (P : ℕ × Frame → Type 0) (fs : Inbox) (p : ℕ) (bytes : Frame) → AllByRecursion P fs → IsSent fs p bytes → P (p, bytes)
of_each P [] p bytes all sent = absurd sent
of_each P (f ∷ fs) p bytes all (inl here) = subst (λ (q : ℕ). P (q, bytes)) here.0 (subst (λ (b : Frame). P (f.0, b)) here.1 all.0)
of_each P (f ∷ fs) p bytes all (inr more) = of_each P fs p bytes all.1 more

pub to_each : (P Q : ℕ × Frame → Type 0) (fs : Inbox) → AllByRecursion P fs → ((f : ℕ × Frame) → P f → Q f) → AllByRecursion Q fs
to_each P Q [] all leads = tt
to_each P Q (f ∷ fs) all leads = (leads f all.0, to_each P Q fs all.1 leads)

-- ---- before the round, or in its second

in_pushed : (b : Bool) (f g : Frame) (lane : List Frame) → IsIn f (if b then lane ++ g ∷ [] else lane) → IsIn f lane ⊎ (f ≡ g)
in_pushed true f g lane among =
    elim (in_append f lane (g ∷ []) among) [
      | inl old ↦ inl old
      | inr (inl is) ↦ inr is
      | inr (inr none) ↦ absurd none
    ]
in_pushed false f g lane among = inl among

in_pushed_all : (f : Frame) (lane fs : List Frame) → IsIn f (pushed_all lane fs) → IsIn f lane ⊎ IsIn f fs
in_pushed_all f lane [] among = inl among
in_pushed_all f lane (g ∷ fs) among =
    elim (in_pushed_all f (pushed lane g) fs among) [
      | inl first ↦ elim (in_pushed (nat_lt (length lane) MOST_FRAMES) f g lane first) [
        | inl old ↦ inl old
        | inr is ↦ inr (inl is)
      ]
      | inr later ↦ inr (inr later)
    ]

pub in_frames_at : (p : ℕ) (fs : List (ℕ × Frame)) (f : Frame) → IsIn f (frames_at p fs) → IsSent fs p f
in_frames_at p [] f among = absurd among
in_frames_at p (x ∷ fs) f among = by (x.0 == p) refl among (in_frames_at p fs f)
  where
    by : (b : Bool) → (x.0 == p) ≡ b → IsIn f (if b then x.1 ∷ frames_at p fs else frames_at p fs) → (IsIn f (frames_at p fs) → IsSent fs p f) → ((x.0 ≡ p) × (x.1 ≡ f)) ⊎ IsSent fs p f
    by true e (inl is) rest = inl (eqb-true x.0 p e, sym is)
    by true e (inr more) rest = inr (rest more)
    by false e more rest = inr (rest more)

in_live : (live : Bool) (fs : List Frame) (f : Frame) → IsIn f (if live then fs else []) → IsIn f fs
in_live true fs f among = among
in_live false fs f among = absurd among

pub in_ticked : (s : State) (k : ℕ) (dir : Dir) (l : DeclaredLink) (v : BridgeView) (f : Frame) → IsSoundState s → slice_get (links_of s) k ≡ Some l → slice_get s.views (near_end dir l).bridge ≡ Some v
    → IsIn f (lane_of (all_ticked s).lanes k dir) → IsIn f (lane_of s.lanes k dir) ⊎ IsSent (sent second v) (near_end dir l).port f
in_ticked s k dir l v f sound there at among =
    let fs : List Frame = frames_at (near_end dir l).port (sent second v) in
    elim (in_pushed_all f (lane_of s.lanes k dir) (if l.live then fs else []) (subst (IsIn f) (lane_ticked s k dir l v sound there at) among)) [
      | inl old ↦ inl old
      | inr new ↦ inr (in_frames_at (near_end dir l).port (sent second v) f (in_live l.live fs f new))
    ]

-- a frame that is sent is one of those at its port
pub sent_contained : (p : ℕ) (fs : List (ℕ × Frame)) (f : Frame) → IsSent fs p f → Contains (frames_at p fs) f
sent_contained p [] f goes = absurd goes
sent_contained p (x ∷ fs) f goes = by (x.0 == p) refl goes (sent_contained p fs f)
  where
    behind : (g : Frame) (gs : List Frame) → Contains gs f → Contains (g ∷ gs) f
    behind g gs (k, low, is) = (suc k, omega (arith, low), is)

    by : (b : Bool) → (x.0 == p) ≡ b → ((x.0 ≡ p) × (x.1 ≡ f)) ⊎ IsSent fs p f → (IsSent fs p f → Contains (frames_at p fs) f) → Contains (if b then x.1 ∷ frames_at p fs else frames_at p fs) f
    by true e (inl at) rest = (zero, omega arith, at.1)
    by true e (inr more) rest = behind x.1 (frames_at p fs) (rest more)
    by false e (inl at) rest = absurd (true≢false (sym (eq-eqb x.0 p at.0) ∙ e))
    by false e (inr more) rest = rest more
