-- When no frame is on its way any more, the frame that was under way has left where it had to, once.
use Rattle.std.proofs.Common.{◌≡◌, ℕ, Bool, true, false, not, ◌&&◌, inl, inr, List, [], ◌∷◌, refl, sym, ap, ◌∙◌, subst, Some, slice_get}
use Rattle.std.specs.Prelude.{if◌then◌else◌, count_by}
use Rattle.std.specs.List.{AllByRecursion}
use Rattle.std.proofs.lemmas.Bool.{false≢true}
use Rattle.link_model.specs.Lane.{Frame}
use Rattle.spb_types.specs.declared.service.Attachment.{Attachment}
use Rattle.spb_types.specs.declared.service.Isid.{Isid}
use Rattle.forwarding.specs.Laws.{IsAttachedTo}
use Rattle.forwarding.specs.Placed.{AreAttachedOnce}
use Rattle.bridge_api.specs.Config.{ArePairwise, AgreesWith}
use Rattle.network_model.specs.declared.answer.Out.{Out}
use Rattle.spb_world.specs.World.{names_of, attached_at}
use Rattle.network_model.specs.State.{State}
use Rattle.spb_world.specs.Links.{near_end, far_end}
use Rattle.network_model.specs.Quiet.{AreEmpty}
use Rattle.network_model.specs.Once.{IsReceivingAt, IsReach, IsOnce, left_at}
use Rattle.network_model.specs.UnderWay.{Journey, carrier_of, leads_over, comes_over, IsLed, LeadsDown, IsUnderWay}
use Rattle.network_model.proofs.OnceStep.{IsJourney}

nothing_there : (b : Bool) (f : Frame) → [] ≡ (if b then f ∷ [] else []) → b ≡ false
nothing_there true f e = absurd cc
nothing_there false f e = refl

arrives : (a b c : Bool) → (a && (b && not c)) ≡ false → a ≡ true → b ≡ true → c ≡ true
arrives true true true e lead near = refl
arrives true true false e lead near = absurd (false≢true (sym e))
arrives true false c e lead near = absurd (false≢true near)
arrives false b c e lead near = absurd (false≢true lead)

-- ---- each port is attached to one I-SID

not_later : (a : Attachment) (attached : List Attachment) (port : ℕ) (isid : Isid) → AllByRecursion (AgreesWith a) attached → a.port ≡ port → IsAttachedTo attached port isid → ⊥
not_later a [] port isid all same at = at
not_later a (b ∷ attached) port isid all same (inl here) = all.0.ports (same ∙ sym here.0)
not_later a (b ∷ attached) port isid all same (inr later) = not_later a attached port isid all.1 same later

pub attached_once : (attached : List Attachment) → ArePairwise AgreesWith attached → AreAttachedOnce attached
attached_once [] apart port isid other at again = absurd at
attached_once (a ∷ attached) apart port isid other (inl here) (inl there) = sym here.1 ∙ there.1
attached_once (a ∷ attached) apart port isid other (inl here) (inr later) = absurd (not_later a attached port other apart.0 here.0 later)
attached_once (a ∷ attached) apart port isid other (inr later) (inl here) = absurd (not_later a attached port isid apart.0 here.0 later)
attached_once (a ∷ attached) apart port isid other (inr at) (inr again) = attached_once attached apart.1 port isid other at again

-- ---- the end

module _ (start : State) (j : Journey) (is : IsJourney start j) (single : AreAttachedOnce (attached_at start.world j.bridge)) (served : ℕ → Bool) (s : State) (outs : List Out) (under : IsUnderWay start j served s outs) (empty : AreEmpty s) where
  -- each bridge to which the row of one that has served it leads, has served it
  led_served : (m c : ℕ) → IsLed start.world j m c → served m ≡ true → served c ≡ true
  led_served m c led near =
      let comes : comes_over start.world j served led.dir led.link ≡ false = nothing_there (comes_over start.world j served led.dir led.link) (carrier_of j) (sym (empty led.place led.dir) ∙ under.lanes led.place led.dir led.link led.there) in
      ap served (sym led.far)
      ∙ arrives (leads_over start.world j led.dir led.link) (served (near_end led.dir led.link).bridge) (served (far_end led.dir led.link).bridge) comes led.leads (ap served led.near ∙ near)

  down_served : (m : ℕ) (ks : List ℕ) (c : ℕ) → LeadsDown start.world j m ks c → served m ≡ true → served c ≡ true
  down_served m [] c down near = ap served (sym down) ∙ near
  down_served m (k ∷ ks) c down near = down_served k ks c down.1 (led_served m k down.0 near)

  all_left : (c q : ℕ) (name : List ℕ) → slice_get (names_of start.world.bridges) c ≡ Some name → IsReach start.world j.bridge j.port c q → count_by (left_at name q) outs ≡ 1
  all_left c q name named reach =
      let same : reach.isid ≡ j.isid = single j.port reach.isid j.isid reach.here is.here in
      let receives : IsReceivingAt start.world c q j.isid = subst (IsReceivingAt start.world c q) same reach.there in
      let down = is.tree.down c q reach.walk receives reach.joined in
      under.once c q name named (down_served j.bridge down.0 c down.1 under.first) receives reach.other

  pub left_once : IsOnce start.world j.bridge j.port j.frame outs
  left_once = record { right = under.right; once = all_left }
