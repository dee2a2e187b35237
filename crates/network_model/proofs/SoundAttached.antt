-- What is attached to each bridge is what is attached in the world.
use Rattle.std.specs.Prelude.{Bool, true, false, ◌≡◌}
use Rattle.std.proofs.Common.{inl, inr, ℕ, List, ap, refl, ◌∙◌}
use Rattle.spb_types.specs.declared.service.Attachment.{Attachment}
use Rattle.bridge_api.specs.View.{BridgeView}
use Rattle.bridge_api.specs.Step.{Input, second, frame, carrier, metric, attach, detach, customer, step}
use Rattle.bridge_api.specs.Laws.{attached_after}
use Rattle.spb_world.specs.World.{World}
use Rattle.spb_types.specs.Places.{changed_at}
use Rattle.network_model.specs.Sound.{AreAttached}
use Rattle.network_model.proofs.BridgeLaws.{steps_keep_bridge}
use Rattle.network_model.proofs.SoundCarrier.{got_changed}

-- whether an input attaches or detaches a customer port
abbrev pub is_service : Input → Bool
is_service second = false
is_service (frame q bytes) = false
is_service (carrier q on) = false
is_service (metric q m) = false
is_service (attach a) = true
is_service (detach q) = true
is_service (customer q bytes) = false

kept_attached : (x : Input) (attached : List Attachment) → is_service x ≡ false → attached_after x attached ≡ attached
kept_attached second attached other = refl
kept_attached (frame q bytes) attached other = refl
kept_attached (carrier q on) attached other = refl
kept_attached (metric q m) attached other = refl
kept_attached (attach a) attached other = absurd cc
kept_attached (detach q) attached other = absurd cc
kept_attached (customer q bytes) attached other = refl

-- any other step of one bridge leaves it
pub attached_stepped : (x : Input) (w : World) (views : List BridgeView) (i : ℕ) → is_service x ≡ false → AreAttached w views → AreAttached w (changed_at (step x) views i)
attached_stepped x w views i other attached j v at =
    let was = got_changed (step x) views i j v at in
    elim was.is [
      | inl here ↦ ap (λ (u : BridgeView). u.attached) here.1 ∙ ((steps_keep_bridge x was.was).attached ∙ (kept_attached x was.was.attached other ∙ attached j was.was was.there))
      | inr same ↦ ap (λ (u : BridgeView). u.attached) same.1 ∙ attached j was.was was.there
    ]
