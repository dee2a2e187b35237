-- A sound bridge is sound after each frame of a round, and the same bridge.
use Rattle.std.proofs.Common.{ℕ, ◌≤◌, List, refl, sym, ◌∙◌, subst}
use Rattle.bridge_api.specs.View.{BridgeView}
use Rattle.bridge_api.specs.Step.{frame, step}
use Rattle.bridge_api.specs.Laws.{IsSoundView}
use Rattle.bridge_api.proofs.Carriers.{steps_keep_carrier}
use Rattle.bridge_api.proofs.Certified.{steps_keep_bridge}
use Rattle.bridge_api.proofs.Sound.{steps_stay_sound}
use Rattle.bridge_rounds.specs.Mail.{MailIsSound, IsSameBridgeAs, MailKeepsBridge}
use Rattle.bridge_rounds.proofs.Folds.{mail_holds, mail_keeps}

pub mail_is_sound : MailIsSound
mail_is_sound v fs was = mail_holds IsSoundView fs v (λ p bytes u sent sound. steps_stay_sound (frame p bytes) u tt sound) was

same_step : (v u : BridgeView) (p : ℕ) (bytes : List ℕ) → IsSameBridgeAs v u → IsSameBridgeAs v (step (frame p bytes) u)
same_step v u p bytes same =
    let next = steps_keep_bridge (frame p bytes) u in
    record {
      id = next.id ∙ same.id;
      source = next.source ∙ same.source;
      vids = next.vids ∙ same.vids;
      attached = next.attached ∙ same.attached;
      ports = next.ports ∙ same.ports;
      metrics = next.metrics ∙ same.metrics;
      carrier = λ q there. steps_keep_carrier (frame p bytes) u q (record { low = there.low; high = subst (λ n. q ≤ n) (sym same.ports) there.high }) ∙ same.carrier q there;
      failed = next.failed ∙ same.failed;
    }

same_first : (v : BridgeView) → IsSameBridgeAs v v
same_first v = record { id = refl; source = refl; vids = refl; attached = refl; ports = refl; metrics = refl; carrier = λ q there. refl; failed = refl }

pub mail_keeps_bridge : MailKeepsBridge
mail_keeps_bridge v fs = mail_keeps (IsSameBridgeAs v) fs v (λ p bytes u sent same. same_step v u p bytes same) (same_first v)
