-- No version falls in a steady round.
use Rattle.std.proofs.Common.{◌≡◌, ℕ, List, refl, sym, ◌∙◌, subst, Option, Some, None, slice_get}
use Rattle.spb_types.specs.declared.address.LspId.{LspId}
use Rattle.lsdb.specs.declared.version.Version.{Version}
use Rattle.lsdb.specs.Version.{IsAtMost}
use Rattle.lsdb.proofs.Order.{itself}
use Rattle.bridge_api.specs.View.{BridgeView}
use Rattle.bridge_api.specs.Step.{second, step}
use Rattle.bridge_api.proofs.Sound.{steps_stay_sound}
use Rattle.bridge_rounds.proofs.LspHeld.{mail_rises}
use Rattle.network_model.specs.State.{State}
use Rattle.network_rounds.specs.Steady.{inbox_of}
use Rattle.network_rounds.proofs.Facts.{held_at, IsSteadyStep, sound_at, held_second, held_after, none_before, none_after}

module _ (ids : List LspId) (m allowance : ℕ) (s t : State) (one : IsSteadyStep ids m allowance s t) where
  pub rises : (i : ℕ) (id : LspId) → IsAtMost (held_at s i id) (held_at t i id)
  rises i id = by (slice_get s.views i) refl
    where
      by : (o : Option BridgeView) → slice_get s.views i ≡ o → IsAtMost (held_at s i id) (held_at t i id)
      by None at = subst (IsAtMost (held_at s i id)) (none_before ids m allowance s t one i id at ∙ sym (none_after ids m allowance s t one i id at)) (itself (held_at s i id))
      by (Some v) at =
          subst (λ (a : Version). IsAtMost a (held_at t i id)) (held_second ids m allowance s t one i v id at)
          (subst (IsAtMost _) (sym (held_after ids m allowance s t one i v id at))
          (mail_rises (step second v) (inbox_of s i) id (steps_stay_sound second v tt (sound_at ids m allowance s t one i v at))))
