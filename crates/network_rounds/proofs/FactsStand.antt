-- Where no bridge beside is ahead, a steady round leaves the version that is held, also of an own id.
use Rattle.std.proofs.Common.{◌≡◌, ℕ, List, refl, sym, ◌∙◌, subst, Option, Some, None, slice_get}
use Rattle.spb_types.specs.declared.address.LspId.{LspId}
use Rattle.lsdb.specs.declared.version.Version.{Version}
use Rattle.lsdb.specs.Version.{IsAtMost}
use Rattle.lsdb.specs.Database.{version_at}
use Rattle.bridge_api.specs.View.{BridgeView}
use Rattle.bridge_api.specs.Step.{second, step}
use Rattle.bridge_api.proofs.Sound.{steps_stay_sound}
use Rattle.bridge_rounds.proofs.AtMost.{at_most_stands}
use Rattle.network_model.specs.State.{State, links_of}
use Rattle.network_model.specs.Truth.{AreLinked}
use Rattle.network_rounds.specs.Steady.{inbox_of}
use Rattle.network_rounds.proofs.Facts.{held_at, IsHeldBeside, IsSteadyStep, sound_at, held_second, held_after, none_before, none_after, claim_is_held}

module _ (ids : List LspId) (m allowance : ℕ) (s t : State) (one : IsSteadyStep ids m allowance s t) where
  pub stands : (i : ℕ) (id : LspId) → ((j : ℕ) → AreLinked (links_of s) j i → IsAtMost (held_at s j id) (held_at s i id)) → held_at t i id ≡ held_at s i id
  stands i id low = by (slice_get s.views i) refl
    where
      by : (o : Option BridgeView) → slice_get s.views i ≡ o → held_at t i id ≡ held_at s i id
      by None at = none_after ids m allowance s t one i id at ∙ sym (none_before ids m allowance s t one i id at)
      by (Some v) at =
          let now = held_second ids m allowance s t one i v id at in
          held_after ids m allowance s t one i v id at
          ∙ (at_most_stands (step second v) (inbox_of s i) id (steps_stay_sound second v tt (sound_at ids m allowance s t one i v at)) (one.round.bridges i v at).says
          (λ a claimed.
          let beside : IsHeldBeside s i id a = claim_is_held ids m allowance s t one i v id a at claimed in
          subst (λ (b : Version). IsAtMost b (version_at (step second v).database id)) (sym beside.is)
          (subst (IsAtMost (held_at s beside.place id)) (sym now) (low beside.place beside.link)))
          ∙ now)
