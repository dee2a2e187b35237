-- A version that a bridge comes to hold in a steady round was held beside it, or is of an own id: no two live versions
-- meet that have one number and two checksums, since all that is held of an id stems from its origin.
use Rattle.std.proofs.Common.{◌≡◌, ◌≢◌, ◌⊎◌, inl, inr, ℕ, Bool, true, false, true≢false, List, refl, sym, ap, ◌∙◌, subst, Option, Some, None, slice_get}
use Rattle.std.specs.FinMap.{get}
use Rattle.spb_types.specs.declared.address.BridgeId.{BridgeId}
use Rattle.spb_types.specs.declared.address.SystemId.{SystemId}
use Rattle.spb_types.specs.declared.address.LspId.{LspId}
use Rattle.spb_types.specs.Address.{same_system}
use Rattle.lsdb.specs.declared.version.Version.{Version}
use Rattle.lsdb.specs.declared.version.Version.TheVariants.{Live}
use Rattle.lsdb.specs.Entry.{Entry}
use Rattle.lsdb.specs.Database.{version_in, version_at}
use Rattle.lsdb.specs.Laws.{AreTwoLives}
use Rattle.ect_trees.proofs.Among.{same_is, same_self}
use Rattle.flooding.specs.Own.{IsOwnNumber}
use Rattle.bridge_api.specs.View.{BridgeView}
use Rattle.bridge_api.specs.Step.{second, step}
use Rattle.bridge_api.proofs.Sound.{steps_stay_sound}
use Rattle.bridge_rounds.specs.Inbox.{Inbox}
use Rattle.bridge_rounds.specs.Versions.{IsHeldOrClaimed}
use Rattle.bridge_rounds.proofs.ComeFrom.{versions_come_from}
use Rattle.network_model.specs.State.{State}
use Rattle.network_model.specs.Counted.{IsCopy, is_held, IsOwnOf}
use Rattle.network_model.proofs.BridgeLaws.{steps_keep_bridge}
use Rattle.network_model.proofs.CountedMoves.{declared_at, shown_at}
use Rattle.network_model.proofs.SoundEvents.{core_of}
use Rattle.network_rounds.specs.Steady.{inbox_of}
use Rattle.network_rounds.proofs.Facts.{held_at, IsOriginAt, IsHeldBeside, IsSteadyStep, sound_at, held_before, held_second, held_after, none_before, none_after, claim_is_held}
use Rattle.network_rounds.proofs.Passing.{near_view}

module _ (ids : List LspId) (m allowance : ℕ) (s t : State) (one : IsSteadyStep ids m allowance s t) where
  -- ---- what is held stems from one origin

  -- a bridge holds this version
  record IsHeldSomewhere (id : LspId) (a : Version) : Type 0 where
    place : ℕ
    view : BridgeView
    there : slice_get s.views place ≡ Some view
    is : version_at view.database id ≡ a

  beside : (i : ℕ) (id : LspId) (a : Version) → IsHeldBeside s i id a → IsHeldSomewhere id a
  beside i id a held =
      let link = held.link in
      let near = near_view s link.place link.dir link.link one.state.sound link.there in
      let at : slice_get s.views held.place ≡ Some near.0 = ap (slice_get s.views) (sym link.near) ∙ near.1 in
      record { place = held.place; view = near.0; there = at; is = sym (held_before ids m allowance s t one held.place near.0 id at) ∙ sym held.is }

  somewhere : (i : ℕ) (v : BridgeView) (id : LspId) (a : Version) → slice_get s.views i ≡ Some v → IsHeldOrClaimed (step second v) (inbox_of s i) id a → IsHeldSomewhere id a
  somewhere i v id a at (inl held) =
      record { place = i; view = v; there = at; is = sym (held_before ids m allowance s t one i v id at) ∙ (sym (held_second ids m allowance s t one i v id at) ∙ sym held) }
  somewhere i v id a at (inr claimed) = beside i id a (claim_is_held ids m allowance s t one i v id a at claimed)

  copied : (id : LspId) (a : Version) → IsHeldSomewhere id a → IsCopy s.views s.lanes id a
  copied id a held = is_held held.place held.view held.there held.is

  -- a live version is of an id that a declared bridge originates
  declared : (id : LspId) (seq sum : ℕ) → IsHeldSomewhere id (Live seq sum) → IsOwnOf s.world.bridges id
  declared id seq sum held = by (get held.view.database id) refl held.is
    where
      by : (o : Option Entry) → get held.view.database id ≡ o → version_in o ≡ Live seq sum → IsOwnOf s.world.bridges id
      by None at is = absurd cc
      by (Some e) at is = one.counted.held held.place held.view id e held.there at

  one_sum : (id : LspId) (seq x y : ℕ) → IsHeldSomewhere id (Live seq x) → IsHeldSomewhere id (Live seq y) → x ≡ y
  one_sum id seq x y first second_one =
      let of : IsOwnOf s.world.bridges id = declared id seq x first in
      let origin = shown_at s of.place of.bridge (core_of s one.state.sound) of.there in
      let own : IsOwnNumber origin.0.id.system id = subst (λ (b : BridgeId). IsOwnNumber b.system id) (sym origin.2) of.own in
      (one.counted.origins of.place origin.0 id origin.1 own).sums seq x y (copied id (Live seq x) first) (copied id (Live seq y) second_one)

  none_meet : (id : LspId) (a b : Version) → IsHeldSomewhere id a → IsHeldSomewhere id b → AreTwoLives a b → ⊥
  none_meet id a b first other two =
      two.apart (one_sum id two.number two.sum two.other_sum (subst (IsHeldSomewhere id) two.first first) (subst (IsHeldSomewhere id) two.second other))

  -- ---- where a version comes from

  other_origin : (i : ℕ) (v : BridgeView) (id : LspId) → slice_get s.views i ≡ Some v → id.system ≢ v.id.system → (held_at t i id ≡ held_at s i id) ⊎ IsHeldBeside s i id (held_at t i id)
  other_origin i v id at apart =
      let fs : Inbox = inbox_of s i in
      let now = held_after ids m allowance s t one i v id at in
      let same : (step second v).id ≡ v.id = (steps_keep_bridge second v).id in
      elim (versions_come_from (step second v) fs id (steps_stay_sound second v tt (sound_at ids m allowance s t one i v at)) (λ is. apart (is ∙ ap (λ (b : BridgeId). b.system) same))
      (λ a b first other two. none_meet id a b (somewhere i v id a at first) (somewhere i v id b at other) two)) [
        | inl held ↦ inl (now ∙ (held ∙ held_second ids m allowance s t one i v id at))
        | inr claimed ↦ inr (subst (IsHeldBeside s i id) (sym now) (claim_is_held ids m allowance s t one i v id _ at claimed))
      ]

  own_origin : (i : ℕ) (v : BridgeView) (id : LspId) → slice_get s.views i ≡ Some v → id.system ≡ v.id.system → IsOriginAt s.world i id
  own_origin i v id at is =
      let of = declared_at s i v (core_of s one.state.sound) at in
      record { bridge = of.0; there = of.1; system = is ∙ ap (λ (b : BridgeId). b.system) of.2 }

  pub comes : (i : ℕ) (id : LspId) → (held_at t i id ≡ held_at s i id) ⊎ (IsHeldBeside s i id (held_at t i id) ⊎ IsOriginAt s.world i id)
  comes i id = by (slice_get s.views i) refl
    where
      by_system : (v : BridgeView) → slice_get s.views i ≡ Some v → (b : Bool) → same_system id.system v.id.system ≡ b → (held_at t i id ≡ held_at s i id) ⊎ (IsHeldBeside s i id (held_at t i id) ⊎ IsOriginAt s.world i id)
      by_system v at true e = inr (inr (own_origin i v id at (same_is id.system v.id.system e)))
      by_system v at false e =
          elim (other_origin i v id at (λ same. true≢false (sym (same_self v.id.system) ∙ (ap (λ (x : SystemId). same_system x v.id.system) (sym same) ∙ e)))) [
            | inl stays ↦ inl stays
            | inr came ↦ inr (inl came)
          ]

      by : (o : Option BridgeView) → slice_get s.views i ≡ o → (held_at t i id ≡ held_at s i id) ⊎ (IsHeldBeside s i id (held_at t i id) ⊎ IsOriginAt s.world i id)
      by None at = inl (none_after ids m allowance s t one i id at ∙ sym (none_before ids m allowance s t one i id at))
      by (Some v) at = by_system v at (same_system id.system v.id.system) refl
