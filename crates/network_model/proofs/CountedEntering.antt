-- A customer's frame that enters takes no numbers further.
use Rattle.std.proofs.Common.{◌≡◌, inl, inr, ◌<◌, ◌+◌, ℕ, false, true, List, refl, sym, ap, ◌∙◌, subst, Option, Some, None, slice_get, arith}
use Rattle.std.proofs.lemmas.Bool.{cases_eq}
use Rattle.spb_types.specs.declared.address.BridgeId.{BridgeId}
use Rattle.spb_types.specs.declared.address.LspId.{LspId}
use Rattle.link_model.specs.Lane.{Frame}
use Rattle.lsdb.specs.declared.version.Version.{Version}
use Rattle.lsdb.specs.Database.{version_at}
use Rattle.lsdb.specs.Certificate.{IsClaimed}
use Rattle.flooding.specs.Own.{last_number, IsOwnNumber}
use Rattle.bridge_api.specs.Customers.{after_entry}
use Rattle.bridge_api.specs.View.{BridgeView}
use Rattle.bridge_api.specs.Step.{Input, second, frame, customer, step}
use Rattle.bridge_api.specs.Laws.{IsSoundView, claims_of}
use Rattle.bridge_laws.specs.Counting as counting
use Rattle.spb_world.specs.Attaching.{entry_refusal}
use Rattle.network_model.specs.State.{State, links_of}
use Rattle.network_model.specs.Events.{stepped, frame_entered}
use Rattle.network_model.specs.Sound.{IsSoundState}
use Rattle.network_model.specs.Counted.{IsCopy, IsWithin, IsCountedBy}
use Rattle.spb_world.proofs.BoxLemmas.{All-get}
use Rattle.network_model.proofs.FitsLemmas.{alike_itself}
use Rattle.network_model.proofs.SoundLane.{moved, moved_same}
use Rattle.network_model.proofs.SoundMoves.{IsCore, Comes, got_mapped}
use Rattle.network_model.proofs.SoundSteps.{only, only_here, only_is, IsInputAt}
use Rattle.network_model.proofs.SoundEvents.{core_of}
use Rattle.network_model.proofs.SoundEntering.{is_entry}
use Rattle.network_model.proofs.CountedSent.{entered, quiet_lanes}
use Rattle.network_model.proofs.CountedMoves.{Turn, stems}
use Rattle.network_model.proofs.CountedSteps.{AreOwn, AreFar, own_moved, own_from, weak_from}
use Rattle.network_model.proofs.CountedGains.{only_beside, bound_heard}
use Rattle.network_model.proofs.CountedEvents.{step_turn, far_stepping, same_allowance}

module _ (s : State) (n i port : ℕ) (bytes : List ℕ) (core : IsCore s) (counted : IsCountedBy n s) (low : n < last_number) (is_input : IsInputAt s.views i (customer port bytes)) where
  abbrev x : Input
  x = customer port bytes

  abbrev t : State
  t = stepped x s i

  comes : (p : ℕ) (f : Frame) → x ≡ frame p f → Comes (links_of s) s.lanes i p f
  comes p f is = absurd cc

  turn : Turn s t (only i x)
  turn = step_turn x s s.lanes i is_input core (alike_itself s) core.short (λ k dir f among. among) comes

  far : AreFar s (only i x)
  far = far_stepping s (λ j. n) i x core (own_from n s counted) (weak_from n s counted) (λ j v at. low) comes

  no_second : (j : ℕ) → only i x j ≡ Some second → false ≡ true
  no_second j is = let same : x ≡ second = (only_is i x j second is).1 in absurd cc

  database_kept : (u : BridgeView) (id : LspId) → version_at (step x u).database id ≡ version_at u.database id
  unfolding after_entry
  database_kept u id = refl

  -- each bridge holds what it held
  held : (j : ℕ) (u : BridgeView) (id : LspId) → version_at (moved (only i x j) u).database id ≡ version_at u.database id
  held j u id =
      elim (cases_eq j i) [
        | inl here ↦ ap (λ (o : Option Input). version_at (moved o u).database id) (ap (only i x) here ∙ only_here i x) ∙ database_kept u id
        | inr apart ↦ ap (λ (o : Option Input). version_at (moved o u).database id) (only_beside i x j apart)
      ]

  copies : (id : LspId) (b : Version) → IsClaimed (claims_of x) id b → IsCopy s.views s.lanes id b
  copies id b claimed = absurd claimed

  within : (j : ℕ) (u : BridgeView) (id : LspId) → slice_get s.views j ≡ Some u → IsOwnNumber u.id.system id → IsWithin t j (moved (only i x j) u) id n
  within j u id at own =
      let was = counted.bound j u id at own in
      let few = quiet_lanes x s i j (λ v at_v. entered port bytes v (is_input v at_v) (All-get IsSoundView s.views i v core.views at_v)) in
      record {
        most = was.most;
        bound = λ a copy. bound_heard s.views s.lanes u id (claims_of x) (version_at (moved (only i x j) u).database id) was.most was.bound (copies id) j a at (counting.keeps (held j u id)) (stems false s t (only i x) turn no_second j u id at own a copy);
        room = omega (arith, was.room, few);
      }

  counted_entered : IsCountedBy n t
  counted_entered =
      let are : AreOwn t = own_moved s t (only i x) turn (own_from n s counted) far in
      record {
        fresh = are.fresh;
        held = are.held;
        said = are.said;
        origins = are.origins;
        bound = λ j w id at own.
            let from = got_mapped (moved (only i x j)) (slice_get s.views j) w (sym (turn.moves.bridges j) ∙ at) in
            let owned : IsOwnNumber from.0.id.system id = subst (λ (y : BridgeId). IsOwnNumber y.system id) (ap (λ (v : BridgeView). v.id) from.2 ∙ (moved_same (only i x j) from.0).id) own in
            subst (λ (v : BridgeView). IsWithin t j v id n) (sym from.2) (within j from.0 id from.1 owned);
      }

pub Counted-entered : (s : State) (n i port : ℕ) (bytes : List ℕ) → entry_refusal s.world i port bytes ≡ None → IsSoundState s → IsCountedBy n s → n < last_number → IsCountedBy (n + 0) (frame_entered s i port bytes)
Counted-entered s n i port bytes none sound counted low =
    same_allowance n (frame_entered s i port bytes) (counted_entered s n i port bytes (core_of s sound) counted low (is_entry s i port bytes sound none))
