-- A bridge that restarts keeps services apart: it has learned nothing yet.
use Rattle.std.proofs.Common.{◌≡◌, inl, inr, ◌+◌, ℕ, zero, suc, Bool, true, false, List, length, refl, subst, Option, Some, None, slice_get}
use Rattle.std.specs.Prelude.{if◌then◌else◌}
use Rattle.spb_types.specs.declared.service.Isid.{Isid}
use Rattle.bridge_api.specs.declared.config.BridgeConfig.{BridgeConfig}
use Rattle.bridge_api.specs.Config.{IsWhole, configured}
use Rattle.spb_world.specs.declared.declaration.DeclaredBridge.{DeclaredBridge}
use Rattle.spb_world.specs.declared.declaration.DeclaredLink.{DeclaredLink}
use Rattle.spb_world.specs.declared.declaration.LinkEnd.{LinkEnd}
use Rattle.network_model.specs.declared.answer.Out.{Out}
use Rattle.spb_world.specs.World.{things_of}
use Rattle.network_model.specs.State.{State, links_of}
use Rattle.network_model.specs.Events.{with_carrier_at_end, flushed}
use Rattle.network_model.specs.Restarting.{restart_config, link_cut, cut_link, cut_from, with_link_carrier, with_carriers_from, box_at, replaced, restarted_as, restarted}
use Rattle.spb_world.specs.Links.{ends_here, end_here, end_away}
use Rattle.network_model.specs.Sound.{IsSoundState}
use Rattle.network_model.proofs.BridgeLaws.{configured_is_sound}
use Rattle.network_model.proofs.ApartBridge.{configured_is_placed}
use Rattle.network_model.proofs.RestartConfig.{restart_whole}
use Rattle.network_model.proofs.RestartSound.{got_set}
use Rattle.network_model.proofs.ApartSteps.{IsSoundAndPlaced, IsSeparate}
use Rattle.network_model.proofs.ApartEvents.{separate_flushed, separate_with_carrier}

-- ---- a bridge that was just configured

pub configured_sound_and_placed : (c : BridgeConfig) → IsWhole c → IsSoundAndPlaced (configured c)
configured_sound_and_placed c whole = record { sound = configured_is_sound c whole; placed = configured_is_placed c }

-- ---- its links are cut

module _ (Entered : Isid → List ℕ → Type 0) (Left : Out → Type 0) where
  cut_separate : (s : State) (k : ℕ) (e : LinkEnd) → IsSeparate Entered Left s → IsSeparate Entered Left (link_cut s k e)
  cut_separate s k e separate =
      let t : State = flushed s k in
      separate_with_carrier Entered Left true (with_carrier_at_end false t e) e (separate_with_carrier Entered Left false t e (separate_flushed Entered Left s k separate))

  cut_if : (s : State) (k : ℕ) (e : LinkEnd) (b : Bool) → IsSeparate Entered Left s → IsSeparate Entered Left (if b then link_cut s k e else s)
  cut_if s k e true separate = cut_separate s k e separate
  cut_if s k e false separate = separate

  cut_found : (s : State) (i k : ℕ) (o : Option DeclaredLink) → IsSeparate Entered Left s → IsSeparate Entered Left (cut_link s i k o)
  cut_found s i k None separate = separate
  cut_found s i k (Some l) separate = cut_if s k (end_away l i) (ends_here l i) separate

  cut_all : (n k i : ℕ) (s : State) → IsSeparate Entered Left s → IsSeparate Entered Left (cut_from n k i s)
  cut_all zero k i s separate = separate
  cut_all (suc n) k i s separate = cut_all n (k + 1) i (cut_link s i k (slice_get (links_of s) k)) (cut_found s i k (slice_get (links_of s) k) separate)

  -- ---- it gets carrier

  carrier_given_if : (s : State) (e : LinkEnd) (b : Bool) → IsSeparate Entered Left s → IsSeparate Entered Left (if b then with_carrier_at_end true s e else s)
  carrier_given_if s e true separate = separate_with_carrier Entered Left true s e separate
  carrier_given_if s e false separate = separate

  found_link_carrier : (s : State) (i : ℕ) (o : Option DeclaredLink) → IsSeparate Entered Left s → IsSeparate Entered Left (with_link_carrier s i o)
  found_link_carrier s i None separate = separate
  found_link_carrier s i (Some l) separate = carrier_given_if s (end_here l i) (ends_here l i) separate

  carriers_given : (n k i : ℕ) (s : State) → IsSeparate Entered Left s → IsSeparate Entered Left (with_carriers_from n k i s)
  carriers_given zero k i s separate = separate
  carriers_given (suc n) k i s separate = carriers_given n (k + 1) i (with_link_carrier s i (slice_get (links_of s) k)) (found_link_carrier s i (slice_get (links_of s) k) separate)

  -- ---- it restarts

  replaced_separate : (s : State) (i : ℕ) (c : BridgeConfig) (place : ℕ) → IsWhole c → IsSeparate Entered Left s → IsSeparate Entered Left (replaced s i c place)
  replaced_separate s i c place whole separate = record {
    lanes = separate.lanes;
    bridges = λ j v at.
        elim (got_set s.views i (configured c) j v at) [
          | inl here ↦ subst IsSoundAndPlaced here.1 (configured_sound_and_placed c whole)
          | inr old ↦ separate.bridges j v old.1
        ];
    outs = separate.outs;
  }

  by_found : (s : State) (i : ℕ) (o : Option DeclaredBridge) (box : Option ℕ) → slice_get (things_of s.world.bridges) i ≡ o → IsSoundState s → IsSeparate Entered Left s → IsSeparate Entered Left (restarted_as s i o box)
  by_found s i None box there sound separate = separate
  by_found s i (Some b) None there sound separate = separate
  by_found s i (Some b) (Some place) there sound separate =
      let n : ℕ = length (links_of s) in
      let t : State = cut_from n 0 i s in
      let c : BridgeConfig = restart_config s i b in
      carriers_given n 0 i (replaced t i c place) (replaced_separate t i c place (restart_whole s i b sound there) (cut_all n 0 i s separate))

  pub separate_restarted : (s : State) (i : ℕ) → IsSoundState s → IsSeparate Entered Left s → IsSeparate Entered Left (restarted s i)
  unfolding restarted
  separate_restarted s i sound separate = by_found s i (slice_get (things_of s.world.bridges) i) (box_at s i) refl sound separate
