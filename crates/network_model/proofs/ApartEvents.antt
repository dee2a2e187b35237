-- What becomes of links, lanes and customer ports keeps services apart.
use Rattle.std.proofs.Common.{◌≡◌, ℕ, Bool, true, false, List, refl, Option, Some, None, slice_get}
use Rattle.link_model.specs.Lane.{Frame, after_lose, after_double}
use Rattle.link_model.specs.Lanes.{changed_lane, no_frames}
use Rattle.spb_types.specs.Places.{changed_at}
use Rattle.spb_types.specs.declared.link.Dir.{Dir}
use Rattle.spb_types.specs.declared.link.Side.{Side}
use Rattle.spb_types.specs.declared.service.Isid.{Isid}
use Rattle.spb_types.specs.declared.service.Mode.{Mode}
use Rattle.spb_types.specs.declared.service.Vid.{Vid}
use Rattle.bridge_api.specs.Config.{IsMetric}
use Rattle.bridge_api.specs.Services.{attachment_of}
use Rattle.bridge_api.specs.Step as comes
use Rattle.spb_world.specs.declared.declaration.DeclaredLink.{DeclaredLink}
use Rattle.spb_world.specs.declared.declaration.LinkEnd.{LinkEnd}
use Rattle.network_model.specs.declared.answer.Out.{Out}
use Rattle.spb_world.specs.World.{vid_of_isid, Sound}
use Rattle.spb_world.specs.Declaring.{end_on, with_live, with_end_metric}
use Rattle.spb_world.specs.Attaching.{attach_refusal, detach_refusal, with_attachment_at, without_attachment_at}
use Rattle.network_model.specs.State.{State, links_of}
use Rattle.network_model.specs.Events.{lost, doubled, with_carrier_at_end, with_carrier_over, with_metric_at_end, with_metric_on, with_metric_changed, attached_in_found, port_attached, port_detached, flushed, switched_off, switched_on}
use Rattle.network_model.specs.Sound.{IsSoundState}
use Rattle.spb_world.proofs.WorldLemmas.{end_on-is, Sound-with_end_metric}
use Rattle.network_model.proofs.FitsLemmas.{link_there}
use Rattle.network_model.proofs.SoundSteps.{in_lost, in_doubled, in_changed, in_flushed}
use Rattle.network_model.proofs.SoundLinks.{end_metric}
use Rattle.network_model.proofs.SoundAttaching.{can_attach, is_attached_port}
use Rattle.network_model.proofs.ApartSteps.{IsSeparate, brought_none, separate_with_world, separate_fewer, separate_stepped}

module _ (Entered : Isid → List ℕ → Type 0) (Left : Out → Type 0) where
  -- ---- frames on their way

  pub separate_lost : (s : State) (k : ℕ) (dir : Dir) (place : ℕ) → IsSeparate Entered Left s → IsSeparate Entered Left (lost s k dir place)
  separate_lost s k dir place separate =
      let g : List Frame → List Frame = λ frames. after_lose frames place in
      separate_fewer Entered Left s (changed_at (changed_lane dir g) s.lanes k) separate (λ j d f among. in_changed g (λ h frames. in_lost h frames place) s.lanes k dir j d f among)

  pub separate_doubled : (s : State) (k : ℕ) (dir : Dir) (place : ℕ) → IsSeparate Entered Left s → IsSeparate Entered Left (doubled s k dir place)
  separate_doubled s k dir place separate =
      let g : List Frame → List Frame = λ frames. after_double frames place (slice_get frames place) in
      separate_fewer Entered Left s (changed_at (changed_lane dir g) s.lanes k) separate (λ j d f among. in_changed g (λ h frames. in_doubled h frames place) s.lanes k dir j d f among)

  pub separate_flushed : (s : State) (k : ℕ) → IsSeparate Entered Left s → IsSeparate Entered Left (flushed s k)
  separate_flushed s k separate = separate_fewer Entered Left s (changed_at (λ lanes. no_frames) s.lanes k) separate (in_flushed s.lanes k)

  -- ---- a link is switched

  pub separate_with_carrier : (on : Bool) (s : State) (e : LinkEnd) → IsSeparate Entered Left s → IsSeparate Entered Left (with_carrier_at_end on s e)
  separate_with_carrier on s e separate =
      separate_stepped Entered Left s e.bridge (comes.carrier e.port on) (brought_none Entered Left s e.bridge (comes.carrier e.port on) (λ v at. tt) (λ v isid f brings. brings) (λ v. refl)) separate

  over_separate : (on : Bool) (s : State) (o : Option DeclaredLink) → IsSeparate Entered Left s → IsSeparate Entered Left (with_carrier_over on s o)
  over_separate on s None separate = separate
  over_separate on s (Some l) separate = separate_with_carrier on (with_carrier_at_end on s l.a) l.b (separate_with_carrier on s l.a separate)

  pub separate_switched_on : (s : State) (k : ℕ) → IsSeparate Entered Left s → IsSeparate Entered Left (switched_on s k)
  unfolding switched_on
  separate_switched_on s k separate =
      let t : State = record s { world = with_live true s.world k } in
      over_separate true t (slice_get (links_of s) k) (separate_with_world Entered Left t.world s separate)

  pub separate_switched_off : (s : State) (k : ℕ) → IsSeparate Entered Left s → IsSeparate Entered Left (switched_off s k)
  unfolding switched_off
  separate_switched_off s k separate =
      let t : State = flushed s k in
      let u : State = record t { world = with_live false t.world k } in
      over_separate false u (slice_get (links_of s) k) (separate_with_world Entered Left u.world t (separate_flushed s k separate))

  -- ---- an end of a link gets its metric

  pub separate_with_metric : (s : State) (e : LinkEnd) → IsMetric e.metric → IsSeparate Entered Left s → IsSeparate Entered Left (with_metric_at_end s e)
  separate_with_metric s e is separate =
      separate_stepped Entered Left s e.bridge (comes.metric e.port e.metric) (brought_none Entered Left s e.bridge (comes.metric e.port e.metric) (λ v at. is) (λ v isid f brings. brings) (λ v. refl)) separate

  separate_metric_on : (side : Side) (s : State) (k : ℕ) (o : Option DeclaredLink) → Sound s.world → slice_get (links_of s) k ≡ o → IsSeparate Entered Left s → IsSeparate Entered Left (with_metric_on side s o)
  separate_metric_on side s k None sound at separate = separate
  separate_metric_on side s k (Some l) sound at separate =
      let e : LinkEnd = end_on side l in
      separate_with_metric s e (end_metric s.world.bridges e (end_on-is side s.world.bridges l (link_there s k l sound at))) separate

  pub separate_metric_changed : (s : State) (k : ℕ) (side : Side) (m : ℕ) → IsMetric m → Sound s.world → IsSeparate Entered Left s → IsSeparate Entered Left (with_metric_changed s k side m)
  unfolding with_metric_changed
  separate_metric_changed s k side m is sound separate =
      let t : State = record s { world = with_end_metric side m s.world k } in
      separate_metric_on side t k (slice_get (links_of t) k) (Sound-with_end_metric side m s.world k is sound) refl (separate_with_world Entered Left t.world s separate)

  -- ---- a customer port is attached, or detached

  found_separate : (s : State) (i port isid : ℕ) (mode : Mode) (o : Option Vid) → vid_of_isid s.world.services isid ≡ o → attach_refusal s.world i port isid ≡ None → IsSoundState s → IsSeparate Entered Left s → IsSeparate Entered Left (attached_in_found s i port isid mode o)
  found_separate s i port isid mode None found none sound separate = separate
  found_separate s i port isid mode (Some vid) found none sound separate =
      let a = attachment_of port (record { value = isid }) vid mode in
      let t : State = record s { world = with_attachment_at s.world i a } in
      separate_stepped Entered Left t i (comes.attach a) (brought_none Entered Left t i (comes.attach a) (can_attach s i port isid vid mode sound none found) (λ v other f brings. brings) (λ v. refl)) (separate_with_world Entered Left t.world s separate)

  pub separate_attached : (s : State) (i port isid : ℕ) (mode : Mode) → attach_refusal s.world i port isid ≡ None → IsSoundState s → IsSeparate Entered Left s → IsSeparate Entered Left (port_attached s i port isid mode)
  unfolding port_attached
  separate_attached s i port isid mode none sound separate = found_separate s i port isid mode (vid_of_isid s.world.services isid) refl none sound separate

  pub separate_detached : (s : State) (i port : ℕ) → detach_refusal s.world i port ≡ None → IsSoundState s → IsSeparate Entered Left s → IsSeparate Entered Left (port_detached s i port)
  unfolding port_detached
  separate_detached s i port none sound separate =
      let t : State = record s { world = without_attachment_at s.world i port } in
      separate_stepped Entered Left t i (comes.detach port) (brought_none Entered Left t i (comes.detach port) (is_attached_port s i port sound none) (λ v isid f brings. brings) (λ v. refl)) (separate_with_world Entered Left t.world s separate)
