-- An accepted command keeps services apart.
use Rattle.std.proofs.Common.{◌≡◌, inl, inr, ℕ, Bool, true, false, List, [], ◌∷◌, ◌++◌, length, refl, sym, subst, Option, Some, None, slice_get}
use Rattle.std.specs.Prelude.{if◌then◌else◌}
use Rattle.std.specs.List.{AllByRecursion}
use Rattle.scenario.specs.declared.command.Command.{Command}
use Rattle.scenario.specs.declared.command.Command.TheVariants as command
use Rattle.link_model.specs.Lanes.{no_frames}
use Rattle.spb_types.specs.declared.address.Mac.{Mac}
use Rattle.spb_types.specs.declared.link.Side.{Side}
use Rattle.spb_types.specs.declared.tables.Path.{Path}
use Rattle.spb_types.specs.declared.service.Attachment.{Attachment}
use Rattle.spb_types.specs.declared.service.Isid.{Isid}
use Rattle.spb_types.specs.declared.service.Mode.{Mode}
use Rattle.spb_types.specs.declared.service.SourceId.{SourceId}
use Rattle.spb_types.specs.declared.service.Vid.{Vid}
use Rattle.forwarding.specs.Laws.{IsAttachedTo}
use Rattle.forwarding.specs.Placed.{ArePlaced}
use Rattle.bridge_api.specs.View.{BridgeView}
use Rattle.bridge_api.specs.Config.{configured}
use Rattle.bridge_api.specs.Customers.{tenant_of}
use Rattle.bridge_laws.specs.Apart.{CarriesEntered}
use Rattle.bridge_api.specs.Laws.{IsSoundView}
use Rattle.network_model.specs.declared.answer.Answer.{Answer}
use Rattle.network_model.specs.declared.answer.Answer.TheVariants.{Outs, Show, Wiring, Db, Adj, Drops}
use Rattle.network_model.specs.declared.answer.Out.{Out}
use Rattle.spb_world.specs.declared.declaration.DeclaredBridge.{DeclaredBridge}
use Rattle.spb_world.specs.declared.declaration.DeclaredLink.{DeclaredLink}
use Rattle.spb_world.specs.World.{Bridges, place_of, wired_tables, declared_vid}
use Rattle.spb_world.specs.Declaring.{plan_of, bridge_of, link_of, with_vid, with_link, config_of}
use Rattle.spb_world.specs.Services.{service_of, with_service}
use Rattle.spb_world.specs.Attaching.{attach_refusal, detach_refusal, entry_refusal}
use Rattle.network_model.specs.State.{State}
use Rattle.network_model.specs.Events.{ticked, delivered, lost, doubled, with_metric_at_end, with_metrics_over, with_metric_changed, port_attached, port_detached, frame_entered, switched_off, switched_on, rounds, drained}
use Rattle.network_model.specs.Restarting.{restarted}
use Rattle.network_model.specs.Refusing.{box_for, refusal_of}
use Rattle.spb_world.specs.Naming.{refusal_at_found, link_refusal_at_found, named_link_refusal, metric_refusal, named_attach_refusal, named_detach_refusal, named_entry_refusal}
use Rattle.network_model.specs.Questions.{Question, is_quiet, show_at, db_at, adj_at, drops_at}
use Rattle.network_model.specs.Paths.{path_at, path_answer, path_found, path_from}
use Rattle.network_model.specs.Play.{boxed, declared, linked, link_between_found, named_link, at_place, at_bridge, at_link, with_vid_more, with_service_more, with_rounds, with_drain, played, accepted_once, next_state, answer_at_found, answer_to_asked, answer_of}
use Rattle.network_model.specs.Sound.{IsSoundState}
use Rattle.network_model.specs.Isolation.{IsPortOf, Enters, outs_in, LeftEntered, IsApart}
use Rattle.spb_world.proofs.BoxLemmas.{All-get}
use Rattle.network_model.proofs.ApartBridge.{configured_is_placed}
use Rattle.spb_world.proofs.RefusalLemmas.{metric_refusal_none, link_refusal_none}
use Rattle.network_model.proofs.SoundDeclaring.{got_push, lane-push}
use Rattle.network_model.proofs.SoundLinks.{end_metric}
use Rattle.network_model.proofs.SoundEntering.{is_entry}
use Rattle.network_model.proofs.SoundPlay.{commands_keep_sound}
use Rattle.network_model.proofs.ApartSteps.{IsSeparate, separate_of, apart_of, separate_with_world}
use Rattle.network_model.proofs.ApartEvents.{separate_lost, separate_doubled, separate_switched_on, separate_switched_off, separate_with_metric, separate_metric_changed, separate_attached, separate_detached}
use Rattle.network_model.proofs.ApartRestart.{separate_restarted}
use Rattle.network_model.proofs.ApartLeaving.{IsLeaving, leaving_ticked, leaving_delivered, leaving_rounds, leaving_drained, leaving_entered}

-- ---- what is no event answers no frames

path_none : (bridges : Bridges) (from to : List ℕ) (vid : Vid) (o : Option Path) → outs_in (path_answer bridges from to vid o) ≡ []
path_none bridges from to vid None = refl
path_none bridges from to vid (Some path) = refl

path_silent : (s : State) (i : ℕ) (from to : List ℕ) (j : Option ℕ) (vid : Option Vid) → outs_in (path_found s i from to j vid) ≡ []
path_silent s i from to None vid = refl
path_silent s i from to (Some j) None = refl
path_silent s i from to (Some j) (Some vid) = path_none s.world.bridges from to vid (path_at s i j vid)

none_said : (s : State) (q : Question) (o : Option ℕ) → ((i : ℕ) → outs_in (q.answer s i) ≡ []) → outs_in (answer_at_found s (Some q) o) ≡ []
none_said s q None silent = refl
none_said s q (Some i) silent = silent i

pub asked_silent : (s : State) (c : Command) → outs_in (answer_to_asked s c) ≡ []
asked_silent s (command.Show name) = none_said s (record { bridge = name; answer = λ t i. Show name (is_quiet t) (show_at t i) }) (place_of name s.world.bridges) (λ i. refl)
asked_silent s (command.Wiring name) = none_said s (record { bridge = name; answer = λ t i. Wiring name (wired_tables t.world i) }) (place_of name s.world.bridges) (λ i. refl)
asked_silent s (command.Db name) = none_said s (record { bridge = name; answer = λ t i. Db name (db_at t i) }) (place_of name s.world.bridges) (λ i. refl)
asked_silent s (command.Adj name) = none_said s (record { bridge = name; answer = λ t i. Adj name (adj_at t i) }) (place_of name s.world.bridges) (λ i. refl)
asked_silent s (command.Drops name) = none_said s (record { bridge = name; answer = λ t i. Drops name (drops_at t i) }) (place_of name s.world.bridges) (λ i. refl)
asked_silent s (command.Path from to vid) = none_said s (record { bridge = from; answer = λ t i. path_from t i from to vid }) (place_of from s.world.bridges) (λ i. path_silent s i from to (place_of to s.world.bridges) (declared_vid s.world.vids vid))
asked_silent s _ = refl

answered : (P : Out → Type 0) (event : Bool) (outs : List Out) (a : Answer) → AllByRecursion P outs → outs_in a ≡ [] → AllByRecursion P (outs_in (if event then Outs outs else a))
answered P true outs a all silent = all
answered P false outs a all silent = subst (AllByRecursion P) (sym silent) tt

-- ---- what a command makes

module _ (Entered : Isid → List ℕ → Type 0) (s : State) (sound : IsSoundState s) (none : s.outs ≡ []) (apart : IsApart Entered s) where
  -- a frame that leaves has entered, in the world before the command
  abbrev Left : Out → Type 0
  Left = LeftEntered s.world Entered

  separate : IsSeparate Entered Left s
  separate = separate_of Entered Left s sound none apart

  leaving : IsLeaving s.world Entered s
  leaving = record { world = refl; attached = sound.attached; separate = separate }

  -- ---- declarations

  vid_separate : (vid ect : ℕ) → IsSeparate Entered Left (with_vid_more s vid ect)
  unfolding with_vid_more
  vid_separate vid ect = separate_with_world Entered Left (with_vid s.world (plan_of vid ect)) s separate

  service_separate : (isid vid : ℕ) → IsSeparate Entered Left (with_service_more s isid vid)
  unfolding with_service_more
  service_separate isid vid = separate_with_world Entered Left (with_service s.world (service_of isid vid)) s separate

  boxed_separate : (name : List ℕ) (b : DeclaredBridge) (o : Option ℕ) → AllByRecursion IsSoundView (boxed s name b o).views → IsSeparate Entered Left (boxed s name b o)
  boxed_separate name b None each = separate
  boxed_separate name b (Some place) each = record {
    lanes = separate.lanes;
    bridges = λ i v at. record {
      sound = All-get IsSoundView (s.views ++ configured (config_of s.world b) ∷ []) i v each at;
      placed = elim (got_push s.views (configured (config_of s.world b)) i v at) [
        | inl old ↦ (separate.bridges i v old.1).placed
        | inr new ↦ subst (λ (u : BridgeView). ArePlaced (tenant_of u)) new.1 (configured_is_placed (config_of s.world b))
      ];
    };
    outs = separate.outs;
  }

  bridge_separate : (name : List ℕ) (priority : ℕ) (system : Mac) (source : SourceId) (ports : ℕ) → refusal_of s (command.Bridge name priority system source ports) ≡ None → IsSeparate Entered Left (declared s name (bridge_of priority system source ports))
  unfolding declared next_state
  bridge_separate name priority system source ports accepted =
      boxed_separate name (bridge_of priority system source ports) (box_for s) (commands_keep_sound s (command.Bridge name priority system source ports) sound accepted).views

  link_lanes : (name : List ℕ) (l : DeclaredLink) → IsSeparate Entered Left (record s { world = with_link s.world name l; lanes = s.lanes ++ no_frames ∷ [] })
  link_lanes name l = record {
    lanes = λ k dir. subst (AllByRecursion (CarriesEntered Entered)) (sym (lane-push s.lanes k dir)) (separate.lanes k dir);
    bridges = separate.bridges;
    outs = separate.outs;
  }

  linked_separate : (name : List ℕ) (a b : Option ℕ) (port_a port_b cost : ℕ) → link_refusal_at_found s.world name a port_a b port_b cost ≡ None → IsSeparate Entered Left (link_between_found s name a port_a b port_b cost)
  unfolding linked
  linked_separate name None b port_a port_b cost accepted = separate
  linked_separate name (Some i) None port_a port_b cost accepted = separate
  linked_separate name (Some i) (Some j) port_a port_b cost accepted =
      let l : DeclaredLink = link_of i port_a j port_b cost in
      let new = link_refusal_none s.world name i port_a j port_b cost accepted in
      let t : State = record s { world = with_link s.world name l; lanes = s.lanes ++ no_frames ∷ [] } in
      let u : State = with_metric_at_end t l.a in
      separate_switched_on Entered Left (with_metrics_over t l) (length s.lanes)
      (separate_with_metric Entered Left u l.b (end_metric s.world.bridges l.b new.new.link.b)
      (separate_with_metric Entered Left t l.a (end_metric s.world.bridges l.a new.new.link.a) (link_lanes name l)))

  link_separate : (name a b : List ℕ) (port_a port_b cost : ℕ) → named_link_refusal s.world name a port_a b port_b cost ≡ None → IsSeparate Entered Left (named_link s name a port_a b port_b cost)
  unfolding named_link_refusal named_link
  link_separate name a b port_a port_b cost accepted = linked_separate name (place_of a s.world.bridges) (place_of b s.world.bridges) port_a port_b cost accepted

  -- ---- what happens at a named place

  found_separate : (event : State → ℕ → State) (o : Option ℕ) → ((k : ℕ) → IsSeparate Entered Left (event s k)) → IsSeparate Entered Left (at_place event s o)
  found_separate event None each = separate
  found_separate event (Some k) each = each k

  at_bridge_separate : (event : State → ℕ → State) (name : List ℕ) → ((k : ℕ) → IsSeparate Entered Left (event s k)) → IsSeparate Entered Left (at_bridge event s name)
  unfolding at_bridge
  at_bridge_separate event name each = found_separate event (place_of name s.world.bridges) each

  at_link_separate : (event : State → ℕ → State) (name : List ℕ) → ((k : ℕ) → IsSeparate Entered Left (event s k)) → IsSeparate Entered Left (at_link event s name)
  unfolding at_link
  at_link_separate event name each = found_separate event (place_of name s.world.links) each

  metric_found : (name : List ℕ) (side : Side) (m : ℕ) (o : Option ℕ) → place_of name s.world.links ≡ o → metric_refusal s.world name m ≡ None → IsSeparate Entered Left (at_place (λ t k. with_metric_changed t k side m) s o)
  metric_found name side m None at accepted = separate
  metric_found name side m (Some k) at accepted = separate_metric_changed Entered Left s k side m (metric_refusal_none s.world name m k at accepted) sound.world separate

  metric_separate : (name : List ℕ) (side : Side) (m : ℕ) → metric_refusal s.world name m ≡ None → IsSeparate Entered Left (at_link (λ t k. with_metric_changed t k side m) s name)
  unfolding at_link
  metric_separate name side m accepted = metric_found name side m (place_of name s.world.links) refl accepted

  -- ---- a customer port, and a customer's frame

  attach_found : (port isid : ℕ) (mode : Mode) (o : Option ℕ) → refusal_at_found (λ i. attach_refusal s.world i port isid) o ≡ None → IsSeparate Entered Left (at_place (λ t i. port_attached t i port isid mode) s o)
  attach_found port isid mode None accepted = separate
  attach_found port isid mode (Some i) accepted = separate_attached Entered Left s i port isid mode accepted sound separate

  attach_separate : (name : List ℕ) (port isid : ℕ) (mode : Mode) → named_attach_refusal s.world name port isid ≡ None → IsSeparate Entered Left (at_bridge (λ t i. port_attached t i port isid mode) s name)
  unfolding named_attach_refusal at_bridge
  attach_separate name port isid mode accepted = attach_found port isid mode (place_of name s.world.bridges) accepted

  detach_found : (port : ℕ) (o : Option ℕ) → refusal_at_found (λ i. detach_refusal s.world i port) o ≡ None → IsSeparate Entered Left (at_place (λ t i. port_detached t i port) s o)
  detach_found port None accepted = separate
  detach_found port (Some i) accepted = separate_detached Entered Left s i port accepted sound separate

  detach_separate : (name : List ℕ) (port : ℕ) → named_detach_refusal s.world name port ≡ None → IsSeparate Entered Left (at_bridge (λ t i. port_detached t i port) s name)
  unfolding named_detach_refusal at_bridge
  detach_separate name port accepted = detach_found port (place_of name s.world.bridges) accepted

  -- it enters in the I-SID of the port
  enters_at : (name : List ℕ) (port : ℕ) (bytes : List ℕ) (i : ℕ) → place_of name s.world.bridges ≡ Some i → (v : BridgeView) (isid : Isid) → slice_get s.views i ≡ Some v → IsAttachedTo v.attached port isid → IsPortOf s.world name port isid
  enters_at name port bytes i at v isid at_v attached = record { place = i; named = at; attached = subst (λ (attachments : List Attachment). IsAttachedTo attachments port isid) (sound.attached i v at_v) attached }

  frame_found : (name : List ℕ) (port : ℕ) (bytes : List ℕ) (o : Option ℕ) → place_of name s.world.bridges ≡ o → refusal_at_found (λ i. entry_refusal s.world i port bytes) o ≡ None → ((isid : Isid) → IsPortOf s.world name port isid → Entered isid bytes) → IsSeparate Entered Left (at_place (λ t i. frame_entered t i port bytes) s o)
  frame_found name port bytes None at accepted enters = separate
  frame_found name port bytes (Some i) at accepted enters =
      (leaving_entered s.world Entered sound.distinct.bridges s i port bytes (is_entry s i port bytes sound accepted) (λ v isid at_v attached. enters isid (enters_at name port bytes i at v isid at_v attached)) leaving).separate

  frame_separate : (name : List ℕ) (port : ℕ) (bytes : List ℕ) → named_entry_refusal s.world name port bytes ≡ None → ((isid : Isid) → IsPortOf s.world name port isid → Entered isid bytes) → IsSeparate Entered Left (at_bridge (λ t i. frame_entered t i port bytes) s name)
  unfolding named_entry_refusal at_bridge
  frame_separate name port bytes accepted enters = frame_found name port bytes (place_of name s.world.bridges) refl accepted enters

  -- ---- rounds and drains

  rounds_separate : (n : ℕ) → IsSeparate Entered Left (with_rounds n s)
  unfolding with_rounds
  rounds_separate n =
      let after : IsSeparate Entered Left (rounds n s) = (leaving_rounds s.world Entered sound.distinct.bridges n s leaving).separate in
      record { lanes = after.lanes; bridges = after.bridges; outs = after.outs }

  drain_separate : (n : ℕ) → IsSeparate Entered Left (with_drain n s)
  unfolding with_drain
  drain_separate n =
      let after : IsSeparate Entered Left (drained n s) = (leaving_drained s.world Entered sound.distinct.bridges n s leaving).separate in
      record { lanes = after.lanes; bridges = after.bridges; outs = after.outs }

  -- ---- the commands

  played_separate : (c : Command) → refusal_of s c ≡ None → ((isid : Isid) (f : List ℕ) → Enters s c isid f → Entered isid f) → IsSeparate Entered Left (played s c)
  played_separate (command.Vid vid ect) accepted enters = vid_separate vid ect
  played_separate (command.Bridge name priority system source ports) accepted enters = bridge_separate name priority system source ports accepted
  played_separate (command.Link name a port_a b port_b cost) accepted enters = link_separate name a b port_a port_b cost accepted
  played_separate (command.Isid isid vid) accepted enters = service_separate isid vid
  played_separate (command.Attach name port isid mode) accepted enters = attach_separate name port isid mode accepted
  played_separate (command.Detach name port) accepted enters = detach_separate name port accepted
  played_separate (command.Metric name side m) accepted enters = metric_separate name side m accepted
  played_separate (command.Down name) accepted enters = at_link_separate switched_off name (λ k. separate_switched_off Entered Left s k separate)
  played_separate (command.Up name) accepted enters = at_link_separate switched_on name (λ k. separate_switched_on Entered Left s k separate)
  played_separate (command.Restart name) accepted enters = at_bridge_separate restarted name (λ i. separate_restarted Entered Left s i sound separate)
  played_separate (command.Tick name) accepted enters = at_bridge_separate ticked name (λ i. (leaving_ticked s.world Entered sound.distinct.bridges s i leaving).separate)
  played_separate (command.Deliver name dir) accepted enters = at_link_separate (λ t k. delivered t k dir) name (λ k. (leaving_delivered s.world Entered sound.distinct.bridges s k dir leaving).separate)
  played_separate (command.Lose name dir place) accepted enters = at_link_separate (λ t k. lost t k dir place) name (λ k. separate_lost Entered Left s k dir place separate)
  played_separate (command.Double name dir place) accepted enters = at_link_separate (λ t k. doubled t k dir place) name (λ k. separate_doubled Entered Left s k dir place separate)
  played_separate (command.Frame name port bytes) accepted enters = frame_separate name port bytes accepted (λ isid at. enters isid bytes (refl, at))
  played_separate (command.Round n) accepted enters = rounds_separate n
  played_separate (command.Drain n) accepted enters = drain_separate n
  played_separate _ accepted enters = separate

  counted_apart : (t : State) → IsSeparate Entered Left t → IsApart Entered (accepted_once t)
  counted_apart t after = let is : IsApart Entered t = apart_of Entered Left t after in record { lanes = is.lanes; places = is.places }

  -- services stay apart, and what leaves has entered
  pub command_apart : (c : Command) → refusal_of s c ≡ None → ((isid : Isid) (f : List ℕ) → Enters s c isid f → Entered isid f) → IsApart Entered (next_state s c) × AllByRecursion (LeftEntered s.world Entered) (outs_in (answer_of s c))
  unfolding next_state
  command_apart c accepted enters =
      let after : IsSeparate Entered Left (played s c) = played_separate c accepted enters in
      (counted_apart (played s c) after, answered Left _ (played s c).outs (answer_to_asked s c) after.outs (asked_silent s c))
