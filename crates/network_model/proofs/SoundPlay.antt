-- Accepted commands keep what is sound of a network.
use Rattle.std.proofs.Common.{◌≡◌, ℕ, ◌+◌, ◌==◌, List, [], ◌∷◌, ◌++◌, length, refl, sym, subst, Option, Some, None, arith}
use Rattle.std.specs.Prelude.{remove}
use Rattle.std.proofs.lemmas.Bool.{eqb-true}
use Rattle.spb_types.specs.declared.address.Mac.{Mac}
use Rattle.spb_types.specs.declared.service.SourceId.{SourceId}
use Rattle.spb_types.specs.declared.service.Isid.{Isid}
use Rattle.spb_types.specs.declared.service.Mode.{Mode}
use Rattle.spb_types.specs.declared.service.Vid.{Vid}
use Rattle.scenario.specs.declared.command.Command.{Command}
use Rattle.scenario.specs.declared.command.Command.TheVariants as command
use Rattle.spb_types.specs.declared.link.Side.{Side}
use Rattle.bridge_api.specs.declared.config.BridgeConfig.{BridgeConfig}
use Rattle.bridge_api.specs.View.{BridgeView}
use Rattle.bridge_api.specs.Config.{IsWhole, bare, configured}
use Rattle.spb_world.specs.declared.declaration.DeclaredLink.{DeclaredLink}
use Rattle.network_model.specs.declared.kind_rule.KindRule.{KindRule}
use Rattle.link_model.specs.declared.lanes.LinkLanes.{LinkLanes}
use Rattle.spb_world.specs.World.{World, place_of, Sound}
use Rattle.link_model.specs.Lanes.{no_frames}
use Rattle.spb_world.specs.Declaring.{bridge_refusal, vid_refusal, link_refusal, plan_of, bridge_of, link_of, with_link, config_of}
use Rattle.spb_world.specs.Services.{isid_refusal, service_of, with_service}
use Rattle.spb_world.specs.Attaching.{attach_refusal, detach_refusal, entry_refusal}
use Rattle.network_model.specs.State.{State, Spare}
use Rattle.network_model.specs.Events.{ticked, delivered, lost, doubled, with_metrics_over, with_metric_changed, port_attached, port_detached, frame_entered, switched_off, switched_on, rounds, drained}
use Rattle.network_model.specs.Restarting.{restarted}
use Rattle.network_model.specs.Refusing.{box_for, declared_refusal, refusal_of}
use Rattle.spb_world.specs.Naming.{link_refusal_at_found, named_link_refusal, refusal_at_found, metric_refusal, named_attach_refusal, named_detach_refusal, named_entry_refusal}
use Rattle.network_model.specs.Play.{boxed, declared, linked, link_between_found, named_link, at_place, at_bridge, at_link, with_vid_more, with_service_more, with_rounds, with_drain, played, accepted_once, next_state, played_all}
use Rattle.network_model.specs.Sound.{IsSoundState, opening}
use Rattle.network_model.specs.SoundLaws.{Keeps, EventsKeepSound, CommandsKeepSound, AreAccepted, opening_of, NetworksAreSound}
use Rattle.network_model.proofs.BridgeLaws.{configured_is_sound, configured_has_no_carrier}
use Rattle.spb_world.proofs.ConfigLemmas.{whole-config}
use Rattle.spb_world.proofs.ServiceLemmas.{Sound-with_service}
use Rattle.spb_world.proofs.WorldLemmas.{Sound-with_vid}
use Rattle.spb_world.proofs.RefusalLemmas.{metric_refusal_none, vid_refusal_none, isid_refusal_none, IsFreeBridge, bridge_refusal_none, link_refusal_none}
use Rattle.network_model.proofs.SoundNames.{first_none, last_none, passes, distinct_bridge, distinct_link}
use Rattle.network_model.proofs.SoundEvents.{Sound-ticked, Sound-delivered, Sound-lost, Sound-doubled, Sound-switched_off, Sound-switched_on, Sound-rounds, Sound-drained}
use Rattle.network_model.proofs.SoundDeclaring.{empty_from, IsNewView, Sound-new_bridge, Sound-new_vid, Sound-nothing}
use Rattle.network_model.proofs.SoundLinks.{Sound-new_link}
use Rattle.network_model.proofs.RestartSound.{Sound-restarted}
use Rattle.network_model.proofs.SoundSetMetrics.{Sound-metric_changed}
use Rattle.network_model.proofs.SoundAttaching.{Sound-port_attached, Sound-port_detached}
use Rattle.network_model.proofs.SoundEntering.{Sound-frame_entered}
use Rattle.spb_world.proofs.PlaceLemmas.{place_within}
use Rattle.network_model.proofs.SoundLane.{IsStill}
use Rattle.network_model.proofs.SoundConfigured.{configured_still, configured_attached}

pub events_keep_sound : EventsKeepSound
events_keep_sound = record {
  tick = λ i s sound. Sound-ticked s i sound;
  deliver = λ k dir s sound. Sound-delivered s k dir sound;
  lose = λ k dir place s sound. Sound-lost s k dir place sound;
  double = λ k dir place s sound. Sound-doubled s k dir place sound;
  metric = λ k side m is s sound. Sound-metric_changed s k side m is sound;
  attach = λ i port isid mode s may sound. Sound-port_attached s i port isid mode may.0 may.1 sound;
  detach = λ i port s may sound. Sound-port_detached s i port may sound;
  enter = λ i port bytes s may sound. Sound-frame_entered s i port bytes may sound;
  down = λ k s sound. Sound-switched_off s k sound;
  up = λ k s sound. Sound-switched_on s k sound;
  restart = λ i s sound. Sound-restarted s i sound;
  round = λ n s sound. Sound-rounds n s sound;
  drain = λ n s sound. Sound-drained n s sound;
}

-- the rack, the rule and the counts don't matter
pub sound_again : (s t : State) → t.world ≡ s.world → t.views ≡ s.views → t.lanes ≡ s.lanes → IsSoundState s → IsSoundState t
sound_again s t world views lanes sound =
    let same : IsSoundState (record s { world = t.world; views = t.views; lanes = t.lanes }) =
    subst (λ (ls : List LinkLanes). IsSoundState (record s { world = t.world; views = t.views; lanes = ls })) (sym lanes)
    (subst (λ (vs : List BridgeView). IsSoundState (record s { world = t.world; views = vs })) (sym views)
    (subst (λ (w : World). IsSoundState (record s { world = w })) (sym world) sound)) in
    record {
      world = same.world;
      distinct = record { bridges = same.distinct.bridges; sources = same.distinct.sources; links = same.distinct.links };
      fits = record { bridges = same.fits.bridges; lanes = same.fits.lanes; ports = same.fits.ports };
      shown = same.shown;
      views = same.views;
      carriers = same.carriers;
      metrics = same.metrics;
      attached = same.attached;
      short = same.short;
      idle = same.idle;
      agree = same.agree;
    }

-- ---- a VID

before_bridges : (w : World) (vid ect : ℕ) → vid_refusal w vid ect ≡ None → w.bridges ≡ []
unfolding vid_refusal
before_bridges w vid ect none = empty_from w.bridges (eqb-true (length w.bridges) 0 (passes (length w.bridges == 0) _ (last_none _ _ none)))

vid_sound : (s : State) (vid ect : ℕ) → IsSoundState s → vid_refusal s.world vid ect ≡ None → IsSoundState (with_vid_more s vid ect)
unfolding with_vid_more
vid_sound s vid ect sound none =
    let new = vid_refusal_none s.world vid ect none in
    Sound-new_vid s (plan_of vid ect) sound (before_bridges s.world vid ect none)
    (Sound-with_vid s.world (plan_of vid ect) sound.world new.new)

-- ---- a service

service_more : (s : State) (service : Isid × Vid) → IsSoundState s → Sound (with_service s.world service) → IsSoundState (record s { world = with_service s.world service })
unfolding with_service
service_more s service sound world = record {
  world = world;
  distinct = record { bridges = sound.distinct.bridges; sources = sound.distinct.sources; links = sound.distinct.links };
  fits = record { bridges = sound.fits.bridges; lanes = sound.fits.lanes; ports = sound.fits.ports };
  shown = sound.shown;
  views = sound.views;
  carriers = sound.carriers;
  metrics = sound.metrics;
  attached = sound.attached;
  short = sound.short;
  idle = sound.idle;
  agree = sound.agree;
}

isid_sound : (s : State) (isid vid : ℕ) → IsSoundState s → isid_refusal s.world isid vid ≡ None → IsSoundState (with_service_more s isid vid)
unfolding with_service_more
isid_sound s isid vid sound none =
    service_more s (service_of isid vid) sound (Sound-with_service s.world (service_of isid vid) sound.world (isid_refusal_none s.world isid vid none).new)

-- ---- a bridge

new_view : (w : World) (name : List ℕ) (priority : ℕ) (system : Mac) (source : SourceId) (ports : ℕ) → Sound w → IsFreeBridge w name priority system source ports → IsNewView w (bridge_of priority system source ports) (configured (config_of w (bridge_of priority system source ports)))
new_view w name priority system source ports sound new = record {
  shown = record { id = still.id; source = still.source; vids = still.vids };
  attached = configured_attached c;
  ports = record { ports = (configured_has_no_carrier c whole).ports };
  sound = configured_is_sound c whole;
  no_carrier = (configured_has_no_carrier c whole).carrier;
}
  where
    c : BridgeConfig
    c = config_of w (bridge_of priority system source ports)

    whole : IsWhole c
    whole = whole-config w (bridge_of priority system source ports) sound new.ports_high (omega (arith, new.priority_high)) new.source_high new.address

    still : IsStill (bare c) (configured c)
    still = configured_still c

boxed_sound : (s : State) (name : List ℕ) (priority : ℕ) (system : Mac) (source : SourceId) (ports : ℕ) (o : Option ℕ) → IsSoundState s → bridge_refusal s.world name priority system source ports ≡ None → IsSoundState (boxed s name (bridge_of priority system source ports) o)
boxed_sound s name priority system source ports None sound none = sound
boxed_sound s name priority system source ports (Some place) sound none =
    let new = bridge_refusal_none s.world name priority system source ports none in
    Sound-new_bridge s (remove s.rack place) (s.ticks ++ 0 ∷ []) name (bridge_of priority system source ports) (configured (config_of s.world (bridge_of priority system source ports))) sound new.new (distinct_bridge s.world name priority system source ports sound.distinct none) (new_view s.world name priority system source ports sound.world new)

bridge_sound : (s : State) (name : List ℕ) (priority : ℕ) (system : Mac) (source : SourceId) (ports : ℕ) → IsSoundState s → declared_refusal s name priority system source ports ≡ None → IsSoundState (declared s name (bridge_of priority system source ports))
unfolding declared_refusal declared
bridge_sound s name priority system source ports sound none =
    boxed_sound s name priority system source ports (box_for s) sound (first_none _ _ none)

-- ---- a link

linked_sound : (s : State) (name : List ℕ) (i port_a j port_b cost : ℕ) → IsSoundState s → link_refusal s.world name i port_a j port_b cost ≡ None → IsSoundState (linked s name (link_of i port_a j port_b cost))
unfolding linked
linked_sound s name i port_a j port_b cost sound none =
    let l : DeclaredLink = link_of i port_a j port_b cost in
    let new = link_refusal_none s.world name i port_a j port_b cost none in
    Sound-switched_on (with_metrics_over (record s { world = with_link s.world name l; lanes = s.lanes ++ no_frames ∷ [] }) l) (length s.lanes) (Sound-new_link s name l sound new.new (distinct_link s.world name l sound.distinct new.name_new) refl)

sound_at_found : (s : State) (name : List ℕ) (a b : Option ℕ) (port_a port_b cost : ℕ) → IsSoundState s → link_refusal_at_found s.world name a port_a b port_b cost ≡ None → IsSoundState (link_between_found s name a port_a b port_b cost)
sound_at_found s name None b port_a port_b cost sound none = sound
sound_at_found s name (Some i) None port_a port_b cost sound none = sound
sound_at_found s name (Some i) (Some j) port_a port_b cost sound none = linked_sound s name i port_a j port_b cost sound none

link_sound : (s : State) (name a b : List ℕ) (port_a port_b cost : ℕ) → IsSoundState s → named_link_refusal s.world name a port_a b port_b cost ≡ None → IsSoundState (named_link s name a port_a b port_b cost)
unfolding named_link_refusal named_link
link_sound s name a b port_a port_b cost sound none = sound_at_found s name (place_of a s.world.bridges) (place_of b s.world.bridges) port_a port_b cost sound none

-- ---- what happens at a named place

place_sound : (event : State → ℕ → State) (s : State) (o : Option ℕ) → ((k : ℕ) → Keeps (λ t. event t k)) → IsSoundState s → IsSoundState (at_place event s o)
place_sound event s None keeps sound = sound
place_sound event s (Some k) keeps sound = keeps k s sound

at_bridge_sound : (event : State → ℕ → State) (s : State) (name : List ℕ) → ((k : ℕ) → Keeps (λ t. event t k)) → IsSoundState s → IsSoundState (at_bridge event s name)
unfolding at_bridge
at_bridge_sound event s name keeps sound = place_sound event s (place_of name s.world.bridges) keeps sound

at_link_sound : (event : State → ℕ → State) (s : State) (name : List ℕ) → ((k : ℕ) → Keeps (λ t. event t k)) → IsSoundState s → IsSoundState (at_link event s name)
unfolding at_link
at_link_sound event s name keeps sound = place_sound event s (place_of name s.world.links) keeps sound

-- ---- a metric

metric_sound_at_found : (s : State) (name : List ℕ) (side : Side) (m : ℕ) (o : Option ℕ) → place_of name s.world.links ≡ o → IsSoundState s → metric_refusal s.world name m ≡ None → IsSoundState (at_place (λ t k. with_metric_changed t k side m) s o)
metric_sound_at_found s name side m None at sound none = sound
metric_sound_at_found s name side m (Some k) at sound none = Sound-metric_changed s k side m (metric_refusal_none s.world name m k at none) sound

metric_sound : (s : State) (name : List ℕ) (side : Side) (m : ℕ) → IsSoundState s → metric_refusal s.world name m ≡ None → IsSoundState (at_link (λ t k. with_metric_changed t k side m) s name)
unfolding at_link
metric_sound s name side m sound none = metric_sound_at_found s name side m (place_of name s.world.links) refl sound none

-- ---- a customer port

attach_sound_at_found : (s : State) (name : List ℕ) (port isid : ℕ) (mode : Mode) (o : Option ℕ) → place_of name s.world.bridges ≡ o → IsSoundState s → refusal_at_found (λ i. attach_refusal s.world i port isid) o ≡ None → IsSoundState (at_place (λ t i. port_attached t i port isid mode) s o)
attach_sound_at_found s name port isid mode None at sound none = sound
attach_sound_at_found s name port isid mode (Some i) at sound none = Sound-port_attached s i port isid mode (place_within name s.world.bridges i at) none sound

attach_sound : (s : State) (name : List ℕ) (port isid : ℕ) (mode : Mode) → IsSoundState s → named_attach_refusal s.world name port isid ≡ None → IsSoundState (at_bridge (λ t i. port_attached t i port isid mode) s name)
unfolding named_attach_refusal at_bridge
attach_sound s name port isid mode sound none = attach_sound_at_found s name port isid mode (place_of name s.world.bridges) refl sound none

detach_sound_at_found : (s : State) (port : ℕ) (o : Option ℕ) → IsSoundState s → refusal_at_found (λ i. detach_refusal s.world i port) o ≡ None → IsSoundState (at_place (λ t i. port_detached t i port) s o)
detach_sound_at_found s port None sound none = sound
detach_sound_at_found s port (Some i) sound none = Sound-port_detached s i port none sound

detach_sound : (s : State) (name : List ℕ) (port : ℕ) → IsSoundState s → named_detach_refusal s.world name port ≡ None → IsSoundState (at_bridge (λ t i. port_detached t i port) s name)
unfolding named_detach_refusal at_bridge
detach_sound s name port sound none = detach_sound_at_found s port (place_of name s.world.bridges) sound none

enter_sound_at_found : (s : State) (port : ℕ) (bytes : List ℕ) (o : Option ℕ) → IsSoundState s → refusal_at_found (λ i. entry_refusal s.world i port bytes) o ≡ None → IsSoundState (at_place (λ t i. frame_entered t i port bytes) s o)
enter_sound_at_found s port bytes None sound none = sound
enter_sound_at_found s port bytes (Some i) sound none = Sound-frame_entered s i port bytes none sound

enter_sound : (s : State) (name : List ℕ) (port : ℕ) (bytes : List ℕ) → IsSoundState s → named_entry_refusal s.world name port bytes ≡ None → IsSoundState (at_bridge (λ t i. frame_entered t i port bytes) s name)
unfolding named_entry_refusal at_bridge
enter_sound s name port bytes sound none = enter_sound_at_found s port bytes (place_of name s.world.bridges) sound none

-- ---- the commands

rounds_sound : (n : ℕ) → Keeps (with_rounds n)
unfolding with_rounds
rounds_sound n s sound = sound_again (rounds n s) (record (rounds n s) { rounds = s.rounds + n }) refl refl refl (Sound-rounds n s sound)

drain_sound : (n : ℕ) → Keeps (with_drain n)
unfolding with_drain
drain_sound n s sound = sound_again (drained n s) (record (drained n s) { drained = s.drained + n }) refl refl refl (Sound-drained n s sound)

played_sound : (s : State) (c : Command) → IsSoundState s → refusal_of s c ≡ None → IsSoundState (played s c)
played_sound s (command.Vid vid ect) sound none = vid_sound s vid ect sound none
played_sound s (command.Bridge name priority system source ports) sound none = bridge_sound s name priority system source ports sound none
played_sound s (command.Link name a port_a b port_b cost) sound none = link_sound s name a b port_a port_b cost sound none
played_sound s (command.Isid isid vid) sound none = isid_sound s isid vid sound none
played_sound s (command.Attach name port isid mode) sound none = attach_sound s name port isid mode sound none
played_sound s (command.Detach name port) sound none = detach_sound s name port sound none
played_sound s (command.Frame name port bytes) sound none = enter_sound s name port bytes sound none
played_sound s (command.Metric name side m) sound none = metric_sound s name side m sound none
played_sound s (command.Down name) sound none = at_link_sound switched_off s name (λ k t. Sound-switched_off t k) sound
played_sound s (command.Up name) sound none = at_link_sound switched_on s name (λ k t. Sound-switched_on t k) sound
played_sound s (command.Restart name) sound none = at_bridge_sound restarted s name (λ k t. Sound-restarted t k) sound
played_sound s (command.Tick name) sound none = at_bridge_sound ticked s name (λ k t. Sound-ticked t k) sound
played_sound s (command.Deliver name dir) sound none = at_link_sound (λ t k. delivered t k dir) s name (λ k t. Sound-delivered t k dir) sound
played_sound s (command.Lose name dir place) sound none = at_link_sound (λ t k. lost t k dir place) s name (λ k t. Sound-lost t k dir place) sound
played_sound s (command.Double name dir place) sound none = at_link_sound (λ t k. doubled t k dir place) s name (λ k t. Sound-doubled t k dir place) sound
played_sound s (command.Round n) sound none = rounds_sound n s sound
played_sound s (command.Drain n) sound none = drain_sound n s sound
played_sound s _ sound none = sound

pub commands_keep_sound : CommandsKeepSound
unfolding next_state
commands_keep_sound s c sound none = sound_again (played s c) (accepted_once (played s c)) refl refl refl (played_sound s c sound none)

all_sound : (s : State) (cs : List Command) → IsSoundState s → AreAccepted s cs → IsSoundState (played_all s cs)
all_sound s [] sound accepted = sound
all_sound s (c ∷ cs) sound accepted = all_sound (next_state s c) cs (commands_keep_sound s c sound accepted.0) accepted.1

opening_world : Sound (record { vids = []; bridges = []; links = []; services = []; attached = [] })
opening_world = record {
  few = omega arith;
  ports = tt;
  systems = tt;
  links = tt;
  links_apart = tt;
  plans = record { ects = tt; apart = tt };
  few_vids = omega arith;
  each_vid = tt;
  services = tt;
  services_apart = tt;
  attached = tt;
  attached_apart = tt;
}

-- a network in which nothing is declared is sound
pub opening_sound : (rule : KindRule) (rack : List Spare) → IsSoundState (opening rule rack)
opening_sound rule rack = Sound-nothing (opening rule rack) opening_world refl refl refl refl

pub networks_are_sound : NetworksAreSound
networks_are_sound scene = all_sound (opening_of scene) scene.commands (opening_sound scene.rule scene.rack) scene.accepted
