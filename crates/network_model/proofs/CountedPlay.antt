-- Every event and command keeps the numbers within their allowance.
use Rattle.std.proofs.Common.{◌≡◌, ◌≤◌, ◌<◌, ◌+◌, ◌*◌, ℕ, List, [], ◌∷◌, ◌++◌, length, refl, ap, ◌∙◌, Option, Some, None, arith}
use Rattle.std.proofs.Math.Nat.{min-eq_left}
use Rattle.spb_types.specs.declared.address.Mac.{Mac}
use Rattle.spb_types.specs.declared.service.Mode.{Mode}
use Rattle.spb_types.specs.declared.service.SourceId.{SourceId}
use Rattle.spb_types.specs.declared.limits.TheConstants.{MOST_ROUNDS}
use Rattle.spb_types.specs.declared.link.Dir.{Dir}
use Rattle.spb_types.specs.declared.link.Side.{Side}
use Rattle.scenario.specs.declared.command.Command.{Command}
use Rattle.scenario.specs.declared.command.Command.TheVariants as command
use Rattle.flooding.specs.Own.{last_number}
use Rattle.bridge_api.specs.declared.config.BridgeConfig.{BridgeConfig}
use Rattle.bridge_api.specs.Config.{configured}
use Rattle.bridge_laws.specs.Few.{HoldsFew}
use Rattle.bridge_laws.proofs.FewHeld.{configured_holds_few}
use Rattle.network_model.specs.declared.answer.Out.{Out}
use Rattle.network_model.specs.declared.kind_rule.KindRule.{KindRule}
use Rattle.spb_world.specs.declared.declaration.DeclaredBridge.{DeclaredBridge}
use Rattle.std.specs.Prelude.{remove}
use Rattle.spb_world.specs.World.{World, place_of}
use Rattle.spb_world.specs.Declaring.{bridge_of, link_of, with_vid, bridge_refusal, link_refusal, config_of}
use Rattle.spb_world.specs.Services.{with_service}
use Rattle.spb_world.specs.Attaching.{attach_refusal, detach_refusal, entry_refusal}
use Rattle.network_model.specs.State.{State, Spare}
use Rattle.network_model.specs.Events.{ticked, delivered, lost, doubled, with_metric_changed, port_attached, port_detached, frame_entered, switched_off, switched_on, rounds, drained}
use Rattle.network_model.specs.Restarting.{restarted}
use Rattle.network_model.specs.Refusing.{box_for, declared_refusal, refusal_of}
use Rattle.spb_world.specs.Naming.{link_refusal_at_found, named_link_refusal, refusal_at_found, metric_refusal, named_attach_refusal, named_detach_refusal, named_entry_refusal}
use Rattle.network_model.specs.Play.{boxed, declared, linked, link_between_found, named_link, at_place, at_bridge, at_link, with_vid_more, with_service_more, with_rounds, with_drain, played, next_count, next_state, played_all}
use Rattle.network_model.specs.Sound.{IsSoundState, opening}
use Rattle.network_model.specs.SoundLaws.{AreAccepted, opening_of}
use Rattle.network_model.specs.Counted.{IsCountedBy, IsCounted, allowance_of, most_commands}
use Rattle.network_model.specs.CountedLaws.{EventsKeepCounted, CommandsKeepCounted, NetworksAreCounted}
use Rattle.spb_world.proofs.RefusalLemmas.{metric_refusal_none, bridge_refusal_none, link_refusal_none}
use Rattle.network_model.proofs.StateRefusals.{round_refusal_none}
use Rattle.network_model.proofs.SoundNames.{first_none, distinct_link}
use Rattle.network_model.proofs.SoundConfigured.{configured_still}
use Rattle.network_model.proofs.SoundEvents.{core_of}
use Rattle.network_model.proofs.SoundPlay.{commands_keep_sound, opening_sound}
use Rattle.network_model.proofs.CountsKept.{counts, counts-ticked, counts-delivered, counts-metric, counts-attached, counts-detached, counts-entered, counts-off, counts-on, counts-rounds, counts-drained, counts-boxed, counts-linked}
use Rattle.network_model.proofs.CountedDeclaring.{IsFirstOwn, counted_bridge, counted_link}
use Rattle.network_model.proofs.CountedLinks.{Counted-metric, Counted-off, Counted-on}
use Rattle.network_model.proofs.CountedAttaching.{Counted-attached, Counted-detached}
use Rattle.network_model.proofs.CountedEntering.{Counted-entered}
use Rattle.spb_world.proofs.PlaceLemmas.{place_within}
use Rattle.network_model.proofs.RestartCounted.{Counted-restarted, counts-restarted}
use Rattle.network_model.proofs.CountedRounds.{counted_more, Counted-rounds, Counted-drained}
use Rattle.network_model.proofs.CountedEvents.{Counted-ticked, Counted-delivered, Counted-lost, Counted-doubled}

pub events_keep_counted : EventsKeepCounted
events_keep_counted = record {
  tick = λ i s n sound counted low. Counted-ticked s n i (core_of s sound) counted (omega (arith, low));
  deliver = λ k dir s n sound counted low. Counted-delivered s n k dir (core_of s sound) counted (omega (arith, low));
  lose = λ k dir place s n sound counted low. Counted-lost s n k dir place counted;
  double = λ k dir place s n sound counted low. Counted-doubled s n k dir place counted;
  metric = λ k side m is s n sound counted low. Counted-metric s n k side m is (core_of s sound) counted (omega (arith, low));
  attach = λ i port isid mode s n may sound counted low. Counted-attached s n i port isid mode may.0 may.1 sound counted (omega (arith, low));
  detach = λ i port s n may sound counted low. Counted-detached s n i port may sound counted (omega (arith, low));
  enter = λ i port bytes s n may sound counted low. Counted-entered s n i port bytes may sound counted (omega (arith, low));
  down = λ k s n sound counted low. Counted-off s n k sound counted (omega (arith, low));
  up = λ k s n sound counted low. Counted-on s n k (core_of s sound) counted (omega (arith, low));
  restart = λ i s n sound counted low. Counted-restarted s n i sound counted low;
  round = λ c s n sound counted low. Counted-rounds c n s sound counted low;
  drain = λ c s n sound counted low. counted_more n (n + 0) (drained c s) (omega arith) (Counted-drained c n s sound counted (omega (arith, low)));
}

-- ---- declarations

-- what left, and the counts, don't matter
again : (n : ℕ) (s : State) (outs : List Out) (r d a : ℕ) → IsCountedBy n s → IsCountedBy n (record s { outs = outs; rounds = r; drained = d; accepted = a })
again n s outs r d a counted = record {
  fresh = counted.fresh;
  held = counted.held;
  said = counted.said;
  origins = counted.origins;
  bound = λ i v id at own. let within = counted.bound i v id at own in record { most = within.most; bound = within.bound; room = within.room };
}

vid_counted : (n : ℕ) (s : State) (vid ect : ℕ) → IsCountedBy n s → IsCountedBy n (with_vid_more s vid ect)
unfolding with_vid_more with_vid
vid_counted n s vid ect counted = record {
  fresh = counted.fresh;
  held = counted.held;
  said = counted.said;
  origins = counted.origins;
  bound = λ i v id at own. let within = counted.bound i v id at own in record { most = within.most; bound = within.bound; room = within.room };
}

isid_counted : (n : ℕ) (s : State) (isid vid : ℕ) → IsCountedBy n s → IsCountedBy n (with_service_more s isid vid)
unfolding with_service_more with_service
isid_counted n s isid vid counted = record {
  fresh = counted.fresh;
  held = counted.held;
  said = counted.said;
  origins = counted.origins;
  bound = λ i v id at own. let within = counted.bound i v id at own in record { most = within.most; bound = within.bound; room = within.room };
}

first_own : (w : World) (b : DeclaredBridge) → IsFirstOwn b (configured (config_of w b))
first_own w b =
    let c : BridgeConfig = config_of w b in
    let few : HoldsFew 1 (configured c) = configured_holds_few c refl in
    record { id = (configured_still c).id; fresh = few.unspent; own = few.number; alone = few.alone }

boxed_counted : (s : State) (n : ℕ) (name : List ℕ) (priority : ℕ) (system : Mac) (source : SourceId) (ports : ℕ) (o : Option ℕ) → IsSoundState s → IsCountedBy n s → bridge_refusal s.world name priority system source ports ≡ None → IsCountedBy (n + 2) (boxed s name (bridge_of priority system source ports) o)
boxed_counted s n name priority system source ports None sound counted none = counted_more n (n + 2) s (omega arith) counted
boxed_counted s n name priority system source ports (Some place) sound counted none =
    let b : DeclaredBridge = bridge_of priority system source ports in
    counted_bridge s n (remove s.rack place) (s.ticks ++ 0 ∷ []) name b (configured (config_of s.world b)) sound counted (bridge_refusal_none s.world name priority system source ports none).new (first_own s.world b)

bridge_counted : (s : State) (n : ℕ) (name : List ℕ) (priority : ℕ) (system : Mac) (source : SourceId) (ports : ℕ) → IsSoundState s → IsCountedBy n s → declared_refusal s name priority system source ports ≡ None → IsCountedBy (n + 2) (declared s name (bridge_of priority system source ports))
unfolding declared_refusal declared
bridge_counted s n name priority system source ports sound counted none = boxed_counted s n name priority system source ports (box_for s) sound counted (first_none _ _ none)

counts-declared : (s : State) (name : List ℕ) (b : DeclaredBridge) → counts (declared s name b) ≡ counts s
unfolding declared
counts-declared s name b = counts-boxed s name b (box_for s)

linked_counted : (s : State) (n : ℕ) (name : List ℕ) (i port_a j port_b cost : ℕ) → IsSoundState s → IsCountedBy n s → n + 2 < last_number → link_refusal s.world name i port_a j port_b cost ≡ None → IsCountedBy (n + 2) (linked s name (link_of i port_a j port_b cost))
unfolding linked
linked_counted s n name i port_a j port_b cost sound counted low none =
    let l = link_of i port_a j port_b cost in
    let new = link_refusal_none s.world name i port_a j port_b cost none in
    counted_link s n name l sound counted new.new (distinct_link s.world name l sound.distinct new.name_new) refl low

-- ---- what one command makes

-- the numbers are within what is allowed after one command more
record IsPlayed (s t : State) : Type 0 where
  rounds : t.rounds ≤ MOST_ROUNDS
  accepted : t.accepted ≡ s.accepted
  by : IsCountedBy (128 * t.rounds + 2 * s.accepted + 2) t

two_more : (s t : State) → IsCounted s → counts t ≡ counts s → IsCountedBy (allowance_of s + 2) t → IsPlayed s t
two_more s t counted same by =
    let rounds_same : t.rounds ≡ s.rounds = ap (λ (c : ℕ × ℕ). c.0) same in
    record {
      rounds = omega (arith, rounds_same, counted.rounds);
      accepted = ap (λ (c : ℕ × ℕ). c.1) same;
      by = counted_more (allowance_of s + 2) (128 * t.rounds + 2 * s.accepted + 2) t (omega (arith, rounds_same)) by;
    }

unchanged : (s : State) → IsCounted s → IsPlayed s s
unchanged s counted = two_more s s counted refl (counted_more (allowance_of s) (allowance_of s + 2) s (omega arith) counted.by)

place_played : (event : State → ℕ → State) (s : State) (o : Option ℕ) → IsCounted s → ((k : ℕ) → o ≡ Some k → IsPlayed s (event s k)) → IsPlayed s (at_place event s o)
place_played event s None counted plays = unchanged s counted
place_played event s (Some k) counted plays = plays k refl

bridge_played : (event : State → ℕ → State) (s : State) (name : List ℕ) → IsCounted s → ((k : ℕ) → place_of name s.world.bridges ≡ Some k → IsPlayed s (event s k)) → IsPlayed s (at_bridge event s name)
unfolding at_bridge
bridge_played event s name counted plays = place_played event s (place_of name s.world.bridges) counted plays

link_played : (event : State → ℕ → State) (s : State) (name : List ℕ) → IsCounted s → ((k : ℕ) → place_of name s.world.links ≡ Some k → IsPlayed s (event s k)) → IsPlayed s (at_link event s name)
unfolding at_link
link_played event s name counted plays = place_played event s (place_of name s.world.links) counted plays

found_played : (s : State) (name : List ℕ) (a b : Option ℕ) (port_a port_b cost : ℕ) → IsSoundState s → IsCounted s → allowance_of s + 2 < last_number → link_refusal_at_found s.world name a port_a b port_b cost ≡ None → IsPlayed s (link_between_found s name a port_a b port_b cost)
found_played s name None b port_a port_b cost sound counted low none = unchanged s counted
found_played s name (Some i) None port_a port_b cost sound counted low none = unchanged s counted
found_played s name (Some i) (Some j) port_a port_b cost sound counted low none =
    two_more s (linked s name (link_of i port_a j port_b cost)) counted (counts-linked s name (link_of i port_a j port_b cost)) (linked_counted s (allowance_of s) name i port_a j port_b cost sound counted.by low none)

named_played : (s : State) (name a b : List ℕ) (port_a port_b cost : ℕ) → IsSoundState s → IsCounted s → allowance_of s + 2 < last_number → named_link_refusal s.world name a port_a b port_b cost ≡ None → IsPlayed s (named_link s name a port_a b port_b cost)
unfolding named_link_refusal named_link
named_played s name a b port_a port_b cost sound counted low none = found_played s name (place_of a s.world.bridges) (place_of b s.world.bridges) port_a port_b cost sound counted low none

counts-vid : (s : State) (vid ect : ℕ) → counts (with_vid_more s vid ect) ≡ counts s
unfolding with_vid_more
counts-vid s vid ect = refl

vid_played : (s : State) (vid ect : ℕ) → IsCounted s → IsPlayed s (with_vid_more s vid ect)
vid_played s vid ect counted =
    two_more s (with_vid_more s vid ect) counted (counts-vid s vid ect) (counted_more (allowance_of s) (allowance_of s + 2) (with_vid_more s vid ect) (omega arith) (vid_counted (allowance_of s) s vid ect counted.by))

counts-isid : (s : State) (isid vid : ℕ) → counts (with_service_more s isid vid) ≡ counts s
unfolding with_service_more
counts-isid s isid vid = refl

isid_played : (s : State) (isid vid : ℕ) → IsCounted s → IsPlayed s (with_service_more s isid vid)
isid_played s isid vid counted =
    two_more s (with_service_more s isid vid) counted (counts-isid s isid vid) (counted_more (allowance_of s) (allowance_of s + 2) (with_service_more s isid vid) (omega arith) (isid_counted (allowance_of s) s isid vid counted.by))

-- one after another, `rounds` counts them
rounds_played : (s : State) (n : ℕ) → IsSoundState s → IsCounted s → s.accepted < most_commands → s.rounds + n ≤ MOST_ROUNDS → IsPlayed s (with_rounds n s)
unfolding with_rounds
rounds_played s n sound counted room few =
    let t : State = rounds n s in
    let low : allowance_of s + 128 * n < last_number = omega (arith, room, few) in
    let after : IsCountedBy (allowance_of s + 128 * n) t = Counted-rounds n (allowance_of s) s sound counted.by low in
    record {
      rounds = few;
      accepted = ap (λ (c : ℕ × ℕ). c.1) (counts-rounds n s);
      by = again (128 * (s.rounds + n) + 2 * s.accepted + 2) t t.outs (s.rounds + n) t.drained t.accepted (counted_more (allowance_of s + 128 * n) (128 * (s.rounds + n) + 2 * s.accepted + 2) t (omega arith) after);
    }

drain_played : (s : State) (n : ℕ) → IsSoundState s → IsCounted s → allowance_of s + 2 < last_number → IsPlayed s (with_drain n s)
unfolding with_drain
drain_played s n sound counted low =
    let t : State = drained n s in
    two_more s (record t { drained = s.drained + n }) counted (counts-drained n s)
    (again (allowance_of s + 2) t t.outs t.rounds (s.drained + n) t.accepted (counted_more (allowance_of s) (allowance_of s + 2) t (omega arith) (Counted-drained n (allowance_of s) s sound counted.by (omega (arith, low)))))

module _ (s : State) (sound : IsSoundState s) (counted : IsCounted s) (room : s.accepted < most_commands) where
  low : allowance_of s + 2 < last_number
  low = let few = counted.rounds in omega (arith, room, few)

  lower : allowance_of s < last_number
  lower = let few = counted.rounds in omega (arith, room, few)

  tick_played : (k : ℕ) → IsPlayed s (ticked s k)
  tick_played k = two_more s (ticked s k) counted (counts-ticked s k) (Counted-ticked s (allowance_of s) k (core_of s sound) counted.by lower)

  deliver_played : (k : ℕ) (dir : Dir) → IsPlayed s (delivered s k dir)
  deliver_played k dir = two_more s (delivered s k dir) counted (counts-delivered s k dir) (counted_more (allowance_of s + 0) (allowance_of s + 2) (delivered s k dir) (omega arith) (Counted-delivered s (allowance_of s) k dir (core_of s sound) counted.by lower))

  lose_played : (k : ℕ) (dir : Dir) (place : ℕ) → IsPlayed s (lost s k dir place)
  lose_played k dir place = two_more s (lost s k dir place) counted refl (counted_more (allowance_of s + 0) (allowance_of s + 2) (lost s k dir place) (omega arith) (Counted-lost s (allowance_of s) k dir place counted.by))

  double_played : (k : ℕ) (dir : Dir) (place : ℕ) → IsPlayed s (doubled s k dir place)
  double_played k dir place = two_more s (doubled s k dir place) counted refl (counted_more (allowance_of s + 1) (allowance_of s + 2) (doubled s k dir place) (omega arith) (Counted-doubled s (allowance_of s) k dir place counted.by))

  off_played : (k : ℕ) → IsPlayed s (switched_off s k)
  off_played k = two_more s (switched_off s k) counted (counts-off s k) (Counted-off s (allowance_of s) k sound counted.by (omega (arith, low)))

  on_played : (k : ℕ) → IsPlayed s (switched_on s k)
  on_played k = two_more s (switched_on s k) counted (counts-on s k) (counted_more (allowance_of s + 1) (allowance_of s + 2) (switched_on s k) (omega arith) (Counted-on s (allowance_of s) k (core_of s sound) counted.by lower))

  restart_played : (k : ℕ) → IsPlayed s (restarted s k)
  restart_played k = two_more s (restarted s k) counted (counts-restarted s k) (Counted-restarted s (allowance_of s) k sound counted.by low)

  metric_played : (name : List ℕ) (side : Side) (m k : ℕ) → metric_refusal s.world name m ≡ None → place_of name s.world.links ≡ Some k → IsPlayed s (with_metric_changed s k side m)
  metric_played name side m k none at = two_more s (with_metric_changed s k side m) counted (counts-metric s k side m) (Counted-metric s (allowance_of s) k side m (metric_refusal_none s.world name m k at none) (core_of s sound) counted.by lower)

  attach_found : (name : List ℕ) (port isid : ℕ) (mode : Mode) (o : Option ℕ) → place_of name s.world.bridges ≡ o → refusal_at_found (λ i. attach_refusal s.world i port isid) o ≡ None → IsPlayed s (at_place (λ t i. port_attached t i port isid mode) s o)
  attach_found name port isid mode None at none = unchanged s counted
  attach_found name port isid mode (Some i) at none = two_more s (port_attached s i port isid mode) counted (counts-attached s i port isid mode) (Counted-attached s (allowance_of s) i port isid mode (place_within name s.world.bridges i at) none sound counted.by lower)

  attach_played : (name : List ℕ) (port isid : ℕ) (mode : Mode) → named_attach_refusal s.world name port isid ≡ None → IsPlayed s (at_bridge (λ t i. port_attached t i port isid mode) s name)
  unfolding named_attach_refusal at_bridge
  attach_played name port isid mode none = attach_found name port isid mode (place_of name s.world.bridges) refl none

  detach_found : (port : ℕ) (o : Option ℕ) → refusal_at_found (λ i. detach_refusal s.world i port) o ≡ None → IsPlayed s (at_place (λ t i. port_detached t i port) s o)
  detach_found port None none = unchanged s counted
  detach_found port (Some i) none = two_more s (port_detached s i port) counted (counts-detached s i port) (Counted-detached s (allowance_of s) i port none sound counted.by lower)

  detach_played : (name : List ℕ) (port : ℕ) → named_detach_refusal s.world name port ≡ None → IsPlayed s (at_bridge (λ t i. port_detached t i port) s name)
  unfolding named_detach_refusal at_bridge
  detach_played name port none = detach_found port (place_of name s.world.bridges) none

  enter_found : (port : ℕ) (bytes : List ℕ) (o : Option ℕ) → refusal_at_found (λ i. entry_refusal s.world i port bytes) o ≡ None → IsPlayed s (at_place (λ t i. frame_entered t i port bytes) s o)
  enter_found port bytes None none = unchanged s counted
  enter_found port bytes (Some i) none = two_more s (frame_entered s i port bytes) counted (counts-entered s i port bytes) (counted_more (allowance_of s + 0) (allowance_of s + 2) (frame_entered s i port bytes) (omega arith) (Counted-entered s (allowance_of s) i port bytes none sound counted.by lower))

  enter_played : (name : List ℕ) (port : ℕ) (bytes : List ℕ) → named_entry_refusal s.world name port bytes ≡ None → IsPlayed s (at_bridge (λ t i. frame_entered t i port bytes) s name)
  unfolding named_entry_refusal at_bridge
  enter_played name port bytes none = enter_found port bytes (place_of name s.world.bridges) none

  command_played : (c : Command) → refusal_of s c ≡ None → IsPlayed s (played s c)
  command_played (command.Vid vid ect) none = vid_played s vid ect counted
  command_played (command.Bridge name priority system source ports) none =
      two_more s (declared s name (bridge_of priority system source ports)) counted (counts-declared s name (bridge_of priority system source ports)) (bridge_counted s (allowance_of s) name priority system source ports sound counted.by none)
  command_played (command.Link name a port_a b port_b cost) none = named_played s name a b port_a port_b cost sound counted low none
  command_played (command.Isid isid vid) none = isid_played s isid vid counted
  command_played (command.Attach name port isid mode) none = attach_played name port isid mode none
  command_played (command.Detach name port) none = detach_played name port none
  command_played (command.Frame name port bytes) none = enter_played name port bytes none
  command_played (command.Metric name on m) none = link_played (λ t k. with_metric_changed t k on m) s name counted (λ k at. metric_played name on m k none at)
  command_played (command.Down name) none = link_played switched_off s name counted (λ k at. off_played k)
  command_played (command.Up name) none = link_played switched_on s name counted (λ k at. on_played k)
  command_played (command.Restart name) none = bridge_played restarted s name counted (λ k at. restart_played k)
  command_played (command.Tick name) none = bridge_played ticked s name counted (λ k at. tick_played k)
  command_played (command.Deliver name dir) none = link_played (λ t k. delivered t k dir) s name counted (λ k at. deliver_played k dir)
  command_played (command.Lose name dir place) none = link_played (λ t k. lost t k dir place) s name counted (λ k at. lose_played k dir place)
  command_played (command.Double name dir place) none = link_played (λ t k. doubled t k dir place) s name counted (λ k at. double_played k dir place)
  command_played (command.Round n) none = rounds_played s n sound counted room (round_refusal_none s n none).1
  command_played (command.Drain n) none = drain_played s n sound counted low
  command_played _ none = unchanged s counted

next_of : (a : ℕ) → a < most_commands → next_count a ≡ a + 1
next_of a room = min-eq_left (omega (arith, room))

pub commands_keep_counted : CommandsKeepCounted
unfolding next_state
commands_keep_counted s c sound counted room none =
    let t : State = played s c in
    let after : IsPlayed s t = command_played s sound counted room c none in
    let next : next_count t.accepted ≡ s.accepted + 1 = ap next_count after.accepted ∙ next_of s.accepted room in
    record {
      rounds = after.rounds;
      by = again (128 * t.rounds + 2 * next_count t.accepted) t [] t.rounds t.drained (next_count t.accepted) (counted_more (128 * t.rounds + 2 * s.accepted + 2) (128 * t.rounds + 2 * next_count t.accepted) t (omega (arith, next)) after.by);
    }

-- ---- whatever commands were accepted

pub opening_counted : (rule : KindRule) (rack : List Spare) → IsCounted (opening rule rack)
opening_counted rule rack = record {
  rounds = omega arith;
  by = record {
    fresh = tt;
    held = λ i v id e at held. absurd cc;
    said = λ k dir f id a among claimed. absurd among;
    origins = λ i v id at own. absurd cc;
    bound = λ i v id at own. absurd cc;
  };
}

accepted_next : (s : State) (c : Command) → IsSoundState s → IsCounted s → s.accepted < most_commands → refusal_of s c ≡ None → (next_state s c).accepted ≡ s.accepted + 1
unfolding next_state
accepted_next s c sound counted room none = ap next_count (command_played s sound counted room c none).accepted ∙ next_of s.accepted room

-- each of the commands counts
pub all_counted : (s : State) (cs : List Command) → IsSoundState s → IsCounted s → AreAccepted s cs → s.accepted + length cs ≤ most_commands → IsCounted (played_all s cs) × ((played_all s cs).accepted ≤ most_commands)
all_counted s [] sound counted accepted room = (counted, omega (arith, room))
all_counted s (c ∷ cs) sound counted accepted room =
    let here : s.accepted < most_commands = omega (arith, room) in
    let next = accepted_next s c sound counted here accepted.0 in
    all_counted (next_state s c) cs (commands_keep_sound s c sound accepted.0) (commands_keep_counted s c sound counted here accepted.0) accepted.1 (omega (arith, room, next))

pub networks_are_counted : NetworksAreCounted
networks_are_counted scene few =
    (all_counted (opening_of scene) scene.commands (opening_sound scene.rule scene.rack) (opening_counted scene.rule scene.rack) scene.accepted (omega (arith, few))).0
