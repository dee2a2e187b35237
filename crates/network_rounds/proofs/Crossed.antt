-- Two bridges and a link between them that is up, each with a customer port in one service: in a network of these at
-- rest, a frame to all that enters at the first bridge crosses the link, and then none is on its way.
use Rattle.std.proofs.Common.{append-nil, ◌≡◌, ◌<◌, ℕ, zero, suc, Bool, true, false, ◌&&◌, inl, List, [], ◌∷◌, ◌++◌, length, refl, sym, ap, ◌∙◌, subst, Some, None, slice_get, if◌then◌else◌, nat_lt, arith}
use Rattle.std.specs.Option.{option_map_or}
use Rattle.std.specs.List.{AllByRecursion}
use Rattle.std.proofs.lemmas.Option.{same_Some}
use Rattle.scenario.specs.declared.command.Command.{Command}
use Rattle.scenario.specs.declared.command.Command.TheVariants as command
use Rattle.spb_types.specs.declared.link.Dir.{Dir}
use Rattle.spb_types.specs.declared.link.Dir.TheVariants.{Ab, Ba}
use Rattle.spb_types.specs.declared.service.Attachment.{Attachment}
use Rattle.spb_types.specs.declared.service.Isid.{Isid}
use Rattle.link_model.specs.Lane.{Frame}
use Rattle.link_model.specs.Lanes.{lane_of}
use Rattle.link_model.specs.declared.lanes.LinkLanes.{LinkLanes}
use Rattle.forwarding.specs.Ports.{attachment_of}
use Rattle.bridge_api.specs.View.{BridgeView}
use Rattle.bridge_api.specs.Step.{customer}
use Rattle.spb_world.specs.declared.declaration.DeclaredLink.{DeclaredLink}
use Rattle.spb_world.specs.declared.reason.Reason.TheVariants.{NoFrame}
use Rattle.spb_world.specs.Reason.{reason_unless}
use Rattle.spb_world.specs.World.{World, things_of, place_of, attached_at}
use Rattle.spb_world.specs.Declaring.{plan_of}
use Rattle.spb_world.specs.Services.{service_of}
use Rattle.spb_world.specs.Attaching.{is_customer_port, is_customer_frame, entry_refusal}
use Rattle.spb_world.specs.Links.{near_end}
use Rattle.spb_world.specs.Naming.{refusal_at_found, named_entry_refusal}
use Rattle.network_model.specs.declared.answer.Out.{Out}
use Rattle.network_model.specs.State.{State, links_of, lane_at}
use Rattle.network_model.specs.DeliveryLaws.{IsDelivery}
use Rattle.network_model.specs.Events.{stepped, delivered, frame_entered}
use Rattle.network_model.specs.Refusing.{frame_refusal, refusal_of}
use Rattle.network_model.specs.Play.{at_place, at_bridge, at_link, played, next_state}
use Rattle.network_model.specs.Quiet.{AreEmpty}
use Rattle.network_model.specs.Sound.{IsSoundState}
use Rattle.network_model.specs.Truth.{AreLinked, IsAtRest, IsWalk}
use Rattle.network_model.specs.Once.{IsReceivingAt, IsPassage, IsReach}
use Rattle.network_model.specs.UnderWay.{Journey, carrier_of, leads_over, LeadsDown, IsUnderWay}
use Rattle.network_model.proofs.ApartWitness.{at_port, name, bytes, enters}
use Rattle.network_model.proofs.DeliveryLemmas.{frames_are_delivered}
use Rattle.network_model.proofs.Linked.{get_within}
use Rattle.network_model.proofs.OnceEntry.{journey_from, served_by, sets_out}
use Rattle.network_model.proofs.OnceLaws.{is_journey}
use Rattle.network_model.proofs.OnceStep.{IsJourney, with_served, served_next}
use Rattle.network_model.proofs.SoundPlay.{commands_keep_sound}
use Rattle.network_rounds.proofs.SettlingWitness.{link, bridges}

-- ---- what is declared, and what crosses the link

abbrev pub world : World
world = record {
  vids = plan_of 100 1 ∷ [];
  bridges = bridges;
  links = (108 ∷ [], link) ∷ [];
  services = service_of 7 100 ∷ [];
  attached = (0, at_port 1) ∷ (1, at_port 1) ∷ [];
}

-- the frame is delivered
abbrev pub onward : List Command
onward = command.Deliver (108 ∷ []) Ab ∷ []

abbrev isid : Isid
isid = record { value = 7 }

octets : AllByRecursion (λ b. b < 256) bytes
octets = (omega arith, (omega arith, (omega arith, (omega arith, (omega arith, (omega arith, (omega arith, (omega arith, (omega arith, (omega arith, (omega arith, (omega arith, (omega arith, (omega arith, tt))))))))))))))

may_enter : named_entry_refusal world name 1 bytes ≡ None
unfolding reason_unless is_customer_port is_customer_frame entry_refusal named_entry_refusal
may_enter = refl

pub across : AreLinked (link ∷ []) 0 1
across = record { place = 0; dir = Ab; link = link; there = refl; live = refl; near = refl; far = refl }

walk : IsWalk (link ∷ []) 0 (1 ∷ []) 1
walk = (across, refl)

pub reach : IsReach world 0 1 1 1
reach = record { isid = isid; here = inl (refl, refl); there = inl (refl, refl, refl); walk = 1 ∷ []; joined = walk; other = λ same. absurd (omega (arith, same.0)) }

-- the link leads from the first bridge in one direction alone
one_way : (n : ℕ) (d : Dir) (y : DeclaredLink) → slice_get (link ∷ []) n ≡ Some y → (near_end d y).bridge ≡ 0 → (link ≡ y) × (Ab ≡ d)
one_way zero Ab y at near = (same_Some link y at, refl)
one_way zero Ba y at near =
    let same : link ≡ y = same_Some link y at in
    let far : y.b.bridge ≡ 1 = ap (λ (l : DeclaredLink). l.b.bridge) (sym same) in
    absurd (omega (arith, far, near))
one_way (suc n) d y at near = absurd cc

never : (b : Bool) → (b && false) ≡ false
never true = refl
never false = refl

-- nothing but bridges, lanes and what is declared matters
still_under : (start : State) (j : Journey) (served : ℕ → Bool) (s t : State) (outs : List Out) → t.world ≡ s.world → t.views ≡ s.views → t.lanes ≡ s.lanes → IsUnderWay start j served s outs → IsUnderWay start j served t outs
still_under start j served s t outs world views lanes under = record {
  world = world ∙ under.world;
  views = λ i v at. under.views i v (ap (λ (vs : List BridgeView). slice_get vs i) (sym views) ∙ at);
  lanes = λ k dir l there. ap (λ (ls : List LinkLanes). lane_of ls k dir) lanes ∙ under.lanes k dir l there;
  first = under.first;
  order = under.order;
  joined = under.joined;
  right = under.right;
  once = under.once;
  none = under.none;
}

-- ---- the passage

module _ (s : State) (rest : IsAtRest s) (none : s.outs ≡ []) (is : s.world ≡ world) where
  sound : IsSoundState s
  sound = rest.sound

  first : (v : BridgeView) × (slice_get s.views 0 ≡ Some v)
  first = get_within s.views 0 (omega (arith, sound.fits.bridges, ap (λ (w : World). length w.bridges) is))

  abbrev a : Attachment
  a = at_port 1

  found : attachment_of 1 first.0.attached ≡ Some a
  found = ap (attachment_of 1) (sound.attached 0 first.0 first.1 ∙ ap (λ (w : World). attached_at w 0) is)

  abbrev j : Journey
  j = journey_from 0 1 bytes first.0 a

  journey : IsJourney s j
  journey = is_journey s 0 1 bytes first.0 a rest first.1 found refl (record { low = omega arith; high = omega arith }) octets refl

  there : slice_get (links_of s) 0 ≡ Some link
  there = ap (λ (w : World). slice_get (things_of w.links) 0) is

  -- the wired row of the first bridge leads over the link
  leads_down : (ks : List ℕ) → LeadsDown s.world j 0 ks 1 → leads_over s.world j Ab link ≡ true
  leads_down [] down = let no : 0 ≡ 1 = down in absurd (omega (arith, no))
  leads_down (k ∷ ks) down =
      let led = down.0 in
      let one = one_way led.place led.dir led.link (ap (λ (w : World). slice_get (things_of w.links) led.place) (sym is) ∙ led.there) led.near in
      (λ i. leads_over s.world j (one.1 i) (one.0 i)) ∙ led.leads

  leads : leads_over s.world j Ab link ≡ true
  leads =
      let down = journey.tree.down 1 1 (1 ∷ []) (subst (λ (w : World). IsReceivingAt w 1 1 isid) (sym is) (inl (refl, refl, refl))) (subst (λ (w : World). IsWalk (things_of w.links) 0 (1 ∷ []) 1) (sym is) walk) in
      leads_down down.0 down.1

  -- ---- it enters

  abbrev t : State
  t = next_state s enters

  accepted : refusal_of s enters ≡ None
  accepted = ap (λ (w : World). named_entry_refusal w name 1 bytes) is ∙ may_enter

  then_sound : IsSoundState t
  then_sound = commands_keep_sound s enters sound accepted

  entered : played s enters ≡ stepped (customer 1 bytes) s 0
  unfolding at_bridge
  entered = ap (λ (w : World). at_place (λ u i. frame_entered u i 1 bytes) s (place_of name w.bridges)) is

  once_played : (u : State) → played s enters ≡ u → IsUnderWay s j (served_by 0) u u.outs → IsUnderWay s j (served_by 0) t u.outs
  unfolding next_state
  once_played u same under = still_under s j (served_by 0) u t u.outs (ap (λ (x : State). x.world) same) (ap (λ (x : State). x.views) same) (ap (λ (x : State). x.lanes) same) under

  abbrev left : List Out
  left = (stepped (customer 1 bytes) s 0).outs

  set_out : IsUnderWay s j (served_by 0) t left
  set_out = once_played (stepped (customer 1 bytes) s 0) entered (sets_out s 0 1 bytes first.0 a first.1 found journey sound rest.calm.empty none)

  abbrev F : Frame
  F = carrier_of j

  on_its_way : lane_at t 0 Ab ≡ F ∷ []
  on_its_way = set_out.lanes 0 Ab link there ∙ ap (λ (b : Bool). if b && true then F ∷ [] else []) leads

  -- ---- it is delivered

  abbrev over : Command
  over = command.Deliver (108 ∷ []) Ab

  world_then : t.world ≡ world
  world_then = set_out.world ∙ is

  may_cross : refusal_of t over ≡ None
  unfolding frame_refusal reason_unless
  may_cross =
      ap (λ (w : World). refusal_at_found (λ k. reason_unless (nat_lt 0 (length (lane_at t k Ab))) NoFrame) (place_of (108 ∷ []) w.links)) world_then
      ∙ ap (λ (lane : List Frame). reason_unless (nat_lt 0 (length lane)) NoFrame) on_its_way

  crossed : played t over ≡ delivered t 0 Ab
  unfolding at_link
  crossed = ap (λ (w : World). at_place (λ u k. delivered u k Ab) t (place_of (108 ∷ []) w.links)) world_then

  nothing_left : t.outs ≡ []
  unfolding next_state
  nothing_left = refl

  abbrev u : State
  u = delivered t 0 Ab

  delivery : IsDelivery t u 0 Ab F []
  delivery = frames_are_delivered t 0 Ab F [] then_sound on_its_way

  again : IsUnderWay s j (served_by 0) t (left ++ t.outs)
  again = subst (IsUnderWay s j (served_by 0) t) (sym (append-nil left) ∙ ap (λ (outs : List Out). left ++ outs) (sym nothing_left)) set_out

  abbrev both : ℕ → Bool
  both = with_served (served_by 0) 1

  link_is : delivery.link ≡ link
  link_is = same_Some delivery.link link (sym delivery.there ∙ ap (λ (w : World). slice_get (things_of w.links) 0) world_then)

  served : IsUnderWay s j both u (left ++ u.outs)
  served =
      subst (λ (c : ℕ). IsUnderWay s j (with_served (served_by 0) c) u (left ++ u.outs)) (ap (λ (l : DeclaredLink). l.b.bridge) link_is)
      (served_next s j journey (served_by 0) t left again then_sound 0 Ab F [] u delivery)

  -- ---- and then none is on its way

  empty_link : (dir : Dir) → lane_at u 0 dir ≡ []
  empty_link Ab = served.lanes 0 Ab link there ∙ ap (λ (b : Bool). if b then F ∷ [] else []) (never (leads_over s.world j Ab link))
  empty_link Ba = served.lanes 0 Ba link there ∙ ap (λ (b : Bool). if b then F ∷ [] else []) (never (leads_over s.world j Ba link))

  end_sound : IsSoundState (next_state t over)
  end_sound = commands_keep_sound t over then_sound may_cross

  same_lanes : (next_state t over).lanes ≡ u.lanes
  unfolding next_state
  same_lanes = ap (λ (x : State). x.lanes) crossed

  world_last : (next_state t over).world ≡ world
  unfolding next_state
  world_last = ap (λ (x : State). x.world) crossed ∙ (served.world ∙ is)

  all_empty : AreEmpty (next_state t over)
  all_empty zero dir = ap (λ (lanes : List LinkLanes). lane_of lanes 0 dir) same_lanes ∙ empty_link dir
  all_empty (suc k) dir = end_sound.idle (suc k) dir (ap (λ (w : World). option_map_or (λ l. l.live) (slice_get (things_of w.links) (suc k)) false) world_last)

  pub passes : IsPassage s name 1 bytes onward
  passes = record { octets = octets; group = refl; onward = (refl, tt); accepted = (accepted, (may_cross, tt)); delivered = all_empty }
