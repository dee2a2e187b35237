use Rattle.std.proofs.Common.{◌≡◌, ◌≢◌, ℕ, ◌<◌, ◌≤◌, ◌==◌, Bool, true, false, true≢false, ◌&&◌, ◌||◌, List, [], ◌∷◌, length, Option, Some, None, nat_lt, nat_le, refl, sym, ap, ◌∙◌, arith}
use Rattle.spb_types.specs.declared.limits.TheConstants.{GREATEST_METRIC}
use Rattle.std.proofs.lemmas.Bool.Decides.{nat_tests}
use Rattle.std.specs.Prelude.{nat_eq}
use Rattle.std.specs.List.{AllByRecursion, list_any}
use Rattle.std.proofs.lemmas.Bool.{eq-eqb}
use Rattle.std.specs.Str.{bytes_eq}
use Rattle.spb_types.specs.declared.address.Mac.{Mac}
use Rattle.spb_types.specs.declared.service.SourceId.{SourceId}
use Rattle.spb_types.specs.declared.service.VidPlan.{VidPlan}
use Rattle.spb_world.specs.declared.declaration.DeclaredLink.{DeclaredLink}
use Rattle.spb_world.specs.declared.reason.Reason.{Reason}
use Rattle.spb_world.specs.declared.reason.Reason.TheVariants.{Range}
use Rattle.spb_tlvs.specs.Capability.{IsTree}
use Rattle.bridge_api.specs.Config.{IsMetric, vids_of}
use Rattle.spb_world.specs.Reason.{reason_unless, ◌or◌}
use Rattle.spb_world.specs.Naming.{refusal_at_found, metric_refusal}
use Rattle.spb_world.specs.World.{World, things_of, place_of, ports_at, is_between, is_at_port, AreApart}
use Rattle.spb_world.specs.Services.{is_new_isid, is_isid_range, isid_refusal, service_of}
use Rattle.spb_world.specs.Declaring.{vid_refusal, bridge_refusal, link_refusal, has_vid, is_new_vid, is_vid_range, has_vid_room, is_new_name, is_new_system, is_new_source, is_bridge_range, is_bridge_address, has_bridge_room, is_free_port, is_link_range, is_unlinked, plan_of, bridge_of, link_of}
use Rattle.spb_world.proofs.ListLemmas.{All-map, All-none, and-left, and-right, not-true}
use Rattle.spb_world.proofs.ServiceLemmas.{IsNewService, new_isid}
use Rattle.spb_world.proofs.WorldLemmas.{IsNewPlan, IsNewBridge, IsNewLink, ports_at-within}

pub reason_unless-none : (b : Bool) (r : Reason) → reason_unless b r ≡ None → b ≡ true
unfolding reason_unless
reason_unless-none true r h = refl
reason_unless-none false r h = cc

pub or-first : (o p : Option Reason) → (o or p) ≡ None → o ≡ None
or-first None p h = refl
or-first (Some r) p h = h

pub or-second : (o p : Option Reason) → (o or p) ≡ None → p ≡ None
or-second None p h = h
or-second (Some r) p h = cc

pub le-true : (a b : ℕ) → nat_le a b ≡ true → a ≤ b
le-true a b h = grind (arith, nat_tests)

lt-true : (a b : ℕ) → nat_lt a b ≡ true → a < b
lt-true a b h = grind (arith, nat_tests)

eq-true : (a b : ℕ) → (a == b) ≡ true → a ≡ b
eq-true a b h = grind (arith, nat_tests)

pub eq-false : (a b : ℕ) → (a == b) ≡ false → a ≢ b
eq-false a b h = grind (arith, nat_tests)

empty_from : {X : Type 0} (xs : List X) → length xs ≡ 0 → xs ≡ []
empty_from [] h = refl
empty_from (x ∷ xs) h = absurd (omega arith)

empty_list : {X : Type 0} (xs : List X) → (length xs == 0) ≡ true → xs ≡ []
empty_list xs h = empty_from xs (eq-true (length xs) 0 h)

-- what the test of a metric says
pub metric_refusal_none : (w : World) (name : List ℕ) (m k : ℕ) → place_of name w.links ≡ Some k → metric_refusal w name m ≡ None → IsMetric m
unfolding metric_refusal
metric_refusal_none w name m k at none =
    let range = reason_unless-none (nat_le 1 m && nat_le m GREATEST_METRIC) _ (ap (refusal_at_found (λ j. reason_unless (nat_le 1 m && nat_le m GREATEST_METRIC) Range)) (sym at) ∙ none) in
    record { low = le-true 1 m (and-left _ _ range); high = le-true m GREATEST_METRIC (and-right _ _ range) }

-- what the tests of a VID say
pub record IsNewVid (w : World) (vid ect : ℕ) : Type 0 where
  pub new : IsNewPlan w (plan_of vid ect)
  pub vid_high : vid ≤ 4094
  pub ect_high : ect ≤ 16

value_apart : (vid : ℕ) (ps : List VidPlan) → AllByRecursion (λ p. (p.vid.value == vid) ≡ false) ps → AllByRecursion (λ p. p.vid.value ≢ vid) ps
value_apart vid ps none = All-map (λ p. (p.vid.value == vid) ≡ false) (λ p. p.vid.value ≢ vid) ps (λ p e. eq-false p.vid.value vid e) none

pub vid_refusal_none : (w : World) (vid ect : ℕ) → vid_refusal w vid ect ≡ None → IsNewVid w vid ect
unfolding vid_refusal is_vid_range
vid_refusal_none w vid ect h =
    let to_room = or-first _ _ h in
    let to_range = or-first _ _ to_room in
    let new = reason_unless-none (is_new_vid w.vids vid) _ (or-first _ _ to_range) in
    let range = reason_unless-none (is_vid_range vid ect) _ (or-second _ _ to_range) in
    let room = reason_unless-none (has_vid_room w) _ (or-second _ _ to_room) in
    let vid_low = le-true 1 vid (and-left _ _ (and-left _ _ (and-left _ _ range))) in
    let vid_high = le-true vid 4094 (and-right _ _ (and-left _ _ (and-left _ _ range))) in
    let ect_low = le-true 1 ect (and-right _ _ (and-left _ _ range)) in
    let ect_high = le-true ect 16 (and-right _ _ range) in
    record {
      new = record {
        room = lt-true (length w.vids) 16 room;
        apart = value_apart vid w.vids (All-none (λ p. p.vid.value == vid) w.vids (not-true _ new));
        tree = record { vid_low = vid_low; vid_high = vid_high; ect_low = ect_low; ect_high = ect_high };
      };
      vid_high = vid_high;
      ect_high = ect_high;
    }

-- what the tests of a service say

any-vid : (ps : List VidPlan) (vid : ℕ) → has_vid ps vid ≡ true → list_any (nat_eq vid) (vids_of ps) ≡ true
any-vid [] vid there = absurd (true≢false (sym there))
any-vid (p ∷ ps) vid there = at (p.vid.value == vid) refl there (any-vid ps vid)
  where
    more : (b : Bool) → list_any (nat_eq vid) (vids_of ps) ≡ true → (b || list_any (nat_eq vid) (vids_of ps)) ≡ true
    more true t = refl
    more false t = t

    at : (b : Bool) → (p.vid.value == vid) ≡ b → (b || has_vid ps vid) ≡ true → (has_vid ps vid ≡ true → list_any (nat_eq vid) (vids_of ps) ≡ true) → (nat_eq vid p.vid.value || list_any (nat_eq vid) (vids_of ps)) ≡ true
    at true is t rest = ap (λ b. b || list_any (nat_eq vid) (vids_of ps)) (eq-eqb vid p.vid.value (sym (eq-true p.vid.value vid is)))
    at false is t rest = more (nat_eq vid p.vid.value) (rest t)

vid-high : (ps : List VidPlan) (vid : ℕ) → AllByRecursion IsTree ps → has_vid ps vid ≡ true → vid ≤ 4094
vid-high [] vid all there = absurd (true≢false (sym there))
vid-high (p ∷ ps) vid all there = at (p.vid.value == vid) refl there (vid-high ps vid all.1)
  where
    at : (b : Bool) → (p.vid.value == vid) ≡ b → (b || has_vid ps vid) ≡ true → (has_vid ps vid ≡ true → vid ≤ 4094) → vid ≤ 4094
    at true is t rest = omega (arith, all.0.vid_high, eq-true p.vid.value vid is)
    at false is t rest = rest t

pub record IsFreeIsid (w : World) (isid vid : ℕ) : Type 0 where
  pub isid_new : is_new_isid w.services isid ≡ true
  pub isid_high : isid ≤ 16777215
  pub vid_high : AllByRecursion IsTree w.vids → vid ≤ 4094
  pub new : IsNewService w (service_of isid vid)

pub isid_refusal_none : (w : World) (isid vid : ℕ) → isid_refusal w isid vid ≡ None → IsFreeIsid w isid vid
unfolding isid_refusal is_isid_range
isid_refusal_none w isid vid h =
    let to_range = or-first _ _ h in
    let to_name = or-first _ _ to_range in
    let declared = reason_unless-none (has_vid w.vids vid) _ (or-first _ _ to_name) in
    let new = reason_unless-none (is_new_isid w.services isid) _ (or-second _ _ to_name) in
    let range = reason_unless-none (is_isid_range isid) _ (or-second _ _ to_range) in
    record {
      isid_new = new;
      isid_high = le-true isid 16777215 (and-right _ _ range);
      vid_high = λ all. vid-high w.vids vid all declared;
      new = record {
        service = record {
          isid_low = le-true 1 isid (and-left _ _ range);
          isid_high = le-true isid 16777215 (and-right _ _ range);
          vid = any-vid w.vids vid declared;
        };
        apart = new_isid w.services isid new;
      };
    }

-- what the tests of a bridge say
pub record IsFreeBridge (w : World) (name : List ℕ) (priority : ℕ) (system : Mac) (source : SourceId) (ports : ℕ) : Type 0 where
  pub name_new : is_new_name name w.bridges ≡ true
  pub priority_high : priority ≤ 65535
  pub address : is_bridge_address system ≡ true
  pub source_high : source.value < 1048576
  pub ports_high : ports ≤ 32
  pub new : IsNewBridge w (bridge_of priority system source ports)

pub bridge_refusal_none : (w : World) (name : List ℕ) (priority : ℕ) (system : Mac) (source : SourceId) (ports : ℕ) → bridge_refusal w name priority system source ports ≡ None → IsFreeBridge w name priority system source ports
unfolding bridge_refusal is_bridge_range is_new_system
bridge_refusal_none w name priority system source ports h =
    let named = or-first _ _ (or-first _ _ (or-first _ _ h)) in
    let id = reason_unless-none (is_new_system system w.bridges && is_new_source source w.bridges) _ (or-second _ _ (or-first _ _ (or-first _ _ h))) in
    let range = reason_unless-none (is_bridge_range priority system source ports) _ (or-second _ _ (or-first _ _ h)) in
    let room = reason_unless-none (has_bridge_room w) _ (or-second _ _ h) in
    record {
      name_new = reason_unless-none (is_new_name name w.bridges) _ named;
      priority_high = le-true priority 65535 (and-left _ _ (and-left _ _ (and-left _ _ range)));
      address = and-right _ _ (and-left _ _ (and-left _ _ range));
      source_high = lt-true source.value 1048576 (and-right _ _ (and-left _ _ range));
      ports_high = le-true ports 32 (and-right _ _ range);
      new = record {
        room = lt-true (length w.bridges) 96 room;
        ports = le-true ports 32 (and-right _ _ range);
        system = All-none (λ b. bytes_eq b.bridge.id.system.mac.bytes system.bytes) (things_of w.bridges) (not-true _ (and-left _ _ id));
      };
    }

-- what the tests of a link say
pub record IsFreeLink (w : World) (name : List ℕ) (i port_a j port_b cost : ℕ) : Type 0 where
  pub name_new : is_new_name name w.links ≡ true
  pub port_a_high : port_a ≤ ports_at w.bridges i
  pub port_b_high : port_b ≤ ports_at w.bridges j
  pub cost_high : cost ≤ GREATEST_METRIC
  pub new : IsNewLink w (link_of i port_a j port_b cost)

-- each earlier link is apart from a new one whose ports are free and whose bridges aren't linked
all_apart : (ls : List DeclaredLink) (m : DeclaredLink) → AllByRecursion (λ l. is_between l m.a.bridge m.b.bridge ≡ false) ls → AllByRecursion (λ l. is_at_port l m.a.bridge m.a.port ≡ false) ls → AllByRecursion (λ l. is_at_port l m.b.bridge m.b.port ≡ false) ls → AllByRecursion (λ l. AreApart l m) ls
all_apart [] m x y z = tt
all_apart (l ∷ ls) m x y z = (record { bridges = x.0; port_a = y.0; port_b = z.0 }, all_apart ls m x.1 y.1 z.1)

pub link_refusal_none : (w : World) (name : List ℕ) (i port_a j port_b cost : ℕ) → link_refusal w name i port_a j port_b cost ≡ None → IsFreeLink w name i port_a j port_b cost
unfolding link_refusal is_link_range is_free_port is_unlinked
link_refusal_none w name i port_a j port_b cost h =
    let to_room = or-first _ _ h in
    let to_range = or-first _ _ to_room in
    let to_ports = or-first _ _ to_range in
    let named = reason_unless-none (is_new_name name w.links) _ (or-first _ _ to_ports) in
    let free = reason_unless-none (is_free_port w.links i port_a && is_free_port w.links j port_b) _ (or-second _ _ to_ports) in
    let range = reason_unless-none (is_link_range w.bridges i port_a j port_b cost) _ (or-second _ _ to_range) in
    let unlinked = reason_unless-none (is_unlinked w.links i j) _ (or-second _ _ h) in
    let high = le-true cost GREATEST_METRIC (and-right _ _ range) in
    let low = le-true 1 cost (and-right _ _ (and-left _ _ range)) in
    let ends = and-left _ _ (and-left _ _ range) in
    let is_b = and-right _ _ ends in
    let is_a = and-right _ _ (and-left _ _ ends) in
    let apart = eq-false i j (not-true _ (and-left _ _ (and-left _ _ ends))) in
    let a_low = le-true 1 port_a (and-left _ _ is_a) in
    let a_high = le-true port_a (ports_at w.bridges i) (and-right _ _ is_a) in
    let b_low = le-true 1 port_b (and-left _ _ is_b) in
    let b_high = le-true port_b (ports_at w.bridges j) (and-right _ _ is_b) in
    record {
      name_new = named;
      port_a_high = a_high;
      port_b_high = b_high;
      cost_high = high;
      new = record {
        link = record {
          a = record { bridge = ports_at-within w.bridges i (omega arith); port_low = a_low; port_high = a_high; metric_low = low; metric_high = high };
          b = record { bridge = ports_at-within w.bridges j (omega arith); port_low = b_low; port_high = b_high; metric_low = low; metric_high = high };
          apart = apart;
        };
        apart = all_apart (things_of w.links) (link_of i port_a j port_b cost) (All-none (λ l. is_between l i j) (things_of w.links) (not-true _ unlinked)) (All-none (λ l. is_at_port l i port_a) (things_of w.links) (not-true _ (and-left _ _ free))) (All-none (λ l. is_at_port l j port_b) (things_of w.links) (not-true _ (and-right _ _ free)));
      };
    }
