-- What an accepted command makes of what refusals read.
use Rattle.std.proofs.Common.{◌≡◌, ℕ, zero, suc, ◌+◌, ◌≤◌, Bool, true, false, cond, if◌then◌else◌, ◌&&◌, nat_le, List, [], ◌∷◌, ◌++◌, length, Option, Some, None, is_some, slice_get, refl, sym, ap, ◌∙◌, subst, arith}
use Rattle.std.specs.Prelude.{remove}
use Rattle.std.specs.List.{count_by}
use Rattle.std.proofs.lemmas.Bool.Decides.{nat_tests}
use Rattle.std.proofs.lemmas.List.Sums.{sum_by-cons}
use Rattle.spb_types.specs.declared.address.Mac.{Mac}
use Rattle.spb_types.specs.declared.service.SourceId.{SourceId}
use Rattle.spb_types.specs.declared.service.Mode.{Mode}
use Rattle.spb_types.specs.declared.service.Vid.{Vid}
use Rattle.spb_types.specs.declared.limits.TheConstants.{MOST_ROUNDS, MOST_DELIVERIES, MOST_DELIVERIES_TOGETHER}
use Rattle.scenario.specs.declared.command.Command.{Command}
use Rattle.scenario.specs.declared.command.Command.TheVariants as command
use Rattle.bridge_api.specs.Services.{attachment_of}
use Rattle.bridge_api.specs.Step as comes
use Rattle.bridge_api.specs.declared.kind.Kind.{Kind}
use Rattle.spb_world.specs.declared.declaration.DeclaredBridge.{DeclaredBridge}
use Rattle.spb_world.specs.declared.declaration.DeclaredLink.{DeclaredLink}
use Rattle.spb_world.specs.declared.reason.Reason.{Reason}
use Rattle.spb_world.specs.declared.reason.Reason.TheVariants.{RackSpent, Range, TooMany, AlreadyDown, NoSuchName}
use Rattle.spb_world.specs.Reason.{reason_unless, ◌or◌}
use Rattle.link_model.specs.Lanes.{no_frames}
use Rattle.spb_world.specs.World.{World, things_of, place_of, vid_of_isid}
use Rattle.spb_world.specs.Declaring.{vid_refusal, bridge_refusal, link_refusal, plan_of, bridge_of, link_of, with_vid, with_bridge, with_link, with_live}
use Rattle.spb_world.specs.Services.{isid_refusal, service_of, with_service}
use Rattle.spb_world.specs.Attaching.{attach_refusal, entry_refusal, with_attachment_at}
use Rattle.network_model.specs.State.{State, Spare, links_of, kind_at, serves, box_from, next_box}
use Rattle.spb_world.specs.Links.{is_live}
use Rattle.network_model.specs.Events.{with_metrics_over, port_attached, attached_in_found, frame_entered, switched_off, switched_on, flushed, rounds, drained}
use Rattle.network_model.specs.Restarting.{box_at, restart_config, restarted, restarted_as}
use Rattle.network_model.specs.Refusing.{box_for, declared_refusal, round_refusal, drain_refusal, restart_refusal, refusal_of}
use Rattle.spb_world.specs.Naming.{link_refusal_at_found, named_link_refusal, refusal_at_found, unnamed_refusal, named_attach_refusal, named_entry_refusal, down_refusal}
use Rattle.network_model.specs.Play.{boxed, declared, linked, link_between_found, named_link, at_place, at_bridge, at_link, with_vid_more, with_service_more, with_rounds, with_drain, accepted_once, next_state}
use Rattle.network_model.specs.Sound.{IsSoundState}
use Rattle.network_model.proofs.SoundPlay.{commands_keep_sound}
use Rattle.made_runs.proofs.Standing.{bare, bare-stepped, bare-drained, bare-rounds, bare-carrier_over, bare-metrics_over, bare-restarted_in}

-- ---- tests that hold

pub reason_none : (b : Bool) (r : Reason) → b ≡ true → reason_unless b r ≡ None
unfolding reason_unless
reason_none b r h = ap (λ t. if t then None else Some r) h

pub or_none : (o p : Option Reason) → o ≡ None → p ≡ None → (o or p) ≡ None
or_none None p h k = k
or_none (Some r) p h k = absurd cc

pub le-yes : (a b : ℕ) → a ≤ b → nat_le a b ≡ true
le-yes a b h = grind (arith, nat_tests)

pub and-yes : (a b : Bool) → a ≡ true → b ≡ true → (a && b) ≡ true
and-yes true b h k = k
and-yes false b h k = h

-- ---- the boxes of the rack

small : (b : Bool) → cond b 1 0 ≤ 1
small true = omega arith
small false = omega arith

-- a box less leaves at least all but one of the boxes of each sort
count_removed : {X : Type 0} (p : X → Bool) (xs : List X) (i : ℕ) → count_by p xs ≤ suc (count_by p (remove xs i))
count_removed p [] i = omega arith
count_removed p (x ∷ xs) zero = let a = small (p x) in let b = sum_by-cons (λ y. cond (p y) 1 0) x xs in omega arith
count_removed p (x ∷ xs) (suc i) =
    let a = sum_by-cons (λ y. cond (p y) 1 0) x xs in
    let b = sum_by-cons (λ y. cond (p y) 1 0) x (remove xs i) in
    let c = count_removed p xs i in omega arith

has_box_from : (wanted : Kind) (rack : List Spare) (k : ℕ) → 1 ≤ count_by (serves wanted) rack → is_some (box_from k wanted rack) ≡ true
has_box_from wanted [] k h = absurd (omega arith)
has_box_from wanted (box ∷ rack) k h =
    let cons = sum_by-cons (λ y. cond (serves wanted y) 1 0) box rack in
    by (serves wanted box) (omega arith) (has_box_from wanted rack (k + 1))
  where
    by : (b : Bool) → 1 ≤ cond b 1 0 + count_by (serves wanted) rack → (1 ≤ count_by (serves wanted) rack → is_some (box_from (k + 1) wanted rack) ≡ true) → is_some (if b then Some k else box_from (k + 1) wanted rack) ≡ true
    by true h rest = refl
    by false h rest = rest (omega arith)

has_box : (wanted : Kind) (rack : List Spare) → 1 ≤ count_by (serves wanted) rack → is_some (next_box wanted rack) ≡ true
unfolding next_box
has_box wanted rack h = has_box_from wanted rack 0 h

-- ---- what stands besides the world: so many boxes of each kind that the rule uses, rounds and deliveries

abbrev pub HaveBoxes : ℕ → State → Type 0
HaveBoxes m s = (i : ℕ) → m ≤ count_by (serves (kind_at s.rule i)) s.rack

pub record Stands (m r d : ℕ) (s : State) : Type 0 where
  pub sound : IsSoundState s
  pub boxes : HaveBoxes m s
  pub rounds : s.rounds ≡ r
  pub drained : s.drained ≡ d

-- a command is accepted, and what is declared afterwards
abbrev pub Goes : ℕ → ℕ → ℕ → State → Command → World → Type 0
Goes m r d s c w = (refusal_of s c ≡ None) × Stands m r d (next_state s c) × ((next_state s c).world ≡ w)

arrives : (s : State) (c : Command) (x : State) (m r d : ℕ) → IsSoundState s → refusal_of s c ≡ None
    → bare (next_state s c) ≡ x → HaveBoxes m x → x.rounds ≡ r → x.drained ≡ d → Goes m r d s c x.world
arrives s c x m r d sound none e boxes rounds drained = (
  none,
  record {
    sound = commands_keep_sound s c sound none;
    boxes = subst (HaveBoxes m) (sym e) boxes;
    rounds = ap (λ (t : State). t.rounds) e ∙ rounds;
    drained = ap (λ (t : State). t.drained) e ∙ drained;
  },
  ap (λ (t : State). t.world) e,
)

fewer : (m : ℕ) (s : State) (place : ℕ) → HaveBoxes (suc m) s → HaveBoxes m (record s { rack = remove s.rack place })
fewer m s place have i = let a = have i in let b = count_removed (serves (kind_at s.rule i)) s.rack place in omega arith

less : (m : ℕ) (s : State) → HaveBoxes (suc m) s → HaveBoxes m s
less m s have i = let a = have i in omega arith

-- ---- declarations

pub vid_goes : (s : State) (vid ect : ℕ) (m r d : ℕ) → Stands m r d s → vid_refusal s.world vid ect ≡ None
    → Goes m r d s (command.Vid vid ect) (with_vid s.world (plan_of vid ect))
unfolding next_state with_vid_more
vid_goes s vid ect m r d stands none = arrives s (command.Vid vid ect) (record (bare s) { world = with_vid s.world (plan_of vid ect) }) m r d stands.sound none refl stands.boxes stands.rounds stands.drained

pub isid_goes : (s : State) (isid vid : ℕ) (m r d : ℕ) → Stands m r d s → isid_refusal s.world isid vid ≡ None
    → Goes m r d s (command.Isid isid vid) (with_service s.world (service_of isid vid))
unfolding next_state with_service_more
isid_goes s isid vid m r d stands none = arrives s (command.Isid isid vid) (record (bare s) { world = with_service s.world (service_of isid vid) }) m r d stands.sound none refl stands.boxes stands.rounds stands.drained

boxed_goes : (s : State) (name : List ℕ) (priority : ℕ) (system : Mac) (source : SourceId) (ports m r d : ℕ) (o : Option ℕ) → Stands (suc m) r d s
    → declared_refusal s name priority system source ports ≡ None → box_for s ≡ o → is_some o ≡ true
    → Goes m r d s (command.Bridge name priority system source ports) (with_bridge s.world name (bridge_of priority system source ports))
unfolding next_state declared
boxed_goes s name priority system source ports m r d None stands none at some = absurd cc
boxed_goes s name priority system source ports m r d (Some place) stands none at some =
    let b : DeclaredBridge = bridge_of priority system source ports in
    arrives s (command.Bridge name priority system source ports) (record (bare s) { rack = remove s.rack place; world = with_bridge s.world name b }) m r d stands.sound none
    (ap (λ o. bare (accepted_once (boxed s name b o))) at) (fewer m s place stands.boxes) stands.rounds stands.drained

pub bridge_goes : (s : State) (name : List ℕ) (priority : ℕ) (system : Mac) (source : SourceId) (ports m r d : ℕ) → Stands (suc m) r d s
    → bridge_refusal s.world name priority system source ports ≡ None
    → Goes m r d s (command.Bridge name priority system source ports) (with_bridge s.world name (bridge_of priority system source ports))
unfolding declared_refusal
bridge_goes s name priority system source ports m r d stands none =
    let low = stands.boxes (length s.world.bridges) in
    let some : is_some (box_for s) ≡ true = has_box (kind_at s.rule (length s.world.bridges)) s.rack (omega arith) in
    boxed_goes s name priority system source ports m r d (box_for s) stands (or_none _ _ none (reason_none (is_some (box_for s)) RackSpent some)) refl some

pub link_goes : (s : State) (name a : List ℕ) (port_a : ℕ) (b : List ℕ) (port_b cost i j m r d : ℕ) → Stands m r d s
    → place_of a s.world.bridges ≡ Some i → place_of b s.world.bridges ≡ Some j → link_refusal s.world name i port_a j port_b cost ≡ None
    → Goes m r d s (command.Link name a port_a b port_b cost) (with_live true (with_link s.world name (link_of i port_a j port_b cost)) (length s.world.links))
unfolding next_state named_link_refusal named_link linked switched_on
link_goes s name a port_a b port_b cost i j m r d stands at to none =
    let l : DeclaredLink = link_of i port_a j port_b cost in
    let t : State = record s { world = with_link s.world name l; lanes = s.lanes ++ no_frames ∷ [] } in
    let u : State = with_metrics_over t l in
    let n : ℕ = length s.lanes in
    let same : n ≡ length s.world.links = stands.sound.fits.lanes in
    arrives s (command.Link name a port_a b port_b cost) (record (bare s) { world = with_live true (with_link s.world name l) (length s.world.links) }) m r d stands.sound
    ((λ k. link_refusal_at_found s.world name (at k) port_a (to k) port_b cost) ∙ none)
    ((λ k. bare (accepted_once (link_between_found s name (at k) port_a (to k) port_b cost)))
    ∙ bare-carrier_over true (record u { world = with_live true u.world n }) (slice_get (links_of u) n)
    ∙ ap (λ (x : State). record x { world = with_live true x.world n }) (bare-metrics_over t l)
    ∙ ap (λ k. record (bare s) { world = with_live true (with_link s.world name l) k }) same)
    stands.boxes stands.rounds stands.drained

pub attach_goes : (s : State) (name : List ℕ) (port isid : ℕ) (mode : Mode) (i : ℕ) (vid : Vid) (m r d : ℕ) → Stands m r d s
    → place_of name s.world.bridges ≡ Some i → vid_of_isid s.world.services isid ≡ Some vid → attach_refusal s.world i port isid ≡ None
    → Goes m r d s (command.Attach name port isid mode) (with_attachment_at s.world i (attachment_of port (record { value = isid }) vid mode))
unfolding next_state named_attach_refusal at_bridge port_attached
attach_goes s name port isid mode i vid m r d stands at within none =
    arrives s (command.Attach name port isid mode) (record (bare s) { world = with_attachment_at s.world i (attachment_of port (record { value = isid }) vid mode) }) m r d stands.sound
    (ap (refusal_at_found (λ i. attach_refusal s.world i port isid)) at ∙ none)
    (ap (λ o. bare (accepted_once (at_place (λ t i. port_attached t i port isid mode) s o))) at
    ∙ ap (λ o. bare (attached_in_found s i port isid mode o)) within
    ∙ bare-stepped (comes.attach (attachment_of port (record { value = isid }) vid mode)) (record s { world = with_attachment_at s.world i (attachment_of port (record { value = isid }) vid mode) }) i)
    stands.boxes stands.rounds stands.drained

-- ---- events

pub frame_goes : (s : State) (name : List ℕ) (port : ℕ) (bytes : List ℕ) (i m r d : ℕ) → Stands m r d s
    → place_of name s.world.bridges ≡ Some i → entry_refusal s.world i port bytes ≡ None → Goes m r d s (command.Frame name port bytes) s.world
unfolding next_state named_entry_refusal at_bridge
frame_goes s name port bytes i m r d stands at none =
    arrives s (command.Frame name port bytes) (bare s) m r d stands.sound
    (ap (refusal_at_found (λ i. entry_refusal s.world i port bytes)) at ∙ none)
    (ap (λ o. bare (accepted_once (at_place (λ t i. frame_entered t i port bytes) s o))) at ∙ bare-stepped (comes.customer port bytes) s i)
    stands.boxes stands.rounds stands.drained

pub show_goes : (s : State) (name : List ℕ) (i m r d : ℕ) → Stands m r d s → place_of name s.world.bridges ≡ Some i → Goes m r d s (command.Show name) s.world
unfolding next_state unnamed_refusal
show_goes s name i m r d stands at = arrives s (command.Show name) (bare s) m r d stands.sound (reason_none _ NoSuchName (ap is_some at)) refl stands.boxes stands.rounds stands.drained

pub wiring_goes : (s : State) (name : List ℕ) (i m r d : ℕ) → Stands m r d s → place_of name s.world.bridges ≡ Some i → Goes m r d s (command.Wiring name) s.world
unfolding next_state unnamed_refusal
wiring_goes s name i m r d stands at = arrives s (command.Wiring name) (bare s) m r d stands.sound (reason_none _ NoSuchName (ap is_some at)) refl stands.boxes stands.rounds stands.drained

pub round_goes : (s : State) (n m r d : ℕ) → Stands m r d s → 1 ≤ n → r + n ≤ MOST_ROUNDS → Goes m (r + n) d s (command.Round n) s.world
unfolding next_state round_refusal with_rounds
round_goes s n m r d stands low high =
    let same = stands.rounds in
    arrives s (command.Round n) (record (bare s) { rounds = s.rounds + n }) m (r + n) d stands.sound
    (or_none _ _ (reason_none _ Range (and-yes _ _ (le-yes 1 n low) (le-yes n MOST_ROUNDS (omega arith)))) (reason_none _ TooMany (le-yes (s.rounds + n) MOST_ROUNDS (omega arith))))
    (ap (λ (t : State). record t { rounds = s.rounds + n }) (bare-rounds n s)) stands.boxes (ap (λ k. k + n) same) stands.drained

pub drain_goes : (s : State) (n m r d : ℕ) → Stands m r d s → 1 ≤ n → n ≤ MOST_DELIVERIES → d + n ≤ MOST_DELIVERIES_TOGETHER → Goes m r (d + n) s (command.Drain n) s.world
unfolding next_state drain_refusal with_drain
drain_goes s n m r d stands low high all =
    let same = stands.drained in
    arrives s (command.Drain n) (record (bare s) { drained = s.drained + n }) m r (d + n) stands.sound
    (or_none _ _ (reason_none _ Range (and-yes _ _ (le-yes 1 n low) (le-yes n MOST_DELIVERIES high))) (reason_none _ TooMany (le-yes (s.drained + n) MOST_DELIVERIES_TOGETHER (omega arith))))
    (ap (λ (t : State). record t { drained = s.drained + n }) (bare-drained n s)) stands.boxes stands.rounds (ap (λ k. k + n) same)

pub down_goes : (s : State) (name : List ℕ) (k m r d : ℕ) → Stands m r d s → place_of name s.world.links ≡ Some k → is_live (links_of s) k ≡ true
    → Goes m r d s (command.Down name) (with_live false s.world k)
unfolding next_state down_refusal at_link switched_off
down_goes s name k m r d stands at live =
    let t : State = flushed s k in
    arrives s (command.Down name) (record (bare s) { world = with_live false s.world k }) m r d stands.sound
    (ap (refusal_at_found (λ k. reason_unless (is_live (links_of s) k) AlreadyDown)) at ∙ reason_none _ AlreadyDown live)
    (ap (λ o. bare (accepted_once (at_place switched_off s o))) at ∙ bare-carrier_over false (record t { world = with_live false t.world k }) (slice_get (links_of s) k))
    stands.boxes stands.rounds stands.drained

restarted_goes : (s : State) (name : List ℕ) (i m r d : ℕ) (b : Option DeclaredBridge) (o : Option ℕ) → Stands (suc m) r d s → refusal_of s (command.Restart name) ≡ None
    → bare (next_state s (command.Restart name)) ≡ bare (restarted_as s i b o) → Goes m r d s (command.Restart name) s.world
restarted_goes s name i m r d None o stands none is = arrives s (command.Restart name) (bare s) m r d stands.sound none is (less m s stands.boxes) stands.rounds stands.drained
restarted_goes s name i m r d (Some b) None stands none is = arrives s (command.Restart name) (bare s) m r d stands.sound none is (less m s stands.boxes) stands.rounds stands.drained
restarted_goes s name i m r d (Some b) (Some place) stands none is =
    arrives s (command.Restart name) (record (bare s) { rack = remove s.rack place }) m r d stands.sound none (is ∙ bare-restarted_in s i (restart_config s i b) place) (fewer m s place stands.boxes) stands.rounds stands.drained

pub restart_goes : (s : State) (name : List ℕ) (i m r d : ℕ) → Stands (suc m) r d s → place_of name s.world.bridges ≡ Some i → Goes m r d s (command.Restart name) s.world
unfolding next_state restart_refusal at_bridge restarted
restart_goes s name i m r d stands at =
    let low = stands.boxes i in
    let some : is_some (box_at s i) ≡ true = has_box (kind_at s.rule i) s.rack (omega arith) in
    restarted_goes s name i m r d (slice_get (things_of s.world.bridges) i) (box_at s i) stands
    (ap (refusal_at_found (λ i. reason_unless (is_some (box_at s i)) RackSpent)) at ∙ reason_none _ RackSpent some)
    (ap (λ o. bare (accepted_once (at_place restarted s o))) at)
