-- Seconds one after the other, and what they leave of a neighbour from which nothing more is heard.
use Rattle.std.proofs.Common.{◌≡◌, ◌≢◌, inl, inr, ℕ, zero, suc, ◌+◌, ◌-◌, ◌≤◌, Bool, true, List, [], ◌∷◌, refl, sym, ap, ◌∙◌, subst, Option, Some, None, arith}
use Rattle.std.specs.Prelude.{slice_set, is_some, ◌++◌}
use Rattle.std.specs.List.{AllByRecursion}
use Rattle.std.specs.Option.{option_map, option_and_then}
use Rattle.std.proofs.lemmas.Bool.{true≢false}
use Rattle.isis_pdu.specs.Pdu.{HelloValue}
use Rattle.spb_tlvs.specs.declared.three_way.ThreeWay.{ThreeWay}
use Rattle.itag_frames.specs.Classify.{ControlAgain}
use Rattle.adjacency.specs.declared.state.AdjState.{AdjState}
use Rattle.adjacency.specs.declared.state.AdjState.TheVariants.{Down, Initializing, Up}
use Rattle.adjacency.specs.declared.port.Adjacency.{Adjacency}
use Rattle.adjacency.specs.Hearing.{End}
use Rattle.adjacency.specs.Adjacency.{SoundIn, IsSound, down, kept_in, neighbour_of, is_up, after_second}
use Rattle.adjacency.specs.Time.{after_seconds}
use Rattle.adjacency.proofs.Time.{kept_while_counting, more_seconds, lost_after_count}
use Rattle.spb_types.specs.declared.service.Attachment.{Attachment}
use Rattle.bridge_api.specs.declared.port.BridgePort.{BridgePort}
use Rattle.bridge_api.specs.View.{BridgeView, port_in, port_at, adjacency_at, neighbour_at, is_up_in, is_up_at}
use Rattle.bridge_api.specs.Parsing.{Parsed, parsed, hello_in}
use Rattle.bridge_api.specs.Parsing as parsing
use Rattle.bridge_api.specs.Hearing.{after_receive, with_carrier, with_port_metric, with_metric}
use Rattle.bridge_api.specs.Ports.{heard_hello_port, with_carrier_port}
use Rattle.bridge_api.specs.Customers.{after_entry}
use Rattle.bridge_api.specs.Services.{with_attached, without_customer_port, with_port_forgotten}
use Rattle.bridge_api.specs.Step.{Input, second, frame, carrier, metric, attach, detach, customer, step}
use Rattle.bridge_api.specs.Laws.{IsSoundView, SomeBridge, with_first_carrier, hearing_from}
use Rattle.bridge_api.specs.Time.{seconds, IsSilentAt, steps, seconds_in, NeighboursAreKept, IsDown, NeighboursAreLost, KeepsSomebody}
use Rattle.bridge_api.proofs.Adjacent.{up_keeps}
use Rattle.bridge_api.proofs.Certified.{steps_keep_bridge}
use Rattle.bridge_api.proofs.Changes.{found, one_port, frame_ports, heard_hello_ports, carrier_step, with_carrier_ports, metric_step, with_metric_ports, ticked, tick_port, with_attached_ports}
use Rattle.bridge_api.proofs.Meeting.{some_bridge}
use Rattle.bridge_api.proofs.Sound.{steps_stay_sound}
use Rattle.bridge_api.proofs.SoundPorts.{AreSoundPorts, sound_at}

-- ---- seconds

pub no_seconds : (v : BridgeView) → seconds 0 v ≡ v
unfolding seconds
no_seconds v = refl

pub next_second : (n : ℕ) (v : BridgeView) → seconds (n + 1) v ≡ step second (seconds n v)
unfolding seconds
next_second n v = let more : n + 1 ≡ suc n = omega arith in ap (λ (m : ℕ). seconds m v) more

pub seconds_add : (n k : ℕ) (v : BridgeView) → seconds (n + k) v ≡ seconds n (seconds k v)
unfolding seconds
seconds_add zero k v = let sum : zero + k ≡ k = omega arith in ap (λ (m : ℕ). seconds m v) sum
seconds_add (suc n) k v = let sum : suc n + k ≡ suc (n + k) = omega arith in ap (λ (m : ℕ). seconds m v) sum ∙ ap (step second) (seconds_add n k v)

-- whatever each second keeps
pub seconds_keep : (P : BridgeView → Type 0) → ((v : BridgeView) → P v → P (step second v)) → (n : ℕ) (v : BridgeView) → P v → P (seconds n v)
unfolding seconds
seconds_keep P keeps zero v was = was
seconds_keep P keeps (suc n) v was = keeps (seconds n v) (seconds_keep P keeps n v was)

pub seconds_sound : (n : ℕ) (v : BridgeView) → IsSoundView v → IsSoundView (seconds n v)
seconds_sound n v was = seconds_keep IsSoundView (λ u sound. steps_stay_sound second u tt sound) n v was

pub seconds_id : (n : ℕ) (v : BridgeView) → (seconds n v).id ≡ v.id
seconds_id n v = seconds_keep (λ u. u.id ≡ v.id) (λ u same. (steps_keep_bridge second u).id ∙ same) n v refl

-- ---- the adjacency at a port

abbrev adjacency_in : Option BridgePort → Option Adjacency
adjacency_in o = option_map (λ port. port.adjacency) o

ticked_in : (o : Option BridgePort) → adjacency_in (option_map ticked o) ≡ option_map after_second (adjacency_in o)
ticked_in None = refl
ticked_in (Some port) = refl

pub adjacency_second : (v : BridgeView) (p : ℕ) → adjacency_at (step second v) p ≡ option_map after_second (adjacency_at v p)
unfolding adjacency_at
adjacency_second v p = ap adjacency_in (tick_port v p) ∙ ticked_in (port_at v p)

-- where one port changed, each other has the adjacency that it had
beside : (v w : BridgeView) (q p : ℕ) (from to : BridgePort) → port_at v q ≡ Some from → w.ports ≡ slice_set v.ports (q - 1) to → (p ≡ q → adjacency_in (Some to) ≡ adjacency_in (Some from)) → adjacency_at w p ≡ adjacency_at v p
unfolding adjacency_at
beside v w q p from to there ports here =
    let at = found v.ports q from there in
    ap (λ (list : List BridgePort). adjacency_in (port_in list p)) ports
    ∙ (elim (one_port v.ports q from to p at.0 at.1) [
      | inl one ↦ ap adjacency_in one.1 ∙ (here one.0 ∙ (sym (ap adjacency_in there) ∙ ap (λ k. adjacency_in (port_in v.ports k)) (sym one.0)))
      | inr same ↦ ap adjacency_in same
    ])

no_hello : (h : HelloValue) (way : ThreeWay) (j : Parsed) → j ≡ parsing.hello h way → hello_in j ≡ None → ⊥
no_hello h way j is none = true≢false (ap is_some (sym (ap hello_in is) ∙ none))

-- what isn't a second, and doesn't come to the adjacency, leaves it as it is
pub frame_silent : (v : BridgeView) (q p : ℕ) (bytes : List ℕ) → IsSilentAt p (frame q bytes) → adjacency_at (step (frame q bytes) v) p ≡ adjacency_at v p
unfolding adjacency_at
frame_silent v q p bytes silent =
    elim (frame_ports v q bytes) [
      | inl same ↦ ap (λ (list : List BridgePort). adjacency_in (port_in list p)) same
      | inr g ↦
          beside v (after_receive q bytes v) q p g.port (heard_hello_port v.id.system q g.hello g.way g.port) g.there
          (ap (λ (u : BridgeView). u.ports) g.after ∙ heard_hello_ports g.hello g.way q g.port v g.there)
          (λ here. absurd (no_hello g.hello g.way (parsed bytes) g.is (silent (sym here))))
    ]

carrier_silent : (v : BridgeView) (q p : ℕ) (on : Bool) → q ≢ p → adjacency_at (step (carrier q on) v) p ≡ adjacency_at v p
carrier_silent v q p on apart =
    elim (carrier_step v q on) [
      | inl same ↦ ap (λ (u : BridgeView). adjacency_at u p) same
      | inr g ↦
          beside v (with_carrier q on v) q p g.port (with_carrier_port on g.port) g.there
          (ap (λ (u : BridgeView). u.ports) g.after ∙ with_carrier_ports q on g.port v g.there) (λ here. absurd (apart (sym here)))
    ]

metric_silent : (v : BridgeView) (q p m : ℕ) → adjacency_at (step (metric q m) v) p ≡ adjacency_at v p
metric_silent v q p m =
    elim (metric_step v q m) [
      | inl same ↦ ap (λ (u : BridgeView). adjacency_at u p) same
      | inr g ↦ beside v (with_metric q m v) q p g.port (with_port_metric m g.port) g.there (ap (λ (u : BridgeView). u.ports) g.after ∙ with_metric_ports q m g.port v) (λ here. refl)
    ]

attached_silent : (attached : List Attachment) (v : BridgeView) (p : ℕ) → adjacency_at (with_attached attached v) p ≡ adjacency_at v p
unfolding adjacency_at
attached_silent attached v p = ap (λ (list : List BridgePort). adjacency_in (port_in list p)) (with_attached_ports attached v)

detached_silent : (q p : ℕ) (v : BridgeView) → adjacency_at (step (detach q) v) p ≡ adjacency_at v p
unfolding adjacency_at with_port_forgotten
detached_silent q p v = attached_silent (without_customer_port q v.attached) (with_port_forgotten q v) p

entry_silent : (q p : ℕ) (bytes : List ℕ) (v : BridgeView) → adjacency_at (step (customer q bytes) v) p ≡ adjacency_at v p
unfolding adjacency_at after_entry
entry_silent q p bytes v = refl

-- so of silent inputs only the seconds count
silent_steps : (inputs : List Input) (v : BridgeView) (p : ℕ) (a : Adjacency) → AllByRecursion (IsSilentAt p) inputs → adjacency_at v p ≡ Some a → adjacency_at (steps inputs v) p ≡ Some (after_seconds (seconds_in inputs) a)
unfolding after_seconds
silent_steps [] v p a all there = there
silent_steps (second ∷ inputs) v p a all there =
    silent_steps inputs (step second v) p (after_second a) all.1 (adjacency_second v p ∙ ap (option_map after_second) there)
    ∙ ap (λ (x : Adjacency). Some x) (sym (more_seconds (seconds_in inputs) 1 a))
silent_steps (frame q bytes ∷ inputs) v p a all there = silent_steps inputs (step (frame q bytes) v) p a all.1 (frame_silent v q p bytes all.0 ∙ there)
silent_steps (carrier q on ∷ inputs) v p a all there = silent_steps inputs (step (carrier q on) v) p a all.1 (carrier_silent v q p on all.0 ∙ there)
silent_steps (metric q m ∷ inputs) v p a all there = silent_steps inputs (step (metric q m) v) p a all.1 (metric_silent v q p m ∙ there)
silent_steps (attach x ∷ inputs) v p a all there = silent_steps inputs (step (attach x) v) p a all.1 (attached_silent (v.attached ++ x ∷ []) v p ∙ there)
silent_steps (detach q ∷ inputs) v p a all there = silent_steps inputs (step (detach q) v) p a all.1 (detached_silent q p v ∙ there)
silent_steps (customer q bytes ∷ inputs) v p a all there = silent_steps inputs (step (customer q bytes) v) p a all.1 (entry_silent q p bytes v ∙ there)

pub neighbours_are_kept : NeighboursAreKept
neighbours_are_kept v p a n inputs left there kept all count some =
    silent_steps inputs v p a all there ∙ ap (λ (x : Adjacency). Some x) (kept_while_counting a n (seconds_in inputs) left kept count some)

-- a neighbour that is kept is kept for a second at least, with carrier
kept_sound : (s : AdjState) (a : Adjacency) (end n : End) → kept_in s end ≡ Some n → SoundIn s a → (1 ≤ a.hold) × (a.carrier ≡ true)
kept_sound Down a end n kept sound = absurd cc
kept_sound Initializing a end n kept sound = sound
kept_sound Up a end n kept sound = sound

adjacency_sound : (v : BridgeView) (p : ℕ) (a : Adjacency) (o : Option BridgePort) → AreSoundPorts v.ports → port_at v p ≡ o → adjacency_in o ≡ Some a → IsSound a
adjacency_sound v p a None all there is = absurd cc
adjacency_sound v p a (Some port) all there is = let same : port.adjacency ≡ a = cc in subst IsSound same (sound_at v p port all there).adjacency

down_by : (v : BridgeView) (p : ℕ) (o : Option BridgePort) → port_at v p ≡ o → adjacency_in o ≡ Some (down true) → IsDown v p
unfolding adjacency_at neighbour_at is_up_at
down_by v p None there is = absurd cc
down_by v p (Some port) there is =
    let same : port.adjacency ≡ down true = cc in
    record {
      adjacency = ap adjacency_in there ∙ is;
      neighbour = ap (λ (o : Option BridgePort). option_and_then (λ x. neighbour_of x.adjacency) o) there ∙ ap neighbour_of same;
      state = ap is_up_in there ∙ ap (λ (a : Adjacency). is_up a.state) same;
    }

pub neighbours_are_lost : NeighboursAreLost
unfolding adjacency_at
neighbours_are_lost v p a n inputs was there kept all over =
    let sound = kept_sound a.state a (a.neighbour, a.circuit) n kept (adjacency_sound v p a (port_at v p) was.ports refl there) in
    let w : BridgeView = steps inputs v in
    let more : ℕ = seconds_in inputs - a.hold in
    let sum : seconds_in inputs ≡ more + a.hold = omega (arith, over) in
    down_by w p (port_at w p) refl
    (silent_steps inputs v p a all there
    ∙ (ap (λ k. Some (after_seconds k a)) sum
    ∙ (ap (λ (x : Adjacency). Some x) (lost_after_count a n more kept sound.0) ∙ ap (λ b. Some (down b)) sound.1)))

-- ---- a bridge with a neighbour

keeping_by : (v : BridgeView) (p : ℕ) (o : Option BridgePort) → IsSoundView v → port_at v p ≡ o → is_up_in o ≡ true → KeepsSomebody
unfolding adjacency_at
keeping_by v p None was there up = absurd cc
keeping_by v p (Some port) was there up = record {
  view = v;
  port = p;
  adjacency = port.adjacency;
  neighbour = (port.adjacency.neighbour, port.adjacency.circuit);
  sound = was;
  there = ap adjacency_in there;
  kept = up_keeps port.adjacency up;
}

pub keeps_somebody : ControlAgain → KeepsSomebody
unfolding is_up_at
keeps_somebody again =
    let some : SomeBridge = some_bridge again in
    let v : BridgeView = hearing_from (hearing_from (with_first_carrier some.config) (with_first_carrier some.other)) (with_first_carrier some.config) in
    keeping_by v 1 (port_at v 1) some.sound refl some.up
