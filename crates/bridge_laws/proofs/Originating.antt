-- How far own LSPs go by what isn't a claim: each is originated once at most, and carrier that comes originates nothing.
use Rattle.std.proofs.Common.{◌≡◌, inl, inr, ◌≤◌, ◌<◌, ◌+◌, ◌-◌, ℕ, zero, suc, Bool, true, false, List, [], ◌∷◌, refl, sym, ap, ◌∙◌, subst, Some, arith}
use Rattle.std.specs.Prelude.{not, ◌&&◌, ◌==◌, slice_get, slice_set, if◌then◌else◌, ◌++◌}
use Rattle.std.proofs.lemmas.Bool.{true≢false, eq-eqb}
use Rattle.std.proofs.lemmas.Slice.Eq.{bytes_eq-Decides}
use Rattle.spb_types.specs.declared.address.SystemId.{SystemId}
use Rattle.spb_types.specs.declared.address.LspId.{LspId}
use Rattle.spb_types.specs.declared.ports.PortSet.{PortSet}
use Rattle.spb_tlvs.specs.declared.neighbours.Neighbour.{Neighbour}
use Rattle.lsdb.specs.Version.{number_of}
use Rattle.lsdb.specs.Entry.{Entry}
use Rattle.lsdb.specs.Database.{Lsps, version_in, version_at, each}
use Rattle.flooding.specs.Own.{own_id, last_number, own_numbers, own_number, IsOwnNumber}
use Rattle.flooding.specs.declared.own.Own.{Own}
use Rattle.flooding.specs.Hearing.{Holding}
use Rattle.flooding.specs.Settling.{Test, settled_by}
use Rattle.flooding.proofs.Settled.{settling_goes_one_further, settling_doesnt_spend}
use Rattle.adjacency.specs.declared.state.AdjacencyChange.{AdjacencyChange}
use Rattle.adjacency.specs.declared.state.AdjacencyChange.TheVariants.{Kept, LeftUp, CameUp}
use Rattle.adjacency.specs.declared.port.Adjacency.{Adjacency}
use Rattle.adjacency.specs.Hearing.{same_end}
use Rattle.adjacency.specs.Adjacency.{is_up, after_carrier, change_of}
use Rattle.bridge_api.specs.declared.port.BridgePort.{BridgePort}
use Rattle.bridge_api.specs.View.{BridgeView, with_port_at, is_port_up}
use Rattle.bridge_api.specs.Own.{neighbour_in, neighbours_from, own_entry}
use Rattle.bridge_api.specs.Config.{configured}
use Rattle.bridge_api.specs.Parsing.{is_hello}
use Rattle.bridge_api.specs.Hearing.{with_adjacency, changed_at, with_carrier_at}
use Rattle.bridge_api.specs.Customers.{after_entry}
use Rattle.bridge_api.specs.Services.{without_customer_port, with_port_forgotten}
use Rattle.bridge_api.specs.Step.{Input, second, frame, carrier, metric, attach, detach, customer, step}
use Rattle.bridge_api.specs.Laws.{IsSoundView}
use Rattle.bridge_laws.specs.Counting.{IsFar, is_claiming, gain_of, StepsOriginate, StepsDontSpend, ConfiguredIsFar, SomeIsFar}
use Rattle.bridge_api.proofs.Certified.{steps_keep_bridge}
use Rattle.bridge_api.proofs.Changes.{carrier_step, found}
use Rattle.bridge_laws.proofs.FewHeld.{same_number, configured_holds_few}
use Rattle.bridge_laws.proofs.Growing.{Grows, second_grows, hello_grows, carrier_grows, metric_grows, attached_grows}
use Rattle.bridge_laws.proofs.HeldIds.{own_below}
use Rattle.bridge_laws.proofs.Answering.{no_hello, frame_answered}
use Rattle.bridge_api.proofs.Meeting.{small, small_whole}
use Rattle.bridge_api.proofs.OwnLspSteps.{IsSaying, was_saying, moved_saying, saying_settles}
use Rattle.bridge_api.proofs.Sound.{configured_is_sound}

-- of a system: each of its own LSPs is at most so many numbers further than here, and its sequence numbers aren't spent
record Below (from : ℕ → ℕ) (n : ℕ) (system : SystemId) (db : Lsps) (spent : Bool) : Type 0 where
  number : (number : ℕ) → number < own_numbers → number_of (version_at db (own_number system number)) ≤ from number + n
  fresh : spent ≡ false

-- here they are below the last number
abbrev AreLow : (ℕ → ℕ) → Type 0
AreLow from = (number : ℕ) → number < own_numbers → from number < last_number

abbrev IsFirst : ℕ → Type 0
IsFirst n = n ≡ 0

one_more : (from : ℕ → ℕ) (n : ℕ) (system : SystemId) (db : Lsps) (spent : Bool) → Below from n system db spent → Below from (n + 1) system db spent
one_more from n system db spent b = record { number = λ number below. omega (arith, b.number number below); fresh = b.fresh }

below_each : (from : ℕ → ℕ) (n : ℕ) (system : SystemId) (f : LspId → Entry → Entry) (db : Lsps) (spent : Bool) → ((x : LspId) (e : Entry) → number_of (f x e).version ≡ number_of e.version) → Below from n system db spent
    → Below from n system (each f db) spent
below_each from n system f db spent same b = record {
  number = λ number below. subst (λ (k : ℕ). k ≤ from number + n) (sym (same_number f db (own_number system number) same)) (b.number number below);
  fresh = b.fresh;
}

-- ---- own LSPs are brought up to date

own_low : (from : ℕ → ℕ) (n : ℕ) (system : SystemId) (db : Lsps) (spent : Bool) → AreLow from → IsFirst n → Below from n system db spent → (id : LspId) → IsOwnNumber system id → number_of (version_at db id) < last_number
own_low from n system db spent low first b id own =
    subst (λ (x : LspId). number_of (version_at db x) < last_number) (sym own.is) (omega (arith, b.number own.number own.below, low own.number own.below, first))

below_settled : (from : ℕ → ℕ) → AreLow from → (n : ℕ) (stands : Test) (up : PortSet) (h : Holding) → IsFirst n → Below from n h.own.system h.db h.own.spent → Below from (n + 1) h.own.system (settled_by stands up h).db (settled_by stands up h).own.spent
below_settled from low n stands up h first b = record {
  number = λ number below. omega (arith, settling_goes_one_further stands up h (own_number h.own.system number), b.number number below);
  fresh = ap (λ (own : Own). own.spent) (settling_doesnt_spend stands up h (own_low from n h.own.system h.db h.own.spent low first b)) ∙ b.fresh;
}

below_grows : (from : ℕ → ℕ) → AreLow from → Grows IsFirst (Below from)
below_grows from low = record { more = one_more from; stays = below_each from; settles = below_settled from low }

-- ---- carrier that comes

kept_by : (up same : Bool) → same ≡ true → (if up && not (up && same) then CameUp else (if up && not up then LeftUp else Kept)) ≡ Kept
kept_by true true is = refl
kept_by true false is = absurd cc
kept_by false same is = refl

same_itself : (system : SystemId) (circuit : ℕ) → same_end (system, circuit) (system, circuit) ≡ true
same_itself system circuit =
    ap (λ b. b && (circuit == circuit)) ((bytes_eq-Decides system.mac.bytes system.mac.bytes).1 refl) ∙ eq-eqb circuit circuit refl

carrier_is_kept : (a : Adjacency) → change_of a (after_carrier true a) ≡ Kept
carrier_is_kept a = kept_by (is_up a.state) (same_end (a.neighbour, a.circuit) (a.neighbour, a.circuit)) (same_itself a.neighbour a.circuit)

-- the port with carrier
abbrev given_carrier : BridgePort → BridgePort
given_carrier port = with_adjacency (after_carrier true port.adjacency) port

neighbours_given_carrier : (p i : ℕ) (port : BridgePort) (ports : List BridgePort) → slice_get ports i ≡ Some port → neighbours_from p (slice_set ports i (given_carrier port)) ≡ neighbours_from p ports
neighbours_given_carrier p i port [] is = refl
neighbours_given_carrier p zero port (x ∷ ports) is =
    let same : x ≡ port = let found : Some x ≡ Some port = is in cc in
    ap (λ (y : BridgePort). if is_port_up y then neighbour_in p y ∷ neighbours_from (p + 1) ports else neighbours_from (p + 1) ports) (sym same)
neighbours_given_carrier p (suc i) port (x ∷ ports) is = ap (λ (list : List Neighbour). if is_port_up x then neighbour_in p x ∷ list else list) (neighbours_given_carrier (p + 1) i port ports is)

-- the bridge has the same to say
pub given_carrier_stands : (v : BridgeView) (q : ℕ) (port : BridgePort) → IsSaying v → slice_get v.ports (q - 1) ≡ Some port → with_carrier_at q true (Some port) v ≡ with_port_at q (given_carrier port) v
given_carrier_stands v q port says is =
    let w : BridgeView = with_port_at q (given_carrier port) v in
    ap (λ (did : AdjacencyChange). changed_at did q (given_carrier port) v) (carrier_is_kept port.adjacency)
    ∙ saying_settles w (moved_saying w.ports v.database v (neighbours_given_carrier 1 (q - 1) port v.ports is) (λ number own. own) says)

-- ---- the steps

a_hello : (b : Bool) → not b ≡ false → b ≡ true
a_hello true is = refl
a_hello false is = absurd (true≢false is)

module _ (from : ℕ → ℕ) (low : AreLow from) where
  abbrev Counts : ℕ → BridgeView → Type 0
  Counts n v = Below from n v.id.system v.database v.spent

  step_counts : (input : Input) (v : BridgeView) → IsSaying v → is_claiming input ≡ false → Counts 0 v → Counts (0 + gain_of input) (step input v)
  unfolding with_port_forgotten after_entry
  step_counts second v says other b = second_grows IsFirst (Below from) (below_grows from low) 0 v refl b
  step_counts (frame q bytes) v says other b =
      let is : is_hello bytes ≡ true = a_hello (is_hello bytes) other in
      subst (λ (hello : Bool). Counts (0 + (if hello then 1 else 0)) (step (frame q bytes) v)) (sym is) (hello_grows IsFirst (Below from) (below_grows from low) 0 q bytes v is refl b)
  step_counts (carrier q true) v says other b =
      elim (carrier_step v q true) [
        | inl e ↦ subst (Counts (0 + 0)) (sym e) b
        | inr g ↦ subst (Counts (0 + 0)) (sym (g.after ∙ given_carrier_stands v q g.port says (found v.ports q g.port g.there).1)) (record { number = b.number; fresh = b.fresh })
      ]
  step_counts (carrier q false) v says other b = carrier_grows IsFirst (Below from) (below_grows from low) 0 q false v refl b
  step_counts (metric q m) v says other b = metric_grows IsFirst (Below from) (below_grows from low) 0 q m v refl b
  step_counts (attach a) v says other b = attached_grows IsFirst (Below from) (below_grows from low) 0 (v.attached ++ a ∷ []) v refl b
  step_counts (detach p) v says other b = attached_grows IsFirst (Below from) (below_grows from low) 0 (without_customer_port p v.attached) (with_port_forgotten p v) refl b
  step_counts (customer p bytes) v says other b = record { number = b.number; fresh = b.fresh }

-- ---- the laws

-- the numbers of its own LSPs
abbrev numbers_in : BridgeView → ℕ → ℕ
numbers_in v number = number_of (version_in (own_entry v number))

far_counts : (input : Input) (v : BridgeView) → IsSoundView v → IsFar input v → is_claiming input ≡ false
    → Below (numbers_in v) (0 + gain_of input) (step input v).id.system (step input v).database (step input v).spent
far_counts input v was far other =
    step_counts (numbers_in v) (λ number below. far.own (own_number v.id.system number) (record { number = number; below = below; is = refl })) input v (was_saying v was) other
    (record { number = λ number below. omega arith; fresh = far.fresh })

pub steps_originate : StepsOriginate
steps_originate input v id own was far other =
    let w : BridgeView = step input v in
    let here : number_of (version_at w.database (own_number v.id.system own.number)) ≤ number_of (version_in (own_entry v own.number)) + (0 + gain_of input) =
    subst (λ (system : SystemId). number_of (version_at w.database (own_number system own.number)) ≤ number_of (version_in (own_entry v own.number)) + (0 + gain_of input))
    (ap (λ id. id.system) (steps_keep_bridge input v).id) ((far_counts input v was far other).number own.number own.below) in
    subst (λ (x : LspId). number_of (version_at w.database x) ≤ number_of (version_at v.database x) + gain_of input) (sym own.is) (omega (arith, here))

dont_spend_by : (b : Bool) (input : Input) (v : BridgeView) → is_claiming input ≡ b → IsSoundView v → IsFar input v → (step input v).spent ≡ false
dont_spend_by false input v other was far = (far_counts input v was far other).fresh
dont_spend_by true second v claiming was far = absurd cc
dont_spend_by true (frame q bytes) v claiming was far = (frame_answered q bytes v (own_id v.id.system) refl was far (no_hello (is_hello bytes) claiming)).fresh
dont_spend_by true (carrier q on) v claiming was far = absurd cc
dont_spend_by true (metric q m) v claiming was far = absurd cc
dont_spend_by true (attach a) v claiming was far = absurd cc
dont_spend_by true (detach p) v claiming was far = absurd cc
dont_spend_by true (customer p bytes) v claiming was far = absurd cc

pub steps_dont_spend : StepsDontSpend
steps_dont_spend input v was far = dont_spend_by (is_claiming input) input v refl was far

pub configured_is_far : ConfiguredIsFar
configured_is_far c input first low = record {
  fresh = (configured_holds_few c first).unspent;
  own = own_below 1 (configured c).id.system (configured c).database (omega arith) (configured_holds_few c first).number;
  claims = low;
}

pub some_is_far : SomeIsFar
some_is_far = record {
  config = small 1;
  whole = small_whole 1 (omega arith);
  sound = configured_is_sound (small 1) (small_whole 1 (omega arith));
  far = configured_is_far (small 1) second refl (λ id a claimed. absurd claimed);
}
