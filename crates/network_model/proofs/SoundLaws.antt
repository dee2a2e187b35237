-- What a step of one bridge keeps.
use Rattle.std.proofs.Common.{◌≡◌, ◌≢◌, ◌-◌, ℕ, zero, suc, Bool, true, false, true≢false, List, [], ◌∷◌, refl, sym, ap, ◌∙◌, None}
use Rattle.std.specs.Prelude.{slice_get, nat_le, if◌then◌else◌}
use Rattle.std.specs.Option.{option_and_then}
use Rattle.std.specs.List.{AllByRecursion}
use Rattle.std.proofs.lemmas.Bool.{eq-eqb, ne_eqb}
use Rattle.adjacency.specs.declared.state.AdjState.{AdjState}
use Rattle.adjacency.specs.declared.state.AdjState.TheVariants.{Down, Initializing, Up}
use Rattle.adjacency.specs.declared.port.Adjacency.{Adjacency}
use Rattle.adjacency.specs.Adjacency.{is_up, kept_in, neighbour_of, SoundIn}
use Rattle.bridge_api.specs.declared.port.BridgePort.{BridgePort}
use Rattle.bridge_api.specs.View.{BridgeView, IsPort, neighbour_at, is_up_in, is_up_at, has_carrier_in, has_carrier_at}
use Rattle.bridge_api.specs.Step.{Input, second, frame, carrier, metric, attach, detach, customer, step}
use Rattle.bridge_api.specs.Laws.{IsSoundPort, IsSoundView, carrier_after}
use Rattle.network_model.proofs.BridgeLaws.{steps_keep_carrier}

-- ---- carrier

-- whether an input changes carrier
abbrev pub is_carrier : Input → Bool
is_carrier second = false
is_carrier (frame q bytes) = false
is_carrier (carrier q on) = true
is_carrier (metric q m) = false
is_carrier (attach a) = false
is_carrier (detach q) = false
is_carrier (customer q bytes) = false

no_other : (input : Input) (p : ℕ) (was : Bool) → is_carrier input ≡ false → carrier_after input p was ≡ was
no_other second p was other = refl
no_other (frame q bytes) p was other = refl
no_other (carrier q on) p was other = absurd cc
no_other (metric q m) p was other = refl
no_other (attach a) p was other = refl
no_other (detach q) p was other = refl
no_other (customer q bytes) p was other = refl

-- no other input changes the carrier of a port
pub carrier_kept : (input : Input) (v : BridgeView) (p : ℕ) → IsPort v p → is_carrier input ≡ false → has_carrier_at (step input v) p ≡ has_carrier_at v p
carrier_kept input v p is other = steps_keep_carrier input v p is ∙ no_other input p (has_carrier_at v p) other

-- a change of carrier sets it, and leaves the other ports
pub carrier_is_set : (v : BridgeView) (q : ℕ) (on : Bool) → IsPort v q → has_carrier_at (step (carrier q on) v) q ≡ on
carrier_is_set v q on is = steps_keep_carrier (carrier q on) v q is ∙ ap (λ (b : Bool). if b then on else has_carrier_at v q) (eq-eqb q q refl)

pub carrier_beside : (v : BridgeView) (q : ℕ) (on : Bool) (p : ℕ) → IsPort v p → p ≢ q → has_carrier_at (step (carrier q on) v) p ≡ has_carrier_at v p
carrier_beside v q on p is apart = steps_keep_carrier (carrier q on) v p is ∙ ap (λ (b : Bool). if b then on else has_carrier_at v p) (ne_eqb p q apart)

-- ---- a port without carrier

no_carrier_in : (s : AdjState) (a : Adjacency) → SoundIn s a → a.carrier ≡ false → (kept_in s (a.neighbour, a.circuit) ≡ None) × (is_up s ≡ false)
no_carrier_in Down a sound none = (refl, refl)
no_carrier_in Initializing a sound none = absurd (true≢false (sym sound.1 ∙ none))
no_carrier_in Up a sound none = absurd (true≢false (sym sound.1 ∙ none))

no_carrier_at : (b : Bool) (ports : List BridgePort) (i : ℕ) → AllByRecursion IsSoundPort ports → has_carrier_in (if b then slice_get ports i else None) ≡ false → (option_and_then (λ port. neighbour_of port.adjacency) (if b then slice_get ports i else None) ≡ None) × (is_up_in (if b then slice_get ports i else None) ≡ false)
no_carrier_at false ports i sound none = (refl, refl)
no_carrier_at true [] i sound none = (refl, refl)
no_carrier_at true (port ∷ ports) zero sound none = no_carrier_in port.adjacency.state port.adjacency sound.0.adjacency none
no_carrier_at true (port ∷ ports) (suc i) sound none = no_carrier_at true ports i sound.1 none

-- keeps no neighbour, and isn't Up
pub without_carrier : (v : BridgeView) (p : ℕ) → IsSoundView v → has_carrier_at v p ≡ false → (neighbour_at v p ≡ None) × (is_up_at v p ≡ false)
unfolding neighbour_at is_up_at has_carrier_at
without_carrier v p sound none = no_carrier_at (nat_le 1 p) v.ports (p - 1) sound.ports none
