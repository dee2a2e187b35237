-- What a change of an adjacency makes of who is kept, and of what is sound.
use Rattle.std.proofs.Common.{◌≡◌, ◌⊎◌, inl, inr, ◌≤◌, ◌-◌, ℕ, Bool, true, false, refl, sym, ap, ◌∙◌, Some, arith}
use Rattle.std.specs.Prelude.{◌==◌, ◌&&◌, not, if◌then◌else◌}
use Rattle.std.proofs.lemmas.Bool.{and_parts, eqb-true, eqb-false}
use Rattle.std.proofs.lemmas.Slice.Eq.{bytes_eq-Decides}
use Rattle.spb_types.specs.declared.address.SystemId.{SystemId}
use Rattle.spb_types.specs.Address.{same_system}
use Rattle.isis_pdu.specs.Pdu.{HelloValue}
use Rattle.spb_tlvs.specs.declared.three_way.ThreeWay.{ThreeWay}
use Rattle.adjacency.specs.declared.state.AdjState.{AdjState}
use Rattle.adjacency.specs.declared.state.AdjState.TheVariants.{Down, Initializing, Up}
use Rattle.adjacency.specs.declared.state.AdjacencyChange.TheVariants.{Kept, CameUp, LeftUp, Discarded}
use Rattle.adjacency.specs.declared.port.Adjacency.{Adjacency}
use Rattle.adjacency.specs.States.{next_state, state_numbered}
use Rattle.adjacency.specs.Hearing.{End, same_end, is_discarded, sender}
use Rattle.adjacency.specs.Adjacency.{down, led_to, state_towards, kept_in, neighbour_of, is_down, is_up, IsSound, after_hello_heard, after_hello, after_second, after_carrier, is_new_up, change_of, change_by_hello}

-- a second, for each of its cases
second_keeps_at : (idle ended : Bool) (a : Adjacency) (n : End) → neighbour_of (if idle then a else (if ended then down a.carrier else record a { hold = a.hold - 1 })) ≡ Some n → neighbour_of a ≡ Some n
second_keeps_at true ended a n kept = kept
second_keeps_at false true a n kept = absurd cc
second_keeps_at false false a n kept = kept

pub second_keeps : (a : Adjacency) (n : End) → neighbour_of (after_second a) ≡ Some n → neighbour_of a ≡ Some n
second_keeps a n kept = second_keeps_at (is_down a.state) (a.hold == 1) a n kept

second_up_at : (idle ended : Bool) (a : Adjacency) → is_up (if idle then a else (if ended then down a.carrier else record a { hold = a.hold - 1 })).state ≡ true → (is_up a.state ≡ true) × (neighbour_of (if idle then a else (if ended then down a.carrier else record a { hold = a.hold - 1 })) ≡ neighbour_of a)
second_up_at true ended a up = (up, refl)
second_up_at false true a up = absurd cc
second_up_at false false a up = (up, refl)

pub second_up : (a : Adjacency) → is_up (after_second a).state ≡ true → (is_up a.state ≡ true) × (neighbour_of (after_second a) ≡ neighbour_of a)
second_up a up = second_up_at (is_down a.state) (a.hold == 1) a up

-- carrier
pub carrier_keeps : (on : Bool) (a : Adjacency) (n : End) → neighbour_of (after_carrier on a) ≡ Some n → neighbour_of a ≡ Some n
carrier_keeps true a n kept = kept
carrier_keeps false a n kept = absurd cc

-- a change that is none of the four is none of a hello that was discarded
change_at : (up away : Bool) → (if up then CameUp else (if away then LeftUp else Kept)) ≡ Discarded → ⊥
change_at true away e = cc
change_at false true e = cc
change_at false false e = cc

pub not_discarded : (old new : Adjacency) → change_of old new ≡ Discarded → ⊥
not_discarded old new e = change_at (is_new_up new old) (is_up old.state && not (is_up new.state)) e

kept_whole_at : (discarded : Bool) (old new : Adjacency) → (if discarded then Discarded else change_of old new) ≡ Discarded → (if discarded then old else new) ≡ old
kept_whole_at true old new e = refl
kept_whole_at false old new e = absurd (not_discarded old new e)

-- a hello that is discarded changes nothing
pub kept_whole : (me : SystemId) (p : ℕ) (h : HelloValue) (way : ThreeWay) (a : Adjacency) → change_by_hello me p h way a ≡ Discarded → after_hello me p h way a ≡ a
kept_whole me p h way a e = kept_whole_at (is_discarded me p h way) a (after_hello_heard h way a) e

-- ends that pass the test are equal
pub same_is : (x y : End) → same_end x y ≡ true → x ≡ y
same_is x y same =
    let parts : (same_system x.0 y.0 ≡ true) × ((x.1 == y.1) ≡ true) = and_parts _ _ same in
    let bytes : x.0.mac.bytes ≡ y.0.mac.bytes = (bytes_eq-Decides x.0.mac.bytes y.0.mac.bytes).0 parts.0 in
    let circuit : x.1 ≡ y.1 = eqb-true x.1 y.1 parts.1 in
    λ i. (record { mac = record { bytes = bytes i } }, circuit i)

up_keeps_at : (s : AdjState) (n : End) → is_up s ≡ true → kept_in s n ≡ Some n
up_keeps_at Down n up = absurd cc
up_keeps_at Initializing n up = absurd cc
up_keeps_at Up n up = refl

pub up_keeps : (a : Adjacency) → is_up a.state ≡ true → neighbour_of a ≡ Some (a.neighbour, a.circuit)
up_keeps a up = up_keeps_at a.state (a.neighbour, a.circuit) up

-- what is Up came up, or was Up with the same neighbour
up_since_at : (up_now up_before same : Bool) (away : Bool) → up_now ≡ true → ((if (up_now && not (up_before && same)) then CameUp else (if away then LeftUp else Kept)) ≡ CameUp) ⊎ ((up_before ≡ true) × (same ≡ true))
up_since_at true true true away up = inr (refl, refl)
up_since_at true true false away up = inl refl
up_since_at true false same away up = inl refl
up_since_at false up_before same away up = absurd cc

pub up_since : (old new : Adjacency) → is_up new.state ≡ true → (change_of old new ≡ CameUp) ⊎ ((is_up old.state ≡ true) × (neighbour_of new ≡ neighbour_of old))
up_since old new up =
    elim (up_since_at (is_up new.state) (is_up old.state) (same_end (new.neighbour, new.circuit) (old.neighbour, old.circuit)) (is_up old.state && not (is_up new.state)) up) [
      | inl came ↦ inl came
      | inr was ↦ inr (was.0, up_keeps new up ∙ (ap (λ (n : End). Some n) (same_is (new.neighbour, new.circuit) (old.neighbour, old.circuit) was.1) ∙ sym (up_keeps old was.0)))
    ]

-- what left Up isn't Up, and what came up is
left_at : (up_now up_before same : Bool) → (if (up_now && not (up_before && same)) then CameUp else (if (up_before && not up_now) then LeftUp else Kept)) ≡ CameUp → up_now ≡ true
left_at true up_before same e = refl
left_at false true same e = absurd cc
left_at false false same e = absurd cc

pub came_up : (old new : Adjacency) → change_of old new ≡ CameUp → is_up new.state ≡ true
came_up old new e = left_at (is_up new.state) (is_up old.state) (same_end (new.neighbour, new.circuit) (old.neighbour, old.circuit)) e

stayed_at : (up_now up_before same : Bool) → (if (up_now && not (up_before && same)) then CameUp else (if (up_before && not up_now) then LeftUp else Kept)) ≡ Kept → up_before ≡ true → up_now ≡ true
stayed_at true up_before same e was = refl
stayed_at false true same e was = absurd cc
stayed_at false false same e was = was

pub stayed_up : (old new : Adjacency) → change_of old new ≡ Kept → is_up old.state ≡ true → is_up new.state ≡ true
stayed_up old new e was = stayed_at (is_up new.state) (is_up old.state) (same_end (new.neighbour, new.circuit) (old.neighbour, old.circuit)) e was

-- soundness
led_sound : (s : AdjState) (h : HelloValue) (way : ThreeWay) → 1 ≤ h.holding → IsSound (led_to s h way)
led_sound Down h way low = refl
led_sound Initializing h way low = (low, refl)
led_sound Up h way low = (low, refl)

heard_sound_at : (b : Bool) (s : AdjState) (h : HelloValue) (way : ThreeWay) → (h.holding == 0) ≡ b → IsSound (if b then down true else led_to s h way)
heard_sound_at true s h way e = refl
heard_sound_at false s h way e = led_sound s h way (omega (arith, eqb-false h.holding 0 e))

hello_sound_at : (discarded : Bool) (h : HelloValue) (way : ThreeWay) (a : Adjacency) → IsSound a → IsSound (if discarded then a else after_hello_heard h way a)
hello_sound_at true h way a sound = sound
hello_sound_at false h way a sound = heard_sound_at (h.holding == 0) (next_state (state_towards (sender h way) a) (state_numbered way.state)) h way refl

pub hello_sound : (me : SystemId) (p : ℕ) (h : HelloValue) (way : ThreeWay) (a : Adjacency) → IsSound a → IsSound (after_hello me p h way a)
hello_sound me p h way a sound = hello_sound_at (is_discarded me p h way) h way a sound

second_sound_in : (s : AdjState) (ended : Bool) (carrier : Bool) (n : SystemId) (circuit hold : ℕ) → (hold == 1) ≡ ended → IsSound (record { carrier = carrier; state = s; neighbour = n; circuit = circuit; hold = hold }) → IsSound (if is_down s then record { carrier = carrier; state = s; neighbour = n; circuit = circuit; hold = hold } else (if ended then down carrier else record { carrier = carrier; state = s; neighbour = n; circuit = circuit; hold = hold - 1 }))
second_sound_in Down ended carrier n circuit hold e sound = sound
second_sound_in Initializing true carrier n circuit hold e sound = refl
second_sound_in Initializing false carrier n circuit hold e sound = (omega (arith, eqb-false hold 1 e, sound.0), sound.1)
second_sound_in Up true carrier n circuit hold e sound = refl
second_sound_in Up false carrier n circuit hold e sound = (omega (arith, eqb-false hold 1 e, sound.0), sound.1)

pub second_sound : (a : Adjacency) → IsSound a → IsSound (after_second a)
second_sound a sound = second_sound_in a.state (a.hold == 1) a.carrier a.neighbour a.circuit a.hold refl sound

carrier_sound_in : (s : AdjState) (carrier : Bool) (n : SystemId) (circuit hold : ℕ) → IsSound (record { carrier = carrier; state = s; neighbour = n; circuit = circuit; hold = hold }) → IsSound (record { carrier = true; state = s; neighbour = n; circuit = circuit; hold = hold })
carrier_sound_in Down carrier n circuit hold sound = ap (λ (a : Adjacency). record a { carrier = true }) sound
carrier_sound_in Initializing carrier n circuit hold sound = (sound.0, refl)
carrier_sound_in Up carrier n circuit hold sound = (sound.0, refl)

pub carrier_sound : (on : Bool) (a : Adjacency) → IsSound a → IsSound (after_carrier on a)
carrier_sound true a sound = carrier_sound_in a.state a.carrier a.neighbour a.circuit a.hold sound
carrier_sound false a sound = refl
