-- A hello that only begins the holding count anew.
use Rattle.std.proofs.Common.{◌≡◌, ℕ, ◌<◌, ◌≤◌, Bool, true, false, refl, sym, ap, ◌∙◌, subst, arith}
use Rattle.std.specs.Prelude.{◌&&◌, not, ◌==◌, nat_lt, if◌then◌else◌}
use Rattle.std.proofs.lemmas.Bool.{eqb-true, eq-eqb, ne_eqb, ltb-true}
use Rattle.std.proofs.lemmas.Bool.Decides.{nat_tests}
use Rattle.std.proofs.lemmas.Slice.Eq.{bytes_eq-Decides}
use Rattle.spb_types.specs.declared.address.SystemId.{SystemId}
use Rattle.spb_types.specs.Address.{same_system}
use Rattle.isis_pdu.specs.Pdu.{HelloValue}
use Rattle.spb_tlvs.specs.declared.three_way.ThreeWay.{ThreeWay}
use Rattle.adjacency.specs.declared.state.AdjState.{AdjState}
use Rattle.adjacency.specs.declared.state.AdjState.TheVariants.{Down, Initializing, Up}
use Rattle.adjacency.specs.declared.state.AdjacencyChange.TheVariants as did
use Rattle.adjacency.specs.declared.port.Adjacency.{Adjacency}
use Rattle.adjacency.specs.States.{next_state, state_numbered}
use Rattle.adjacency.specs.Hearing.{End, same_end, sender, is_discarded, keeps_up}
use Rattle.adjacency.specs.Adjacency.{SoundIn, IsSound, down, keeping, led_to, is_up, state_towards, after_hello, after_hello_heard, change_of, change_by_hello, is_refreshed}

and_true : (a b : Bool) → (a && b) ≡ true → (a ≡ true) × (b ≡ true)
and_true true b e = (refl, e)
and_true false b e = absurd cc

not_true : (a : Bool) → not a ≡ true → a ≡ false
not_true true e = absurd cc
not_true false e = refl

up_is : (s : AdjState) → is_up s ≡ true → s ≡ Up
up_is Down e = absurd cc
up_is Initializing e = absurd cc
up_is Up e = refl

pub same_end_refl : (x : End) → same_end x x ≡ true
same_end_refl x = rw ((bytes_eq-Decides x.0.mac.bytes x.0.mac.bytes).1 refl, eq-eqb x.1 x.1 refl) refl

same_system_is : (x y : SystemId) → same_system x y ≡ true → x ≡ y
same_system_is x y e = let bytes = (bytes_eq-Decides x.mac.bytes y.mac.bytes).0 e in λ i. record { mac = record { bytes = bytes i } }

low_number : (n : ℕ) → n < 2 → (n == 0) ≡ false → (n == 1) ≡ true
low_number n low other = grind (arith, nat_tests)

-- an Up neighbour that says Up or Initializing stays Up
stays_up : (n : ℕ) → n < 2 → next_state Up (state_numbered n) ≡ Up
stays_up n low = by (n == 0) refl
  where
    by : (b : Bool) → (n == 0) ≡ b → next_state Up (state_numbered n) ≡ Up
    by true is = ap (λ (b : Bool). next_state Up (if b then Up else (if n == 1 then Initializing else Down))) is
    by false is =
        ap (λ (b : Bool). next_state Up (if b then Up else (if n == 1 then Initializing else Down))) is
        ∙ ap (λ (b : Bool). next_state Up (if b then Initializing else Down)) (low_number n low is)

not_none : (n : ℕ) → 0 < n → (n == 0) ≡ false
not_none n some = ne_eqb n 0 (λ e. omega (arith, some, e))

-- such a hello keeps the end, for its holding time
same_up : (end : End) (hold : ℕ) (a : Adjacency) → IsSound a → a.state ≡ Up → a.neighbour ≡ end.0 → a.circuit ≡ end.1 → (record a { hold = hold }) ≡ keeping Up end hold
same_up end hold a sound up system circuit =
    let carrier : a.carrier ≡ true = (subst (λ (s : AdjState). SoundIn s a) up sound).1 in
    λ i. record { carrier = carrier i; state = up i; neighbour = system i; circuit = circuit i; hold = hold }

still_up : (a : Adjacency) (hold : ℕ) → is_up a.state ≡ true → change_of a (record a { hold = hold }) ≡ did.Kept
still_up a hold up = rw (up, same_end_refl (a.neighbour, a.circuit)) refl

pub record Refreshes (me : SystemId) (port : ℕ) (hello : HelloValue) (way : ThreeWay) (a : Adjacency) : Type 0 where
  pub new : (record a { hold = hello.holding }) ≡ after_hello me port hello way a
  pub kept : change_by_hello me port hello way a ≡ did.Kept

pub refreshes : (me : SystemId) (port : ℕ) (hello : HelloValue) (way : ThreeWay) (a : Adjacency) → IsSound a → is_refreshed me port hello way a ≡ true → Refreshes me port hello way a
refreshes me port hello way a sound is =
    let heeded = and_true _ (not (is_discarded me port hello way)) is in
    let end = and_true _ (same_end (a.neighbour, a.circuit) (sender hello way)) heeded.0 in
    let some = and_true _ (nat_lt 0 hello.holding) end.0 in
    let low = and_true (is_up a.state) (nat_lt way.state 2) some.0 in
    let heard : is_discarded me port hello way ≡ false = not_true (is_discarded me port hello way) heeded.1 in
    let parts = and_true (same_system a.neighbour hello.source) (a.circuit == way.circuit) end.1 in
    let state : next_state (state_towards (sender hello way) a) (state_numbered way.state) ≡ Up =
    ap (λ (b : Bool). next_state (if b then a.state else Down) (state_numbered way.state)) end.1
    ∙ (ap (λ (s : AdjState). next_state s (state_numbered way.state)) (up_is a.state low.0) ∙ stays_up way.state (ltb-true way.state 2 low.1)) in
    let after : after_hello_heard hello way a ≡ keeping Up (sender hello way) hello.holding =
    ap (λ (b : Bool). if b then down true else led_to (next_state (state_towards (sender hello way) a) (state_numbered way.state)) hello way) (not_none hello.holding (ltb-true 0 hello.holding some.1))
    ∙ ap (λ (s : AdjState). led_to s hello way) state in
    let same : (record a { hold = hello.holding }) ≡ after_hello_heard hello way a =
    same_up (sender hello way) hello.holding a sound (up_is a.state low.0) (same_system_is a.neighbour hello.source parts.0) (eqb-true a.circuit way.circuit parts.1) ∙ sym after in
    record {
      new = same ∙ sym (ap (λ (b : Bool). if b then a else after_hello_heard hello way a) heard);
      kept = ap (λ (b : Bool). if b then did.Discarded else change_of a (after_hello_heard hello way a)) heard
          ∙ (sym (ap (change_of a) same) ∙ still_up a hello.holding low.0);
    }

asked_once : (a b c d e : Bool) → (b && c && e) ≡ true → (a && d) ≡ (a && b && c && d && e)
asked_once false b c d e is = refl
asked_once true false c d e is = absurd cc
asked_once true true false d e is = absurd cc
asked_once true true true d false is = absurd cc
asked_once true true true false true is = refl
asked_once true true true true true is = refl

-- where a hello keeps an Up neighbour, only the state and the end are asked
pub refreshed_is : (me : SystemId) (port : ℕ) (hello : HelloValue) (way : ThreeWay) (a : Adjacency) → keeps_up me port hello way ≡ true → (is_up a.state && same_end (a.neighbour, a.circuit) (sender hello way)) ≡ is_refreshed me port hello way a
refreshed_is me port hello way a keeps =
    asked_once (is_up a.state) (nat_lt way.state 2) (nat_lt 0 hello.holding) (same_end (a.neighbour, a.circuit) (sender hello way)) (not (is_discarded me port hello way)) keeps

-- such a hello has a holding time
pub keeps_some : (me : SystemId) (port : ℕ) (hello : HelloValue) (way : ThreeWay) → keeps_up me port hello way ≡ true → 1 ≤ hello.holding
keeps_some me port hello way keeps =
    let said = and_true (nat_lt way.state 2 && nat_lt 0 hello.holding) (not (is_discarded me port hello way)) keeps in
    ltb-true 0 hello.holding (and_true (nat_lt way.state 2) (nat_lt 0 hello.holding) said.0).1
