-- What a hello of the only end that may be kept at a port makes of the adjacency there.
use Rattle.std.proofs.Common.{◌≡◌, ℕ, Bool, true, false, refl, sym, ap, ◌∙◌, subst, Option, Some, None}
use Rattle.std.specs.Prelude.{◌==◌, ◌||◌, not, if◌then◌else◌}
use Rattle.std.proofs.lemmas.Bool.{true≢false}
use Rattle.spb_types.specs.declared.address.SystemId.{SystemId}
use Rattle.spb_types.specs.Address.{same_system}
use Rattle.isis_pdu.specs.Pdu.{HelloValue}
use Rattle.spb_tlvs.specs.declared.three_way.ThreeWay.{ThreeWay}
use Rattle.adjacency.specs.declared.state.AdjState.{AdjState}
use Rattle.adjacency.specs.declared.state.AdjState.TheVariants.{Down, Initializing, Up}
use Rattle.adjacency.specs.declared.port.Adjacency.{Adjacency}
use Rattle.adjacency.specs.Hearing.{End, same_end, has_level_one, names_another, is_discarded, sender}
use Rattle.adjacency.specs.States.{state_numbered, next_state}
use Rattle.adjacency.specs.Adjacency.{kept_in, down, state_towards, led_to, after_hello_heard, after_hello}
use Rattle.adjacency.proofs.Refreshing.{same_end_refl}
use Rattle.bridge_laws.proofs.Learning.{other_system}
use Rattle.bridge_rounds.specs.Hellos.{IsHelloTowards, IsKeptFresh, TowardsKept}

-- what a state that a hello led to says
led_state : (s : AdjState) (h : HelloValue) (way : ThreeWay) → (led_to s h way).state ≡ s
led_state Down h way = refl
led_state Initializing h way = refl
led_state Up h way = refl

led_fresh : (s : AdjState) (h : HelloValue) (way : ThreeWay) → h.holding ≡ 3 → IsKeptFresh (sender h way) (led_to s h way)
led_fresh Down h way three = record { carrier = refl; hold = λ up. absurd (true≢false up); neighbour = λ up. absurd (true≢false up) }
led_fresh Initializing h way three = record { carrier = refl; hold = λ up. three; neighbour = λ up. refl }
led_fresh Up h way three = record { carrier = refl; hold = λ up. three; neighbour = λ up. refl }

if_same : (b : Bool) → (if b then Down else Down) ≡ Down
if_same true = refl
if_same false = refl

-- nobody but the sender is kept, so the state is what it was
towards_by : (s : AdjState) (end kept : End) → ((n : End) → kept_in s kept ≡ Some n → n ≡ end) → (if same_end kept end then s else Down) ≡ s
towards_by Down end kept one = if_same (same_end kept end)
towards_by Initializing end kept one = ap (λ (b : Bool). if b then Initializing else Down) (ap (λ (n : End). same_end n end) (one kept refl) ∙ same_end_refl end)
towards_by Up end kept one = ap (λ (b : Bool). if b then Up else Down) (ap (λ (n : End). same_end n end) (one kept refl) ∙ same_end_refl end)

names_none : (me : SystemId) (p : ℕ) (o : Option End) → ((n : End) → o ≡ Some n → n ≡ (me, p)) → names_another (me, p) o ≡ false
names_none me p None named = refl
names_none me p (Some n) named = ap not (ap (λ (x : End). same_end x (me, p)) (named n refl) ∙ same_end_refl (me, p))

module _ (me : SystemId) (p : ℕ) (h : HelloValue) (way : ThreeWay) (a : Adjacency) (towards : IsHelloTowards me p h way a) where
  pub heeded : is_discarded me p h way ≡ false
  heeded =
      ap (λ (n : ℕ). not (has_level_one n) || same_system h.source me || names_another (me, p) way.neighbour) towards.level
      ∙ (ap (λ (b : Bool). b || names_another (me, p) way.neighbour) (other_system h.source me towards.apart)
      ∙ names_none me p way.neighbour towards.named)

  heard : after_hello_heard h way a ≡ led_to (next_state a.state (state_numbered way.state)) h way
  heard =
      ap (λ (n : ℕ). if n == 0 then down true else led_to (next_state (state_towards (sender h way) a) (state_numbered way.state)) h way) towards.holding
      ∙ ap (λ (s : AdjState). led_to (next_state s (state_numbered way.state)) h way) (towards_by a.state (sender h way) (a.neighbour, a.circuit) towards.kept)

  moved : after_hello me p h way a ≡ led_to (next_state a.state (state_numbered way.state)) h way
  moved = ap (λ (b : Bool). if b then a else after_hello_heard h way a) heeded ∙ heard

pub towards_kept : TowardsKept
towards_kept me p h way a towards =
    let s : AdjState = next_state a.state (state_numbered way.state) in
    let same = moved me p h way a towards in
    (ap (λ (x : Adjacency). x.state) same ∙ led_state s h way, subst (IsKeptFresh (sender h way)) (sym same) (led_fresh s h way towards.holding))
