-- One hello at a port moves its adjacency, whatever else comes; without one it stays.
use Rattle.std.proofs.Common.{◌≡◌, inl, inr, ◌⊎◌, ◌≤◌, ◌<◌, ◌+◌, ◌-◌, ℕ, zero, suc, Bool, true, false, List, [], ◌∷◌, cond, refl, sym, ap, ◌∙◌, Option, Some, None, arith}
use Rattle.std.specs.Prelude.{◌==◌, length, count_by, is_some, slice_index_or, if◌then◌else◌, Contains}
use Rattle.std.specs.Option.{option_map}
use Rattle.std.proofs.lemmas.Bool.{eq-eqb, eqb-true, le-leb, true≢false}
use Rattle.std.proofs.lemmas.List.Sums.{sum_by-cons}
use Rattle.std.proofs.lemmas.Option.{slice_get_within}
use Rattle.isis_pdu.specs.Pdu.{HelloValue}
use Rattle.spb_tlvs.specs.declared.three_way.ThreeWay.{ThreeWay}
use Rattle.spb_types.specs.declared.drop_reason.DropReason.TheVariants as drop
use Rattle.adjacency.specs.declared.state.AdjacencyChange.{AdjacencyChange}
use Rattle.adjacency.specs.declared.state.AdjacencyChange.TheVariants.{Kept, CameUp, LeftUp, Discarded}
use Rattle.adjacency.specs.declared.port.Adjacency.{Adjacency}
use Rattle.adjacency.specs.Adjacency.{after_hello, change_by_hello}
use Rattle.bridge_api.specs.declared.port.BridgePort.{BridgePort}
use Rattle.bridge_api.specs.View.{BridgeView, port_in, port_at, adjacency_at}
use Rattle.bridge_api.specs.Parsing.{Parsed, parsed, hello_in, is_hello}
use Rattle.bridge_api.specs.Parsing as parsing
use Rattle.bridge_api.specs.Hearing.{after_drop, with_adjacency, heard_hello, heard_as, heard_at, after_receive}
use Rattle.bridge_api.specs.Ports.{noted, heard_hello_port}
use Rattle.bridge_api.specs.Step.{frame, step, frames_at}
use Rattle.bridge_api.proofs.Certified.{steps_keep_bridge}
use Rattle.bridge_api.proofs.Changes.{found, heard_hello_ports}
use Rattle.bridge_api.proofs.Places.{got_at}
use Rattle.bridge_api.proofs.Time.{frame_silent}
use Rattle.bridge_rounds.specs.Inbox.{Inbox, heard_all}
use Rattle.bridge_rounds.specs.Hellos.{OneHelloMoves, NoHelloStands}

-- ---- one hello

abbrev pub adjacency_in : Option BridgePort → Option Adjacency
adjacency_in o = option_map (λ port. port.adjacency) o

noted_adjacency : (change : AdjacencyChange) (port : BridgePort) → (noted change port).adjacency ≡ port.adjacency
noted_adjacency Kept port = refl
noted_adjacency CameUp port = refl
noted_adjacency LeftUp port = refl
noted_adjacency Discarded port = refl

module _ (p : ℕ) (bytes : List ℕ) (h : HelloValue) (way : ThreeWay) (is : parsed bytes ≡ parsing.hello h way) where
  -- at a port with carrier it is heard
  pub hello_heard : (v : BridgeView) (port : BridgePort) → port_at v p ≡ Some port → port.adjacency.carrier ≡ true → step (frame p bytes) v ≡ heard_hello h way p port v
  unfolding after_receive
  hello_heard v port there carrier =
      ap (λ (o : Option BridgePort). heard_at p bytes o v) there
      ∙ (ap (λ (b : Bool). if b then heard_as (parsed bytes) p port v else after_drop drop.NotAdjacent v) carrier
      ∙ ap (λ (j : Parsed). heard_as j p port v) is)

  heard_there : (v : BridgeView) (port : BridgePort) → port_at v p ≡ Some port → port_in (heard_hello h way p port v).ports p ≡ Some (heard_hello_port v.id.system p h way port)
  heard_there v port there =
      let at = found v.ports p port there in
      ap (λ (ports : List BridgePort). port_in ports p) (heard_hello_ports h way p port v there)
      ∙ rw (le-leb 1 p at.0) (got_at v.ports (p - 1) (heard_hello_port v.id.system p h way port) (slice_get_within v.ports (p - 1) port at.1))

  moves_by : (v : BridgeView) (a : Adjacency) (o : Option BridgePort) → port_at v p ≡ o → adjacency_in o ≡ Some a → a.carrier ≡ true → adjacency_at (step (frame p bytes) v) p ≡ Some (after_hello v.id.system p h way a)
  unfolding adjacency_at
  moves_by v a None there seen carrier = absurd cc
  moves_by v a (Some port) there seen carrier =
      let same : port.adjacency ≡ a = cc in
      ap (λ (u : BridgeView). adjacency_in (port_in u.ports p)) (hello_heard v port there (ap (λ (x : Adjacency). x.carrier) same ∙ carrier))
      ∙ (ap adjacency_in (heard_there v port there)
      ∙ (ap (λ (x : Adjacency). Some x) (noted_adjacency (change_by_hello v.id.system p h way port.adjacency) (with_adjacency (after_hello v.id.system p h way port.adjacency) port))
      ∙ ap (λ (x : Adjacency). Some (after_hello v.id.system p h way x)) same))

  pub hello_moves : (v : BridgeView) (a : Adjacency) → adjacency_at v p ≡ Some a → a.carrier ≡ true → adjacency_at (step (frame p bytes) v) p ≡ Some (after_hello v.id.system p h way a)
  unfolding adjacency_at
  hello_moves v a there carrier = moves_by v a (port_at v p) refl there carrier

-- ---- how many hellos there are

abbrev one_if : Bool → ℕ
one_if b = cond b 1 0

abbrev hellos : List (List ℕ) → ℕ
hellos frames = count_by is_hello frames

counted : (x : List ℕ) (frames : List (List ℕ)) → hellos (x ∷ frames) ≡ one_if (is_hello x) + hellos frames
counted x frames = sum_by-cons (λ (y : List ℕ). one_if (is_hello y)) x frames

none_by : (o : Option (HelloValue × ThreeWay)) → is_some o ≡ false → o ≡ None
none_by None is = refl
none_by (Some g) is = absurd (true≢false is)

-- none, of which the first isn't one
none_first : (b : Bool) (n : ℕ) → one_if b + n ≡ 0 → (b ≡ false) × (n ≡ 0)
none_first true n none = absurd (omega (arith, none))
none_first false n none = (refl, omega (arith, none))

one_first : (b : Bool) (n : ℕ) → one_if b + n ≡ 1 → ((b ≡ true) × (n ≡ 0)) ⊎ ((b ≡ false) × (n ≡ 1))
one_first true n one = inl (refl, omega (arith, one))
one_first false n one = inr (refl, omega (arith, one))

some_there : (frames : List (List ℕ)) (k : ℕ) (x : List ℕ) → k < length frames → slice_index_or frames k x ≡ x → is_hello x ≡ true → 1 ≤ hellos frames
some_there [] k x low there is = absurd (omega (arith, low))
some_there (y ∷ frames) zero x low there is =
    let all = counted y frames in
    let here : one_if (is_hello y) ≡ 1 = ap (λ (z : List ℕ). one_if (is_hello z)) there ∙ ap one_if is in
    omega (arith, all, here)
some_there (y ∷ frames) (suc k) x low there is =
    let all = counted y frames in
    let rest = some_there frames k x (omega (arith, low)) there is in
    omega (arith, all, rest)

-- ---- without a hello

silent_first : (p : ℕ) (f : ℕ × List ℕ) (frames : List (List ℕ)) (b : Bool) → (f.0 == p) ≡ b → hellos (if b then f.1 ∷ frames else frames) ≡ 0 → (f.0 ≡ p → hello_in (parsed f.1) ≡ None) × (hellos frames ≡ 0)
silent_first p f frames false at none = (λ here. absurd (true≢false (sym (eq-eqb f.0 p here) ∙ at)), none)
silent_first p f frames true at none =
    let both = none_first (is_hello f.1) (hellos frames) (sym (counted f.1 frames) ∙ none) in
    (λ here. none_by (hello_in (parsed f.1)) both.0, both.1)

pub no_hello_stands : NoHelloStands
no_hello_stands v [] p none = refl
no_hello_stands v (f ∷ fs) p none =
    let silent = silent_first p f (frames_at p fs) (f.0 == p) refl none in
    no_hello_stands (step (frame f.0 f.1) v) fs p silent.1 ∙ frame_silent v f.0 p f.1 silent.0

-- ---- with one

module _ (p : ℕ) (bytes : List ℕ) (h : HelloValue) (way : ThreeWay) (is : parsed bytes ≡ parsing.hello h way) where
  heard_as_hello : is_hello bytes ≡ true
  heard_as_hello = ap (λ (j : Parsed). is_some (hello_in j)) is

  -- the first frame is it, and no later one at the port is; or it isn't, and is silent there
  abbrev First : ℕ × List ℕ → Inbox → Type 0
  First f fs = ((f.0 ≡ p) × ((f.1 ≡ bytes) × (hellos (frames_at p fs) ≡ 0))) ⊎ ((f.0 ≡ p → hello_in (parsed f.1) ≡ None) × ((hellos (frames_at p fs) ≡ 1) × Contains (frames_at p fs) bytes))

  first_of_port : (f : ℕ × List ℕ) (fs : Inbox) → f.0 ≡ p → hellos (f.1 ∷ frames_at p fs) ≡ 1 → Contains (f.1 ∷ frames_at p fs) bytes → First f fs
  first_of_port f fs here one (zero, low, there) =
      elim (one_first (is_hello f.1) (hellos (frames_at p fs)) (sym (counted f.1 (frames_at p fs)) ∙ one)) [
        | inl it ↦ inl (here, (there, it.1))
        | inr other ↦ absurd (true≢false (sym (ap is_hello there ∙ heard_as_hello) ∙ other.0))
      ]
  first_of_port f fs here one (suc k, low, there) =
      elim (one_first (is_hello f.1) (hellos (frames_at p fs)) (sym (counted f.1 (frames_at p fs)) ∙ one)) [
        | inl it ↦ absurd (let some = some_there (frames_at p fs) k bytes (omega (arith, low)) there heard_as_hello in let none = it.1 in omega (arith, some, none))
        | inr other ↦ inr (λ at. none_by (hello_in (parsed f.1)) other.0, (other.1, (k, omega (arith, low), there)))
      ]

  first_is : (f : ℕ × List ℕ) (fs : Inbox) (b : Bool) → (f.0 == p) ≡ b → hellos (if b then f.1 ∷ frames_at p fs else frames_at p fs) ≡ 1
      → Contains (if b then f.1 ∷ frames_at p fs else frames_at p fs) bytes → First f fs
  first_is f fs true at one among = first_of_port f fs (eqb-true f.0 p at) one among
  first_is f fs false at one among = inr (λ here. absurd (true≢false (sym (eq-eqb f.0 p here) ∙ at)), (one, among))

  moves : (fs : Inbox) (v : BridgeView) (a : Adjacency) → adjacency_at v p ≡ Some a → a.carrier ≡ true → hellos (frames_at p fs) ≡ 1 → Contains (frames_at p fs) bytes
      → adjacency_at (heard_all fs v) p ≡ Some (after_hello v.id.system p h way a)
  moves [] v a there carrier one among = absurd (omega (arith, among.1))
  moves (f ∷ fs) v a there carrier one among =
      let u : BridgeView = step (frame f.0 f.1) v in
      elim (first_is f fs (f.0 == p) refl one among) [
        | inl it ↦
            no_hello_stands u fs p it.1.1
            ∙ (ap (λ (q : ℕ). adjacency_at (step (frame q f.1) v) p) it.0
            ∙ (ap (λ (b : List ℕ). adjacency_at (step (frame p b) v) p) it.1.0
            ∙ hello_moves p bytes h way is v a there carrier))
        | inr other ↦
            moves fs u a (frame_silent v f.0 p f.1 other.0 ∙ there) carrier other.1.0 other.1.1
            ∙ ap (λ id. Some (after_hello id.system p h way a)) (steps_keep_bridge (frame f.0 f.1) v).id
      ]

pub one_hello_moves : OneHelloMoves
one_hello_moves v fs p bytes h way a there carrier one among is = moves p bytes h way is fs v a there carrier one among
