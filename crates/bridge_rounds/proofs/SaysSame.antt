-- A bridge has the same to say while each of its ports with carrier stays Up with one neighbour.
use Rattle.std.proofs.Common.{◌≡◌, ◌≤◌, ◌<◌, ◌+◌, ◌-◌, ℕ, suc, Bool, true, false, List, [], ◌∷◌, length, refl, sym, ap, ◌∙◌, subst, Some, arith}
use Rattle.std.specs.Prelude.{slice_get, if◌then◌else◌}
use Rattle.std.proofs.lemmas.Bool.{true≢false}
use Rattle.std.proofs.lemmas.Option.{slice_get_within}
use Rattle.spb_tlvs.specs.declared.neighbours.Neighbour.{Neighbour}
use Rattle.adjacency.specs.declared.state.AdjState.{AdjState}
use Rattle.adjacency.specs.declared.state.AdjState.TheVariants.{Down, Initializing, Up}
use Rattle.adjacency.specs.declared.port.Adjacency.{Adjacency}
use Rattle.adjacency.specs.Hearing.{End}
use Rattle.adjacency.specs.Adjacency.{SoundIn, neighbour_of, is_up}
use Rattle.bridge_api.specs.declared.port.BridgePort.{BridgePort}
use Rattle.bridge_api.specs.View.{BridgeView, IsPort, port_at, neighbour_at, is_port_up, is_up_in, is_up_at, has_carrier_in, has_carrier_at, metrics_of}
use Rattle.std.specs.Option.{option_and_then}
use Rattle.bridge_api.specs.Customers.{with_learned}
use Rattle.bridge_api.specs.Hearing.{after_receive}
use Rattle.bridge_api.specs.Own.{neighbour_in, neighbours_from, bodies_of, body_at}
use Rattle.bridge_api.specs.Step.{frame, step}
use Rattle.bridge_api.specs.Laws.{IsSoundView}
use Rattle.bridge_api.proofs.Bodies.{bodies_with, bodies_say, same_at}
use Rattle.bridge_api.proofs.Carriers.{steps_keep_carrier}
use Rattle.bridge_api.proofs.Certified.{steps_keep_bridge}
use Rattle.bridge_api.proofs.Changes.{with_and_parts, frame_rest}
use Rattle.bridge_api.proofs.Places.{port_found}
use Rattle.bridge_api.proofs.Sound.{steps_stay_sound}
use Rattle.bridge_api.proofs.SoundPorts.{sound_at}
use Rattle.bridge_rounds.specs.Inbox.{Inbox, StaysUp}
use Rattle.bridge_rounds.specs.Staying.{BridgeSaysTheSame}
use Rattle.bridge_rounds.proofs.StayingUp.{same_kept}

-- ---- ports that are listed alike

record IsAlike (x y : BridgePort) : Type 0 where
  up : is_port_up x ≡ is_port_up y
  neighbour : is_port_up y ≡ true → x.adjacency.neighbour ≡ y.adjacency.neighbour

listed_by : (b : Bool) (q : ℕ) (x y : BridgePort) (xs ys : List Neighbour) → is_port_up y ≡ b → is_port_up x ≡ is_port_up y → (is_port_up y ≡ true → neighbour_in q x ≡ neighbour_in q y) → xs ≡ ys
    → (if is_port_up x then neighbour_in q x ∷ xs else xs) ≡ (if is_port_up y then neighbour_in q y ∷ ys else ys)
listed_by true q x y xs ys is up same rest =
    ap (λ (c : Bool). if c then neighbour_in q x ∷ xs else xs) (up ∙ is)
    ∙ (ap (λ (m : Neighbour). m ∷ xs) (same is)
    ∙ (ap (λ (list : List Neighbour). neighbour_in q y ∷ list) rest ∙ sym (ap (λ (c : Bool). if c then neighbour_in q y ∷ ys else ys) is)))
listed_by false q x y xs ys is up same rest =
    ap (λ (c : Bool). if c then neighbour_in q x ∷ xs else xs) (up ∙ is) ∙ (rest ∙ sym (ap (λ (c : Bool). if c then neighbour_in q y ∷ ys else ys) is))

listed : (q : ℕ) (xs ys : List BridgePort) → metrics_of xs ≡ metrics_of ys → ((i : ℕ) (x y : BridgePort) → slice_get xs i ≡ Some x → slice_get ys i ≡ Some y → IsAlike x y)
    → neighbours_from q xs ≡ neighbours_from q ys
listed q [] [] metrics alike = refl
listed q [] (y ∷ ys) metrics alike = absurd cc
listed q (x ∷ xs) [] metrics alike = absurd cc
listed q (x ∷ xs) (y ∷ ys) metrics alike =
    let first = alike 0 x y refl refl in
    let metric : x.metric ≡ y.metric = cc in
    let later : metrics_of xs ≡ metrics_of ys = cc in
    listed_by (is_port_up y) q x y (neighbours_from (q + 1) xs) (neighbours_from (q + 1) ys) refl first.up
    (λ up. let system = first.neighbour up in λ i. record { system = system i; metric = metric i; port = q })
    (listed (q + 1) xs ys later (λ i a b at there. alike (suc i) a b at there))

-- ---- a port

-- a port that was Up with an end, and is
record IsKeptWith (v u : BridgeView) (p : ℕ) : Type 0 where
  end : End
  was : is_up_at v p ≡ true
  before : neighbour_at v p ≡ Some end
  up : is_up_at u p ≡ true
  neighbour : neighbour_at u p ≡ Some end

no_up : (s : AdjState) (a : Adjacency) → SoundIn s a → a.carrier ≡ false → is_up s ≡ false
no_up Down a sound none = refl
no_up Initializing a sound none = refl
no_up Up a sound none = absurd (true≢false (sym sound.1 ∙ none))

port_is : (v : BridgeView) (i : ℕ) (port : BridgePort) → slice_get v.ports i ≡ Some port → port_at v (i + 1) ≡ Some port
port_is v i port there =
    let place : i + 1 - 1 ≡ i = omega arith in
    port_found v (i + 1) (omega arith) ∙ (ap (λ (k : ℕ). slice_get v.ports k) place ∙ there)

module _ (v u : BridgeView) (p : ℕ) (x y : BridgePort) (sound_v : IsSoundView v) (sound_u : IsSoundView u) (there : port_at v p ≡ Some y) (after : port_at u p ≡ Some x)
    (same : has_carrier_at u p ≡ has_carrier_at v p) (kept : has_carrier_at v p ≡ true → IsKeptWith v u p) where
  alike_by : (b : Bool) → y.adjacency.carrier ≡ b → IsAlike x y
  unfolding has_carrier_at is_up_at neighbour_at
  alike_by true is =
      let k : IsKeptWith v u p = kept (ap has_carrier_in there ∙ is) in
      let up_y : is_port_up y ≡ true = sym (ap is_up_in there) ∙ k.was in
      let up_x : is_port_up x ≡ true = sym (ap is_up_in after) ∙ k.up in
      let end_y : neighbour_of y.adjacency ≡ Some k.end = sym (ap (option_and_then (λ (port : BridgePort). neighbour_of port.adjacency)) there) ∙ k.before in
      let end_x : neighbour_of x.adjacency ≡ Some k.end = sym (ap (option_and_then (λ (port : BridgePort). neighbour_of port.adjacency)) after) ∙ k.neighbour in
      let one : (x.adjacency.neighbour, x.adjacency.circuit) ≡ (y.adjacency.neighbour, y.adjacency.circuit) =
      same_kept x.adjacency.state (x.adjacency.neighbour, x.adjacency.circuit) k.end up_x end_x ∙ sym (same_kept y.adjacency.state (y.adjacency.neighbour, y.adjacency.circuit) k.end up_y end_y) in
      record { up = up_x ∙ sym up_y; neighbour = λ up. ap (λ (end : End). end.0) one }
  alike_by false is =
      let none : x.adjacency.carrier ≡ false = sym (ap has_carrier_in after) ∙ (same ∙ (ap has_carrier_in there ∙ is)) in
      let down_x = no_up x.adjacency.state x.adjacency (sound_at u p x sound_u.ports after).adjacency none in
      let down_y = no_up y.adjacency.state y.adjacency (sound_at v p y sound_v.ports there).adjacency is in
      record { up = down_x ∙ sym down_y; neighbour = λ up. absurd (true≢false (sym up ∙ down_y)) }

  alike : IsAlike x y
  alike = alike_by y.adjacency.carrier refl

-- ---- a frame

frame_says : (v : BridgeView) (q : ℕ) (bytes : List ℕ) → bodies_of (step (frame q bytes) v) ≡ bodies_with v (neighbours_from 1 (step (frame q bytes) v).ports)
frame_says v q bytes =
    let w : BridgeView = after_receive q bytes v in
    ap bodies_of (frame_rest v q bytes) ∙ bodies_say (with_and_parts w.ports w.database w.spent w.drops (with_learned w.learned v))

module _ (v : BridgeView) (q : ℕ) (bytes : List ℕ) (was : IsSoundView v) (kept : (p : ℕ) → IsPort v p → has_carrier_at v p ≡ true → IsKeptWith v (step (frame q bytes) v) p) where
  ports_alike : (i : ℕ) (x y : BridgePort) → slice_get (step (frame q bytes) v).ports i ≡ Some x → slice_get v.ports i ≡ Some y → IsAlike x y
  ports_alike i x y after there =
      let u : BridgeView = step (frame q bytes) v in
      let within : i < length v.ports = slice_get_within v.ports i y there in
      let port : IsPort v (i + 1) = record { low = omega arith; high = omega (arith, within) } in
      alike v u (i + 1) x y was (steps_stay_sound (frame q bytes) v tt was) (port_is v i y there) (port_is u i x after) (steps_keep_carrier (frame q bytes) v (i + 1) port) (kept (i + 1) port)

  bodies_same : bodies_of (step (frame q bytes) v) ≡ bodies_of v
  bodies_same =
      frame_says v q bytes ∙ (ap (bodies_with v) (listed 1 (step (frame q bytes) v).ports v.ports (steps_keep_bridge (frame q bytes) v).metrics ports_alike) ∙ sym (bodies_say v))

  body_same : (number : ℕ) → body_at (step (frame q bytes) v) number ≡ body_at v number
  body_same number = same_at number (bodies_of (step (frame q bytes) v)) (bodies_of v) bodies_same

-- ---- all frames

first_up : (p : ℕ) (n : End) (fs : Inbox) (v : BridgeView) → StaysUp p n fs v → (is_up_at v p ≡ true) × (neighbour_at v p ≡ Some n)
first_up p n [] v up = up
first_up p n (f ∷ fs) v up = (up.0, up.1)

pub bridge_says_the_same : BridgeSaysTheSame
bridge_says_the_same v [] was kept = tt
bridge_says_the_same v (f ∷ fs) was kept =
    let u : BridgeView = step (frame f.0 f.1) v in
    let same = (steps_keep_bridge (frame f.0 f.1) v).ports in (
      body_same v f.0 f.1 was
          (λ p port carrier.
          let k = kept p port carrier in
          let next = first_up p k.0 fs u k.1.2 in
          record { end = k.0; was = k.1.0; before = k.1.1; up = next.0; neighbour = next.1 }),
      bridge_says_the_same u fs (steps_stay_sound (frame f.0 f.1) v tt was)
          (λ p port carrier.
          let before : IsPort v p = record { low = port.low; high = subst (λ (n : ℕ). p ≤ n) same port.high } in
          let k = kept p before (sym (steps_keep_carrier (frame f.0 f.1) v p before) ∙ carrier) in
          (k.0, k.1.2)),
    )
